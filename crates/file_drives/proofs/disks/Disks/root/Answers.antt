use Rattle.std.proofs.Common.{arith, subst, sym}
use Rattle.file_drives.proofs.RootLemmas.{root-at, root-there}
use Rattle.file_drives.specs.Mounted.{AreMounted}
use Rattle.file_drives.proofs.disks.Disks.root.Goals as goal

pub returns-clause-root : goal.returns-clause-root
returns-clause-root c views volumes mounted =
    root-at c.self.inside.volumes.items views volumes c.args.n c.index.result.now c.root_of_kept.result
    (omega (arith, c.self.invariant, c.requires)) c.index.ensures c.root_of_kept.ensures
    (subst (λ d. AreMounted d views volumes) (sym c.self.view_is) mounted)

pub returns-clause-file : goal.returns-clause-file
returns-clause-file c views volumes mounted = root-there c.args.self.now views volumes c.args.n c.root_of_kept.result mounted (returns-clause-root c views volumes mounted)
