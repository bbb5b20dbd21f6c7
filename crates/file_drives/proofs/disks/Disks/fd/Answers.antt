use Rattle.std.proofs.Common.{rules}
use Rattle.std.specs.Prelude.{IfOk}
use Rattle.rbf_access.specs.Faults.{file_fault}
use Rattle.rbf_access.specs.Reading.{IsFdOf}
use Rattle.file_drives.proofs.PlacedLemmas.{has-file, is-mounted, none-kept, on-file, only-reads}
use Rattle.file_drives.proofs.disks.Disks.fd.Goals as goal

pub fd-requires-clause-mounted : goal.fd-requires-clause-mounted
fd-requires-clause-mounted g c =
    is-mounted (goal.BlockDriver-dyn g) c.args.devices.now.drives.items c.self.view_is c.self.invariant c.index_mut.ensures.value
    c.in-Some.is c.index_mut-in-Some.ensures.value (search rules) c.requires.file

pub fd-requires-clause-file : goal.fd-requires-clause-file
fd-requires-clause-file g c =
    has-file (goal.BlockDriver-dyn g) c.args.devices.now.drives.items c.self.view_is c.self.invariant c.index_mut.ensures.value
    c.in-Some.is c.index_mut-in-Some.ensures.value (search rules) c.requires.file

pub unreachable-requires : goal.unreachable-requires
unreachable-requires g c = none-kept c.self.view_is c.self.invariant c.index_mut.ensures.value c.requires.file c.in-None.is

pub returns-clause-ok : goal.returns-clause-ok
returns-clause-ok g c =
    on-file (goal.BlockDriver-dyn g) c.args.devices.now.drives.items c.self.view_is c.self.invariant c.index_mut.ensures.value
    c.in-Some.is c.index_mut-in-Some.ensures.value (search rules) c.requires.file
    (λ v file. IfOk c.fd.result (IsFdOf file)) c.fd.ensures.ok

pub returns-clause-drive : goal.returns-clause-drive
returns-clause-drive g c =
    only-reads (goal.BlockDriver-dyn g) c.args.devices.now.drives.items c.self.view_is c.self.invariant c.index_mut.ensures.value
    c.in-Some.is c.index_mut-in-Some.ensures.value (search rules) c.requires.file _
    (file_fault c.fd.result) (λ v file. 1) c.fd.ensures.media_kept c.fd.ensures.volume_kept c.fd.ensures.mounted (λ v file on there. c.fd.ensures.counts)
