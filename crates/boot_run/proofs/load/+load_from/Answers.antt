use Rattle.std.proofs.Common.{arith}
use Rattle.std.proofs.lemmas.List.{length-map}
use Rattle.boot_run.proofs.LoadLemmas.{loads-more}
use Rattle.boot_run.proofs.load.+load_from.Goals as goal

pub returns-clause-loaded : goal.returns-clause-loaded
returns-clause-loaded g t c =
    loads-more c.args.number c.args.keys.now c.in_ok-own.own.items _ _ _
    (rw length-map (omega (arith, c.args.devices.now.terms.ok.0))) c.in_ok-own.ensures
    c.in_ok-load_from.ensures.loaded c.load_on.ensures.terminal
