use Rattle.std.proofs.Common.{arith}
use Rattle.device_table.proofs.TerminalLemmas.{ChangesOne-set}
use Rattle.boot_run.proofs.ConsoleLemmas.{Takes-from}
use Rattle.boot_run.proofs.console.take_from.Goals as goal

pub returns-clause-terminal : goal.returns-clause-terminal
returns-clause-terminal g c =
    let took = c.take_from_box.ensures in
    ChangesOne-set _ _ c.args.devices.now.terms.items c.args.n c.index_mut.result.now c.take_from_box.new.term
    (omega (arith, c.args.devices.now.terms.ok.0)) c.index_mut.ensures.value (Takes-from _ _ _ took.handed_over
    took.none_left took.keys_kept took.faults_kept)
