use Rattle.std.proofs.Common.{arith}
use Rattle.device_table.proofs.TerminalLemmas.{ChangesOne-set}
use Rattle.os9_debug.proofs.Emptying.{emptied-from}
use Rattle.os9_debug.proofs.console.empty_at.Goals as goal

pub returns-clause-terminal : goal.returns-clause-terminal
returns-clause-terminal g c =
    let took = c.empty_box.ensures in
    ChangesOne-set _ _ c.args.devices.now.terms.items c.args.n c.index_mut.result.now c.empty_box.new.term
    (omega (arith, c.args.devices.now.terms.ok.0)) c.index_mut.ensures.value (emptied-from _ _ took.none_left
    took.keys_kept took.faults_kept)
