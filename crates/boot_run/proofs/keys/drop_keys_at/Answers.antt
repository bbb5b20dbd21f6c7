use Rattle.std.proofs.Common.{arith}
use Rattle.device_table.proofs.TerminalLemmas.{ChangesOne-set}
use Rattle.boot_run.proofs.DroppedLemmas.{drops-from}
use Rattle.boot_run.proofs.keys.drop_keys_at.Goals as goal

pub returns-clause-terminal : goal.returns-clause-terminal
returns-clause-terminal g c =
    let took = c.drop_keys_in.ensures in
    ChangesOne-set _ _ c.args.devices.now.terms.items c.args.n c.index_mut.result.now c.drop_keys_in.new.term
    (omega (arith, c.args.devices.now.terms.ok.0)) c.index_mut.ensures.value (drops-from c.drop_keys_in.result _ _
    took.dropped took.faults_kept took.put_kept took.failed)
