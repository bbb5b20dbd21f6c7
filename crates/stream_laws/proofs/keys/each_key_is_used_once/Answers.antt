use Rattle.stream_laws.proofs.KeyEvents.{event-keys}
use Rattle.stream_laws.proofs.KeyRuns.{run-keys, slice-keys, start-ahead, tick-keys}
use Rattle.stream_laws.proofs.keys.each_key_is_used_once.Goals as goal

pub returns : goal.returns
returns c = record { start = start-ahead; event = event-keys; tick = tick-keys; slice = slice-keys; run = run-keys }
