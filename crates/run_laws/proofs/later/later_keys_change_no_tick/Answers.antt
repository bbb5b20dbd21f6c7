use Rattle.run_laws.proofs.LaterKeys.{choice-too, tick-too}
use Rattle.run_laws.proofs.later.later_keys_change_no_tick.Goals as goal

pub returns : goal.returns
returns c = record { tick = tick-too; choice = choice-too }
