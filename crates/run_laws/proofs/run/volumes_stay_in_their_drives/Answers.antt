use Rattle.run_laws.proofs.Moves.{choice-can, event-can, start-can, tick-can}
use Rattle.run_laws.proofs.run.volumes_stay_in_their_drives.Goals as goal

pub returns : goal.returns
returns c = record { start = start-can; event = event-can; tick = tick-can; choice = choice-can }
