use Rattle.run_laws.proofs.Kept.{choice-bare, event-bare, never-chooses, tick-bare}
use Rattle.run_laws.proofs.Starting.{start-bare}
use Rattle.run_laws.proofs.single.no_volume_is_mounted.Goals as goal

pub returns : goal.returns
returns c = record { start = start-bare; never = never-chooses; event = event-bare; tick = tick-bare; choice = choice-bare }
