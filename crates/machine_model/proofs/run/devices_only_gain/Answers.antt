use Rattle.machine_model.proofs.Gains.{broken-gains, begun-gains, event-gains, run-gains, slice-gains, tick-gains}
use Rattle.machine_model.proofs.run.devices_only_gain.Goals as goal

pub returns : goal.returns
returns c = record { tick = tick-gains; broken_tick = broken-gains; event = event-gains; slice = slice-gains; part = begun-gains; run = run-gains }
