-- The boot file of a load is accepted.
use Rattle.guest_mods.specs.Stress.{stress_file}
use Rattle.guest_mods.proofs.AcceptedLemmas.{accepted}
use Rattle.stress_run.proofs.Started.{starts-accepted, never-refused-accepted}
use Rattle.stress_run.proofs.laws.loads_start.Goals as goal

pub returns-clause-starts : goal.returns-clause-starts
returns-clause-starts c = λ load is. starts-accepted (stress_file load) 64 (accepted load is)

pub returns-clause-no_refusal : goal.returns-clause-no_refusal
returns-clause-no_refusal c = λ load fault is. never-refused-accepted (stress_file load) 64 (accepted load is) fault
