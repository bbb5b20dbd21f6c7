use Rattle.call_dispatch.proofs.RunningCalls.{may-attempt}
use Rattle.call_dispatch.proofs.conditions.a_process_may_attempt_its_call.Goals as goal

pub returns : goal.returns
returns c = may-attempt
