use Rattle.std.proofs.Common.{sym, ap}
use Rattle.proc_model.specs.Processes.{Processes}
use Rattle.os9_kernel.proofs.kernel.Kernel.ticks.Goals as goal

pub returns-clause-machine : goal.returns-clause-machine
returns-clause-machine c devices s tied = sym (ap (λ (m : Processes). m.tick) tied.processes.is)
