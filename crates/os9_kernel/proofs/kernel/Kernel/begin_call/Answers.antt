use Rattle.std.proofs.Common.{refl}
use Rattle.proc_model.specs.Processes.{Processes, with_own}
use Rattle.os9_kernel.proofs.Represented.{tick-kept}
use Rattle.os9_kernel.proofs.kernel.Kernel.begin_call.Goals as goal

pub returns-clause-count : goal.returns-clause-count
returns-clause-count c =
    tick-kept c.args.self.now.machine.processes c.set_own.new.self (λ (m : Processes). with_own m c.args.p.0 _) c.set_own.ensures.tied (λ m. refl)
