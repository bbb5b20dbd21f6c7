use Rattle.std.proofs.Common.{ap, ◌∙◌}
use Rattle.proc_state.proofs.Entered.{some-machine}
use Rattle.os9_base.specs.declared.registers.Regs.{Regs}
use Rattle.proc_model.specs.Processes.{Processes}
use Rattle.os9_kernel.specs.Paths.{number_in_a}
use Rattle.os9_kernel.proofs.kernel.Kernel.number_in_a.Goals as goal

pub returns-clause-number : goal.returns-clause-number
returns-clause-number c =
    let (m, there) = some-machine c.args.self.now.machine.processes in
    ap (λ (regs : Regs). regs.a) (c.regs.ensures.tied m there) ∙ ap (λ (s : Processes). number_in_a s.records c.args.p.0) there.is
