use Rattle.std.proofs.Common.{refl, ap, sym, ◌∙◌, arith}
use Rattle.std.specs.Prelude.{option_map}
use Rattle.os9_sched.specs.declared.member.Wait.{Wait}
use Rattle.os9_kernel.specs.Tie.{ticks}
use Rattle.os9_kernel.proofs.kernel.Kernel.goes.Goals as goal

pub returns-then-knows : goal.returns-then-knows
returns-then-knows c known =
    c.allows.ensures
    ∙ known (ticks c.args.self.now) c.args.p.0 c.in-Some.wait.cause (omega arith) (c.if-knows.ensures.early refl) c.requires.process
    (ap (option_map (λ (wait : Wait). wait.cause)) (sym c.requires.waits ∙ c.in-Some.is)) (c.if-knows.ensures.apart refl)
