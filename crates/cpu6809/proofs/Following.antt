-- Instructions that follow one another.
use Rattle.std.proofs.Common.{◌≡◌, ℕ, zero, suc, ◌+◌, refl, arith}
use Rattle.os9_base.specs.declared.registers.Regs.{Regs}
use Rattle.os9_base.specs.Cells.{Cells}
use Rattle.cpu_model.specs.declared.stop.Stop.TheVariants.{Next}
use Rattle.cpu_model.specs.Step.{step_of, LeavesCells}
use Rattle.cpu6809.specs.Running.{InstructionsFollow}

next_follows : (k : ℕ) (r : Regs) (cells : Cells) (last : Regs) (held : Cells) (after : Regs) (now : Cells)
    → InstructionsFollow k r cells last held → LeavesCells (step_of held last) Next last after held now → InstructionsFollow (suc k) r cells after now
next_follows zero r cells last held after now done step = (after, now, rw (← done.0, ← done.1) step, (refl, refl))
next_follows (suc k) r cells last held after now (next, mid, first, rest) step =
    (next, mid, first, next_follows k next mid last held after now rest step)

-- one more follows
pub one_more_follows : (k : ℕ) (r : Regs) (cells : Cells) (last : Regs) (held : Cells) (after : Regs) (now : Cells)
    → InstructionsFollow k r cells last held → LeavesCells (step_of held last) Next last after held now → InstructionsFollow (k + 1) r cells after now
one_more_follows k r cells last held after now follow step =
    let e : k + 1 ≡ suc k = omega arith in rw e (next_follows k r cells last held after now follow step)
