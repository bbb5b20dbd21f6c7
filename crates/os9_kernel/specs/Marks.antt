-- Whom the last calls on paths concern (this project's own).
use Rattle.std.specs.Prelude.{◌≡◌, ◌⊎◌, ℕ, ⊤, Option, Some, option_and_then}
use Rattle.os9_sched.specs.declared.member.Cause.{Cause}
use Rattle.io_model.specs.Io.{Io, open_path}
use Rattle.lock_laws.specs.Touches.{cause_on}
use Rattle.os9_kernel.specs.declared.marks.Marks.{Marks}
use Rattle.os9_kernel.specs.declared.marks.Marks.TheVariants.{Nobody, Waiters, Everyone}

-- a process that waits for this is among those whom the marks concern
abbrev pub Concerns : Marks → ℕ → Cause → Type 0
Concerns Nobody p cause = ⊥
Concerns (Waiters process on) p cause = (p ≡ process.0) ⊎ (on ≡ Some cause)
Concerns Everyone p cause = ⊤

-- what calls wait for on the path that a number of a process names
abbrev pub named_cause : Io → ℕ → ℕ → Option Cause
named_cause io p n = option_and_then (λ opened. cause_on opened.desc.target) (open_path io p n)
