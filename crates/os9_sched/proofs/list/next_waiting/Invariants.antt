use Rattle.std.proofs.Common.{ℕ, ◌<◌}
use Rattle.os9_sched.specs.Members.{WaitsFor}
use Rattle.os9_sched.proofs.list.next_waiting.Given as goal

-- none so far waits for this
abbrev pub invariant-loop-number : goal.invariant-loop-number
invariant-loop-number l = (q : ℕ) → l.after < q → q < l.number → WaitsFor l.members l.cause q → ⊥
