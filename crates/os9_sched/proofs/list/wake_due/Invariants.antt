use Rattle.std.proofs.Common.{◌≡◌, ℕ, ◌<◌, ◌≤◌, None, option_map, get_or}
use Rattle.os9_sched.specs.Waits.{woken_at}
use Rattle.os9_sched.proofs.list.wake_due.Given as goal

-- the places so far are done, and the others as they were
abbrev pub invariant-loop-place : goal.invariant-loop-place
invariant-loop-place l = record {
  done : (k : ℕ) → k < l.place-index → get_or l.members k None ≡ option_map (woken_at l.tick) (get_or l.fn.members k None);
  rest : (k : ℕ) → l.place-index ≤ k → get_or l.members k None ≡ get_or l.fn.members k None;
}
