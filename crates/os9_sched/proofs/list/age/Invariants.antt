use Rattle.std.proofs.Common.{◌≡◌, ℕ, ◌<◌, ◌≤◌, get_or}
use Rattle.proc_model.specs.declared.turn.Turn.{Turn}
use Rattle.proc_model.specs.Turns.{aged}
use Rattle.os9_sched.specs.Members.{is_active_in, priority_in}
use Rattle.os9_sched.proofs.list.age.Given as goal

-- the turns so far are done, and the others as they were
abbrev pub invariant-loop-turn : goal.invariant-loop-turn
invariant-loop-turn l = record {
  done : (k : ℕ) (d : Turn) → k < l.turn-index → get_or l.order k d ≡ aged (is_active_in l.members) (priority_in l.members) (get_or l.fn.order k d);
  rest : (k : ℕ) (d : Turn) → l.turn-index ≤ k → get_or l.order k d ≡ get_or l.fn.order k d;
}
