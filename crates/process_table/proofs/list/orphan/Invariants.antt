use Rattle.std.proofs.Common.{◌≡◌, ℕ, ◌<◌, ◌≤◌, None, get_or}
use Rattle.proc_model.specs.Ends.{orphaned}
use Rattle.process_table.proofs.list.orphan.Given as goal

-- the places so far are done, and the others as they were
abbrev pub invariant-loop-place : goal.invariant-loop-place
invariant-loop-place l = record {
  done : (k : ℕ) → k < l.place-index → get_or l.records k None ≡ orphaned l.parent.0 (get_or l.fn.records k None);
  rest : (k : ℕ) → l.place-index ≤ k → get_or l.records k None ≡ get_or l.fn.records k None;
}
