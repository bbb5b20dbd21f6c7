use Rattle.std.proofs.Common.{◌≡◌, ℕ, ◌<◌, ◌≤◌, get_or}
use Rattle.io_model.specs.Terminal.{new_terminal, forgotten}
use Rattle.io_state.proofs.terminals.forget.Given as goal

-- the terminals so far are done, and the others as they were
abbrev pub invariant-loop-term : goal.invariant-loop-term
invariant-loop-term l = record {
  done : (k : ℕ) → k < l.term-index → get_or l.terms k new_terminal ≡ forgotten l.p (get_or l.fn.terms k new_terminal);
  rest : (k : ℕ) → l.term-index ≤ k → get_or l.terms k new_terminal ≡ get_or l.fn.terms k new_terminal;
}
