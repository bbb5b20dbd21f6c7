use Rattle.std.proofs.Common.{◌≡◌, ℕ, ◌<◌, ◌≤◌, get_or}
use Rattle.proc_model.specs.Processes.{no_own}
use Rattle.proc_model.specs.ModuleLinks.{still_primary}
use Rattle.proc_state.proofs.links.keep_entered.Given as goal

-- the places so far are done, and the others as they were
abbrev pub invariant-loop-own : goal.invariant-loop-own
invariant-loop-own l = record {
  done : (k : ℕ) → k < l.own-index → get_or l.owns k no_own ≡ still_primary l.modules (get_or l.fn.owns k no_own);
  rest : (k : ℕ) → l.own-index ≤ k → get_or l.owns k no_own ≡ get_or l.fn.owns k no_own;
}
