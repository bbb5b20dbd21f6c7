use Rattle.std.proofs.Common.{ℕ, ◌≤◌}
use Rattle.proc_model.specs.Slots.{IsFreeRun}
use Rattle.block_map.proofs.map.Map.highest_free_run.Given as goal

abbrev pub invariant-loop-first : goal.invariant-loop-first
invariant-loop-first l = (higher : ℕ) → l.first ≤ higher → IsFreeRun l.self higher l.len → ⊥
