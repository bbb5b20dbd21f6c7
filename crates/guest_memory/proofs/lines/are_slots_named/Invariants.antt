use Rattle.std.proofs.Common.{ℕ, ◌<◌, ◌≤◌, IsSome}
use Rattle.proc_model.specs.Slots.{block_at}
use Rattle.guest_memory.proofs.lines.are_slots_named.Given as goal

-- each slot so far names a block
abbrev pub invariant-loop-slot : goal.invariant-loop-slot
invariant-loop-slot l = (slot : ℕ) → l.first ≤ slot → slot < l.slot → IsSome (block_at l.map slot)
