use Rattle.std.proofs.Common.{ℕ, ◌<◌, ◌≤◌}
use Rattle.block_pool.specs.Blocks.{IsPool}
use Rattle.block_map.specs.Window.{IsSlotLive}
use Rattle.block_map.proofs.view.View.are_slots_live.Given as goal

abbrev pub invariant-loop-slot : goal.invariant-loop-slot
invariant-loop-slot l = record {
  live : (slot : ℕ) → l.first ≤ slot → slot < l.slot → IsSlotLive l.self.map.now l.self.pool.now slot;
  pool : l.first < l.slot → IsPool l.self.pool.now;
}
