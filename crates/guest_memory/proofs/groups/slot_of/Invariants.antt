use Rattle.std.proofs.Common.{◌≡◌, ◌<◌, ℕ, false, None, get_or}
use Rattle.proc_model.specs.Slots.{IsMap}
use Rattle.guest_memory.proofs.MappedGroups.{names_number}
use Rattle.guest_memory.proofs.groups.slot_of.Given as goal

abbrev pub invariant-loop-slot : goal.invariant-loop-slot
invariant-loop-slot l = record {
  before : (k : ℕ) → k < l.slot → names_number l.block.0 (get_or l.map.places k None) ≡ false;
  shape : 0 < l.slot → IsMap l.map;
}
