use Rattle.std.proofs.Common.{◌≡◌, ◌-◌, ◌≤◌, replicate, vec_len}
use Rattle.proc_model.specs.Slots.{no_slots}
use Rattle.guest_memory.proofs.new.empty_maps.Given as goal

abbrev pub invariant-fill : goal.invariant-fill
invariant-fill l = record { empty : l.maps.items ≡ replicate (vec_len l.maps) no_slots; most : vec_len l.maps ≤ 33 }

abbrev pub decreases-fill : goal.decreases-fill
decreases-fill l = 33 - vec_len l.maps
