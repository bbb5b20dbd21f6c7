-- Rule 2 is broken where the map is bad, and is shown at LSN 1.
use Rattle.std.proofs.Common.{◌≡◌, ℕ, ◌≤◌, List, refl, arith}
use Rattle.rbf_model.specs.Disk.{disk_of}
use Rattle.rbf_model.specs.Geometry.{Geometry, HasMap}
use Rattle.rbf_model.specs.Faults.{Breaks}
use Rattle.rbf_model.specs.Faults.Breaks.{bad_number, bad_segment, bad_map, unmarked, used_twice, shared, no_room, no_root, bad_size, no_dots, bad_name, same_name, named_twice, named_root}

module _ (g : Geometry) (disk : ℕ → List ℕ) where
  map_broken : {rule lsn : ℕ} → Breaks (disk_of g disk) rule lsn → rule ≡ 2 → (HasMap g → ⊥) × (1 ≤ lsn)
  map_broken (bad_map bad) e = (bad, omega arith)
  map_broken (bad_number a b c) e = absurd (omega arith)
  map_broken (bad_segment a b c) e = absurd (omega arith)
  map_broken (unmarked a b c) e = absurd (omega arith)
  map_broken (used_twice a b c d) e = absurd (omega arith)
  map_broken (shared a b c d f h k) e = absurd (omega arith)
  map_broken (no_room a b) e = absurd (omega arith)
  map_broken (no_root a) e = absurd (omega arith)
  map_broken (bad_size a b c) e = absurd (omega arith)
  map_broken (no_dots a b c) e = absurd (omega arith)
  map_broken (bad_name a b) e = absurd (omega arith)
  map_broken (same_name a b) e = absurd (omega arith)
  map_broken (named_twice a b c d) e = absurd (omega arith)
  map_broken (named_root a) e = absurd (omega arith)

  pub no_map_breach : HasMap g → (lsn : ℕ) → Breaks (disk_of g disk) 2 lsn → ⊥
  no_map_breach map lsn b = (map_broken b refl).0 map

  pub map_breach_is : (HasMap g → ⊥) → Breaks (disk_of g disk) 2 1 × ((other : ℕ) → Breaks (disk_of g disk) 2 other → 1 ≤ other)
  map_breach_is bad = (bad_map bad, λ other b. (map_broken b refl).1)
