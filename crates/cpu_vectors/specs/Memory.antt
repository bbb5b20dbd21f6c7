-- The memory that a program sees.
use Rattle.std.specs.Prelude.{ℕ, ◌/◌, ◌%◌, ◌^◌, ◌==◌, Bool, Option, None, List, slice_get, if◌then◌else◌}

-- the slot of an address is named
abbrev pub is_in_named_slot : ℕ → ℕ → Bool
is_in_named_slot slots at = slots / 2 ^ (at / 8192) % 2 == 1

-- the byte at an address of a named slot
abbrev pub cells_of : ℕ → List ℕ → ℕ → Option ℕ
cells_of slots bytes at = if is_in_named_slot slots at then slice_get bytes at else None
