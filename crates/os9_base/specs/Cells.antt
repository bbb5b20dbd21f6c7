-- The memory that a program can reach.
use Rattle.std.specs.Prelude.{◌≡◌, ℕ, ◌+◌, ◌-◌, ◌<◌, ◌≤◌, ◌==◌, ◌&&◌, nat_lt, nat_le, Bool, Option, Some, IsSome, List, length, slice_get, if◌then◌else◌}

-- the byte at each address, or nothing if the address is not named
abbrev pub Cells : Type 0
Cells = ℕ → Option ℕ

-- the cells with another byte at one address
abbrev pub put_cell : Cells → ℕ → ℕ → Cells
put_cell cells at byte address = if address == at then Some byte else cells address

-- an address is among this many from `at` on
abbrev pub is_in_range : ℕ → ℕ → ℕ → Bool
is_in_range at count address = nat_le at address && nat_lt address (at + count)

-- the cells with these bytes from one address on
abbrev pub store_cells : Cells → ℕ → List ℕ → Cells
store_cells cells at bytes address =
    if is_in_range at (length bytes) address then slice_get bytes (address - at) else cells address

-- this many addresses from `at` on are named
abbrev pub AllNamed : Cells → ℕ → ℕ → Type 0
AllNamed cells at count = (k : ℕ) → k < count → IsSome (cells (at + k))

-- a range that a system call may use: its addresses are named and do not pass FFFF
abbrev pub FitsIn : Cells → ℕ → ℕ → Type 0
FitsIn cells at count = (at + count ≤ 65536) × AllNamed cells at count

-- the bytes from an address on are these
abbrev pub HoldsBytes : Cells → ℕ → List ℕ → Type 0
HoldsBytes cells at bytes = (k : ℕ) → k < length bytes → cells (at + k) ≡ slice_get bytes k
