-- A table of sixteen rows of sixteen entries that lists what a function gives.
use Rattle.std.proofs.Common.{◌≡◌, ℕ, ◌+◌, ◌*◌, ◌/◌, ◌%◌, ◌<◌, List, [], map, get_or, bit_and, arith, refl}
use Rattle.std.specs.List.{range_with_len}
use Rattle.std.proofs.lemmas.List.FromFn.{get_or-map-range_with_len}
use Rattle.std.proofs.lemmas.Nat.{and_mask}

abbrev pub grid_row : {A : Type 0} → (ℕ → A) → ℕ → List A
grid_row f high = map (λ low. f (16 * high + low)) (range_with_len 0 16)

abbrev pub grid : {A : Type 0} → (ℕ → A) → List (List A)
grid f = map (grid_row f) (range_with_len 0 16)

-- the entry in the row of the high half and the column of the low one
pub grid_at : {A : Type 0} (f : ℕ → A) (table : List (List A)) (d : A) → table ≡ grid f → (k : ℕ) → k < 256 →
    get_or (get_or table (k / 16) []) (bit_and k 15) d ≡ f k
grid_at f table d e k h =
    let row : get_or (grid f) (k / 16) [] ≡ grid_row f (k / 16) =
    get_or-map-range_with_len (grid_row f) 0 16 (k / 16) (k / 16) [] (omega arith) (omega arith) in
    let column : get_or (grid_row f (k / 16)) (k % 16) d ≡ f (16 * (k / 16) + k % 16) =
    get_or-map-range_with_len (λ low. f (16 * (k / 16) + low)) 0 16 (k % 16) (k % 16) d (omega arith) (omega arith) in
    let whole : 16 * (k / 16) + k % 16 ≡ k = omega arith in
    let mask : bit_and k 15 ≡ k % 16 = and_mask k 4 in
    rw (e, row, mask, column, whole) refl

-- the entry of a table in one row
pub flat_at : {A : Type 0} (f : ℕ → A) (table : List A) (d : A) → table ≡ map f (range_with_len 0 256) → (k : ℕ) → k < 256 →
    get_or table k d ≡ f k
flat_at f table d e k h = rw e (get_or-map-range_with_len f 0 256 k k d (omega arith) (omega arith))
