-- What lists have after changes: elements of lists, and blocks in the places of maps.
use Rattle.std.proofs.Common.{◌≡◌, ◌≢◌, ◌⊎◌, ℕ, zero, suc, ◌+◌, ◌<◌, ◌≤◌, Option, Some, None, List, [], ◌∷◌, ◌++◌, length, take, drop, replicate, get_or, slice_get, refl, sym, ap, ◌∙◌, inl, inr, arith}
use Rattle.std.specs.Prelude.{slice_set, slice_index_or}
use Rattle.std.specs.List.{range_with_len}
use Rattle.std.proofs.lemmas.Bool.{cases_lt}
use Rattle.std.proofs.lemmas.List.{get_or-set_same, get_or-set_other, get_or-take, get_or_append_left, length-set, length-take-le}
use Rattle.std.proofs.lemmas.Option.{none-some, same_Some, slice_get-get_or, slice_get_past}
use Rattle.proc_model.specs.Objects.{slot_of}
use Rattle.proc_model.specs.Slots.{put_places, filled_places}

-- ---- elements

module _ {X : Type 0} where
  -- a place beside one that was written
  pub slice_get-set_other : (xs : List X) (i j : ℕ) (x : X) → j ≢ i → slice_get (slice_set xs i x) j ≡ slice_get xs j
  slice_get-set_other xs i j x differ =
      elim (cases_lt j (length xs)) [
        | inl lt ↦
            slice_get-get_or (slice_set xs i x) j x (rw length-set lt) ∙ ap Some (get_or-set_other xs i j x x differ) ∙ sym (slice_get-get_or xs j x lt)
        | inr past ↦ slice_get_past (slice_set xs i x) j (rw length-set past) ∙ sym (slice_get_past xs j past)
      ]

  pub slice_get-set_same : (xs : List X) (i : ℕ) (x : X) → i < length xs → slice_get (slice_set xs i x) i ≡ Some x
  slice_get-set_same xs i x lt =
      slice_get-get_or (slice_set xs i x) i x (rw length-set lt) ∙ ap Some (get_or-set_same xs i x x lt)

  -- an element that is there has a place
  pub get-within : (xs : List X) (i : ℕ) (x : X) → slice_get xs i ≡ Some x → i < length xs
  get-within xs i x is =
      elim (cases_lt i (length xs)) [
        | inl within ↦ within
        | inr past ↦ absurd (none-some x (sym (slice_get_past xs i past) ∙ is))
      ]

  -- one that stands behind some is of those behind
  pub right-some : (xs ys : List X) (i : ℕ) (x : X) → length xs ≤ i → slice_get (xs ++ ys) i ≡ Some x → (j : ℕ) × (slice_get ys j ≡ Some x)
  right-some [] ys i x late is = (i, is)
  right-some (y ∷ xs) ys zero x late is = absurd (omega arith)
  right-some (y ∷ xs) ys (suc i) x late is = right-some xs ys i x (omega arith) is

  pub replicate-is : (n : ℕ) (x : X) (k : ℕ) (y : X) → slice_get (replicate n x) k ≡ Some y → y ≡ x
  replicate-is zero x k y is = absurd (none-some y is)
  replicate-is (suc n) x zero y is = sym (same_Some x y is)
  replicate-is (suc n) x (suc k) y is = replicate-is n x k y is

  -- what stood before others were put behind
  pub slice_get-left : (xs ys : List X) (i : ℕ) → i < length xs → slice_get (xs ++ ys) i ≡ slice_get xs i
  slice_get-left [] ys i within = absurd (omega arith)
  slice_get-left (x ∷ xs) ys zero within = refl
  slice_get-left (x ∷ xs) ys (suc i) within = slice_get-left xs ys i (omega arith)

-- numbers that are counted on from one are not below it
pub range-from : (a n k x : ℕ) → slice_get (range_with_len a n) k ≡ Some x → a ≤ x
range-from a zero k x is = absurd (none-some x is)
range-from a (suc n) zero x is = let same : a ≡ x = cc in omega arith
range-from a (suc n) (suc k) x is = let more = range-from (a + 1) n k x is in omega arith

pub range-below : (a n k x : ℕ) → slice_get (range_with_len a n) k ≡ Some x → x < a + n
range-below a zero k x is = absurd (none-some x is)
range-below a (suc n) zero x is = let same : a ≡ x = cc in omega arith
range-below a (suc n) (suc k) x is = let more = range-below (a + 1) n k x is in omega arith

-- ---- blocks in places

-- some place names a block
abbrev pub HasBlock : List (Option ℕ) → ℕ → Type 0
HasBlock places block = (slot : ℕ) × (slice_index_or places slot None ≡ Some block)

pub has-append : (xs ys : List (Option ℕ)) (block : ℕ) → HasBlock (xs ++ ys) block → HasBlock xs block ⊎ HasBlock ys block
has-append [] ys block has = inr has
has-append (x ∷ xs) ys block (zero, is) = inl (0, is)
has-append (x ∷ xs) ys block (suc slot, is) = later (has-append xs ys block (slot, is))
  where
    later : HasBlock xs block ⊎ HasBlock ys block → HasBlock (x ∷ xs) block ⊎ HasBlock ys block
    later (inl (k, is)) = inl (suc k, is)
    later (inr has) = inr has

pub has-take : (n : ℕ) (xs : List (Option ℕ)) (block : ℕ) → HasBlock (take n xs) block → HasBlock xs block
has-take zero xs block (slot, is) = absurd (none-some block is)
has-take (suc n) [] block (slot, is) = absurd (none-some block is)
has-take (suc n) (x ∷ xs) block (zero, is) = (0, is)
has-take (suc n) (x ∷ xs) block (suc slot, is) = let rest = has-take n xs block (slot, is) in (suc rest.0, rest.1)

pub has-drop : (n : ℕ) (xs : List (Option ℕ)) (block : ℕ) → HasBlock (drop n xs) block → HasBlock xs block
has-drop zero xs block has = has
has-drop (suc n) [] block has = has
has-drop (suc n) (x ∷ xs) block has = let rest = has-drop n xs block has in (suc rest.0, rest.1)

pub has-none : (n block : ℕ) → HasBlock (replicate n None) block → ⊥
has-none zero block (slot, is) = none-some block is
has-none (suc n) block (zero, is) = none-some block is
has-none (suc n) block (suc slot, is) = has-none n block (slot, is)

pub has-filled : (blocks : List ℕ) (block : ℕ) → HasBlock (filled_places blocks) block → (k : ℕ) × (slice_get blocks k ≡ Some block)
has-filled [] block (slot, is) = absurd (none-some block is)
has-filled (x ∷ blocks) block (zero, is) = (0, is)
has-filled (x ∷ blocks) block (suc slot, is) = let rest = has-filled blocks block (slot, is) in (suc rest.0, rest.1)

pub has-put : (places : List (Option ℕ)) (first : ℕ) (new : List (Option ℕ)) (block : ℕ) → HasBlock (put_places places first new) block → HasBlock new block ⊎ HasBlock places block
has-put places first new block has =
    elim (has-append (take first places) (new ++ drop (first + length new) places) block has) [
      | inl before ↦ inr (has-take first places block before)
      | inr behind ↦ by_part (has-append new (drop (first + length new) places) block behind)
    ]
  where
    by_part : HasBlock new block ⊎ HasBlock (drop (first + length new) places) block → HasBlock new block ⊎ HasBlock places block
    by_part (inl put) = inl put
    by_part (inr after) = inr (has-drop (first + length new) places block after)

-- what stands before the places that were put
pub before-put : (places : List (Option ℕ)) (first : ℕ) (new : List (Option ℕ)) (slot : ℕ) → slot < first
    → first ≤ length places → get_or (put_places places first new) slot None ≡ get_or places slot None
before-put places first new slot before fits =
    get_or_append_left (take first places) (new ++ drop (first + length new) places) None slot (rw (length-take-le first places fits) before) ∙ get_or-take first places slot None before

-- what a slot names stands in its place
pub slot-has : (places : List (Option ℕ)) (slot block : ℕ) → slot_of places slot ≡ Some block → get_or places slot None ≡ Some block
slot-has [] slot block is = is
slot-has (x ∷ places) zero block is = is
slot-has (x ∷ places) (suc slot) block is = slot-has places slot block is
