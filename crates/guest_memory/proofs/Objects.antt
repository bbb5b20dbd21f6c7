-- A byte written at a named address of a map is the byte of that cell, and no other cell changes.
use Rattle.std.proofs.Common.{◌≡◌, ◌≢◌, ℕ, ◌/◌, ◌%◌, ◌<◌, Bool, true, false, Option, Some, None, List, [], ◌∷◌, length, slice_get, refl, sym, ap, ◌∙◌, inl, inr, ◌⊎◌, eqb, arith}
use Rattle.std.specs.Prelude.{is_some, ◌&&◌, slice_set, option_and_then, if◌then◌else◌}
use Rattle.std.proofs.lemmas.List.{get_or-set_same, get_or-set_other, length-set}
use Rattle.std.proofs.lemmas.Option.{slice_get-get_or, slice_get_past, slice_get_within}
use Rattle.std.proofs.lemmas.Bool.{cases_lt, cases_eq, eqb-true, eq-eqb}
use Rattle.os9_base.specs.Cells.{put_cell}
use Rattle.cpu_model.specs.Step.{all_named, write_cells}
use Rattle.proc_model.specs.Objects.{slot_of, object_byte, object_cells, with_cell, with_writes}

-- a map names existing objects, and no object in two of its slots
pub record NamesObjects (objects : List (List ℕ)) (places : List (Option ℕ)) : Type 0 where
  pub there : (slot number : ℕ) → slot_of places slot ≡ Some number → number < length objects
  pub apart : (slot other number : ℕ) → slot_of places slot ≡ Some number → slot_of places other ≡ Some number
      → slot ≡ other

module _ {X : Type 0} where
  -- what a list has at a place that was written
  pub slice_get-set_same : (xs : List X) (i : ℕ) (x : X) → i < length xs → slice_get (slice_set xs i x) i ≡ Some x
  slice_get-set_same xs i x lt =
      slice_get-get_or (slice_set xs i x) i x (rw length-set lt) ∙ ap Some (get_or-set_same xs i x x lt)

  -- and at another place
  pub slice_get-set_other : (xs : List X) (i j : ℕ) (x : X) → j ≢ i → slice_get (slice_set xs i x) j ≡ slice_get xs j
  slice_get-set_other xs i j x differ =
      elim (cases_lt j (length xs)) [
        | inl lt ↦
            slice_get-get_or (slice_set xs i x) j x (rw length-set lt) ∙ ap Some (get_or-set_other xs i j x x differ) ∙ sym (slice_get-get_or xs j x lt)
        | inr past ↦ slice_get_past (slice_set xs i x) j (rw length-set past) ∙ sym (slice_get_past xs j past)
      ]

-- ---- one write

-- what a named address leads to
record Leads (objects : List (List ℕ)) (places : List (Option ℕ)) (at : ℕ) : Type 0 where
  pub number : ℕ
  pub object : List ℕ
  pub old : ℕ
  pub is_slot : slot_of places (at / 8192) ≡ Some number
  pub is_object : slice_get objects number ≡ Some object
  pub is_byte : slice_get object (at % 8192) ≡ Some old

leads : (objects : List (List ℕ)) (places : List (Option ℕ)) (at : ℕ) → is_some (object_cells objects places at) ≡ true → Leads objects places at
leads objects places at named = by_slot (slot_of places (at / 8192)) refl named
  where
    by_byte : (number : ℕ) → slot_of places (at / 8192) ≡ Some number → (object : List ℕ) → slice_get objects number ≡
        Some object → (byte : Option ℕ) → slice_get object (at % 8192) ≡ byte → is_some byte ≡ true
        → Leads objects places at
    by_byte number is_slot object is_object None is_byte named = cc
    by_byte number is_slot object is_object (Some old) is_byte named =
        record { number = number; object = object; old = old; is_slot = is_slot; is_object = is_object; is_byte = is_byte }

    by_object : (number : ℕ) → slot_of places (at / 8192) ≡ Some number → (object : Option (List ℕ))
        → slice_get objects number ≡ object → is_some (option_and_then (λ object. slice_get object (at % 8192))
        object) ≡ true → Leads objects places at
    by_object number is_slot None is_object named = cc
    by_object number is_slot (Some object) is_object named =
        by_byte number is_slot object is_object (slice_get object (at % 8192)) refl named

    by_slot : (slot : Option ℕ) → slot_of places (at / 8192) ≡ slot → is_some (option_and_then (object_byte objects (at % 8192)) slot) ≡ true → Leads objects places at
    by_slot None is_slot named = cc
    by_slot (Some number) is_slot named = by_object number is_slot (slice_get objects number) refl named

module _ (objects : List (List ℕ)) (places : List (Option ℕ)) (at byte : ℕ) (map : NamesObjects objects places) (here : Leads objects places at) where
  written : with_cell objects places at byte ≡ slice_set objects here.number (slice_set here.object (at % 8192) byte)
  written = rw (here.is_slot, here.is_object) refl

  in_objects : here.number < length objects
  in_objects = map.there (at / 8192) here.number here.is_slot

  -- another object has its bytes still
  other_object : (number offset : ℕ) → number ≢ here.number → object_byte (with_cell objects places at byte) offset number ≡ object_byte objects offset number
  other_object number offset differ =
      rw (written, slice_get-set_other objects here.number number (slice_set here.object (at % 8192) byte) differ) refl

  -- the object has the byte at the offset
  same_object : object_byte (with_cell objects places at byte) (at % 8192) here.number ≡ Some byte
  same_object =
      rw (written, slice_get-set_same objects here.number (slice_set here.object (at % 8192) byte) in_objects)
      (slice_get-set_same here.object (at % 8192) byte (slice_get_within here.object (at % 8192) here.old
      here.is_byte))

  -- and its other bytes still
  other_byte : (offset : ℕ) → offset ≢ at % 8192 → object_byte (with_cell objects places at byte) offset here.number ≡ object_byte objects offset here.number
  other_byte offset differ =
      rw (written, slice_get-set_same objects here.number (slice_set here.object (at % 8192) byte) in_objects, here.is_object) (slice_get-set_other here.object (at % 8192) offset byte differ)

  not_here : (address : ℕ) → (slot_of places (address / 8192) ≡ Some here.number → address % 8192 ≡ at % 8192 → ⊥) → eqb address at ≡ false
  not_here address differ = by_test (eqb address at) refl
    where
      by_test : (test : Bool) → eqb address at ≡ test → test ≡ false
      by_test false is = refl
      by_test true is = let same : address ≡ at = eqb-true address at is in absurd (differ (rw same here.is_slot) (rw same refl))

  -- a cell of the map after the write
  cell_after : (address : ℕ) → object_cells (with_cell objects places at byte) places address ≡ put_cell (object_cells objects places) at byte address
  cell_after address = by_slot (slot_of places (address / 8192)) refl
    where
      kept : (number : ℕ) → slot_of places (address / 8192) ≡ Some number
          → (slot_of places (address / 8192) ≡ Some here.number → address % 8192 ≡ at % 8192 → ⊥)
          → object_byte (with_cell objects places at byte) (address % 8192) number ≡ object_byte objects
          (address % 8192) number → object_cells (with_cell objects places at byte) places address ≡ put_cell
          (object_cells objects places) at byte address
      kept number is differ same = rw (not_here address differ, is) same

      by_offset : (number : ℕ) → slot_of places (address / 8192) ≡ Some number → number ≡ here.number
          → (address % 8192 ≡ at % 8192) ⊎ (address % 8192 ≢ at % 8192)
          → object_cells (with_cell objects places at byte) places address ≡ put_cell (object_cells objects places) at
          byte address
      by_offset number is same (inl offset) =
          let slot : address / 8192 ≡ at / 8192 = map.apart (address / 8192) (at / 8192) here.number (rw (← same) is) here.is_slot in
          let here_it_is : address ≡ at = omega arith in
          rw here_it_is (rw (eq-eqb at at refl) (ap (λ slot. option_and_then (object_byte (with_cell objects places at byte) (at % 8192)) slot) here.is_slot ∙ same_object))
      by_offset number is same (inr offset) =
          kept number is (λ _ e. offset e) (rw same (other_byte (address % 8192) offset))

      by_number : (number : ℕ) → slot_of places (address / 8192) ≡ Some number → (number ≡ here.number) ⊎
          (number ≢ here.number) → object_cells (with_cell objects places at byte) places address ≡ put_cell
          (object_cells objects places) at byte address
      by_number number is (inl same) = by_offset number is same (cases_eq (address % 8192) (at % 8192))
      by_number number is (inr differ) =
          kept number is (λ other _. differ (cc (is, other))) (other_object number (address % 8192) differ)

      by_slot : (slot : Option ℕ) → slot_of places (address / 8192) ≡ slot → object_cells (with_cell objects places at byte) places address ≡ put_cell (object_cells objects places) at byte address
      by_slot None is = rw (not_here address (λ other _. cc (is, other)), is) refl
      by_slot (Some number) is = by_number number is (cases_eq number here.number)

  map_after : NamesObjects (with_cell objects places at byte) places
  map_after = record {
    there = λ slot number is. rw (written, length-set) (map.there slot number is);
    apart = map.apart;
  }

-- the cells of a map after a write at a named address
pub cells_of-with_cell : (objects : List (List ℕ)) (places : List (Option ℕ)) (at byte : ℕ) → NamesObjects objects
    places → is_some (object_cells objects places at) ≡ true → object_cells (with_cell objects places at byte) places
    ≡ put_cell (object_cells objects places) at byte
cells_of-with_cell objects places at byte map named = λ i address. cell_after objects places at byte map (leads objects places at named) address i

pub IsMap-with_cell : (objects : List (List ℕ)) (places : List (Option ℕ)) (at byte : ℕ) → NamesObjects objects places
    → is_some (object_cells objects places at) ≡ true → NamesObjects (with_cell objects places at byte) places
IsMap-with_cell objects places at byte map named = map_after objects places at byte map (leads objects places at named)

-- ---- the writes of an instruction

both_true : (a b : Bool) → (a && b) ≡ true → (a ≡ true) × (b ≡ true)
both_true true b is = (refl, is)
both_true false b is = cc

-- a write leaves every named cell named
named_after : (cells : ℕ → Option ℕ) (at byte address : ℕ) → is_some (cells address) ≡ true → is_some (put_cell cells at byte address) ≡ true
named_after cells at byte address named = by_test (eqb address at)
  where
    by_test : (test : Bool) → is_some (if test then Some byte else cells address) ≡ true
    by_test true = refl
    by_test false = named

all_named_after : (cells : ℕ → Option ℕ) (at byte : ℕ) (writes : List (ℕ × ℕ)) → all_named cells writes ≡ true → all_named (put_cell cells at byte) writes ≡ true
all_named_after cells at byte [] named = refl
all_named_after cells at byte (write ∷ writes) named =
    let parts = both_true (is_some (cells write.0)) (all_named cells writes) named in
    rw (named_after cells at byte write.0 parts.0) (all_named_after cells at byte writes parts.1)

-- the objects after the writes are a map's still, and its cells are those written
pub with_writes-tied : (objects : List (List ℕ)) (places : List (Option ℕ)) (writes : List (ℕ × ℕ))
    → NamesObjects objects places → all_named (object_cells objects places) writes ≡ true
    → NamesObjects (with_writes objects places writes) places × (object_cells (with_writes objects places writes)
    places ≡ write_cells (object_cells objects places) writes)
with_writes-tied objects places [] map named = (map, refl)
with_writes-tied objects places (write ∷ writes) map named =
    let parts = both_true (is_some (object_cells objects places write.0)) (all_named (object_cells objects places) writes) named in
    let first = cells_of-with_cell objects places write.0 write.1 map parts.0 in
    let rest = with_writes-tied (with_cell objects places write.0 write.1) places writes
    (IsMap-with_cell objects places write.0 write.1 map parts.0)
    (rw first (all_named_after (object_cells objects places) write.0 write.1 writes parts.1)) in
    (rest.0, rest.1 ∙ ap (λ cells. write_cells cells writes) first)
