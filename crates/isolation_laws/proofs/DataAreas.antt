-- The new objects of a program that begins hold zeros, and its parameters in their place.
use Rattle.std.proofs.Common.{◌≡◌, ◌≢◌, ◌⊎◌, ℕ, zero, suc, ◌+◌, ◌-◌, ◌*◌, ◌/◌, ◌%◌, ◌<◌, ◌≤◌, Option, Some, None, Ok, List, [], ◌∷◌, ◌++◌, length, drop, replicate, get_or, slice_get, refl, sym, ap, ◌∙◌, subst, inl, inr, arith, append-nil, append_assoc}
use Rattle.std.specs.Prelude.{slice_set}
use Rattle.std.proofs.lemmas.Bool.{cases_eq, cases_lt}
use Rattle.std.proofs.lemmas.List.{get_or-set_same, get_or_append_left, length-append, length-drop, length-map, length-replicate, length-set}
use Rattle.std.proofs.lemmas.List.FromFn.{get_or-range_with_len, length-range_with_len}
use Rattle.std.proofs.lemmas.Option.{none-some, same_Some, slice_get-get_or, slice_get_past}
use Rattle.proc_model.specs.Memory.{MemoryState, map_at}
use Rattle.proc_model.specs.MemoryChanges.{first_slots, linked, new_numbers, started, with_first_slots, writes_from}
use Rattle.proc_model.specs.Objects.{slot_of, with_cell, with_object_byte, with_writes, zero_object}
use Rattle.proc_model.specs.Slots.{Slots, filled_places, no_slots, with_low}
use Rattle.proc_model.specs.Program.{Program, area_size, blocks_of_pages, parameters_at, with_parameters}
use Rattle.call_laws.proofs.Lists.{before-put, get-within, replicate-is, right-some, slice_get-set_other, slice_get-set_same}
use Rattle.call_laws.proofs.MemoryKept.{Started, started-is}
use Rattle.isolation_laws.specs.DataAreas.{HoldInOrder, HoldsFrom, area_bytes}

-- ---- lists

at-end : (held : List ℕ) (byte : ℕ) → get_or (held ++ byte ∷ []) (length held) 0 ≡ byte
at-end [] byte = refl
at-end (x ∷ held) byte = at-end held byte

at-other : (held : List ℕ) (byte place : ℕ) → place ≢ length held → get_or (held ++ byte ∷ []) place 0 ≡ get_or held place 0
at-other [] byte zero differ = absurd (differ refl)
at-other [] byte (suc place) differ = refl
at-other (x ∷ held) byte zero differ = refl
at-other (x ∷ held) byte (suc place) differ = at-other held byte place (λ same. differ (ap suc same))

abbrev zeros : ℕ → List ℕ
zeros n = replicate n 0

zero-at : (n place : ℕ) → get_or (zeros n) place 0 ≡ 0
zero-at zero place = refl
zero-at (suc n) zero = refl
zero-at (suc n) (suc place) = zero-at n place

-- ---- one byte

module _ (first : ℕ) where
  module _ (held : List ℕ) (byte : ℕ) (objects : List (List ℕ)) (all : HoldInOrder held first objects) where
    abbrev number : ℕ
    number = first + length held / 8192

    -- what is held then
    abbrev more : List ℕ
    more = held ++ byte ∷ []

    -- the object with the byte put in its place
    abbrev put_in : List ℕ → List ℕ
    put_in found = slice_set found (length held % 8192) byte

    -- an object in which the byte is not
    apart : (object : ℕ) (bytes : List ℕ) → first ≤ object → slice_get objects object ≡ Some bytes → object ≢ number → HoldsFrom more (8192 * (object - first)) bytes
    apart object bytes late there differ =
        let it = all object bytes late there in (
          it.0,
          λ k other at.
              let within : k < length bytes = get-within bytes k other at in
              it.1 k other at ∙ sym (at-other held byte (8192 * (object - first) + k) (λ same. differ (omega (arith, same, within, it.0, late)))),
        )

    -- the one in which it is
    here : (found bytes : List ℕ) → slice_get objects number ≡ Some found → put_in found ≡ bytes → HoldsFrom more (8192 * (number - first)) bytes
    here found bytes there same =
        let it = all number found (omega arith) there in
        let long : length bytes ≡ length found = sym (ap (length {A = ℕ}) same) ∙ length-set found (length held % 8192) byte in (
          omega (arith, long, it.0),
          λ k other at. by_place it k other (sym (ap (λ (bytes : List ℕ). slice_get bytes k) (sym same)) ∙ at) (cases_eq k (length held % 8192)),
        )
      where
        by_place : HoldsFrom held (8192 * (number - first)) found → (k other : ℕ) → slice_get (put_in found) k ≡ Some
            other → (k ≡ length held % 8192) ⊎ (k ≢ length held % 8192) → other ≡ get_or more
            (8192 * (number - first) + k) 0
        by_place it k other at (inl is) = by_within (cases_lt k (length found))
          where
            by_within : (k < length found) ⊎ (length found ≤ k) → other ≡ get_or more (8192 * (number - first) + k) 0
            by_within (inl within) =
                let put : slice_get (slice_set found k byte) k ≡ Some byte = slice_get-set_same found k byte within in
                let value : byte ≡ other = same_Some byte other (sym put ∙ ap (λ (place : ℕ). slice_get (slice_set found place byte) k) is ∙ at) in
                let place : length held ≡ 8192 * (number - first) + k = omega (arith, is) in
                sym value ∙ sym (at-end held byte) ∙ ap (λ (place : ℕ). get_or more place 0) place
            by_within (inr past) =
                let none : slice_get (put_in found) k ≡ None = slice_get_past (put_in found) k (rw length-set past) in
                absurd (none-some other (sym none ∙ at))
        by_place it k other at (inr differ) =
            it.1 k other (sym (slice_get-set_other found (length held % 8192) k byte differ) ∙ at)
            ∙ sym (at-other held byte (8192 * (number - first) + k)
            (λ same. differ (omega (
              arith,
              same,
              get-within found k other
                  (sym (slice_get-set_other found (length held % 8192) k byte differ) ∙ at),
              it.0,
            ))))

    put-held : (places : List (Option ℕ)) → slot_of places (length held / 8192) ≡ Some number → HoldInOrder more first (with_cell objects places (length held) byte)
    put-held places slot =
        subst (λ (slot : Option ℕ). HoldInOrder more first (with_object_byte objects (length held % 8192) byte slot)) (sym slot) (by_object (slice_get objects number) refl)
      where
        by_place : (found : List ℕ) → slice_get objects number ≡ Some found → HoldInOrder more first (slice_set objects number (put_in found))
        by_place found is object bytes late there =
            elim (cases_eq object number) [
              | inl same ↦ (
                  let put : slice_get (slice_set objects number (put_in found)) number ≡ Some (put_in found) = slice_get-set_same objects number (put_in found) (get-within objects number found is) in
                  let it : put_in found ≡ bytes = same_Some _ bytes (sym put ∙ ap (slice_get (slice_set objects number (put_in found))) (sym same) ∙ there) in
                  subst (λ (object : ℕ). HoldsFrom more (8192 * (object - first)) bytes) (sym same) (here found bytes is it))
              | inr differ ↦
                  apart object bytes late (sym (slice_get-set_other objects number object (put_in found) differ) ∙ there) differ
            ]

        by_object : (found : Option (List ℕ)) → slice_get objects number ≡ found → HoldInOrder more first (with_object_byte objects (length held % 8192) byte (Some number))
        by_object None is =
            rw is (λ object bytes late there. apart object bytes late there (λ same. none-some bytes (sym is ∙ ap (slice_get objects) (sym same) ∙ there)))
        by_object (Some found) is = rw is (by_place found is)

  -- ---- and others behind it

  stores-held : (count : ℕ) (places : List (Option ℕ)) → ((slot : ℕ) → slot < count → slot_of places slot ≡ Some
      (first + slot)) → (bytes held : List ℕ) (objects : List (List ℕ)) → length held + length bytes ≤ 8192 * count
      → HoldInOrder held first objects → HoldInOrder (held ++ bytes) first (with_writes objects places
      (writes_from (length held) bytes))
  stores-held count places slots [] held objects within all =
      subst (λ (held : List ℕ). HoldInOrder held first objects) (sym (append-nil held)) all
  stores-held count places slots (byte ∷ bytes) held objects within all =
      let next : HoldInOrder (held ++ byte ∷ []) first (with_cell objects places (length held) byte) = put-held held byte objects all places (slots (length held / 8192) (omega (arith, within))) in
      let more : length (held ++ byte ∷ []) ≡ length held + 1 = length-append held (byte ∷ []) in
      subst (λ (at : ℕ). HoldInOrder (held ++ byte ∷ bytes) first (with_writes (with_cell objects places (length held) byte) places (writes_from at bytes))) more
      (subst (λ (all : List ℕ). HoldInOrder all first (with_writes (with_cell objects places (length held) byte)
      places (writes_from (length (held ++ byte ∷ [])) bytes))) (append_assoc held (byte ∷ []) bytes)
      (stores-held count places slots bytes (held ++ byte ∷ []) (with_cell objects places (length held) byte) (omega (arith, within, more)) next))

-- ---- the objects of a data area

zeros-held : (objects : List (List ℕ)) (count place : ℕ) → HoldInOrder (zeros place) (length objects) (objects ++ replicate count zero_object)
zeros-held objects count place object bytes late there =
    let found = right-some objects (replicate count zero_object) object bytes late there in
    let is : bytes ≡ zero_object = replicate-is count zero_object found.0 bytes found.1 in
    let long : length bytes ≡ 8192 = ap (length {A = ℕ}) is ∙ length-replicate {A = ℕ} 8192 0 in (
      omega (arith, long),
      λ k byte at.
          replicate-is 8192 0 k byte (subst (λ (bytes : List ℕ). slice_get bytes k ≡ Some byte) is at) ∙ sym (zero-at place (8192 * (object - length objects) + k)),
    )

has-slot : (places : List (Option ℕ)) (slot object : ℕ) → get_or places slot None ≡ Some object → slot_of places slot ≡ Some object
has-slot [] slot object is = absurd (none-some object is)
has-slot (place ∷ places) zero object is = is
has-slot (place ∷ places) (suc slot) object is = has-slot places slot object is

filled-at : (blocks : List ℕ) (slot object : ℕ) → slice_get blocks slot ≡ Some object → get_or (filled_places blocks) slot None ≡ Some object
filled-at [] slot object is = absurd (none-some object is)
filled-at (block ∷ blocks) zero object is = is
filled-at (block ∷ blocks) (suc slot) object is = filled-at blocks slot object is

module _ (m : MemoryState) (count : ℕ) (group : List ℕ) (fits : count + length group ≤ 8) where
  abbrev low : Slots ℕ
  low = with_low no_slots (new_numbers m count)

  -- the slots of the data area name the new objects in their order
  area-slots : (slot : ℕ) → slot < count → slot_of (first_slots (new_numbers m count) group).places slot ≡ Some (length m.objects + slot)
  area-slots slot below =
      let long : length (new_numbers m count) ≡ count = length-range_with_len (length m.objects) count in
      let filled : length (filled_places (new_numbers m count)) ≡ count = simp length-map long in
      let eight : 8 - length group ≤ length low.places = simp (length-append, length-drop, length-replicate, filled) (omega arith) in
      let at : slice_get (new_numbers m count) slot ≡ Some (length m.objects + slot) = slice_get-get_or
      (new_numbers m count) slot 0 (omega (arith, below, long)) ∙ ap Some
      (get_or-range_with_len (length m.objects) count slot 0 below) in
      has-slot (first_slots (new_numbers m count) group).places slot (length m.objects + slot)
      (before-put low.places (8 - length group) (filled_places group) slot (omega arith) eight
      ∙ get_or_append_left (filled_places (new_numbers m count)) (drop (0 + length (filled_places (new_numbers m count))) (replicate 8 None)) None slot (rw filled below)
      ∙ filled-at (new_numbers m count) slot (length m.objects + slot) at)

pub area-held : (m n : MemoryState) (c : ℕ) (program : Program) → c < length m.maps → length program.parameters ≤
    area_size program → started m c program.entered.number (blocks_of_pages program.pages) ≡ Ok n
    → HoldInOrder (area_bytes program) (length m.objects) (with_parameters (linked n program.entered.number) c
    program).objects
area-held m n c program within fits is =
    let count = blocks_of_pages program.pages in
    let begins : Started m c program.entered.number count n = started-is m c program.entered.number count n is in
    let group = begins.entry.group in
    let places : map_at (with_first_slots m c group count) c ≡ first_slots (new_numbers m count) group = get_or-set_same m.maps c (first_slots (new_numbers m count) group) no_slots within in
    let long : length (zeros (parameters_at program)) ≡ parameters_at program = length-replicate {A = ℕ} (parameters_at program) 0 in
    subst (λ (n : MemoryState). HoldInOrder (area_bytes program) (length m.objects) (with_parameters (linked n program.entered.number) c program).objects) (sym begins.memory)
    (subst (λ (slots : Slots ℕ). HoldInOrder (area_bytes program) (length m.objects)
    (with_writes (m.objects ++ replicate count zero_object) slots.places (writes_from (parameters_at program)
    program.parameters))) (sym places)
    (subst (λ (at : ℕ). HoldInOrder (area_bytes program) (length m.objects)
    (with_writes (m.objects ++ replicate count zero_object) (first_slots (new_numbers m count) group).places
    (writes_from at program.parameters))) long
    (stores-held (length m.objects) count (first_slots (new_numbers m count) group).places
    (area-slots m count group begins.fits) program.parameters (zeros (parameters_at program))
    (m.objects ++ replicate count zero_object) (omega (arith, long, fits)) (zeros-held m.objects count
    (parameters_at program)))))
