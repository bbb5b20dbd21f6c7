-- Runs of free slots, by their test, in maps of blocks and in maps of the objects that the blocks represent.
use Rattle.std.proofs.Common.{◌≡◌, ◌≢◌, ℕ, zero, suc, ◌+◌, ◌-◌, ◌<◌, ◌≤◌, ◌&&◌, nat_le, Bool, true, false, Option, Some, None, is_none, option_map, MatchOption, ◌↔◌, ◌⊎◌, inl, inr, List, [], ◌∷◌, ◌++◌, length, get_or, set, take, drop, replicate, map, slice_range, refl, sym, ap, ◌∙◌, subst, arith}
use Rattle.std.specs.Prelude.{if◌then◌else◌}
use Rattle.std.specs.List.{list_all}
use Rattle.std.proofs.lemmas.List.{map-append, map-set, take-map, drop-map, length-map}
use Rattle.std.proofs.lemmas.Option.{none-some, same_Some}
use Rattle.std.proofs.lemmas.Bool.{cases_eq, cases_lt, cases_Bool, and_parts, and_from, le-leb, leb-true, lt-leb, and_left, cond-true, cond-false, false≢true, both_ways}
use Rattle.proc_model.specs.declared.group.BlockId.{BlockId}
use Rattle.proc_model.specs.Slots.{Slots, block_at, IsFreeRun, IsHighestFreeRun, is_free_run, highest_run_upto, highest_free_run, put_places, filled_places, with_low, cut_low_to, with_group, map_without_group}
use Rattle.block_map.proofs.Places.{at, free_part, part_free}
use Rattle.guest_memory.specs.Renaming.{renamed_map}

-- ---- the test

none_each : (places : List (Option BlockId)) → list_all is_none places ≡ true → (k : ℕ) → at places k ≡ None
none_each [] all k = refl
none_each (None ∷ places) all zero = refl
none_each (None ∷ places) all (suc k) = none_each places all k
none_each (Some id ∷ places) all k = absurd (false≢true all)

each_none : (places : List (Option BlockId)) → ((k : ℕ) → k < length places → at places k ≡ None) → list_all is_none places ≡ true
each_none [] each = refl
each_none (None ∷ places) each = each_none places (λ k within. each (suc k) (omega arith))
each_none (Some id ∷ places) each = absurd (none-some id (sym (each 0 (omega arith))))

-- the test of a run passes where it is free
pub is_free_run-iff : (slots : Slots BlockId) → length slots.places ≡ 8 → (first len : ℕ) → (is_free_run slots first len ≡ true) ↔ IsFreeRun slots first len
is_free_run-iff slots eight first len = (
  λ passed.
      let parts = and_parts (nat_le (first + len) 8) (list_all is_none (slice_range slots.places first (first + len))) passed in
      let fits : first + len ≤ 8 = leb-true (first + len) 8 parts.0 in
      (fits, λ slot low high. free_part slots.places first len (omega arith) (λ k within. none_each (slice_range slots.places first (first + len)) parts.1 k) slot low high),
  λ free.
      and_from (nat_le (first + len) 8) (list_all is_none (slice_range slots.places first (first + len))) (le-leb (first + len) 8 free.0)
      (each_none (slice_range slots.places first (first + len)) (part_free slots.places first len free.1)),
)

-- ---- the highest run

-- the highest run that begins at a slot or below it
abbrev pub IsHighestUpto : Slots BlockId → ℕ → ℕ → Option ℕ → Type 0
IsHighestUpto slots len last found =
    MatchOption found ((first : ℕ) → first ≤ last → IsFreeRun slots first len → ⊥) (λ first. IsFreeRun slots first len × ((higher : ℕ) → higher ≤ last → IsFreeRun slots higher len → higher ≤ first))

highest_upto : (slots : Slots BlockId) → length slots.places ≡ 8 → (len last : ℕ) → IsHighestUpto slots len last (highest_run_upto slots len last)
unfolding highest_run_upto
highest_upto slots eight len zero = by_test (cases_Bool (is_free_run slots 0 len))
  where
    by_test : (is_free_run slots 0 len ≡ true) ⊎ (is_free_run slots 0 len ≡ false) → IsHighestUpto slots len 0 (if is_free_run slots 0 len then Some 0 else None)
    by_test (inl passed) =
        subst (IsHighestUpto slots len 0) (sym (cond-true (is_free_run slots 0 len) (Some 0) None passed)) ((is_free_run-iff slots eight 0 len).0 passed, λ higher below run. below)
    by_test (inr failed) =
        subst (IsHighestUpto slots len 0) (sym (cond-false (is_free_run slots 0 len) (Some 0) None failed))
        (λ first below run. let none : first ≡ 0 = omega arith in both_ways (is_free_run slots 0 len) failed
        ((is_free_run-iff slots eight 0 len).1 (subst (λ (k : ℕ). IsFreeRun slots k len) none run)))
highest_upto slots eight len (suc last) = by_test (cases_Bool (is_free_run slots (suc last) len)) (highest_run_upto slots len last) (highest_upto slots eight len last)
  where
    not_here : is_free_run slots (suc last) len ≡ false → (first : ℕ) → first ≤ suc last → IsFreeRun slots first len → first ≤ last
    not_here failed first below run =
        elim (cases_eq first (suc last)) [
          | inl same ↦ absurd (both_ways (is_free_run slots (suc last) len) failed ((is_free_run-iff slots eight (suc last) len).1 (subst (λ (k : ℕ). IsFreeRun slots k len) same run)))
          | inr apart ↦ omega arith
        ]

    later : is_free_run slots (suc last) len ≡ false → (found : Option ℕ) → IsHighestUpto slots len last found → IsHighestUpto slots len (suc last) found
    later failed None none = λ first below run. none first (not_here failed first below run) run
    later failed (Some found) is = (is.0, λ higher below run. is.1 higher (not_here failed higher below run) run)

    by_test : (is_free_run slots (suc last) len ≡ true) ⊎ (is_free_run slots (suc last) len ≡ false)
        → (found : Option ℕ) → IsHighestUpto slots len last found → IsHighestUpto slots len (suc last)
        (if is_free_run slots (suc last) len then Some (suc last) else found)
    by_test (inl passed) found is =
        subst (IsHighestUpto slots len (suc last))
        (sym (cond-true (is_free_run slots (suc last) len) (Some (suc last)) found passed))
        ((is_free_run-iff slots eight (suc last) len).0 passed, λ higher below run. below)
    by_test (inr failed) found is =
        subst (IsHighestUpto slots len (suc last)) (sym (cond-false (is_free_run slots (suc last) len) (Some (suc last)) found failed)) (later failed found is)

-- the highest free run is what the map says
pub highest_free_run-is : (slots : Slots BlockId) → length slots.places ≡ 8 → (len first : ℕ) → IsHighestFreeRun slots len first → highest_free_run slots len ≡ Some first
highest_free_run-is slots eight len first highest = by_found (highest_free_run slots len) (highest_upto slots eight len 8)
  where
    by_found : (found : Option ℕ) → IsHighestUpto slots len 8 found → found ≡ Some first
    by_found None none = absurd (none first (omega (arith, highest.0.0)) highest.0)
    by_found (Some found) is = ap Some (omega (arith, highest.1 found is.0, is.1 first (omega (arith, highest.0.0)) highest.0))

pub highest_free_run-none : (slots : Slots BlockId) → length slots.places ≡ 8 → (len : ℕ) → ((first : ℕ) → IsFreeRun slots first len → ⊥) → highest_free_run slots len ≡ None
highest_free_run-none slots eight len none = by_found (highest_free_run slots len) (highest_upto slots eight len 8)
  where
    by_found : (found : Option ℕ) → IsHighestUpto slots len 8 found → found ≡ None
    by_found None is = refl
    by_found (Some found) is = absurd (none found is.0)

-- ---- maps of objects

module _ (number : ℕ → ℕ) where
  abbrev rename : Option BlockId → Option ℕ
  rename = option_map (λ (id : BlockId). number id.0)

  none_renamed : (places : List (Option BlockId)) → list_all is_none (map rename places) ≡ list_all is_none places
  none_renamed [] = refl
  none_renamed (None ∷ places) = none_renamed places
  none_renamed (Some id ∷ places) = refl

  -- the same runs are free
  pub is_free_run-renamed : (slots : Slots BlockId) (first len : ℕ) → is_free_run (renamed_map number slots) first len ≡ is_free_run slots first len
  is_free_run-renamed slots first len =
      ap (λ (test : Bool). nat_le (first + len) 8 && test)
      (ap (λ (rest : List (Option ℕ)). list_all is_none (take (first + len - first) rest)) (drop-map rename first slots.places)
      ∙ ap (λ (part : List (Option ℕ)). list_all is_none part) (take-map rename (first + len - first) (drop first slots.places))
      ∙ none_renamed (slice_range slots.places first (first + len)))

  highest_upto-renamed : (slots : Slots BlockId) (len last : ℕ) → highest_run_upto (renamed_map number slots) len last ≡ highest_run_upto slots len last
  unfolding highest_run_upto
  highest_upto-renamed slots len zero = ap (λ (test : Bool). if test then Some 0 else None) (is_free_run-renamed slots 0 len)
  highest_upto-renamed slots len (suc last) =
      λ i. if is_free_run-renamed slots (suc last) len i then Some (suc last) else highest_upto-renamed slots len last i

  pub highest_free_run-renamed : (slots : Slots BlockId) (len : ℕ) → highest_free_run (renamed_map number slots) len ≡ highest_free_run slots len
  highest_free_run-renamed slots len = highest_upto-renamed slots len 8

  -- places that are put
  put-renamed : (places new : List (Option BlockId)) (first : ℕ) → map rename (put_places places first new) ≡ put_places (map rename places) first (map rename new)
  put-renamed places new first =
      map-append rename (take first places) (new ++ drop (first + length new) places)
      ∙ ap (λ (back : List (Option ℕ)). map rename (take first places) ++ back) (map-append rename new (drop (first + length new) places))
      ∙ (λ i. sym (take-map rename first places) i ++
      (map rename new ++ (sym (drop-map rename (first + length new) places) ∙ ap (λ (k : ℕ). drop (first + k)
      (map rename places)) (sym (length-map new rename))) i))

  filled-renamed : (ids : List BlockId) → map rename (filled_places ids) ≡ filled_places (map (λ (id : BlockId). number id.0) ids)
  filled-renamed [] = refl
  filled-renamed (id ∷ ids) = ap (λ (rest : List (Option ℕ)). Some (number id.0) ∷ rest) (filled-renamed ids)

  none-renamed : (n : ℕ) → map rename (replicate n None) ≡ replicate n None
  none-renamed zero = refl
  none-renamed (suc n) = ap (λ (rest : List (Option ℕ)). None ∷ rest) (none-renamed n)

  -- new blocks behind the data area
  pub with_low-renamed : (slots : Slots BlockId) (ids : List BlockId) → renamed_map number (with_low slots ids) ≡ with_low (renamed_map number slots) (map (λ (id : BlockId). number id.0) ids)
  with_low-renamed slots ids =
      λ i. record {
        places = (put-renamed slots.places (filled_places ids) slots.low ∙ ap (put_places (map rename slots.places) slots.low) (filled-renamed ids)) i;
        low = slots.low + sym (length-map ids (λ (id : BlockId). number id.0)) i;
        groups = slots.groups;
      }

  -- a shorter data area
  pub cut_low_to-renamed : (slots : Slots BlockId) (len : ℕ) → renamed_map number (cut_low_to slots len) ≡ cut_low_to (renamed_map number slots) len
  cut_low_to-renamed slots len =
      λ i. record {
        places = (put-renamed slots.places (replicate (slots.low - len) None) len ∙ ap (put_places (map rename slots.places) len) (none-renamed (slots.low - len))) i;
        low = len;
        groups = slots.groups;
      }

  -- a group
  pub with_group-renamed : (slots : Slots BlockId) (first : ℕ) (ids : List BlockId) → renamed_map number
      (with_group slots first ids) ≡ with_group (renamed_map number slots) first (map (λ (id : BlockId). number id.0)
      ids)
  with_group-renamed slots first ids =
      λ i. record {
        places = (put-renamed slots.places (filled_places ids) first ∙ ap (put_places (map rename slots.places) first) (filled-renamed ids)) i;
        low = slots.low;
        groups = set slots.groups first (Some (sym (length-map ids (λ (id : BlockId). number id.0)) i));
      }

  pub map_without_group-renamed : (slots : Slots BlockId) (first len : ℕ) → renamed_map number (map_without_group slots first len) ≡ map_without_group (renamed_map number slots) first len
  map_without_group-renamed slots first len =
      λ i. record {
        places = (put-renamed slots.places (replicate len None) first ∙ ap (put_places (map rename slots.places) first) (none-renamed len)) i;
        low = slots.low;
        groups = set slots.groups first None;
      }
