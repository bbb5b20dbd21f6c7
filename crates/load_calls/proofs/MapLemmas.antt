-- What a process has in its map and sees when a file was loaded: its group is not there yet, and all else is as it was.
use Rattle.std.proofs.Common.{◌≡◌, ◌∙◌, ◌/◌, ◌%◌, ◌<◌, ◌≤◌, ℕ, zero, suc, true, Option, Some, None, option_and_then, option_map, List, [], ◌++◌, length, get_or, position, slice_get, refl, ap, sym, arith}
use Rattle.std.proofs.Math.Path.{fun_ext}
use Rattle.std.specs.List.{range_with_len}
use Rattle.std.specs.Option.{option_map_or}
use Rattle.std.proofs.lemmas.Bool.{eqb-true, false≢true}
use Rattle.std.proofs.lemmas.List.FromFn.{length-range_with_len}
use Rattle.std.proofs.lemmas.List.Quantifiers.{position-Some}
use Rattle.std.proofs.lemmas.Option.{slice_get-get_or}
use Rattle.guest_memory.specs.declared.memory.Memory.{Memory}
use Rattle.guest_memory.specs.Tie.{RepresentsMemory}
use Rattle.guest_memory.proofs.Seen.{names-seen}
use Rattle.guest_memory.proofs.Lists.{slice_get-left}
use Rattle.proc_model.specs.Memory.{MemoryState, map_at, with_map}
use Rattle.proc_model.specs.MemoryChanges.{group_mapped, new_numbers}
use Rattle.proc_model.specs.Objects.{file_blocks, object_byte, object_cells, slot_of}
use Rattle.guest_memory.proofs.Objects.{NamesObjects}
use Rattle.proc_model.specs.Slots.{Slots, group_slot, highest_free_run, place_names, with_group}
use Rattle.proc_model.specs.Link.{Mapped, mapped_group}
use Rattle.file_rules.specs.Load.{Loaded}
use Rattle.load_calls.proofs.OutcomeLemmas.{IsLoaded}

-- ---- what is seen

module _ (objects more : List (List ℕ)) (places : List (Option ℕ)) (names : NamesObjects objects places) where
  cell-kept : (address : ℕ) → object_cells (objects ++ more) places address ≡ object_cells objects places address
  cell-kept address = by (slot_of places (address / 8192)) refl
    where
      by : (slot : Option ℕ) → slot_of places (address / 8192) ≡ slot → object_cells (objects ++ more) places address ≡ object_cells objects places address
      by None is = ap (option_and_then (object_byte (objects ++ more) (address % 8192))) is ∙ sym (ap (option_and_then (object_byte objects (address % 8192))) is)
      by (Some number) is =
          let there = slice_get-get_or objects number [] (names.there (address / 8192) number is) in
          ap (option_and_then (object_byte (objects ++ more) (address % 8192))) is
          ∙ ap (option_and_then (λ (object : List ℕ). slice_get object (address % 8192))) (slice_get-left objects more number (get_or objects number []) there ∙ sym there)
          ∙ sym (ap (option_and_then (object_byte objects (address % 8192))) is)

  pub cells-kept : object_cells (objects ++ more) places ≡ object_cells objects places
  cells-kept = fun_ext cell-kept

-- ---- where a new group would stand

-- no place names what is not there
position-none : (places : List (Option ℕ)) (n : ℕ) → ((slot number : ℕ) → slot_of places slot ≡ Some number → number < n) → position (place_names n) places ≡ None
position-none places n below = by (position (place_names n) places) refl
  where
    by_place : (i : ℕ) (place : Option ℕ) → slice_get places i ≡ Some place → place_names n place ≡ true → ⊥
    by_place i None is named = absurd (false≢true named)
    by_place i (Some number) is named =
        let same : number ≡ n = eqb-true number n named in
        omega (arith, same, below i number (ap (option_and_then (λ (place : Option ℕ). place)) is))

    by : (found : Option ℕ) → position (place_names n) places ≡ found → position (place_names n) places ≡ None
    by None is = is
    by (Some i) is =
        let at = position-Some (place_names n) places i None is in
        absurd (by_place i (get_or places i None) (slice_get-get_or places i None at.0) at.1)

new-slot : (slots : Slots ℕ) (n k : ℕ) → 1 ≤ k → ((slot number : ℕ) → slot_of slots.places slot ≡ Some number → number < n) → group_slot slots (range_with_len n k) ≡ None
new-slot slots n zero some below = absurd (omega arith)
new-slot slots n (suc k) some below = position-none slots.places n below

module _ (memory : Memory) (m : MemoryState) (tied : RepresentsMemory memory m) (p : ℕ) (within : p < 33) (file : List ℕ) (loaded : Loaded) (it : IsLoaded m file loaded) where
  abbrev group : List ℕ
  group = new_numbers m (file_blocks file)

  -- the maps are as they were
  pub same-map : map_at loaded.memory p ≡ map_at m p
  same-map = ap (λ (s : MemoryState). map_at s p) it.memory_is

  -- and so is what the process sees
  pub same-cells : object_cells loaded.memory.objects (map_at loaded.memory p).places ≡ object_cells m.objects (map_at m p).places
  same-cells =
      ap (λ (s : MemoryState). object_cells s.objects (map_at s p).places) it.memory_is
      ∙ cells-kept m.objects _ (map_at m p).places (names-seen memory m tied p within)

  -- the group as the process would have it at a slot
  abbrev pub mapped-there : ℕ → Mapped
  mapped-there slot = record { slot = slot; memory = with_map loaded.memory p (with_group (map_at loaded.memory p) slot group) }

  abbrev pub mapped-at : Option ℕ → Option Mapped
  mapped-at None = None
  mapped-at (Some slot) = Some (mapped-there slot)

  abbrev map-found : Option (ℕ × MemoryState) → Option Mapped
  map-found found = option_map_or {T = ℕ × MemoryState} (λ mapped. Some (record { slot = mapped.0; memory = mapped.1 })) found None

  abbrev group-found : Option ℕ → Option (ℕ × MemoryState)
  group-found found = option_map (λ (first : ℕ). (first, with_map loaded.memory p (with_group (map_at loaded.memory p) first group))) found

  map-found-at : (found : Option ℕ) → map-found (group-found found) ≡ mapped-at found
  map-found-at None = refl
  map-found-at (Some slot) = refl

  -- it would stand in the highest free slots
  pub mapped-new : 1 ≤ file_blocks file → (found : Option ℕ) → highest_free_run (map_at m p) (file_blocks file) ≡ found → mapped_group loaded.memory p group ≡ mapped-at found
  mapped-new some found is =
      ap (λ (slot : Option ℕ). option_map_or {T = ℕ} {U = Option Mapped} (λ slot. Some (record { slot = slot; memory = loaded.memory })) slot (map-found (group_mapped loaded.memory p group)))
      (ap (λ (slots : Slots ℕ). group_slot slots group) same-map ∙ new-slot (map_at m p) (length m.objects) (file_blocks file) some (names-seen memory m tied p within).there)
      ∙ ap (λ (first : Option ℕ). map-found (group-found first)) ((λ i. highest_free_run (same-map i) (length-range_with_len (length m.objects) (file_blocks file) i)) ∙ is)
      ∙ map-found-at found
