-- What a process sees of a memory whose objects have other numbers.
use Rattle.std.proofs.Common.{◌≡◌, ℕ, zero, suc, ◌/◌, ◌%◌, ◌==◌, true, Option, Some, None, option_map, List, [], ◌∷◌, ◌++◌, get_or, slice_get, map, flat_map, inl, inr, refl, ap, ◌∙◌}
use Rattle.std.specs.Prelude.{option_and_then}
use Rattle.std.proofs.lemmas.Option.{none-some, same_Some}
use Rattle.std.proofs.lemmas.Bool.{or_cases, or_left, or_right, eq-eqb, false≢true}
use Rattle.proc_model.specs.Memory.{MemoryState, map_at, mapped_objects}
use Rattle.proc_model.specs.ModuleList.{entered_groups}
use Rattle.proc_model.specs.Objects.{slot_of, object_byte, object_cells}
use Rattle.proc_model.specs.Slots.{Slots, no_slots, blocks_in}
use Rattle.proc_model.specs.Processes.{cells_at}
use Rattle.guest_memory.proofs.Living.{has_number}
use Rattle.machine_model.specs.State.{State}
use Rattle.state_laws.specs.Numbers.{Lives, renumbered_map, IsRenumbered, DifferInNumbersAlone}

-- ---- what a map names lives

has-left : (names more : List ℕ) (number : ℕ) → has_number names number ≡ true → has_number (names ++ more) number ≡ true
has-left [] more number has = absurd (false≢true has)
has-left (first ∷ names) more number has =
    elim (or_cases (first == number) (has_number names number) has) [
      | inl here ↦ or_left (first == number) (has_number (names ++ more) number) here
      | inr later ↦ or_right (first == number) (has_number (names ++ more) number) (has-left names more number later)
    ]

has-right : (names more : List ℕ) (number : ℕ) → has_number more number ≡ true → has_number (names ++ more) number ≡ true
has-right [] more number has = has
has-right (first ∷ names) more number has = or_right (first == number) (has_number (names ++ more) number) (has-right names more number has)

in-places : (places : List (Option ℕ)) (slot number : ℕ) → slot_of places slot ≡ Some number → has_number (blocks_in places) number ≡ true
in-places [] slot number is = absurd (none-some number is)
in-places (None ∷ places) zero number is = absurd (none-some number is)
in-places (None ∷ places) (suc slot) number is = in-places places slot number is
in-places (Some first ∷ places) zero number is =
    or_left (first == number) (has_number (blocks_in places) number) (eq-eqb first number (same_Some first number is))
in-places (Some first ∷ places) (suc slot) number is =
    or_right (first == number) (has_number (blocks_in places) number) (in-places places slot number is)

in-maps : (maps : List (Slots ℕ)) (process slot number : ℕ) → slot_of (get_or maps process no_slots).places slot ≡ Some number → has_number (flat_map mapped_objects maps) number ≡ true
in-maps [] process slot number is = absurd (false≢true (in-places (no_slots {Block = ℕ}).places slot number is))
in-maps (first ∷ maps) zero slot number is =
    has-left (mapped_objects first) (flat_map mapped_objects maps) number (in-places first.places slot number is)
in-maps (first ∷ maps) (suc process) slot number is =
    has-right (mapped_objects first) (flat_map mapped_objects maps) number (in-maps maps process slot number is)

named-lives : (m : MemoryState) (process slot number : ℕ) → slot_of (map_at m process).places slot ≡ Some number → Lives m number
named-lives m process slot number is =
    has-left (flat_map mapped_objects m.maps) (flat_map (λ group. group) (entered_groups m.modules)) number (in-maps m.maps process slot number is)

-- ---- the bytes of a map

slot-renumbered : (new : ℕ → ℕ) (places : List (Option ℕ)) (slot : ℕ) → slot_of (map (option_map new) places) slot ≡ option_map new (slot_of places slot)
slot-renumbered new [] slot = refl
slot-renumbered new (None ∷ places) zero = refl
slot-renumbered new (Some number ∷ places) zero = refl
slot-renumbered new (first ∷ places) (suc slot) = slot-renumbered new places slot

map-renumbered : (new : ℕ → ℕ) (maps : List (Slots ℕ)) (process : ℕ) → get_or (map (renumbered_map new) maps) process no_slots ≡ renumbered_map new (get_or maps process no_slots)
map-renumbered new [] process = refl
map-renumbered new (first ∷ maps) zero = refl
map-renumbered new (first ∷ maps) (suc process) = map-renumbered new maps process

module _ (m n : MemoryState) (same : IsRenumbered m n) (process address : ℕ) where
  abbrev places : List (Option ℕ)
  places = (map_at m process).places

  by-slot : (found : Option ℕ) → slot_of places (address / 8192) ≡ found
      → option_and_then (object_byte n.objects (address % 8192)) (option_map same.new found) ≡ option_and_then (object_byte m.objects (address % 8192)) found
  by-slot None is = refl
  by-slot (Some number) is =
      ap (λ (object : Option (List ℕ)). option_and_then (λ object. slice_get object (address % 8192)) object)
      (same.same_bytes number (named-lives m process (address / 8192) number is))

  map-is : map_at n process ≡ renumbered_map same.new (map_at m process)
  map-is = ap (λ (memory : MemoryState). map_at memory process) same.is ∙ map-renumbered same.new m.maps process

  object-cells-same : object_cells n.objects (map_at n process).places address ≡ object_cells m.objects places address
  object-cells-same =
      ap (λ (slots : Slots ℕ). object_cells n.objects slots.places address) map-is
      ∙ ap (option_and_then (object_byte n.objects (address % 8192))) (slot-renumbered same.new places (address / 8192))
      ∙ by-slot (slot_of places (address / 8192)) refl

pub cells-same : (s t : State) (process address : ℕ) → DifferInNumbersAlone s t → cells_at t.processes process address ≡ cells_at s.processes process address
cells-same s t process address differ = object-cells-same s.processes.memory t.processes.memory differ.memory process address
