-- The objects of a program that begins: its data area, or zeros where no map names them.
use Rattle.std.proofs.Common.{◌≡◌, ◌⊎◌, ℕ, zero, suc, ◌+◌, ◌/◌, ◌%◌, ◌<◌, ◌≤◌, Option, Some, None, Ok, List, [], ◌∷◌, ◌++◌, length, replicate, slice_get, refl, sym, ap, ◌∙◌, subst, inl, inr}
use Rattle.std.specs.Prelude.{slice_set}
use Rattle.std.proofs.lemmas.Bool.{cases_lt}
use Rattle.std.proofs.lemmas.List.{get_or_past, length-set}
use Rattle.proc_model.specs.Memory.{MemoryState, map_at}
use Rattle.proc_model.specs.MemoryChanges.{first_slots, linked, new_numbers, started, with_first_slots, writes_from}
use Rattle.proc_model.specs.Objects.{slot_of, with_cell, with_object_byte, with_writes, zero_object}
use Rattle.proc_model.specs.Slots.{Slots, no_slots}
use Rattle.proc_model.specs.Processes.{Processes}
use Rattle.proc_model.specs.ModuleLinks.{Entered}
use Rattle.proc_model.specs.Program.{Program, area_size, blocks_of_pages, parameters_at, with_parameters}
use Rattle.call_laws.proofs.Lists.{replicate-is, right-some}
use Rattle.call_laws.proofs.MemoryKept.{Started, started-is}
use Rattle.isolation_laws.proofs.DataAreas.{area-held}
use Rattle.isolation_laws.specs.NewBytes.{BeginsIn, HoldArea, HoldZeros, StartsProgram}

-- ---- nothing is written where no slot names an object

none-slot : (n slot : ℕ) → slot_of (replicate n (let nothing : Option ℕ = None in nothing)) slot ≡ None
none-slot zero slot = refl
none-slot (suc n) zero = refl
none-slot (suc n) (suc slot) = none-slot n slot

none-written : (objects : List (List ℕ)) (places : List (Option ℕ)) → ((slot : ℕ) → slot_of places slot ≡ None) → (at : ℕ) (bytes : List ℕ)
    → with_writes objects places (writes_from at bytes) ≡ objects
none-written objects places none at [] = refl
none-written objects places none at (byte ∷ bytes) =
    let same : with_cell objects places at byte ≡ objects = ap (with_object_byte objects (at % 8192) byte) (none (at / 8192)) in
    ap (λ (objects : List (List ℕ)). with_writes objects places (writes_from (at + 1) bytes)) same ∙ none-written objects places none (at + 1) bytes

-- ---- new objects are zeros

zeros-new : (objects : List (List ℕ)) (count : ℕ) → HoldZeros (length objects) (objects ++ replicate count zero_object)
zeros-new objects count object bytes late there k byte at =
    let found = right-some objects (replicate count zero_object) object bytes late there in
    let is : bytes ≡ zero_object = replicate-is count zero_object found.0 bytes found.1 in
    replicate-is 8192 0 k byte (subst (λ (bytes : List ℕ). slice_get bytes k ≡ Some byte) is at)

module _ (base n : MemoryState) (c : ℕ) (program : Program) (is : started base c program.entered.number (blocks_of_pages program.pages) ≡ Ok n) where
  -- a process without a map
  past-zeros : length base.maps ≤ c → HoldZeros (length base.objects) (with_parameters (linked n program.entered.number) c program).objects
  past-zeros past =
      let count = blocks_of_pages program.pages in
      let begins : Started base c program.entered.number count n = started-is base c program.entered.number count n is in
      let slots : Slots ℕ = first_slots (new_numbers base count) begins.entry.group in
      let nothing : map_at (with_first_slots base c begins.entry.group count) c ≡ no_slots = get_or_past (slice_set base.maps c slots) c no_slots (rw length-set past) in
      subst (λ (n : MemoryState). HoldZeros (length base.objects) (with_parameters (linked n program.entered.number) c program).objects) (sym begins.memory)
      (subst (λ (slots : Slots ℕ). HoldZeros (length base.objects)
      (with_writes (base.objects ++ replicate count zero_object) slots.places (writes_from (parameters_at program) program.parameters))) (sym nothing)
      (subst (HoldZeros (length base.objects)) (sym (none-written (base.objects ++ replicate count zero_object) (replicate 8 None) (none-slot 8) (parameters_at program) program.parameters))
      (zeros-new base.objects count)))

  pub begun-area : (m : Processes) (p : ℕ) (which : Option Entered) → BeginsIn m p c → length base.maps ≡ length m.memory.maps → StartsProgram m p which program
      → length program.parameters ≤ area_size program
      → HoldArea m p which (length base.objects) (with_parameters (linked n program.entered.number) c program).objects
  begun-area m p which begins maps starts fits = by_map (cases_lt c (length base.maps))
    where
      by_map : (c < length base.maps) ⊎ (length base.maps ≤ c) → HoldArea m p which (length base.objects) (with_parameters (linked n program.entered.number) c program).objects
      by_map (inl within) = inr (program, starts, area-held base n c program within fits is)
      by_map (inr past) = inl (inr (c, begins, subst (λ (n : ℕ). n ≤ c) maps past), past-zeros past)
