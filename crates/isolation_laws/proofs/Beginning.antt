-- At the start maps and groups name objects that have appeared.
use Rattle.std.proofs.Common.{◌≡◌, ◌≢◌, ◌⊎◌, ℕ, ◌+◌, ◌<◌, ◌≤◌, Bool, Option, Some, None, Result, Ok, Err, List, length, replicate, is_none, get_or, slice_get, refl, sym, ap, ◌∙◌, subst, inl, inr, arith}
use Rattle.std.specs.Option.{option_map_or}
use Rattle.std.specs.List.{range_with_len}
use Rattle.std.proofs.lemmas.Bool.{cases_lt, cases_eq}
use Rattle.std.proofs.lemmas.List.{get_or-set_other, get_or-replicate, get_or_past, length-append, length-map, length-replicate}
use Rattle.std.proofs.lemmas.List.FromFn.{length-range_with_len}
use Rattle.std.proofs.lemmas.List.Quantifiers.{position-Some}
use Rattle.std.proofs.lemmas.Option.{none-some, same_Some}
use Rattle.proc_model.specs.declared.module.ModuleInfo.{ModuleInfo}
use Rattle.proc_model.specs.Loading.{EntersModules, at_end, broken, refused, entered, with_module}
use Rattle.proc_model.specs.Memory.{MemoryState, map_at}
use Rattle.proc_model.specs.MemoryChanges.{first_slots, linked, new_numbers, with_first_slots}
use Rattle.proc_model.specs.ModuleList.{ModuleEntry, module_entry_at, free_number, new_entry, with_module_entry}
use Rattle.proc_model.specs.Objects.{file_blocks, file_objects, zero_object}
use Rattle.proc_model.specs.Slots.{Slots, NamesBlock, block_at, no_slots}
use Rattle.proc_model.specs.Program.{area_pages, blocks_of_pages}
use Rattle.machine_model.specs.ProcessStart.{boot_group, boot_memory, first_start, only_process}
use Rattle.machine_model.specs.Start.{Boot, Starts}
use Rattle.machine_model.specs.State.{State}
use Rattle.isolation_laws.specs.Own.{IsOfArea, IsOwn, NameAppeared}
use Rattle.call_laws.specs.Objects.{IsOfModule}
use Rattle.isolation_laws.proofs.Groups.{was-shared}
use Rattle.call_laws.proofs.Lists.{range-below, has-none}
use Rattle.call_laws.proofs.MemoryKept.{Started, started-is, begun-names, low-new}
use Rattle.call_laws.proofs.ModulesKept.{entry-put, entry-other, keeps-more, more-linked}
use Rattle.isolation_laws.proofs.OwnRows.{no-entry}

-- ---- the entries of a file are of one group

abbrev AreOfGroup : List ℕ → List (Option ModuleEntry) → Type 0
AreOfGroup group entries = (number : ℕ) (entry : ModuleEntry) → module_entry_at entries number ≡ Some entry → entry.group ≡ group

with-group : (group : List ℕ) (entries : List (Option ModuleEntry)) (info : ModuleInfo) (is_boot : Bool) → AreOfGroup group entries → AreOfGroup group (with_module entries info group is_boot)
with-group group entries info is_boot are other entry is = by_free (free_number entries) refl is
  where
    by_free : (free : Option ℕ) → free_number entries ≡ free
        → module_entry_at (option_map_or (λ number. with_module_entry entries number (new_entry info group is_boot))
        free entries) other ≡ Some entry → entry.group ≡ group
    by_free None found there = are other entry there
    by_free (Some number) found there =
        elim (cases_eq other number) [
          | inl same ↦
              (let place = position-Some is_none entries number None found in
              let put : module_entry_at (with_module_entry entries number (new_entry info group is_boot)) other ≡ Some
              (new_entry info group is_boot) = ap
              (module_entry_at (with_module_entry entries number (new_entry info group is_boot))) same ∙ entry-put
              entries number (new_entry info group is_boot) place.0 in
              sym (ap (λ (e : ModuleEntry). e.group) (same_Some (new_entry info group is_boot) entry (sym put ∙ there))))
          | inr differ ↦ are other entry (sym (entry-other entries number (new_entry info group is_boot) other differ) ∙ there)
        ]

abbrev OutcomeOf : List ℕ → Result (List (Option ModuleEntry)) (ℕ × ℕ) → Type 0
OutcomeOf group (Ok entries) = AreOfGroup group entries
OutcomeOf group (Err refusal) = Unit {0}

entered-group : {file group : List ℕ} {is_boot : Bool} {from : ℕ} {entries : List (Option ModuleEntry)}
    {outcome : Result (List (Option ModuleEntry)) (ℕ × ℕ)} → EntersModules file group is_boot from entries outcome
    → AreOfGroup group entries → OutcomeOf group outcome
entered-group (at_end a) are = are
entered-group (broken a) are = tt
entered-group (refused a b) are = tt
entered-group {group = group} {is_boot = is_boot} {entries = entries} (entered {info = info} a b rest) are =
    entered-group rest (with-group group entries info is_boot are)

-- ---- the start

module _ (boot : Boot) (s : State) (starts : Starts boot s) where
  abbrev booted : MemoryState
  booted = boot_memory boot.file boot.blocks starts.entries

  abbrev count : ℕ
  count = blocks_of_pages (area_pages starts.entry 0 0)

  all-grouped : AreOfGroup (boot_group boot.file) starts.entries
  all-grouped =
      entered-group starts.has.entered (λ number entry is. absurd (none-some entry (sym (no-entry 64 number) ∙ is)))

  -- the objects of the file
  shared-below : (object : ℕ) → IsOfModule booted object → object < length booted.objects
  shared-below object grouped =
      let group : grouped.entry.group ≡ boot_group boot.file = all-grouped grouped.number grouped.entry grouped.is in
      let there : slice_get (range_with_len 0 (file_blocks boot.file)) grouped.stands.0 ≡ Some object = ap (λ group. slice_get group grouped.stands.0) (sym group) ∙ grouped.stands.1 in
      let below : object < 0 + file_blocks boot.file = range-below 0 (file_blocks boot.file) grouped.stands.0 object there in
      let long : length (file_objects boot.file) ≡ file_blocks boot.file = simp length-map (length-range_with_len 0 (file_blocks boot.file)) in
      omega arith

  begins : Started booted 2 starts.number count starts.memory
  begins = started-is booted 2 starts.number count starts.memory starts.begins

  abbrev after : MemoryState
  after = linked (with_first_slots booted 2 begins.entry.group count) starts.number

  long : length booted.objects ≤ length after.objects
  long = omega (arith, length-append booted.objects (replicate count zero_object))

  groups-shared : (object : ℕ) → IsOfModule after object → object < length booted.objects
  groups-shared object grouped =
      shared-below object (was-shared booted after object (keeps-more booted.modules after.modules (more-linked (with_first_slots booted 2 begins.entry.group count) starts.number)) grouped)

  groups-appeared : (object : ℕ) → IsOfModule after object → object < length after.objects
  groups-appeared object grouped = let below = groups-shared object grouped in let more = long in omega arith

  -- the maps of the others name nothing
  nothing : (q : ℕ) → q ≢ 2 → map_at after q ≡ no_slots
  nothing q differ =
      let empty : get_or (replicate 33 (let none : Slots ℕ = no_slots in none)) q no_slots ≡ no_slots = elim (cases_lt q 33) [
        | inl within ↦ get_or-replicate 33 q no_slots no_slots within
        | inr past ↦ get_or_past (replicate 33 no_slots) q no_slots (rw length-replicate past)
      ] in
      get_or-set_other (replicate 33 no_slots) 2 q (first_slots (new_numbers booted count) begins.entry.group) no_slots differ ∙ empty

  names-nothing : (q object : ℕ) → q ≢ 2 → NamesBlock (map_at after q) object → ⊥
  names-nothing q object differ names =
      has-none 8 object (subst (λ slots. NamesBlock slots object) (nothing q differ) names)

  maps-appeared : (q object : ℕ) → NamesBlock (map_at after q) object → object < length after.objects
  maps-appeared q object names =
      elim (cases_eq q 2) [
        | inl same ↦ by_first (begun-names booted 2 count begins.entry.group begins.fits object (subst (λ q. NamesBlock (map_at after q) object) same names))
        | inr differ ↦ absurd (names-nothing q object differ names)
      ]
    where
      by_first : ((length booted.objects ≤ object) × (object < length after.objects)) ⊎ ((k : ℕ) × (slice_get begins.entry.group k ≡ Some object)) → object < length after.objects
      by_first (inl new) = new.1
      by_first (inr stands) =
          let below = shared-below object (record { number = starts.number; entry = begins.entry; is = begins.is; stands = stands }) in
          let more = long in omega arith

  pub start-appeared : NameAppeared s.processes
  start-appeared =
      subst (λ (s : State). NameAppeared s.processes) (sym starts.is)
      (subst (λ memory. NameAppeared (only_process memory (first_start starts.number starts.entry))) (sym begins.memory)
      (record { maps = λ q object has names. maps-appeared q object names; groups = groups-appeared }))

  -- ---- the data area of the first process

  -- how long its low area is
  low-long : (map_at after 2).low ≡ count
  low-long = omega (arith, length-range_with_len (length booted.objects) count)

  area-own : (object : ℕ) (slot : ℕ) → slot < (map_at after 2).low → block_at (map_at after 2) slot ≡ Some object
      → IsOwn (only_process (with_first_slots booted 2 begins.entry.group count)
      (first_start starts.number starts.entry)) 2 object
  area-own object slot within is = record {
    appeared = maps-appeared 2 object (slot, is);
    named = (slot, is);
    alone = λ q differ has names. names-nothing q object differ names;
    in_no_module =
        λ grouped. (
        let below = groups-shared object grouped in
        let late = low-new booted 2 count begins.entry.group begins.fits slot object (let long = low-long in omega (arith, within)) is in omega arith);
  }

  pub start-own : (object : ℕ) → IsOfArea s.processes 2 object → IsOwn s.processes 2 object
  start-own object =
      subst (λ (s : State). IsOfArea s.processes 2 object → IsOwn s.processes 2 object) (sym starts.is)
      (subst (λ memory. IsOfArea (only_process memory (first_start starts.number starts.entry)) 2 object
      → IsOwn (only_process memory (first_start starts.number starts.entry)) 2 object) (sym begins.memory)
      (λ of. area-own object of.0 of.1 of.2))
