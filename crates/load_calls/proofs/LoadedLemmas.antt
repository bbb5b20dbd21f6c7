-- What comes of a file whose modules were tried.
use Rattle.std.proofs.Common.{◌≡◌, ◌∙◌, ◌+◌, ◌<◌, ◌==◌, ◌++◌, MatchOption, IsOk, ℕ, zero, suc, false, true, Bool, IfOk, Option, Some, None, option_and_then, option_map, Result, Ok, Err, List, [], length, refl, ap, sym, subst, arith, if◌then◌else◌}
use Rattle.std.specs.Option.{option_map_or}
use Rattle.std.proofs.lemmas.List.FromFn.{length-range_with_len}
use Rattle.os9_base.specs.declared.errors.TheConstants.{E_BMID, E_DIRFUL, E_KWNMOD, E_NORAM}
use Rattle.guest_memory.specs.declared.memory.Memory.{Memory}
use Rattle.guest_memory.specs.Tie.{ReturnsMemoryResult, RepresentsMemory}
use Rattle.guest_memory.proofs.Entered.{free_place}
use Rattle.proc_model.specs.declared.memory.MemoryFault.{MemoryFault}
use Rattle.proc_model.specs.declared.memory.MemoryFault.TheVariants.{NoRam}
use Rattle.proc_model.specs.declared.module.ModId.{ModId}
use Rattle.proc_model.specs.declared.module.ModuleFault.{ModuleFault}
use Rattle.proc_model.specs.declared.module.ModuleInfo.{ModuleInfo}
use Rattle.proc_state.proofs.Entered.{represented}
use Rattle.proc_model.specs.declared.module.ModuleStep.TheVariants.{Module, End, Fault}
use Rattle.proc_model.specs.Loading.{EntersModules, at_end, broken, entered, entry_refusal, module_error, refused, with_module}
use Rattle.proc_model.specs.Memory.{MemoryState, wants_blocks}
use Rattle.proc_model.specs.MemoryChanges.{new_numbers}
use Rattle.proc_model.specs.MemoryChanges as change
use Rattle.proc_model.specs.Module.{step_from}
use Rattle.proc_model.specs.ModuleList.{ModuleEntry, free_number, is_known, module_entry_at, module_room, new_entry, with_module_entry}
use Rattle.proc_model.specs.Objects.{file_blocks, file_objects}
use Rattle.proc_model.proofs.LoadingLemmas.{Enters-one}
use Rattle.proc_model.proofs.ModuleListLaws.{entry_at-with_entry_same, room_by_number}
use Rattle.proc_model.specs.ModuleLinks.{Entered, entered_at}
use Rattle.file_rules.specs.Load.{Loaded, first_entered, loaded_by, with_file_entered}
use Rattle.load_calls.proofs.EnteringLemmas.{entry-kept}
use Rattle.load_calls.specs.Entering.{CanEnter, IsOfGroup, TriesFile}

-- ---- what stays

-- an entry stays where modules of a file are entered
pub still-there : {file group : List ℕ} {from : ℕ} {entries : List (Option ModuleEntry)}
    {outcome : Result (List (Option ModuleEntry)) (ℕ × ℕ)} → (number : ℕ) (entry : ModuleEntry) → EntersModules file
    group false from entries outcome → module_entry_at entries number ≡ Some entry
    → IfOk outcome (λ after. module_entry_at after number ≡ Some entry)
still-there number entry (at_end is) there = there
still-there number entry (broken is) there = tt
still-there number entry (refused is e) there = tt
still-there {group = group} {entries = entries} number entry (entered {info = info} is e rest) there =
    still-there number entry rest (entry-kept entries number entry info group there)

-- ---- no module

none-entered : (m : MemoryState) → first_entered m m.modules ≡ None
none-entered m = by (free_number m.modules) refl
  where
    by : (free : Option ℕ) → free_number m.modules ≡ free → option_and_then (entered_at m.modules) free ≡ None
    by None is = refl
    by (Some place) is =
        ap (option_map (λ (entry : ModuleEntry). let it : Entered = record { number = place; entry = entry } in it)) (free_place m.modules place is).1

pub no-module : (file : List ℕ) (m : MemoryState) → step_from file 0 ≡ End → TriesFile file m (Err E_BMID)
no-module file m is = record {
  outcome = Err E_BMID;
  loads = record {
    entries = Ok m.modules;
    modules = at_end is;
    is = sym (ap (λ (first : Option Entered). option_map_or {U = Result Loaded ℕ} (λ first. if wants_blocks m
        (file_blocks file) then Err E_NORAM else Ok (record {
          first = first;
          memory = with_file_entered m file
              m.modules;
        })) first (Err E_BMID)) (none-entered m));
  };
  answers = refl;
}

-- ---- a module was refused

pub module-refused : (file : List ℕ) (m : MemoryState) (at number : ℕ) → EntersModules file (new_numbers m (file_blocks file)) false 0 m.modules (Err (at, number)) → TriesFile file m (Err number)
module-refused file m at number enters = record {
  outcome = Err number;
  loads = record { entries = Err (at, number); modules = enters; is = refl };
  answers = refl;
}

-- ---- the first module

module _ (file : List ℕ) (m : MemoryState) (info : ModuleInfo) (group : List ℕ) (after : List (Option ModuleEntry))
    (is : step_from file 0 ≡ Module info) (enters : EntersModules file group false 0 m.modules (Ok after)) where
  -- it is taken
  pub taken : entry_refusal m.modules info ≡ None
  taken = by (entry_refusal m.modules info) refl
    where
      by : (refusal : Option ℕ) → entry_refusal m.modules info ≡ refusal → entry_refusal m.modules info ≡ None
      by None e = e
      by (Some n) e =
          let other : EntersModules file group false 0 m.modules (Err (info.at, n)) = refused is e in
          let one = Enters-one other enters in absurd cc

  -- and then the others
  pub others : EntersModules file group false (info.at + info.size) (with_module m.modules info group false) (Ok after)
  others = by enters refl
    where
      by : {outcome : Result (List (Option ModuleEntry)) (ℕ × ℕ)} → EntersModules file group false 0 m.modules outcome
          → outcome ≡ Ok after → EntersModules file group false (info.at + info.size) (with_module m.modules info
          group false) (Ok after)
      by (at_end e) same = absurd cc
      by (broken e) same = absurd cc
      by (refused e n) same = absurd cc
      by {outcome} (entered {info = other} e n rest) same =
          let one : other ≡ info = cc in
          subst (λ (outcome : Result (List (Option ModuleEntry)) (ℕ × ℕ)). EntersModules file group false (info.at + info.size) (with_module m.modules info group false) outcome) same
          (subst (λ (i : ModuleInfo). EntersModules file group false (i.at + i.size) (with_module m.modules i group false) outcome) one rest)

  room-refused : (known : Bool) (room : ℕ) → (if known then Some E_KWNMOD else (if room == 0 then Some E_DIRFUL else None)) ≡ None → room ≡ 0 → ⊥
  room-refused true room none same = absurd cc
  room-refused false zero none same = absurd cc
  room-refused false (suc room) none same = omega (arith, same)

  -- it has a number
  some-number : (number : ℕ) × (free_number m.modules ≡ Some number)
  some-number = by (free_number m.modules) refl (room_by_number m.modules)
    where
      by : (free : Option ℕ) → free_number m.modules ≡ free → MatchOption free (module_room m.modules ≡ 0) (λ number. 0 < module_room m.modules) → (number : ℕ) × (free_number m.modules ≡ Some number)
      by None e full = absurd (room-refused (is_known m.modules info) (module_room m.modules) taken full)
      by (Some number) e room = (number, e)

  -- and is entered by it
  pub first-at : (number : ℕ) → free_number m.modules ≡ Some number → module_entry_at (with_module m.modules info group false) number ≡ Some (new_entry info group false)
  first-at number free =
      ap (λ (place : Option ℕ). module_entry_at (option_map_or (λ place. with_module_entry m.modules place (new_entry info group false)) place m.modules) number) free
      ∙ entry_at-with_entry_same m.modules number (new_entry info group false) (free_place m.modules number free).0

  abbrev first-of : ℕ → Entered
  first-of number = record { number = number; entry = new_entry info group false }

  is-first : (number : ℕ) → free_number m.modules ≡ Some number → first_entered m after ≡ Some (first-of number)
  is-first number free =
      ap (option_and_then (entered_at after)) free
      ∙ ap (option_map (λ (entry : ModuleEntry). let it : Entered = record { number = number; entry = entry } in it)) (still-there number (new_entry info group false) others (first-at number free))

-- ---- the file in memory

not-both : (result : Result ModId MemoryFault) (fault : MemoryFault) → result ≡ Err fault → IsOk result → ⊥
not-both result fault is ok = cc

-- the memory with the file and its first module
abbrev pub with_first : List ℕ → MemoryState → ModuleInfo → MemoryState
with_first file m info = record m {
  objects = m.objects ++ file_objects file;
  modules = with_module m.modules info (new_numbers m (file_blocks file)) false;
}

module _ (file : List ℕ) (m : MemoryState) (info : ModuleInfo) (after : List (Option ModuleEntry))
    (is : step_from file 0 ≡ Module info) (enters : EntersModules file (new_numbers m (file_blocks file)) false 0
    m.modules (Ok after)) where
  abbrev group : List ℕ
  group = new_numbers m (file_blocks file)

  abbrev loaded-if : Bool → Option Entered → Result Loaded ℕ
  loaded-if wants first =
      option_map_or {U = Result Loaded ℕ} (λ first. if wants then Err E_NORAM else Ok (record { first = first; memory = with_file_entered m file after })) first (Err E_BMID)

  loaded-is : (wants : Bool) (number : ℕ) → wants_blocks m (file_blocks file) ≡ wants → free_number m.modules ≡ Some
      number → loaded_by m file (Ok after) ≡ loaded-if wants
      (Some (record { number = number; entry = new_entry info group false }))
  loaded-is wants number e free =
      ap (loaded-if (wants_blocks m (file_blocks file))) (is-first file m info group after is enters number free)
      ∙ ap (λ (wants : Bool). loaded-if wants (Some (record { number = number; entry = new_entry info group false }))) e

  -- fewer blocks are free
  pub no-room : wants_blocks m (file_blocks file) ≡ true → TriesFile file m (Err E_NORAM)
  no-room wants =
      let number = some-number file m info group after is enters in record {
        outcome = Err E_NORAM;
        loads = record { entries = Ok after; modules = enters; is = sym (loaded-is true number.0 wants number.1) };
        answers = refl;
      }

  -- or it has room
  pub has-room : wants_blocks m (file_blocks file) ≡ false → TriesFile file m (Ok info)
  has-room wants =
      let number = some-number file m info group after is enters in record {
        outcome = Ok (record { first = record { number = number.0; entry = new_entry info group false }; memory = with_file_entered m file after });
        loads = record { entries = Ok after; modules = enters; is = sym (loaded-is false number.0 wants number.1) };
        answers = refl;
      }

  -- it is loaded then
  pub entered-first : (result : Result ModId MemoryFault) (id : ModId) (new : Memory)
      → wants_blocks m (file_blocks file) ≡ false → result ≡ Ok id → ReturnsMemoryResult (change.entered m file info false) m
      result new → RepresentsMemory new (with_first file m info)
  entered-first result id new room done answers = by (wants_blocks m (file_blocks file)) room answers
    where
      by : (wants : Bool) → wants ≡ false → ReturnsMemoryResult (if wants then Err NoRam else Ok (with_first file m info)) m result new → RepresentsMemory new (with_first file m info)
      by true none answers = absurd cc
      by false e answers = answers.1

  pub first-group : (number : ℕ) → free_number m.modules ≡ Some number → IsOfGroup group number (with_first file m info)
  first-group number free = record {
    entry = new_entry info group false;
    is = first-at file m info group after is enters number free;
    group_is = refl;
    no_boot = refl;
  }

  pub rest-enters : EntersModules file group false (info.at + info.size) (with_first file m info).modules (Ok after)
  rest-enters = others file m info group after is enters

  pub can-enter : (number : ℕ) (memory : Memory) → free_number m.modules ≡ Some number → RepresentsMemory memory (with_first file m info) → CanEnter file number (info.at + info.size) memory
  can-enter number memory free tied = record {
    m = with_first file m info;
    represents = tied;
    group = group;
    of_group = first-group number free;
    room = let blocks : length group ≡ file_blocks file = length-range_with_len (length m.objects) (file_blocks file) in omega (arith, blocks);
    after = after;
    enters = rest-enters;
  }

-- it is not refused where it has room
pub not-refused : (file : List ℕ) (m : MemoryState) (info : ModuleInfo) (result : Result ModId MemoryFault)
    (fault : MemoryFault) (new : Memory) → wants_blocks m (file_blocks file) ≡ false → result ≡ Err fault
    → ReturnsMemoryResult (change.entered m file info false) m result new → ⊥
not-refused file m info result fault new room failed answers = by (wants_blocks m (file_blocks file)) room answers
  where
    by : (wants : Bool) → wants ≡ false → ReturnsMemoryResult (if wants then Err NoRam else Ok (with_first file m info)) m result new → ⊥
    by true none answers = absurd cc
    by false e answers = not-both result fault failed answers.0

-- ---- what was tried

-- each memory is one of some machine
pub some-memory : (memory : Memory) → (m : MemoryState) × RepresentsMemory memory m
some-memory memory = let it = represented memory in (_, it)

-- nothing breaks a rule in a file whose modules can be entered
pub never-broken : (file : List ℕ) (m : MemoryState) (after : List (Option ModuleEntry)) (at : ℕ)
    (fault : ModuleFault) → step_from file 0 ≡ Fault at fault → EntersModules file [] false 0 m.modules (Ok after) → ⊥
never-broken file m after at fault is enters =
    let other : EntersModules file [] false 0 m.modules (Err (at, module_error fault)) = broken is in
    let one = Enters-one other enters in absurd cc
