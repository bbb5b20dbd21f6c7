-- The modules of a file, entered one after another beside the first.
use Rattle.std.proofs.Common.{◌≡◌, ◌∙◌, ◌+◌, ◌*◌, ◌≤◌, ℕ, false, IsSome, Option, Some, None, Result, Ok, List, length, refl, ap, sym, subst, arith}
use Rattle.std.specs.Prelude.{IsSomeAnd}
use Rattle.std.specs.Option.{option_map_or}
use Rattle.std.proofs.lemmas.Option.{none-some}
use Rattle.guest_memory.specs.declared.memory.Memory.{Memory}
use Rattle.guest_memory.specs.Tie.{RepresentsMemory, modules_of}
use Rattle.guest_memory.proofs.Entered.{free_place}
use Rattle.proc_model.specs.declared.module.ModuleInfo.{ModuleInfo}
use Rattle.proc_model.specs.declared.module.ModuleFault.{ModuleFault}
use Rattle.proc_model.specs.declared.module.ModuleStep.TheVariants.{Module, End, Fault}
use Rattle.proc_model.specs.Loading.{EntersModules, at_end, broken, entered, entry_refusal, refused, with_module}
use Rattle.proc_model.specs.Memory.{MemoryState, with_modules}
use Rattle.proc_model.specs.MemoryChanges.{entered_beside}
use Rattle.proc_model.specs.Module.{step_from}
use Rattle.proc_model.specs.ModuleList.{ModuleEntry, free_number, module_entry_at, new_entry, with_module_entry}
use Rattle.proc_model.proofs.LoadingLemmas.{Enters-one}
use Rattle.proc_model.proofs.ModuleListLaws.{entry_at-with_entry_other}
use Rattle.load_calls.proofs.SeenLemmas.{entered-here, refusal-seen, some-here}
use Rattle.load_calls.specs.Entering.{IsOfGroup}

-- ---- one module

-- an entry stays where one module more is entered
pub entry-kept : (entries : List (Option ModuleEntry)) (number : ℕ) (entry : ModuleEntry) (info : ModuleInfo)
    (group : List ℕ) → module_entry_at entries number ≡ Some entry → module_entry_at (with_module entries info group
    false) number ≡ Some entry
entry-kept entries number entry info group is = by (free_number entries) refl
  where
    by : (free : Option ℕ) → free_number entries ≡ free → module_entry_at (option_map_or (λ place. with_module_entry entries place (new_entry info group false)) free entries) number ≡ Some entry
    by None none = is
    by (Some place) found =
        entry_at-with_entry_other entries place number (new_entry info group false) (λ same. none-some entry (sym (ap (module_entry_at entries) same ∙ (free_place entries place found).1) ∙ is)) ∙ is

group-kept : (group : List ℕ) (number : ℕ) (m : MemoryState) (info : ModuleInfo) → IsOfGroup group number m → IsOfGroup group number (with_modules m (with_module m.modules info group false))
group-kept group number m info of = record {
  entry = of.entry;
  is = entry-kept m.modules number of.entry info group of.is;
  group_is = of.group_is;
  no_boot = of.no_boot;
}

-- a module that is entered beside the group's is one more of it
beside-is : (group : List ℕ) (number : ℕ) (m : MemoryState) (info : ModuleInfo) → IsOfGroup group number m → entered_beside m number info ≡ with_modules m (with_module m.modules info group false)
beside-is group number m info of =
    ap (λ (place : Option ModuleEntry). with_modules m (option_map_or (λ (entry : ModuleEntry). with_module m.modules info entry.group entry.is_boot) place m.modules)) of.is
    ∙ (λ i. with_modules m (with_module m.modules info (of.group_is i) (of.no_boot i)))

-- ---- modules up to a place

-- the modules of a file from one place up to another are entered, and what the rest comes to, they all come to
pub record Progress (file group : List ℕ) (number from : ℕ) (m : MemoryState) (to : ℕ) (memory : Memory) : Type 0 where
  pub modules : List (Option ModuleEntry)
  pub represents : RepresentsMemory memory (with_modules m modules)
  pub of_group : IsOfGroup group number (with_modules m modules)
  pub goes_on : (outcome : Result (List (Option ModuleEntry)) (ℕ × ℕ)) → EntersModules file group false to modules outcome → EntersModules file group false from m.modules outcome

-- none yet
pub progress-none : (file group : List ℕ) (number from : ℕ) (m : MemoryState) (memory : Memory) → RepresentsMemory memory m → IsOfGroup group number m → Progress file group number from m from memory
progress-none file group number from m memory tied of = record { modules = m.modules; represents = tied; of_group = of; goes_on = λ outcome rest. rest }

module _ (file group : List ℕ) (number from : ℕ) (m : MemoryState) (to : ℕ) (memory : Memory) (p : Progress file group number from m to memory) where
  -- all of them are entered
  pub all-entered : (after : List (Option ModuleEntry)) → step_from file to ≡ End → EntersModules file group false from m.modules (Ok after) → RepresentsMemory memory (with_modules m after)
  all-entered after is enters =
      let same : p.modules ≡ after = let one = Enters-one (p.goes_on (Ok p.modules) (at_end is)) enters in cc in
      subst (λ (modules : List (Option ModuleEntry)). RepresentsMemory memory (with_modules m modules)) same p.represents

  -- none breaks a rule where all can be entered
  pub none-broken : (after : List (Option ModuleEntry)) (at : ℕ) (fault : ModuleFault) → step_from file to ≡ Fault at fault → EntersModules file group false from m.modules (Ok after) → ⊥
  none-broken after at fault is enters =
      let one = Enters-one (p.goes_on _ (broken is)) enters in absurd cc

  -- none is refused
  none-refused : (after : List (Option ModuleEntry)) (info : ModuleInfo) → step_from file to ≡ Module info
      → EntersModules file group false from m.modules (Ok after) → entry_refusal p.modules info ≡ None
  none-refused after info is enters = by (entry_refusal p.modules info) refl
    where
      by : (refusal : Option ℕ) → entry_refusal p.modules info ≡ refusal → entry_refusal p.modules info ≡ None
      by None e = e
      by (Some n) e = let one = Enters-one (p.goes_on _ (refused is e)) enters in absurd cc

  pub takes-next : (after : List (Option ModuleEntry)) (info : ModuleInfo) → step_from file to ≡ Module info
      → EntersModules file group false from m.modules (Ok after) → entry_refusal (modules_of memory) info ≡ None
  takes-next after info is enters =
      sym (refusal-seen memory (with_modules m p.modules) p.represents info) ∙ none-refused after info is enters

  -- it lies in the group
  pub next-inside : (info : ModuleInfo) → length file ≤ 8192 * length group → info.at + info.size ≤ length file
      → IsSomeAnd (module_entry_at (modules_of memory) number) (λ entry. info.at + info.size ≤ 8192 * length
      entry.group)
  next-inside info room inside =
      by (module_entry_at (modules_of memory) number) (entered-here memory (with_modules m p.modules) p.represents number p.of_group.entry p.of_group.is)
    where
      by : (place : Option ModuleEntry) → IsSomeAnd place (λ here. length here.group ≡ length p.of_group.entry.group) → IsSomeAnd place (λ entry. info.at + info.size ≤ 8192 * length entry.group)
      by None here = here
      by (Some entry) here =
          let blocks : length entry.group ≡ length group = here ∙ ap (λ (group : List ℕ). length group) p.of_group.group_is in
          omega (arith, blocks, room, inside)

  pub is-there : IsSome (module_entry_at (modules_of memory) number)
  is-there = some-here memory (with_modules m p.modules) p.represents number p.of_group.entry p.of_group.is

  -- one module more
  pub progress-more : (info : ModuleInfo) (new : Memory) → step_from file to ≡ Module info
      → entry_refusal (modules_of memory) info ≡ None → ((t : MemoryState) → RepresentsMemory memory t
      → RepresentsMemory new (entered_beside t number info)) → Progress file group number from m (info.at + info.size) new
  progress-more info new is taken enters = record {
    modules = with_module p.modules info group false;
    represents = subst (λ (t : MemoryState). RepresentsMemory new t) (beside-is group number (with_modules m p.modules) info p.of_group) (enters (with_modules m p.modules) p.represents);
    of_group = group-kept group number (with_modules m p.modules) info p.of_group;
    goes_on = λ outcome rest. p.goes_on outcome (entered is (refusal-seen memory (with_modules m p.modules) p.represents info ∙ taken) rest);
  }
