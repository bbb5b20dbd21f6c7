-- The modules of a boot file, entered one after another.
use Rattle.std.proofs.Common.{◌≡◌, ◌≤◌, ◌+◌, ◌*◌, nat_lt, ℕ, true, Option, Some, None, IsSome, Result, Ok, Err, IsOk, List, length, refl, sym, ap, ◌∙◌, subst, arith}
use Rattle.std.specs.Prelude.{IsSomeAnd}
use Rattle.std.specs.Option.{option_map_or}
use Rattle.std.proofs.lemmas.Bool.{cond-false, le-ltb}
use Rattle.std.proofs.lemmas.List.FromFn.{length-range_with_len}
use Rattle.std.proofs.lemmas.Option.{none-some, same_Some}
use Rattle.guest_memory.specs.declared.memory.Memory.{Memory}
use Rattle.guest_memory.specs.Tie.{RepresentsMemory, ReturnsMemoryResult, modules_of}
use Rattle.guest_memory.proofs.Entered.{free_place}
use Rattle.proc_model.specs.declared.module.ModuleInfo.{ModuleInfo}
use Rattle.proc_model.specs.declared.memory.MemoryFault.{MemoryFault}
use Rattle.proc_model.specs.declared.memory.MemoryFault.TheVariants.{NoRam}
use Rattle.proc_model.specs.declared.module.ModId.{ModId}
use Rattle.proc_model.specs.Loading.{EntersModules, no_entries, with_module}
use Rattle.proc_model.specs.Memory.{MemoryState, first_memory, free_blocks, with_modules}
use Rattle.proc_model.specs.MemoryChanges.{entered, entered_beside}
use Rattle.proc_model.specs.Objects.{file_blocks}
use Rattle.proc_model.specs.ModuleList.{ModuleEntry, module_entry_at, free_number, new_entry, with_module_entry}
use Rattle.proc_model.proofs.ModuleListLaws.{entry_at-with_entry_other}
use Rattle.machine_model.specs.ProcessStart.{boot_group, boot_memory}
use Rattle.cold_start.specs.Booting.{BeginsBoot, HasGroup, IsBooting, IsEmptyMemory, with_boot_module}
use Rattle.cold_start.proofs.Seen.{entered-here, free-seen, some-here}

-- the modules of a boot file from one place up to another are entered, and what the rest comes to, they all come to
pub record Progress (file : List ℕ) (number from : ℕ) (m : MemoryState) (to : ℕ) (memory : Memory) : Type 0 where
  pub modules : List (Option ModuleEntry)
  pub represents : RepresentsMemory memory (with_modules m modules)
  pub has : HasGroup file number (with_modules m modules)
  pub goes_on : (outcome : Result (List (Option ModuleEntry)) (ℕ × ℕ)) → EntersModules file (boot_group file) true to modules outcome → EntersModules file (boot_group file) true from m.modules outcome

-- the module of the group stays where one more is entered
pub group-kept : (file : List ℕ) (number : ℕ) (m : MemoryState) (info : ModuleInfo) → HasGroup file number m → HasGroup file number (with_boot_module file m info)
group-kept file number m info has = record { entry = has.entry; is = by_place (free_number m.modules) refl; group = has.group; boot = has.boot }
  where
    by_place : (free : Option ℕ) → free_number m.modules ≡ free
        → module_entry_at (option_map_or (λ place. with_module_entry m.modules place (new_entry info (boot_group file)
        true)) free m.modules) number ≡ Some has.entry
    by_place None none = has.is
    by_place (Some place) found =
        entry_at-with_entry_other m.modules place number (new_entry info (boot_group file) true)
        (λ same. none-some has.entry
        (sym (ap (module_entry_at m.modules) same ∙ (free_place m.modules place found).1) ∙ has.is)) ∙ has.is

-- a module that is entered beside the group's is one more of the boot file's
pub beside-is : (file : List ℕ) (number : ℕ) (m : MemoryState) (info : ModuleInfo) → HasGroup file number m → entered_beside m number info ≡ with_boot_module file m info
beside-is file number m info has =
    ap (λ (place : Option ModuleEntry). with_modules m (option_map_or (λ (entry : ModuleEntry). with_module m.modules info entry.group entry.is_boot) place m.modules)) has.is
    ∙ (λ i. with_modules m (with_module m.modules info (has.group i) (has.boot i)))

-- a module that lies in the boot file lies in its group
pub in_group : (file : List ℕ) (number : ℕ) (info : ModuleInfo) (memory : Memory) → IsBooting file number memory
    → info.at + info.size ≤ length file → IsSomeAnd (module_entry_at (modules_of memory) number)
    (λ entry. info.at + info.size ≤ 8192 * length entry.group)
in_group file number info memory (m, tied, has) inside =
    by_place (module_entry_at (modules_of memory) number) (entered-here memory m tied number has.entry has.is)
  where
    by_place : (place : Option ModuleEntry) → IsSomeAnd place (λ here. length here.group ≡ length has.entry.group) → IsSomeAnd place (λ entry. info.at + info.size ≤ 8192 * length entry.group)
    by_place None here = here
    by_place (Some entry) here =
        let blocks : length entry.group ≡ file_blocks file = here ∙ ap (λ (group : List ℕ). length group) has.group ∙ length-range_with_len 0 (file_blocks file) in
        omega arith

-- the module of the group is entered
pub is_there : (file : List ℕ) (number : ℕ) (memory : Memory) → IsBooting file number memory → IsSome (module_entry_at (modules_of memory) number)
is_there file number memory (m, tied, has) = some-here memory m tied number has.entry has.is

-- ---- the first module

-- an empty memory has room for the boot file
entered-first : (file : List ℕ) (info : ModuleInfo) (blocks : ℕ) → length file ≤ 57344 → 8 ≤ blocks
    → entered (first_memory blocks) file info true ≡ Ok (with_boot_module file (boot_memory file blocks no_entries)
    info)
entered-first file info blocks short least =
    cond-false (nat_lt (free_blocks (first_memory blocks)) (file_blocks file)) (Err NoRam) _ (le-ltb (free_blocks (first_memory blocks)) (file_blocks file) (omega arith))

-- two machines that one empty memory is have as many blocks
same-blocks : (memory : Memory) (blocks other : ℕ) → RepresentsMemory memory (first_memory blocks) → RepresentsMemory memory (first_memory other) → blocks ≡ other
same-blocks memory blocks other one two =
    ap (λ (s : MemoryState). s.blocks) one.is ∙ sym (ap (λ (s : MemoryState). s.blocks) two.is)

module _ (old new : Memory) (file : List ℕ) (info : ModuleInfo) (short : length file ≤ 57344) (empty : IsEmptyMemory old)
    (result : Result ModId MemoryFault) (enters : (m : MemoryState) → RepresentsMemory old m
    → ReturnsMemoryResult (entered m file info true) m result new) where
  -- what an empty memory comes to
  loaded : (blocks : ℕ) → RepresentsMemory old (first_memory blocks) → IsOk result × RepresentsMemory new (with_boot_module file (boot_memory file blocks no_entries) info)
  loaded blocks tied =
      let least : 8 ≤ blocks = let same = same-blocks old blocks empty.0 tied empty.2 in omega (arith, empty.1) in
      subst (λ (change : Result MemoryState MemoryFault). ReturnsMemoryResult change (first_memory blocks) result new) (entered-first file info blocks short least) (enters (first_memory blocks) tied)

  -- its file is never refused
  pub never-full : (fault : MemoryFault) → result ≡ Err fault → ⊥
  never-full fault is = let done = (loaded empty.0 empty.2).0 in cc

  -- it has the boot file, and its first module
  pub begins-boot : (number blocks : ℕ) → RepresentsMemory old (first_memory blocks) → free_number (modules_of old) ≡ Some number → BeginsBoot file blocks info number new
  begins-boot number blocks tied free =
      let first : 0 ≡ number = same_Some 0 number (free-seen old (first_memory blocks) tied ∙ free) in record {
        accepted = refl;
        represents = (loaded blocks tied).1;
        has = subst (λ (n : ℕ). HasGroup file n (with_boot_module file (boot_memory file blocks no_entries) info))
            first (record { entry = new_entry info (boot_group file) true; is = refl; group = refl; boot = refl });
      }
