-- What a module that is entered comes to for the whole memory.
use Rattle.std.proofs.Common.{◌<◌, ◌≡◌, ℕ, ◌+◌, ◌*◌, ◌≤◌, Bool, Option, Some, None, IsSome, option_map, List, ◌++◌, length, sym, ap, ◌∙◌, subst}
use Rattle.std.specs.Prelude.{IsSomeAnd}
use Rattle.std.proofs.lemmas.Option.{same_Some}
use Rattle.block_pool.specs.Blocks.{Blocks, IsPool}
use Rattle.proc_model.specs.declared.group.BlockId.{BlockId}
use Rattle.proc_model.specs.declared.module.ModuleInfo.{ModuleInfo}
use Rattle.proc_model.specs.Loading.{with_module}
use Rattle.proc_model.specs.Memory.{MemoryState}
use Rattle.proc_model.specs.MemoryChanges.{entered_beside, new_numbers}
use Rattle.proc_model.specs.ModuleList.{ModuleEntry, module_entry_at, free_number, new_entry, with_module_entry}
use Rattle.proc_model.specs.Slots.{Slots}
use Rattle.proc_model.specs.Objects.{file_blocks, file_objects}
use Rattle.guest_memory.specs.Gains.{GainsBlocks}
use Rattle.guest_memory.specs.Memory.{RepresentMemory}
use Rattle.guest_memory.specs.Sound.{IsSoundMemory}
use Rattle.guest_memory.proofs.Entered.{beside, IsSound-beside, represent-beside, IsSound-entered, represent-entered, with_entered}
use Rattle.guest_memory.proofs.Times.{numbers_of}
use Rattle.guest_memory.proofs.LinkCalls.{found_entry}

-- what is said of the entry is true of the one that was found
some_and : (P : ModuleEntry → Type 0) (place : Option ModuleEntry) (entry : ModuleEntry) → place ≡ Some entry → IsSomeAnd place P → P entry
some_and P None entry is has = absurd has
some_and P (Some other) entry is has = subst P (same_Some other entry is) has

module _ (pool : Blocks) (maps : List (Slots BlockId)) (entries : List (Option ModuleEntry))
    (sound : IsSoundMemory pool maps entries) (number : ℕ) (some : IsSome (module_entry_at entries number)) (place : ℕ)
    (free : free_number entries ≡ Some place) (info : ModuleInfo) where
  abbrev entry : ModuleEntry
  entry = (found_entry entries number some).entry

  abbrev is : module_entry_at entries number ≡ Some entry
  is = (found_entry entries number some).is

  module _ (group : List ℕ) (is_boot : Bool) (group_is : option_map (λ (entry : ModuleEntry). entry.group)
      (module_entry_at entries number) ≡ Some group) (boot_is : option_map (λ (entry : ModuleEntry). entry.is_boot)
      (module_entry_at entries number) ≡ Some is_boot) (later : List (Option ModuleEntry))
      (list : later ≡ with_module_entry entries place (new_entry info group is_boot)) where
    same_group : entry.group ≡ group
    same_group = same_Some entry.group group (sym (ap (option_map (λ (entry : ModuleEntry). entry.group)) is) ∙ group_is)

    same_boot : entry.is_boot ≡ is_boot
    same_boot = same_Some entry.is_boot is_boot (sym (ap (option_map (λ (entry : ModuleEntry). entry.is_boot)) is) ∙ boot_is)

    later_is : later ≡ with_module_entry entries place (beside pool maps entries sound number entry is place free info)
    later_is = list ∙ sym (λ i. with_module_entry entries place (new_entry info (same_group i) (same_boot i)))

    pub sound-beside : IsSomeAnd (module_entry_at entries number) (λ entry. info.at + info.size ≤ 8192 * length entry.group) → info.entry < info.size → IsSoundMemory pool maps later
    sound-beside inside runs =
        subst (IsSoundMemory pool maps) (sym later_is)
        (IsSound-beside pool maps entries sound number entry is place free info
        (some_and (λ entry. info.at + info.size ≤ 8192 * length entry.group) (module_entry_at entries number)
        entry is inside) runs)

    pub tied-beside : (m : MemoryState) → RepresentMemory pool maps entries m → RepresentMemory pool maps later (entered_beside m number info)
    tied-beside m tied =
        subst (λ (list : List (Option ModuleEntry)). RepresentMemory pool maps list (entered_beside m number info)) (sym later_is)
        (represent-beside pool maps entries sound number entry is place free info m tied)

-- the file is loaded and its module is entered
module _ (pool after : Blocks) (maps : List (Slots BlockId)) (entries : List (Option ModuleEntry))
    (sound : IsSoundMemory pool maps entries) (file : List ℕ) (ids : List BlockId) (gains : GainsBlocks pool ids
    (file_objects file) after) (place : ℕ) (free : free_number entries ≡ Some place) (info : ModuleInfo)
    (is_boot : Bool) (later : List (Option ModuleEntry)) (list : later ≡ with_module_entry entries place
    (new_entry info (numbers_of ids) is_boot)) where
  pub sound-enter : 1 ≤ length ids → length ids ≤ 7 → info.at + info.size ≤ 8192 * length ids → info.entry < info.size → IsPool after → IsSoundMemory after maps later
  sound-enter some few inside runs shape =
      subst (IsSoundMemory after maps) (sym list) (IsSound-entered pool after maps entries sound file ids gains place free info is_boot some few inside runs shape)

  pub tied-enter : length ids ≡ file_blocks file → (m : MemoryState) → RepresentMemory pool maps entries m
      → RepresentMemory after maps later (record m {
        objects = m.objects ++ file_objects file;
        modules = with_module
            m.modules info (new_numbers m (file_blocks file)) is_boot;
      })
  tied-enter size m tied =
      subst (λ (all : List (Option ModuleEntry)). RepresentMemory after maps all (with_entered pool after maps entries sound file ids gains place free info is_boot m)) (sym list)
      (represent-entered pool after maps entries sound file ids gains place free info is_boot size m tied)
