-- What headers of entered modules say, and where groups stand in maps.
use Rattle.std.proofs.Common.{◌≡◌, ℕ, ◌+◌, ◌*◌, ◌<◌, ◌≤◌, Option, Some, None, IsSome, IfSome, option_map, length, sym, ap, subst, ◌∙◌, arith}
use Rattle.std.specs.Option.{option_map_or}
use Rattle.std.proofs.lemmas.Option.{same_Some}
use Rattle.proc_model.specs.declared.module.ModuleInfo.{ModuleInfo}
use Rattle.proc_model.specs.Memory.{MemoryState}
use Rattle.proc_model.specs.ModuleList.{ModuleEntry, module_entry_at}
use Rattle.guest_memory.specs.Renaming.{renamed_entry}
use Rattle.guest_memory.specs.Sound.{IsGrouped}
use Rattle.guest_memory.proofs.Keeping.{held_at}
use Rattle.guest_memory.proofs.MappedGroups.{begins_at}
use Rattle.guest_memory.proofs.GroupCalls.{slot_of_entry}
use Rattle.guest_memory.proofs.LinkCalls.{found_entry}
use Rattle.guest_memory.proofs.Seen.{entry-seen}
use Rattle.guest_memory.specs.declared.memory.Memory.{Memory}
use Rattle.guest_memory.specs.Tie.{RepresentsMemory, modules_of, group_len, slot_of_group}

module _ (memory : Memory) (number : ℕ) (some : IsSome (module_entry_at (modules_of memory) number)) where
  abbrev entry : ModuleEntry
  entry = (found_entry (modules_of memory) number some).entry

  abbrev is : module_entry_at (modules_of memory) number ≡ Some entry
  is = (found_entry (modules_of memory) number some).is

  grouped : IsGrouped entry
  grouped = memory.sound.groups.each number entry is

  len_is : group_len memory number ≡ length entry.group
  len_is = ap (λ (place : Option ModuleEntry). option_map_or (λ (entry : ModuleEntry). length entry.group) place 0) is

  pub group-some : 1 ≤ group_len memory number
  group-some = omega (arith, len_is, grouped.some)

  pub group-few : group_len memory number ≤ 7
  group-few = omega (arith, len_is, grouped.few)

  module _ (info : ModuleInfo) (info_is : option_map (λ (entry : ModuleEntry). entry.info) (module_entry_at (modules_of memory) number) ≡ Some info) where
    same : entry.info ≡ info
    same = same_Some _ _ (sym (ap (option_map (λ (entry : ModuleEntry). entry.info)) is) ∙ info_is)

    pub info-inside : info.at + info.size ≤ 8192 * group_len memory number
    info-inside = subst (λ (i : ModuleInfo). i.at + i.size ≤ 8192 * group_len memory number) same (omega (arith, len_is, grouped.inside))

    pub info-runs : info.entry < info.size
    info-runs = subst (λ (i : ModuleInfo). i.entry < i.size) same grouped.runs

    pub info-tied : (m : MemoryState) → RepresentsMemory memory m → option_map (λ (entry : ModuleEntry). entry.info) (module_entry_at m.modules number) ≡ Some info
    info-tied m tied =
        ap (option_map (λ (entry : ModuleEntry). entry.info)) (entry-seen memory m tied number)
        ∙ ap (λ (place : Option ModuleEntry). option_map (λ (entry : ModuleEntry). entry.info) (option_map (renamed_entry tied.number) place)) is
        ∙ ap Some same

-- a group that begins at a slot fits into the map
pub slot-fits : (memory : Memory) (process : ℕ) → process < 33 → (number : ℕ)
    → IsSome (module_entry_at (modules_of memory) number) → (result : Option ℕ) → result ≡ slot_of_group memory
    process number → IfSome result (λ slot. slot + group_len memory number ≤ 8)
slot-fits memory process within number some None _ = tt
slot-fits memory process within number some (Some slot) is_slot =
    let pool = memory.pool in
    let maps = memory.maps.items in
    let dir = memory.dir in
    let begins = begins_at pool maps dir memory.sound process within number (entry memory number some)
    (is memory number some) slot (sym (slot_of_entry pool maps dir memory.sound process within number some) ∙ sym
    is_slot) in
    omega (arith, len_is memory number some, (held_at pool maps dir memory.sound process within).map.group_fits slot _ begins.length_is)
