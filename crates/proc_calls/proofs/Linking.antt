-- What a link comes to by the slot of the module's group.
use Rattle.std.proofs.Common.{◌≡◌, ℕ, Bool, true, false, nat_le, Option, Some, None, option_map, option_and_then, if◌then◌else◌, List, length, refl, sym}
use Rattle.std.proofs.lemmas.Option.{none-some, same_Some}
use Rattle.os9_base.specs.declared.errors.TheConstants.{E_MEMFUL}
use Rattle.proc_model.specs.declared.memory.TheConstants.{MOST_LINKS}
use Rattle.proc_model.specs.MemoryChanges.{has_most_links}
use Rattle.proc_model.specs.CallResult.{CallResult, done, refused, needs, refuses}
use Rattle.proc_model.specs.Processes.{Processes, own_at}
use Rattle.proc_model.specs.Link.{Mapped, mapped_group, links_at, after_link}
use Rattle.proc_model.specs.ModuleLinks.{Entered}
use Rattle.proc_calls.specs.Linked.{links_entered}
use Rattle.proc_calls.specs.Named.{link_slot}

-- the group stands at a slot, or is mapped there
pub record IsLinked (m : Processes) (p : ℕ) (found : Entered) (count slot : ℕ) : Type 0 where
  pub mapped : Mapped
  pub is : mapped_group m.memory p found.entry.group ≡ Some mapped
  pub slot_is : mapped.slot ≡ slot
  pub goes : links_entered m p found count ≡ done (after_link m p found mapped count)

module _ (m : Processes) (p : ℕ) (found : Entered) (count : ℕ) where
  abbrev slot_by : Bool → Option Mapped → Option ℕ
  slot_by most place = if most then None else option_and_then (λ slot. if nat_le MOST_LINKS (links_at (own_at m p) slot) then None else Some slot) (option_map (λ mapped. mapped.slot) place)

  abbrev next_by : Bool → Option Mapped → CallResult
  next_by most place = refuses most E_MEMFUL (needs place E_MEMFUL (λ mapped. refuses (nat_le MOST_LINKS (links_at (own_at m p) mapped.slot)) E_MEMFUL (done (after_link m p found mapped count))))

  -- there is no slot
  pub link-refused : None ≡ link_slot m p found.entry → links_entered m p found count ≡ refused E_MEMFUL
  link-refused none = by_most (has_most_links found.entry) (mapped_group m.memory p found.entry.group) none
    where
      by_full : (full : Bool) (mapped : Mapped) → None ≡ (if full then None else Some mapped.slot) → refuses full E_MEMFUL (done (after_link m p found mapped count)) ≡ refused E_MEMFUL
      by_full true mapped none = refl
      by_full false mapped none = absurd (none-some mapped.slot none)

      by_most : (most : Bool) (place : Option Mapped) → None ≡ slot_by most place → next_by most place ≡ refused E_MEMFUL
      by_most true place none = refl
      by_most false None none = refl
      by_most false (Some mapped) none = by_full (nat_le MOST_LINKS (links_at (own_at m p) mapped.slot)) mapped none

  -- there is one
  pub link-linked : (slot : ℕ) → Some slot ≡ link_slot m p found.entry → IsLinked m p found count slot
  link-linked slot some =
      let there = by_most (has_most_links found.entry) (mapped_group m.memory p found.entry.group) some in
      record { mapped = there.0; is = there.1; slot_is = there.2; goes = there.3 }
    where
      by_full : (full : Bool) (mapped : Mapped) → Some slot ≡ (if full then None else Some mapped.slot)
          → (mapped.slot ≡ slot) × (refuses full E_MEMFUL (done (after_link m p found mapped count)) ≡ done
          (after_link m p found mapped count))
      by_full true mapped some = absurd (none-some slot (sym some))
      by_full false mapped some = (sym (same_Some slot mapped.slot some), refl)

      by_most : (most : Bool) (place : Option Mapped) → Some slot ≡ slot_by most place → (mapped : Mapped) ×
          (place ≡ Some mapped) × (mapped.slot ≡ slot) × (next_by most place ≡ done (after_link m p found mapped
          count))
      by_most true place some = absurd (none-some slot (sym some))
      by_most false None some = absurd (none-some slot (sym some))
      by_most false (Some mapped) some =
          let there = by_full (nat_le MOST_LINKS (links_at (own_at m p) mapped.slot)) mapped some in
          (mapped, refl, there.0, there.1)

-- what F$Link does with the module that is named
abbrev pub link_next : Processes → ℕ → List ℕ → Entered → CallResult
link_next m p name found = links_entered m p found (length name)
