-- What F$Load comes to by the place that there is for the group.
use Rattle.std.proofs.Common.{◌≡◌, ◌∙◌, ◌-◌, ◌<◌, ◌≤◌, ℕ, Bool, true, false, nat_le, nat_lt, Option, Some, None, refl, ap}
use Rattle.std.specs.Option.{option_map_or}
use Rattle.std.proofs.lemmas.Bool.{le-leb, ltb-false, ltb-true, lt-leb, false≢true}
use Rattle.os9_base.specs.declared.errors.TheConstants.{E_MEMFUL}
use Rattle.guest_memory.specs.declared.memory.Memory.{Memory}
use Rattle.guest_memory.specs.Tie.{RepresentsMemory}
use Rattle.proc_model.specs.declared.memory.TheConstants.{MOST_LINKS}
use Rattle.proc_model.specs.declared.module.ModuleInfo.{ModuleInfo}
use Rattle.proc_model.specs.Memory.{map_at}
use Rattle.proc_model.specs.MemoryChanges.{has_most_links, new_numbers}
use Rattle.proc_model.specs.ModuleList.{ModuleEntry, new_entry}
use Rattle.proc_model.specs.Objects.{file_blocks}
use Rattle.proc_model.specs.Slots.{highest_free_run}
use Rattle.proc_model.specs.CallResult.{CallResult, done, needs, refused, refuses}
use Rattle.proc_model.specs.Processes.{Processes, own_at, regs_at, with_memory}
use Rattle.proc_model.specs.Link.{Mapped, after_link, links_at, mapped_group}
use Rattle.file_rules.specs.Load.{Loaded, links_first}
use Rattle.file_rules.specs.ProgramFile.{ProgramFile}
use Rattle.load_calls.proofs.OutcomeLemmas.{IsLoaded}
use Rattle.proc_calls.specs.Linked.{links_entered}
use Rattle.load_calls.specs.Loading.{has_place}
use Rattle.load_calls.proofs.MapLemmas.{mapped-at, mapped-there, mapped-new}

module _ (memory : Memory) (m : Processes) (tied : RepresentsMemory memory m.memory) (p : ℕ) (within : p < 33)
    (file : ProgramFile) (loaded : Loaded) (it : IsLoaded m.memory file.bytes loaded) (info : ModuleInfo)
    (first_is : loaded.first.entry ≡ new_entry info (new_numbers m.memory (file_blocks file.bytes)) false)
    (some : 1 ≤ file_blocks file.bytes) where
  abbrev count : ℕ
  count = file.next - (regs_at m p).x

  abbrev linked-at : Option Mapped → CallResult
  linked-at place =
      needs place E_MEMFUL
      (λ mapped. refuses (nat_le MOST_LINKS (links_at (own_at m p) mapped.slot)) E_MEMFUL (done (after_link m p loaded.first mapped count)))

  by-place : (found : Option ℕ) → highest_free_run (map_at m.memory p) (file_blocks file.bytes) ≡ found
      → links_first m p file loaded ≡ linked-at (mapped-at memory m.memory tied p within file.bytes loaded it found)
  by-place found is =
      ap (λ (entry : ModuleEntry). linked-at (mapped_group loaded.memory p entry.group)) first_is
      ∙ ap linked-at (mapped-new memory m.memory tied p within file.bytes loaded it some found is)

  abbrev placed : Option ℕ → Bool
  placed found = option_map_or (λ slot. nat_lt (links_at (own_at m p) slot) MOST_LINKS) found false

  -- there is none
  pub no-place : has_place m p (file_blocks file.bytes) ≡ false → links_first m p file loaded ≡ refused E_MEMFUL
  no-place none = by (highest_free_run (map_at m.memory p) (file_blocks file.bytes)) refl none
    where
      by : (found : Option ℕ) → highest_free_run (map_at m.memory p) (file_blocks file.bytes) ≡ found → placed found ≡ false → links_first m p file loaded ≡ refused E_MEMFUL
      by None is none = by-place None is
      by (Some slot) is none =
          by-place (Some slot) is
          ∙ ap (λ (full : Bool). refuses full E_MEMFUL
          (done (after_link m p loaded.first (mapped-there memory m.memory tied p within file.bytes loaded it
          slot) count))) (le-leb MOST_LINKS (links_at (own_at m p) slot) (ltb-false (links_at (own_at m p) slot)
          MOST_LINKS none))

  -- there is one
  pub in-place : has_place m p (file_blocks file.bytes) ≡ true → (t : Processes) × (links_first m p file loaded ≡ done t)
  in-place there = by (highest_free_run (map_at m.memory p) (file_blocks file.bytes)) refl there
    where
      by : (found : Option ℕ) → highest_free_run (map_at m.memory p) (file_blocks file.bytes) ≡ found → placed found ≡ true → (t : Processes) × (links_first m p file loaded ≡ done t)
      by None is there = absurd (false≢true there)
      by (Some slot) is there = (
        after_link m p loaded.first (mapped-there memory m.memory tied p within file.bytes loaded it slot) count,
        by-place (Some slot) is
            ∙ ap (λ (full : Bool). refuses full E_MEMFUL
            (done (after_link m p loaded.first (mapped-there memory m.memory tied p within file.bytes loaded it
            slot) count))) (lt-leb MOST_LINKS (links_at (own_at m p) slot) (ltb-true (links_at (own_at m p) slot)
            MOST_LINKS there)),
      )

  -- the first module has no link yet
  pub linked-first : links_entered (with_memory m loaded.memory) p loaded.first count ≡ links_first m p file loaded
  linked-first = ap (λ (entry : ModuleEntry). refuses (has_most_links entry) E_MEMFUL (links_first m p file loaded)) first_is
