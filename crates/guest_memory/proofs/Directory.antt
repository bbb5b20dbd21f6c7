-- Memory is sound still after links and entries have changed, and so is what they represent.
use Rattle.std.proofs.Common.{◌≡◌, ◌≢◌, ℕ, zero, suc, ◌+◌, ◌-◌, ◌*◌, ◌<◌, ◌≤◌, ◌&&◌, ◌||◌, nat_eq, nat_lt, not, Bool, true, false, Option, Some, None, is_none, option_map, ◌⊎◌, inl, inr, List, [], ◌∷◌, ◌++◌, length, get_or, set, map, position, All, refl, sym, ap, ◌∙◌, subst, arith}
use Rattle.std.specs.Prelude.{if◌then◌else◌}
use Rattle.std.specs.List.{list_any}
use Rattle.std.specs.Option.{option_map_or}
use Rattle.std.specs.Cmp.Lexicographic.{pointwise}
use Rattle.std.proofs.lemmas.List.{length-set, length-map, map-set, get_or_default}
use Rattle.std.proofs.lemmas.Option.{none-some, same_Some}
use Rattle.std.proofs.lemmas.Bool.{cases_eq, cases_Bool, cond-true, cond-false, both_ways, false≢true}
use Rattle.block_pool.specs.Blocks.{Blocks, IsPool, IsLive, reference_count}
use Rattle.proc_model.specs.declared.group.BlockId.{BlockId}
use Rattle.proc_model.specs.declared.module.ModuleInfo.{ModuleInfo}
use Rattle.proc_model.specs.Memory.{MemoryState}
use Rattle.proc_model.specs.MemoryChanges.{linked, unlinked, is_group_leaving}
use Rattle.proc_model.specs.ModuleList.{ModuleEntry, module_entry_at, passes, some_entry, is_of_group, is_in_use, place_without_group, modules_without_group, with_module_entry, entry_linked, entry_unlinked, with_unlinked, is_leaving, after_unlink, without_link}
use Rattle.proc_model.specs.Slots.{Slots}
use Rattle.proc_model.proofs.ModuleListLaws.{entry_at-with_entry_same, entry_at-with_entry_other}
use Rattle.guest_memory.specs.Memory.{memory_of, RepresentMemory}
use Rattle.guest_memory.specs.References.{times, Has}
use Rattle.guest_memory.specs.Renaming.{RepresentObjects, renamed_entry, renamed_modules}
use Rattle.guest_memory.specs.Sound.{IsGrouped, AreGrouped, IsSoundMemory}
use Rattle.guest_memory.proofs.Times.{times-where, times-at}
use Rattle.guest_memory.proofs.HeldGroups.{grouped_blocks, HasGroup, HasBlock, pointwise-self, pointwise-same, times-group, times-grouped, times-ungrouped, times-same}
use Rattle.guest_memory.proofs.Keeping.{counted_parts, group_live, IsSound-entries}
use Rattle.guest_memory.proofs.Naming.{pointwise-renamed, groups_are_live}

-- an entry stands at one of the numbers
pub entry_within : (entries : List (Option ModuleEntry)) (number : ℕ) (entry : ModuleEntry) → module_entry_at entries number ≡ Some entry → number < length entries
entry_within [] number entry is = absurd (none-some entry is)
entry_within (first ∷ entries) zero entry is = omega arith
entry_within (first ∷ entries) (suc number) entry is = omega (arith, entry_within entries number entry is)

pub entry_at-renamed : (rename : ℕ → ℕ) (entries : List (Option ModuleEntry)) (number : ℕ)
    → module_entry_at (renamed_modules rename entries) number ≡ option_map (renamed_entry rename)
    (module_entry_at entries number)
entry_at-renamed rename [] number = refl
entry_at-renamed rename (first ∷ entries) zero = refl
entry_at-renamed rename (first ∷ entries) (suc number) = entry_at-renamed rename entries number

-- ---- each later entry was there

-- an entry as it was before, of the same group
pub record Was (entries : List (Option ModuleEntry)) (number : ℕ) (entry : ModuleEntry) : Type 0 where
  pub was : ModuleEntry
  pub is : module_entry_at entries number ≡ Some was
  pub group_is : entry.group ≡ was.group
  pub info_is : entry.info ≡ was.info

abbrev pub AreKept : List (Option ModuleEntry) → List (Option ModuleEntry) → Type 0
AreKept entries later = (number : ℕ) (entry : ModuleEntry) → module_entry_at later number ≡ Some entry → Was entries number entry

IsGrouped-as : (entry was : ModuleEntry) → entry.group ≡ was.group → entry.info ≡ was.info → IsGrouped was → IsGrouped entry
IsGrouped-as entry was group_is info_is grouped = record {
  some = subst (λ (g : List ℕ). 1 ≤ length g) (sym group_is) grouped.some;
  few = subst (λ (g : List ℕ). length g ≤ 7) (sym group_is) grouped.few;
  once = subst (λ (g : List ℕ). (one other : ℕ) → one < length g → other < length g → get_or g one 0 ≡ get_or g other 0 → one ≡ other) (sym group_is) grouped.once;
  inside = omega (arith, grouped.inside, ap (λ (g : List ℕ). length g) group_is, ap (λ (i : ModuleInfo). i.at) info_is, ap (λ (i : ModuleInfo). i.size) info_is);
  runs = subst (λ (i : ModuleInfo). i.entry < i.size) (sym info_is) grouped.runs;
}

pub AreGrouped-kept : (entries later : List (Option ModuleEntry)) → AreGrouped entries → AreKept entries later → AreGrouped later
AreGrouped-kept entries later all kept = record {
  each = λ number entry is. let was = kept number entry is in IsGrouped-as entry was.was was.group_is was.info_is (all.each number was.was was.is);
  same = λ number other entry another is is_too block has has_too.
      let one = kept number entry is in
      let two = kept other another is_too in
      one.group_is
      ∙ all.same number other one.was two.was one.is two.is block (subst (λ (g : List ℕ). Has g block) one.group_is has) (subst (λ (g : List ℕ). Has g block) two.group_is has_too)
      ∙ sym two.group_is;
}

HasBlock-was : (entries later : List (Option ModuleEntry)) → AreKept entries later → (block : ℕ) → HasBlock later block → HasBlock entries block
HasBlock-was entries later kept block has =
    let was = kept has.number has.entry has.is in
    record { number = has.number; entry = was.was; is = was.is; has = subst (λ (g : List ℕ). Has g block) was.group_is has.has }

HasGroup-was : (entries later : List (Option ModuleEntry)) → AreKept entries later → (number : ℕ) (entry : ModuleEntry) → module_entry_at later number ≡ Some entry → HasGroup entries entry.group
HasGroup-was entries later kept number entry is =
    let was = kept number entry is in
    record { number = number; entry = was.was; is = was.is; group_is = was.group_is }

-- ---- one entry is replaced by one of the same group

module _ (entries : List (Option ModuleEntry)) (place : ℕ) (old new : ModuleEntry) (is : module_entry_at entries place
    ≡ Some old) (group_is : new.group ≡ old.group) (info_is : new.info ≡ old.info) where
  abbrev replaced : List (Option ModuleEntry)
  replaced = with_module_entry entries place new

  here : module_entry_at replaced place ≡ Some new
  here = entry_at-with_entry_same entries place new (entry_within entries place old is)

  pub kept-replaced : AreKept entries (with_module_entry entries place new)
  kept-replaced number entry at =
      elim (cases_eq number place) [
        | inl same ↦
            let it_is : new ≡ entry = same_Some new entry (sym here ∙ ap (module_entry_at replaced) (sym same) ∙ at) in
            record {
              was = old;
              is = ap (module_entry_at entries) same ∙ is;
              group_is = ap (λ (e : ModuleEntry). e.group) (sym it_is) ∙ group_is;
              info_is = ap (λ (e : ModuleEntry). e.info) (sym it_is) ∙ info_is;
            }
        | inr apart ↦ record {
          was = entry;
          is = sym (entry_at-with_entry_other entries place number new apart) ∙ at;
          group_is = refl;
          info_is = refl;
        }
      ]

  pub HasBlock-replaced : (block : ℕ) → HasBlock entries block → HasBlock (with_module_entry entries place new) block
  HasBlock-replaced block has =
      elim (cases_eq has.number place) [
        | inl same ↦
            let it_is : old ≡ has.entry = same_Some old has.entry (sym is ∙ ap (module_entry_at entries) (sym same) ∙ has.is) in
            record { number = place; entry = new; is = here; has = subst (λ (g : List ℕ). Has g block) (ap (λ (e : ModuleEntry). e.group) (sym it_is) ∙ sym group_is) has.has }
        | inr apart ↦ record { number = has.number; entry = has.entry; is = entry_at-with_entry_other entries place has.number new apart ∙ has.is; has = has.has }
      ]

-- ---- the group of a module goes

module _ (entries : List (Option ModuleEntry)) (group : List ℕ) where
  -- what is left was there, and is of another group
  left-was : (number : ℕ) (entry : ModuleEntry) → module_entry_at (modules_without_group entries group) number ≡ Some
      entry → (module_entry_at entries number ≡ Some entry) × (is_of_group group entry ≡ false)
  left-was number entry at = go entries number at
    where
      by_place : (place : Option ModuleEntry) → place_without_group group place ≡ Some entry → (place ≡ Some entry) × (is_of_group group entry ≡ false)
      by_place None at = absurd (none-some entry at)
      by_place (Some found) at =
          elim (cases_Bool (is_of_group group found)) [
            | inl of ↦ absurd (none-some entry (sym (cond-true (is_of_group group found) None (Some found) of) ∙ at))
            | inr other ↦
                let it_is : Some found ≡ Some entry = sym (cond-false (is_of_group group found) None (Some found) other) ∙ at in
                (it_is, ap (is_of_group group) (sym (same_Some found entry it_is)) ∙ other)
          ]

      go : (list : List (Option ModuleEntry)) (number : ℕ) → module_entry_at (modules_without_group list group) number
          ≡ Some entry → (module_entry_at list number ≡ Some entry) × (is_of_group group entry ≡ false)
      go [] number at = absurd (none-some entry at)
      go (place ∷ list) zero at = by_place place at
      go (place ∷ list) (suc number) at = go list number at

  -- an entry of another group is left
  left-still : (number : ℕ) (entry : ModuleEntry) → module_entry_at entries number ≡ Some entry → is_of_group group
      entry ≡ false → module_entry_at (modules_without_group entries group) number ≡ Some entry
  left-still number entry at other = go entries number at
    where
      go : (list : List (Option ModuleEntry)) (number : ℕ) → module_entry_at list number ≡ Some entry → module_entry_at (modules_without_group list group) number ≡ Some entry
      go [] number at = absurd (none-some entry at)
      go (place ∷ list) zero at = ap (place_without_group group) at ∙ cond-false (is_of_group group entry) None (Some entry) other
      go (place ∷ list) (suc number) at = go list number at

  pub kept-left : AreKept entries (modules_without_group entries group)
  kept-left number entry at = record { was = entry; is = (left-was number entry at).0; group_is = refl; info_is = refl }

  -- a block of the group is in no entry that is left
  pub gone : AreGrouped entries → (number : ℕ) (entry : ModuleEntry) → module_entry_at entries number ≡ Some entry
      → group ≡ entry.group → (block : ℕ) → Has group block → HasBlock (modules_without_group entries group) block → ⊥
  gone all number entry at group_is block has left =
      let was = left-was left.number left.entry left.is in
      let same : left.entry.group ≡ entry.group = all.same left.number number left.entry entry was.0 at block left.has (subst (λ (g : List ℕ). Has g block) group_is has) in
      both_ways (is_of_group group left.entry) was.1 (ap (λ (g : List ℕ). pointwise nat_eq group g) (same ∙ sym group_is) ∙ pointwise-self group)

  -- another block of an entry is
  pub left : (block : ℕ) → (Has group block → ⊥) → HasBlock entries block → HasBlock (modules_without_group entries group) block
  left block not_in has =
      elim (cases_Bool (is_of_group group has.entry)) [
        | inl of ↦ absurd (not_in (subst (λ (g : List ℕ). Has g block) (sym (pointwise-same group has.entry.group of)) has.has))
        | inr other ↦ record { number = has.number; entry = has.entry; is = left-still has.number has.entry has.is other; has = has.has }
      ]

  -- each block of the group is named once less by the groups
  pub times-left : AreGrouped entries → (number : ℕ) (entry : ModuleEntry) → module_entry_at entries number ≡ Some
      entry → group ≡ entry.group → (block : ℕ) → times block (grouped_blocks (modules_without_group entries group)) +
      times block group ≡ times block (grouped_blocks entries)
  times-left all number entry at group_is block =
      let after = modules_without_group entries group in
      let all_after = AreGrouped-kept entries after all kept-left in
      elim (cases_eq (times block group) 0) [
        | inl none ↦
            omega (arith, times-same entries after all all_after block (left block (λ has. absurd (omega arith))) (HasBlock-was entries after kept-left block))
        | inr some ↦
            let has : HasBlock entries block = record { number = number; entry = entry; is = at; has = subst (λ (g : List ℕ). Has g block) group_is (omega arith) } in
            omega (
              arith,
              times-grouped entries all block has,
              times-ungrouped after all_after block (gone all number entry at group_is block (omega arith)),
              ap (times block) group_is,
              times-group entry (all.each number entry at) block,
            )
      ]

-- ---- links

module _ (pool : Blocks) (maps : List (Slots BlockId)) (entries : List (Option ModuleEntry))
    (sound : IsSoundMemory pool maps entries) (place : ℕ) (entry : ModuleEntry) (is : module_entry_at entries place ≡ Some
    entry) where
  -- an entry of the same group takes the place
  pub IsSound-replaced : (new : ModuleEntry) → new.group ≡ entry.group → new.info ≡ entry.info → IsSoundMemory pool maps (with_module_entry entries place new)
  IsSound-replaced new group_is info_is =
      let later = with_module_entry entries place new in
      let kept = kept-replaced entries place entry new is group_is info_is in
      let all = AreGrouped-kept entries later sound.groups kept in
      IsSound-entries pool maps entries sound pool later sound.shape (length-set entries place (Some new) ∙ sound.numbers) all
      (λ block. omega (arith, times-same entries later sound.groups all block (HasBlock-replaced entries place entry new is group_is info_is block) (HasBlock-was entries later kept block)))
      (λ block one none. omega arith) (λ number other at. inl (HasGroup-was entries later kept number other at))

  pub represent-linked : (m : MemoryState) → RepresentMemory pool maps entries m → RepresentMemory pool maps (with_module_entry entries place (entry_linked entry)) (linked m place)
  represent-linked m tied =
      let number = tied.number in
      let modules = renamed_modules number entries in
      let found : module_entry_at modules place ≡ Some (renamed_entry number entry) = entry_at-renamed number entries place ∙ ap (option_map (renamed_entry number)) is in
      record {
        number = number;
        objects = tied.objects;
        represent = tied.represent;
        is = ap (λ (s : MemoryState). linked s place) tied.is
            ∙ (λ i. record {
              blocks = length pool.counts;
              objects = tied.objects;
              maps = (memory_of number pool maps entries tied.objects).maps;
              modules = (ap (λ (o : Option ModuleEntry). option_map_or (λ e. with_module_entry modules place
                  (entry_linked e)) o modules) found ∙ sym (map-set (option_map (renamed_entry number)) entries place
                  (Some (entry_linked entry)))) i;
            });
      }

  -- the list with one link less
  abbrev less : List (Option ModuleEntry)
  less = with_unlinked entries place entry

  pub kept-less : AreKept entries (with_unlinked entries place entry)
  kept-less = kept-replaced entries place entry (entry_unlinked entry) is refl refl

  pub at_less : module_entry_at (with_unlinked entries place entry) place ≡ Some (entry_unlinked entry)
  at_less = entry_at-with_entry_same entries place (entry_unlinked entry) (entry_within entries place entry is)

  pub IsSound-less : IsSoundMemory pool maps (with_unlinked entries place entry)
  IsSound-less = IsSound-replaced (entry_unlinked entry) refl refl

-- the entries of a group go, and its blocks are given back
module _ (pool : Blocks) (maps : List (Slots BlockId)) (entries : List (Option ModuleEntry))
    (sound : IsSoundMemory pool maps entries) (place : ℕ) (entry : ModuleEntry) (is : module_entry_at entries place ≡ Some
    entry) (after : Blocks) (given : (block : ℕ) → reference_count after block ≡ reference_count pool block - times
    block entry.group) where
  pub IsSound-left : IsPool after → IsSoundMemory after maps (modules_without_group entries entry.group)
  IsSound-left shape =
      let later = modules_without_group entries entry.group in
      let all = AreGrouped-kept entries later sound.groups (kept-left entries entry.group) in
      let less = times-left entries entry.group sound.groups place entry is refl in
      IsSound-entries pool maps entries sound after later shape (length-map entries (place_without_group entry.group) ∙ sound.numbers) all
      (λ block. omega (arith, given block, less block, counted_parts pool maps entries sound block))
      (λ block one none. omega (arith, given block)) (λ number other at. inl (HasGroup-was entries later (kept-left entries entry.group) number other at))
