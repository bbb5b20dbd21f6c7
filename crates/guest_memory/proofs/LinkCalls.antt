-- What a link more or less of an entered module comes to for the whole memory.
use Rattle.std.proofs.Common.{◌≡◌, ◌≢◌, ℕ, ◌-◌, ◌<◌, Bool, true, false, Option, Some, None, IsSome, option_map, List, [], length, get_or, take, All, AllPairs, refl, sym, ap, ◌∙◌, subst, arith}
use Rattle.std.specs.Prelude.{IsSomeAnd, if◌then◌else◌}
use Rattle.std.proofs.lemmas.List.{length-take, get_or-take, get_or_default}
use Rattle.std.proofs.lemmas.Option.{none-some, same_Some}
use Rattle.block_map.proofs.Counts.{count_of-given_all as given_others}
use Rattle.block_map.proofs.Places.{same_id}
use Rattle.std.proofs.lemmas.Bool.{cond-true, cond-false, false≢true}
use Rattle.block_map.specs.TakenBlocks.{group_blocks, pool_after_giving}
use Rattle.block_pool.specs.Blocks.{Blocks, IsPool, IsLive, reference_count}
use Rattle.proc_model.specs.declared.group.BlockId.{BlockId}
use Rattle.proc_model.specs.declared.group.Group.{Group}
use Rattle.proc_model.specs.Group.{group_block_numbers}
use Rattle.proc_model.specs.Memory.{MemoryState}
use Rattle.proc_model.specs.MemoryChanges.{linked, unlinked, is_group_leaving}
use Rattle.proc_model.specs.ModuleList.{ModuleEntry, module_entry_at, with_module_entry, entry_linked, entry_unlinked, with_unlinked, modules_without_group, is_leaving, after_unlink, leaving_group}
use Rattle.proc_model.specs.Slots.{Slots}
use Rattle.guest_memory.specs.Memory.{RepresentMemory}
use Rattle.guest_memory.specs.References.{times}
use Rattle.guest_memory.specs.Sound.{IsSoundMemory}
use Rattle.guest_memory.proofs.Changes.{count_of-given_all}
use Rattle.guest_memory.proofs.Directory.{IsSound-replaced, IsSound-less, IsSound-left, represent-linked, at_less}
use Rattle.guest_memory.proofs.Leaving.{is_group_leaving-tied, represent-unlinked, group-live, group-different}

-- the entry that a number has
pub record IsFound (entries : List (Option ModuleEntry)) (number : ℕ) : Type 0 where
  pub entry : ModuleEntry
  pub is : module_entry_at entries number ≡ Some entry

pub found_entry : (entries : List (Option ModuleEntry)) (number : ℕ) → IsSome (module_entry_at entries number) → IsFound entries number
found_entry entries number some = by_place (module_entry_at entries number) refl some
  where
    by_place : (place : Option ModuleEntry) → module_entry_at entries number ≡ place → IsSome place → IsFound entries number
    by_place None is some = absurd (false≢true some)
    by_place (Some entry) is some = record { entry = entry; is = is }

pub some_from : (P : ModuleEntry → Type 0) (place : Option ModuleEntry) → IsSomeAnd place P → IsSome place
some_from P None has = absurd has
some_from P (Some entry) has = refl

module _ (pool : Blocks) (maps : List (Slots BlockId)) (entries : List (Option ModuleEntry))
    (sound : IsSoundMemory pool maps entries) (number : ℕ) (some : IsSome (module_entry_at entries number)) where
  abbrev entry : ModuleEntry
  entry = (found_entry entries number some).entry

  abbrev is : module_entry_at entries number ≡ Some entry
  is = (found_entry entries number some).is

  -- ---- a link more

  module _ (later : List (Option ModuleEntry)) (linked_is : option_map (λ entry. with_module_entry entries number (entry_linked entry)) (module_entry_at entries number) ≡ Some later) where
    later_is : later ≡ with_module_entry entries number (entry_linked entry)
    later_is = sym (same_Some (with_module_entry entries number (entry_linked entry)) later (sym (ap (option_map (λ entry. with_module_entry entries number (entry_linked entry))) is) ∙ linked_is))

    pub sound-link : IsSoundMemory pool maps later
    sound-link = subst (IsSoundMemory pool maps) (sym later_is) (IsSound-replaced pool maps entries sound number entry is (entry_linked entry) refl refl)

    pub tied-link : (m : MemoryState) → RepresentMemory pool maps entries m → RepresentMemory pool maps later (linked m number)
    tied-link m tied = subst (λ (list : List (Option ModuleEntry)). RepresentMemory pool maps list (linked m number)) (sym later_is) (represent-linked pool maps entries sound number entry is m tied)

  -- ---- a link less

  module _ (later : List (Option ModuleEntry)) (answer : Option Group)
      (list : option_map (after_unlink entries number) (module_entry_at entries number) ≡ Some later)
      (group : option_map (leaving_group entries number) (module_entry_at entries number) ≡ Some
      (option_map group_block_numbers answer)) where
    after_is : later ≡ after_unlink entries number entry
    after_is = sym (same_Some (after_unlink entries number entry) later (sym (ap (option_map (after_unlink entries number)) is) ∙ list))

    leaving_is : leaving_group entries number entry ≡ option_map group_block_numbers answer
    leaving_is = same_Some (leaving_group entries number entry) (option_map group_block_numbers answer) (sym (ap (option_map (leaving_group entries number)) is) ∙ group)

    -- no group goes
    stays : answer ≡ None → is_leaving entries number entry ≡ false
    stays none = by_test (is_leaving entries number entry) refl (leaving_is ∙ ap (option_map group_block_numbers) none)
      where
        by_test : (test : Bool) → is_leaving entries number entry ≡ test → (if test then Some entry.group else None) ≡ None → test ≡ false
        by_test true at this = cc
        by_test false at this = refl

    pub sound-unlink_stays : answer ≡ None → IsSoundMemory pool maps later
    sound-unlink_stays none =
        subst (IsSoundMemory pool maps) (sym (after_is ∙ cond-false (is_leaving entries number entry)
        (modules_without_group (with_unlinked entries number entry) entry.group) (with_unlinked entries number
        entry) (stays none)))
        (IsSound-less pool maps entries sound number entry is)

    pub tied-unlink_stays : answer ≡ None → (m : MemoryState) → RepresentMemory pool maps entries m → RepresentMemory pool maps later (unlinked m number)
    tied-unlink_stays none m tied =
        subst (λ (list : List (Option ModuleEntry)). RepresentMemory pool maps list (unlinked m number)) (sym after_is) (represent-unlinked pool maps entries sound number entry is pool [] refl m tied)

    pub leaves_not : answer ≡ None → (m : MemoryState) → RepresentMemory pool maps entries m → false ≡ is_group_leaving m number
    leaves_not none m tied = sym (is_group_leaving-tied pool maps entries sound number entry is m tied ∙ stays none)

    -- a group goes
    module _ (gone : Group) (answer_is : answer ≡ Some gone) where
      goes : (is_leaving entries number entry ≡ true) × (entry.group ≡ group_block_numbers gone)
      goes = by_test (is_leaving entries number entry) refl (leaving_is ∙ ap (option_map group_block_numbers) answer_is)
        where
          by_test : (test : Bool) → is_leaving entries number entry ≡ test → (if test then Some entry.group else None)
              ≡ Some (group_block_numbers gone) → (test ≡ true) × (entry.group ≡ group_block_numbers gone)
          by_test true at this = (refl, same_Some entry.group (group_block_numbers gone) this)
          by_test false at this = absurd (none-some (group_block_numbers gone) this)

      pub gone-live : All (λ id. IsLive pool id.0) (group_blocks gone)
      gone-live = group-live pool maps entries sound number entry is (group_blocks gone) goes.1

      pub gone-different : AllPairs (λ a b. a ≢ b) (group_blocks gone)
      gone-different = group-different pool maps entries sound number entry is (group_blocks gone) goes.1

      module _ (after : Blocks) (given : after ≡ pool_after_giving pool (group_blocks gone)) where
        counts : (block : ℕ) → reference_count after block ≡ reference_count pool block - times block entry.group
        counts block = ap (λ (p : Blocks). reference_count p block) given ∙ count_of-given_all pool
            (group_blocks gone) block ∙ ap (λ (g : List ℕ). reference_count pool block - times block g) (sym goes.1)

        pub sound-unlink_leaves : (IsPool pool → IsPool after) → IsSoundMemory after maps later
        sound-unlink_leaves shape =
            subst (IsSoundMemory after maps) (sym (after_is ∙ cond-true (is_leaving entries number entry)
            (modules_without_group (with_unlinked entries number entry) entry.group) (with_unlinked entries number
            entry) goes.0))
            (IsSound-left pool maps (with_unlinked entries number entry) (IsSound-less pool maps entries sound number
            entry is) number (entry_unlinked entry) (at_less pool maps entries sound number entry is) after counts
            (shape sound.shape))

        pub tied-unlink_leaves : (m : MemoryState) → RepresentMemory pool maps entries m → RepresentMemory after maps later (unlinked m number)
        tied-unlink_leaves m tied =
            subst (λ (list : List (Option ModuleEntry)). RepresentMemory after maps list (unlinked m number))
            (sym after_is) (represent-unlinked pool maps entries sound number entry is after (group_blocks gone)
            given m tied)

        pub leaves_so : (m : MemoryState) → RepresentMemory pool maps entries m → true ≡ is_group_leaving m number
        leaves_so m tied = sym (is_group_leaving-tied pool maps entries sound number entry is m tied ∙ goes.0)

-- the next block that is given back is live
pub next_given : (pool now : Blocks) (ids : List BlockId) (k : ℕ) (d : BlockId) → k < length ids
    → All (λ id. IsLive pool id.0) ids → AllPairs (λ a b. a ≢ b) ids → now ≡ pool_after_giving pool (take k ids)
    → IsLive now (get_or ids k d).0
next_given pool now ids k d within live different given =
    let block = get_or ids k d in
    let others : All (λ (id : BlockId). id.0 ≢ block.0) (take k ids) = λ j e inside same.
    let below : j < k = omega (arith, length-take k ids) in
    absurd (different j k d below within (sym (get_or-take k ids j d below) ∙ same_id (get_or (take k ids) j d) block
    (ap (λ (id : BlockId). id.0) (get_or_default (take k ids) j d e inside) ∙ same))) in
    omega (arith, ap (λ (p : Blocks). reference_count p block.0) given, given_others pool (take k ids) block.0 others, live k d within)
