-- What links and unlinks leave of the module directory.
use Rattle.std.proofs.Common.{◌≡◌, ◌≢◌, ℕ, zero, suc, ◌+◌, ◌-◌, ◌<◌, ◌≤◌, not, nat_lt, nat_eq, Bool, true, false, Option, Some, None, List, [], ◌∷◌, length, slice_get, refl, sym, ap, ◌∙◌, subst, inl, inr, arith}
use Rattle.std.specs.Prelude.{slice_set, option_and_then, option_map, ◌&&◌, ◌||◌, if◌then◌else◌}
use Rattle.std.specs.Option.{option_map_or}
use Rattle.std.specs.Cmp.Lexicographic.{pointwise}
use Rattle.std.proofs.lemmas.Bool.{cases_lt, cases_eq, eqb-true, false≢true}
use Rattle.std.proofs.lemmas.List.{get_or-set_same, length-set}
use Rattle.std.proofs.lemmas.Option.{slice_get-get_or, slice_get-map, slice_get_past, same_Some}
use Rattle.proc_model.specs.Memory.{MemoryState}
use Rattle.proc_model.specs.MemoryChanges.{linked}
use Rattle.proc_model.specs.ModuleList.{ModuleEntry, module_entry_at, passes, some_entry, entry_linked, entry_unlinked, is_of_group, is_in_use, place_without_group, modules_without_group, with_module_entry, with_unlinked, after_unlink, without_link}
use Rattle.call_laws.specs.Modules.{ModuleStaysOrLeaves, FollowsLinkRules}
use Rattle.call_laws.proofs.Lists.{slice_get-set_other}

-- ---- entries of lists

entry-within : (entries : List (Option ModuleEntry)) (number : ℕ) (entry : ModuleEntry) → module_entry_at entries number ≡ Some entry → number < length entries
entry-within entries number entry is =
    elim (cases_lt number (length entries)) [
      | inl within ↦ within
      | inr past ↦ (let none : module_entry_at entries number ≡ None = ap (option_and_then (λ (entry : Option ModuleEntry). entry)) (slice_get_past entries number past) in cc)
    ]

pub entry-put : (entries : List (Option ModuleEntry)) (number : ℕ) (entry : ModuleEntry) → number < length entries → module_entry_at (with_module_entry entries number entry) number ≡ Some entry
entry-put entries number entry within =
    ap (option_and_then (λ (entry : Option ModuleEntry). entry))
    (slice_get-get_or (slice_set entries number (Some entry)) number None (rw length-set within) ∙ ap Some
    (get_or-set_same entries number (Some entry) None within))

pub entry-other : (entries : List (Option ModuleEntry)) (number : ℕ) (entry : ModuleEntry) (other : ℕ)
    → other ≢ number → module_entry_at (with_module_entry entries number entry) other ≡ module_entry_at entries other
entry-other entries number entry other differ =
    ap (option_and_then (λ (entry : Option ModuleEntry). entry)) (slice_get-set_other entries number other (Some entry) differ)

-- a place of a list without a group
entry-without : (group : List ℕ) (entries : List (Option ModuleEntry)) (number : ℕ)
    → module_entry_at (modules_without_group entries group) number ≡ place_without_group group
    (module_entry_at entries number)
entry-without group entries number =
    ap (option_and_then (λ (entry : Option ModuleEntry). entry)) (slice_get-map (place_without_group group) entries number) ∙ by_place (slice_get entries number)
  where
    by_place : (place : Option (Option ModuleEntry)) → option_and_then (λ (entry : Option ModuleEntry). entry)
        (option_map (place_without_group group) place) ≡ place_without_group group
        (option_and_then (λ (entry : Option ModuleEntry). entry) place)
    by_place None = refl
    by_place (Some place) = refl

-- where no entry passes a test
none-passes : (test : ModuleEntry → Bool) (entries : List (Option ModuleEntry)) (number : ℕ) (entry : ModuleEntry)
    → some_entry test entries ≡ false → module_entry_at entries number ≡ Some entry → test entry ≡ false
none-passes test [] number entry none is = cc
none-passes test (place ∷ entries) zero entry none is =
    first-false (test entry) (some_entry test entries) (subst (λ place. (passes test place || some_entry test entries) ≡ false) is none)
  where
    first-false : (one other : Bool) → (one || other) ≡ false → one ≡ false
    first-false true other neither = neither
    first-false false other neither = refl
none-passes test (place ∷ entries) (suc number) entry none is =
    none-passes test entries number entry (second-false (passes test place) (some_entry test entries) none) is
  where
    second-false : (one other : Bool) → (one || other) ≡ false → other ≡ false
    second-false true other neither = absurd (false≢true (sym neither))
    second-false false other neither = neither

group-is : (group other : List ℕ) → pointwise nat_eq group other ≡ true → group ≡ other
group-is [] [] is = refl
group-is [] (y ∷ other) is = absurd (false≢true is)
group-is (x ∷ group) [] is = absurd (false≢true is)
group-is (x ∷ group) (y ∷ other) is =
    let both = both-true (nat_eq x y) (pointwise nat_eq group other) is in
    let first : x ≡ y = eqb-true x y both.0 in
    let rest : group ≡ other = group-is group other both.1 in λ i. first i ∷ rest i
  where
    both-true : (one other : Bool) → (one && other) ≡ true → (one ≡ true) × (other ≡ true)
    both-true true other is = (refl, is)
    both-true false other is = absurd (false≢true is)

-- ---- links that are added

-- a module has as many links, or more, and else is the same
abbrev pub HasMore : Option ModuleEntry → Option ModuleEntry → Type 0
HasMore (Some old) (Some new) =
    (new ≡ record old { links = new.links }) × (old.links ≤ new.links) × (new.links ≤ old.links + 1)
HasMore (Some old) None = ⊥
HasMore None (Some new) = ⊥
HasMore None None = Unit {0}

abbrev pub HaveMore : List (Option ModuleEntry) → List (Option ModuleEntry) → Type 0
HaveMore entries later = (number : ℕ) → HasMore (module_entry_at entries number) (module_entry_at later number)

more-same : (place : Option ModuleEntry) → HasMore place place
more-same None = tt
more-same (Some entry) = (refl, omega arith, omega arith)

pub more-all : (entries : List (Option ModuleEntry)) → HaveMore entries entries
more-all entries number = more-same (module_entry_at entries number)

pub more-linked : (m : MemoryState) (number : ℕ) → HaveMore m.modules (linked m number).modules
more-linked m number other = by_entry (module_entry_at m.modules number) refl
  where
    by_entry : (place : Option ModuleEntry) → module_entry_at m.modules number ≡ place
        → HasMore (module_entry_at m.modules other)
        (module_entry_at (option_map_or (λ (entry : ModuleEntry). with_module_entry m.modules number
        (entry_linked entry)) place m.modules) other)
    by_entry None is = more-same (module_entry_at m.modules other)
    by_entry (Some entry) is =
        elim (cases_eq other number) [
          | inl same ↦
              subst (λ k. HasMore (module_entry_at m.modules k) (module_entry_at (with_module_entry m.modules number (entry_linked entry)) k)) (sym same)
              (subst (HasMore (module_entry_at m.modules number)) (sym (entry-put m.modules number (entry_linked entry) (entry-within m.modules number entry is)))
              (subst (λ old. HasMore old (Some (entry_linked entry))) (sym is) (refl, omega arith, omega arith)))
          | inr differ ↦
              subst (HasMore (module_entry_at m.modules other)) (sym (entry-other m.modules number (entry_linked entry) other differ)) (more-same (module_entry_at m.modules other))
        ]

-- a link more of a module is told by the directory
pub linked-modules : (m n : MemoryState) (number : ℕ) → n.modules ≡ m.modules → (linked n number).modules ≡ (linked m number).modules
linked-modules m n number same =
    ap (λ (modules : List (Option ModuleEntry)). option_map_or (λ (entry : ModuleEntry). with_module_entry modules number (entry_linked entry)) (module_entry_at modules number) modules) same

comes-more : (entries : List (Option ModuleEntry)) (old new : Option ModuleEntry) → HasMore old new → ModuleStaysOrLeaves entries old new
comes-more entries (Some old) (Some new) more =
    record { same = more.0; rises = more.2; falls = omega (arith, more.1) }
comes-more entries (Some old) None more = absurd more
comes-more entries None (Some new) more = absurd more
comes-more entries None None more = tt

pub keeps-more : (entries later : List (Option ModuleEntry)) → HaveMore entries later → FollowsLinkRules entries later
keeps-more entries later more number =
    comes-more entries (module_entry_at entries number) (module_entry_at later number) (more number)

pub modules-same : (entries : List (Option ModuleEntry)) → FollowsLinkRules entries entries
modules-same entries = keeps-more entries entries (more-all entries)

-- ---- a link that is given up

-- what was there of an entry that is there
pub record Was (old : Option ModuleEntry) (new : ModuleEntry) : Type 0 where
  pub entry : ModuleEntry
  pub is : old ≡ Some entry
  pub rest : new ≡ record entry { links = new.links }
  pub more : entry.links ≤ new.links
  pub most : new.links ≤ entry.links + 1

was : (old new : Option ModuleEntry) (entry : ModuleEntry) → HasMore old new → new ≡ Some entry → Was old entry
was (Some old) (Some new) entry more is =
    subst (Was (Some old)) (same_Some new entry is) (record { entry = old; is = refl; rest = more.0; more = more.1; most = more.2 })
was (Some old) None entry more is = absurd more
was None (Some new) entry more is = absurd more
was None None entry more is = cc

module _ (entries base : List (Option ModuleEntry)) (more : HaveMore entries base) (number : ℕ) (entry : ModuleEntry) (is : module_entry_at base number ≡ Some entry) where
  abbrev less : List (Option ModuleEntry)
  less = with_unlinked base number entry

  here : Was (module_entry_at entries number) entry
  here = was (module_entry_at entries number) (module_entry_at base number) entry (more number) is

  less-here : module_entry_at less number ≡ Some (entry_unlinked entry)
  less-here = entry-put base number (entry_unlinked entry) (entry-within base number entry is)

  -- an entry with one link less
  comes-less : (old : Option ModuleEntry) → Was old entry → ModuleStaysOrLeaves entries old (Some (entry_unlinked entry))
  comes-less old was =
      subst (λ old. ModuleStaysOrLeaves entries old (Some (entry_unlinked entry))) (sym was.is)
      (record {
        same = ap (λ (e : ModuleEntry). record e { links = entry.links - 1 }) was.rest;
        rises = omega (arith, was.most);
        falls = omega (arith, was.more);
      })

  keeps-less : FollowsLinkRules entries less
  keeps-less other =
      elim (cases_eq other number) [
        | inl same ↦
            subst (λ k. ModuleStaysOrLeaves entries (module_entry_at entries k) (module_entry_at less k)) (sym same)
            (subst (ModuleStaysOrLeaves entries (module_entry_at entries number)) (sym less-here) (comes-less (module_entry_at entries number) here))
        | inr differ ↦
            subst (ModuleStaysOrLeaves entries (module_entry_at entries other)) (sym (entry-other base number (entry_unlinked entry) other differ)) (keeps-more entries base more other)
      ]

  -- an entry that had one link at most
  record Had (old : Option ModuleEntry) (left : ModuleEntry) : Type 0 where
    pub before : ModuleEntry
    pub is_old : old ≡ Some before
    pub group : before.group ≡ left.group
    pub few : before.links ≤ left.links + 1

  had : (other : ℕ) (left : ModuleEntry) → module_entry_at less other ≡ Some left → Had (module_entry_at entries other) left
  had other left at =
      elim (cases_eq other number) [
        | inl same ↦ (
            let now : Some (entry_unlinked entry) ≡ Some left = sym less-here ∙ ap (module_entry_at less) (sym same) ∙ at in
            let is_left : entry_unlinked entry ≡ left = same_Some (entry_unlinked entry) left now in
            let links : entry.links - 1 ≡ left.links = ap (λ (e : ModuleEntry). e.links) is_left in
            let group : entry.group ≡ left.group = ap (λ (e : ModuleEntry). e.group) is_left in
            let more_links = here.more in
            record {
              before = here.entry;
              is_old = ap (module_entry_at entries) same ∙ here.is;
              group = sym (ap (λ (e : ModuleEntry). e.group) here.rest) ∙ group;
              few = omega arith;
            })
        | inr differ ↦ (
            let earlier : Was (module_entry_at entries other) left = was (module_entry_at entries other)
            (module_entry_at base other) left (more other)
            (sym (entry-other base number (entry_unlinked entry) other differ) ∙ at) in
            let more_links = earlier.more in
            record {
              before = earlier.entry;
              is_old = earlier.is;
              group = sym (ap (λ (e : ModuleEntry). e.group) earlier.rest);
              few = omega arith;
            })
      ]

  module _ (not_boot : entry.is_boot ≡ false) (unused : is_in_use less entry.group ≡ false) where
    -- an entry of the group leaves, and no other one
    leaves : (other : ℕ) (place : Option ModuleEntry) → module_entry_at less other ≡ place → ModuleStaysOrLeaves entries (module_entry_at entries other) (place_without_group entry.group place)
    leaves other None at = subst (ModuleStaysOrLeaves entries (module_entry_at entries other)) at (keeps-less other)
    leaves other (Some left) at = by_group (is_of_group entry.group left) refl
      where
        no-links : (grouped : Bool) → is_of_group entry.group left ≡ true → (is_of_group entry.group left && nat_lt 0 left.links) ≡ false → left.links ≡ 0
        no-links grouped of none = grind (arith, of, none)

        by_group : (grouped : Bool) → is_of_group entry.group left ≡ grouped → ModuleStaysOrLeaves entries (module_entry_at entries other) (if grouped then None else Some left)
        by_group false of = subst (ModuleStaysOrLeaves entries (module_entry_at entries other)) at (keeps-less other)
        by_group true of =
            let old : Had (module_entry_at entries other) left = had other left at in
            let none : left.links ≡ 0 = no-links true of (none-passes (λ (entry_there : ModuleEntry). is_of_group entry.group entry_there && nat_lt 0 entry_there.links) less other left unused at) in
            let few : old.before.links ≤ left.links + 1 = old.few in
            subst (λ place. ModuleStaysOrLeaves entries place None) (sym old.is_old)
            (record {
              number = number;
              entry = here.entry;
              is = here.is;
              of_group = sym (ap (λ (e : ModuleEntry). e.group) here.rest) ∙ group-is entry.group left.group of ∙ sym old.group;
              not_boot = sym (ap (λ (e : ModuleEntry). e.is_boot) here.rest) ∙ not_boot;
              last_link = omega arith;
            })

    keeps-left : FollowsLinkRules entries (modules_without_group less entry.group)
    keeps-left other =
        subst (ModuleStaysOrLeaves entries (module_entry_at entries other)) (sym (entry-without entry.group less other)) (leaves other (module_entry_at less other) refl)

  keeps-after : FollowsLinkRules entries (after_unlink base number entry)
  keeps-after = by_tests entry.is_boot (is_in_use less entry.group) refl refl
    where
      by_tests : (boot used : Bool) → entry.is_boot ≡ boot → is_in_use less entry.group ≡ used
          → FollowsLinkRules entries (if not boot && not used then modules_without_group less entry.group else less)
      by_tests true used boot_is used_is = keeps-less
      by_tests false true boot_is used_is = keeps-less
      by_tests false false boot_is used_is = keeps-left boot_is used_is

-- a link of an entered module is given up
pub keeps-unlinked : (entries base : List (Option ModuleEntry)) (number : ℕ) → HaveMore entries base → FollowsLinkRules entries (without_link base (Some number))
keeps-unlinked entries base number more = by_entry (module_entry_at base number) refl
  where
    by_entry : (place : Option ModuleEntry) → module_entry_at base number ≡ place → FollowsLinkRules entries (option_map_or (after_unlink base number) place base)
    by_entry None is = keeps-more entries base more
    by_entry (Some entry) is = keeps-after entries base more number entry is
