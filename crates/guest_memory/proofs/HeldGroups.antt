-- The groups of the entered modules: a block is in one of them, once, or in none.
use Rattle.std.proofs.Common.{◌≡◌, ◌≢◌, ℕ, zero, suc, ◌+◌, ◌-◌, ◌<◌, ◌≤◌, ◌==◌, ◌||◌, ◌&&◌, nat_eq, Bool, true, false, Option, Some, None, ◌⊎◌, inl, inr, List, [], ◌∷◌, ◌++◌, length, get_or, map, flat_map, refl, sym, ap, ◌∙◌, subst, arith}
use Rattle.std.specs.Prelude.{if◌then◌else◌}
use Rattle.std.specs.List.{list_any}
use Rattle.std.specs.Cmp.Lexicographic.{pointwise}
use Rattle.std.proofs.lemmas.Option.{none-some, same_Some}
use Rattle.std.proofs.lemmas.Bool.{cases_eq, cases_Bool, cond-true, cond-false, eq-eqb, eqb-true, and_parts, or_cases, or_left, or_right, false≢true, both_ways}
use Rattle.proc_model.specs.ModuleList.{ModuleEntry, module_entry_at, entered_groups, is_of_group}
use Rattle.guest_memory.specs.References.{times, Has}
use Rattle.guest_memory.specs.Sound.{IsGrouped, AreGrouped}
use Rattle.guest_memory.proofs.Times.{times-append, times-once}

-- the blocks of the entered groups
abbrev pub grouped_blocks : List (Option ModuleEntry) → List ℕ
grouped_blocks entries = flat_map (λ group. group) (entered_groups entries)

-- ---- the test that two groups are the same

pub pointwise-self : (group : List ℕ) → pointwise nat_eq group group ≡ true
pointwise-self [] = refl
pointwise-self (x ∷ group) = ap (λ (b : Bool). b && pointwise nat_eq group group) (eq-eqb x x refl) ∙ pointwise-self group

pub pointwise-same : (group other : List ℕ) → pointwise nat_eq group other ≡ true → group ≡ other
pointwise-same [] [] is = refl
pointwise-same [] (y ∷ other) is = absurd (false≢true is)
pointwise-same (x ∷ group) [] is = absurd (false≢true is)
pointwise-same (x ∷ group) (y ∷ other) is =
    let parts = and_parts (nat_eq x y) (pointwise nat_eq group other) is in
    (λ i. eqb-true x y parts.0 i ∷ pointwise-same group other parts.1 i)

-- ---- the list of the groups

-- a group that is known already
abbrev pub is_listed : List ℕ → List (Option ModuleEntry) → Bool
is_listed group entries = list_any (pointwise nat_eq group) (entered_groups entries)

listed_first : (first : ModuleEntry) (entries : List (Option ModuleEntry)) → is_listed first.group entries ≡ true → entered_groups (Some first ∷ entries) ≡ entered_groups entries
listed_first first entries listed = cond-true (is_listed first.group entries) (entered_groups entries) (first.group ∷ entered_groups entries) listed

new_first : (first : ModuleEntry) (entries : List (Option ModuleEntry)) → is_listed first.group entries ≡ false → entered_groups (Some first ∷ entries) ≡ first.group ∷ entered_groups entries
new_first first entries new = cond-false (is_listed first.group entries) (entered_groups entries) (first.group ∷ entered_groups entries) new

-- each entry's group is listed
pub listed-entry : (entries : List (Option ModuleEntry)) (number : ℕ) (entry : ModuleEntry) → module_entry_at entries number ≡ Some entry → is_listed entry.group entries ≡ true
listed-entry [] number entry is = absurd (none-some entry is)
listed-entry (None ∷ entries) zero entry is = absurd (none-some entry is)
listed-entry (None ∷ entries) (suc number) entry is = listed-entry entries number entry is
listed-entry (Some first ∷ entries) zero entry is =
    let same : first ≡ entry = same_Some first entry is in
    subst (λ (e : ModuleEntry). is_listed e.group (Some first ∷ entries) ≡ true) same
    (elim (cases_Bool (is_listed first.group entries)) [
      | inl listed ↦ ap (list_any (pointwise nat_eq first.group)) (listed_first first entries listed) ∙ listed
      | inr new ↦
          ap (list_any (pointwise nat_eq first.group)) (new_first first entries new)
          ∙ or_left (pointwise nat_eq first.group first.group) (is_listed first.group entries) (pointwise-self first.group)
    ])
listed-entry (Some first ∷ entries) (suc number) entry is =
    let rest = listed-entry entries number entry is in
    elim (cases_Bool (is_listed first.group entries)) [
      | inl listed ↦ ap (list_any (pointwise nat_eq entry.group)) (listed_first first entries listed) ∙ rest
      | inr new ↦
          ap (list_any (pointwise nat_eq entry.group)) (new_first first entries new)
          ∙ or_right (pointwise nat_eq entry.group first.group) (is_listed entry.group entries) rest
    ]

-- an entry of a group
pub record HasGroup (entries : List (Option ModuleEntry)) (group : List ℕ) : Type 0 where
  pub number : ℕ
  pub entry : ModuleEntry
  pub is : module_entry_at entries number ≡ Some entry
  pub group_is : group ≡ entry.group

-- what is listed is the group of an entry
pub entry-listed : (entries : List (Option ModuleEntry)) (group : List ℕ) → is_listed group entries ≡ true → HasGroup entries group
entry-listed [] group listed = absurd (false≢true listed)
entry-listed (None ∷ entries) group listed =
    let rest = entry-listed entries group listed in
    record { number = suc rest.number; entry = rest.entry; is = rest.is; group_is = rest.group_is }
entry-listed (Some first ∷ entries) group listed =
    elim (cases_Bool (is_listed first.group entries)) [
      | inl known ↦ later (entry-listed entries group (sym (ap (list_any (pointwise nat_eq group)) (listed_first first entries known)) ∙ listed))
      | inr new ↦
          elim (or_cases (pointwise nat_eq group first.group) (is_listed group entries) (sym (ap (list_any (pointwise nat_eq group)) (new_first first entries new)) ∙ listed)) [
            | inl same ↦ record { number = 0; entry = first; is = refl; group_is = pointwise-same group first.group same }
            | inr rest ↦ later (entry-listed entries group rest)
          ]
    ]
  where
    later : HasGroup entries group → HasGroup (Some first ∷ entries) group
    later rest = record { number = suc rest.number; entry = rest.entry; is = rest.is; group_is = rest.group_is }

-- ---- the blocks of all groups

-- an entry that has a block
pub record HasBlock (entries : List (Option ModuleEntry)) (block : ℕ) : Type 0 where
  pub number : ℕ
  pub entry : ModuleEntry
  pub is : module_entry_at entries number ≡ Some entry
  pub has : Has entry.group block

AreGrouped-rest : (first : Option ModuleEntry) (entries : List (Option ModuleEntry)) → AreGrouped (first ∷ entries) → AreGrouped entries
AreGrouped-rest first entries all = record {
  each = λ number. all.each (suc number);
  same = λ number other. all.same (suc number) (suc other);
}

HasBlock-later : (first : Option ModuleEntry) (entries : List (Option ModuleEntry)) (block : ℕ) → HasBlock entries block → HasBlock (first ∷ entries) block
HasBlock-later first entries block rest = record { number = suc rest.number; entry = rest.entry; is = rest.is; has = rest.has }

-- a group of an entry names a block once or not at all
pub times-group : (entry : ModuleEntry) → IsGrouped entry → (block : ℕ) → times block entry.group ≤ 1
times-group entry grouped = times-once entry.group grouped.once

-- some entry has a block, which is named once, or none has, and it is not named
abbrev IsOnceOrNot : List (Option ModuleEntry) → ℕ → Type 0
IsOnceOrNot entries block = (HasBlock entries block × (times block (grouped_blocks entries) ≡ 1)) ⊎ ((HasBlock entries block → ⊥) × (times block (grouped_blocks entries) ≡ 0))

pub once_or_not : (entries : List (Option ModuleEntry)) → AreGrouped entries → (block : ℕ) → IsOnceOrNot entries block
once_or_not [] all block = inr (λ has. none-some has.entry has.is, refl)
once_or_not (None ∷ entries) all block =
    elim (once_or_not entries (AreGrouped-rest None entries all) block) [
      | inl one ↦ inl (HasBlock-later None entries block one.0, one.1)
      | inr none ↦ inr (λ has. none_here has.number has.entry has.is has.has none.0, none.1)
    ]
  where
    none_here : (number : ℕ) (entry : ModuleEntry) → module_entry_at (None ∷ entries) number ≡ Some entry → Has entry.group block → (HasBlock entries block → ⊥) → ⊥
    none_here zero entry is has none = none-some entry is
    none_here (suc number) entry is has none = none (record { number = number; entry = entry; is = is; has = has })
once_or_not (Some first ∷ entries) all block = by_test (cases_Bool (is_listed first.group entries))
    (once_or_not entries (AreGrouped-rest (Some first) entries all) block) (cases_eq (times block first.group) 0)
  where
    here : Has first.group block → HasBlock (Some first ∷ entries) block
    here has = record { number = 0; entry = first; is = refl; has = has }

    none_here : (number : ℕ) (entry : ModuleEntry) → module_entry_at (Some first ∷ entries) number ≡ Some entry → Has entry.group block → (HasBlock entries block → ⊥) → (Has first.group block → ⊥) → ⊥
    none_here zero entry is has none not_first = not_first (subst (λ (e : ModuleEntry). Has e.group block) (sym (same_Some first entry is)) has)
    none_here (suc number) entry is has none not_first = none (record { number = number; entry = entry; is = is; has = has })

    by_test : (is_listed first.group entries ≡ true) ⊎ (is_listed first.group entries ≡ false) → IsOnceOrNot entries
        block → (times block first.group ≡ 0) ⊎ (times block first.group ≢ 0) → IsOnceOrNot (Some first ∷ entries)
        block
    by_test (inl listed) (inl one) first_times =
        inl (HasBlock-later (Some first) entries block one.0, ap (λ groups. times block (flat_map (λ group. group) groups)) (listed_first first entries listed) ∙ one.1)
    by_test (inl listed) (inr none) first_times =
        let known = entry-listed entries first.group listed in
        let not_first : Has first.group block → ⊥ = λ has. none.0
        (record {
          number = known.number;
          entry = known.entry;
          is = known.is;
          has = subst
              (λ (g : List ℕ). Has g block) known.group_is has;
        }) in
        inr (
          λ has. none_here has.number has.entry has.is has.has none.0 not_first,
          ap (λ groups. times block (flat_map (λ group. group) groups)) (listed_first first entries listed) ∙ none.1,
        )
    by_test (inr new) (inl one) (inl zero_first) =
        inl (
          HasBlock-later (Some first) entries block one.0,
          ap (λ groups. times block (flat_map (λ group. group) groups)) (new_first first entries new)
              ∙ times-append block first.group (grouped_blocks entries)
              ∙ omega (arith, one.1),
        )
    by_test (inr new) (inl one) (inr some_first) =
        let same : first.group ≡ one.0.entry.group = all.same 0 (suc one.0.number) first one.0.entry refl one.0.is block (omega arith) one.0.has in
        absurd (both_ways (is_listed first.group entries) new (ap (λ (g : List ℕ). is_listed g entries) same ∙ listed-entry entries one.0.number one.0.entry one.0.is))
    by_test (inr new) (inr none) (inl zero_first) =
        inr (
          λ has. none_here has.number has.entry has.is has.has none.0 (λ first_has. absurd (omega arith)),
          ap (λ groups. times block (flat_map (λ group. group) groups)) (new_first first entries new)
              ∙ times-append block first.group (grouped_blocks entries)
              ∙ omega (arith, none.1),
        )
    by_test (inr new) (inr none) (inr some_first) =
        inl (
          here (omega arith),
          ap (λ groups. times block (flat_map (λ group. group) groups)) (new_first first entries new)
              ∙ times-append block first.group (grouped_blocks entries)
              ∙ omega (arith, none.1, times-group first (all.each 0 first refl) block),
        )

-- a block of an entry is named once by the groups
pub times-grouped : (entries : List (Option ModuleEntry)) → AreGrouped entries → (block : ℕ) → HasBlock entries block → times block (grouped_blocks entries) ≡ 1
times-grouped entries all block has = elim (once_or_not entries all block) [ inl one ↦ one.1 | inr none ↦ absurd (none.0 has) ]

-- one of no entry is not
pub times-ungrouped : (entries : List (Option ModuleEntry)) → AreGrouped entries → (block : ℕ) → (HasBlock entries block → ⊥) → times block (grouped_blocks entries) ≡ 0
times-ungrouped entries all block none = elim (once_or_not entries all block) [ inl one ↦ absurd (none one.0) | inr not ↦ not.1 ]

-- entries in which the same blocks are grouped name them as often
pub times-same : (entries after : List (Option ModuleEntry)) → AreGrouped entries → AreGrouped after → (block : ℕ)
    → (HasBlock entries block → HasBlock after block) → (HasBlock after block → HasBlock entries block)
    → times block (grouped_blocks after) ≡ times block (grouped_blocks entries)
times-same entries after all all_after block there back =
    elim (once_or_not entries all block) [
      | inl one ↦ times-grouped after all_after block (there one.0) ∙ sym one.1
      | inr none ↦ times-ungrouped after all_after block (λ has. none.0 (back has)) ∙ sym none.1
    ]
