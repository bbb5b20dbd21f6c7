-- The primary modules of processes, when modules leave memory.
use Rattle.std.proofs.Common.{zero, suc, set, inl, inr, ◌⊎◌, ◌≡◌, ℕ, Bool, true, false, Option, Some, None, IsSome, is_some, option_map, option_and_then, List, [], ◌∷◌, ◌++◌, map, take, drop, length, refl, sym, ap, ◌∙◌, subst}
use Rattle.std.specs.Prelude.{slice_get, if◌then◌else◌}
use Rattle.std.proofs.Math.Seq.{take-append_seam}
use Rattle.std.proofs.lemmas.Option.{none-some, same_Some, slice_get-map}
use Rattle.proc_model.specs.declared.module.ModId.{ModId}
use Rattle.proc_model.specs.ModuleList.{ModuleEntry, module_entry_at}
use Rattle.proc_model.specs.declared.own.Own.{Own}
use Rattle.proc_model.specs.ModuleLinks.{still_primary}
use Rattle.proc_state.specs.Sound.{ArePrimaries}

-- a list that is written whole
pub written-whole : {X : Type 0} (n : ℕ) (old new : List X) → n ≡ length old → length new ≡ length old → take n (new ++ drop (length new) old) ≡ new
written-whole n old new whole same = ap (λ (k : ℕ). take k (new ++ drop (length new) old)) (whole ∙ sym same) ∙ take-append_seam new (drop (length new) old)

module _ (entries : List (Option ModuleEntry)) where
  -- a module that is entered still is entered
  kept : (place : Option ModId) (id : ModId) → option_and_then (λ id. if is_some (module_entry_at entries id.0) then Some id else None) place ≡ Some id → IsSome (module_entry_at entries id.0)
  kept None id is = absurd (none-some id is)
  kept (Some other) id is = by_test (is_some (module_entry_at entries other.0)) refl is
    where
      by_test : (test : Bool) → is_some (module_entry_at entries other.0) ≡ test → (if test then Some other else None) ≡ Some id → IsSome (module_entry_at entries id.0)
      by_test true entered is = subst (λ (i : ModId). IsSome (module_entry_at entries i.0)) (same_Some other id is) entered
      by_test false entered is = absurd (none-some id is)

  pub ArePrimaries-still : (owns : List Own) → ArePrimaries (map (still_primary entries) owns) entries
  ArePrimaries-still owns p own id at primary = by_place (slice_get owns p) refl
    where
      by_place : (place : Option Own) → slice_get owns p ≡ place → IsSome (module_entry_at entries id.0)
      by_place None there = absurd (none-some own (sym (slice_get-map (still_primary entries) owns p ∙ ap (option_map (still_primary entries)) there) ∙ at))
      by_place (Some before) there =
          let is : still_primary entries before ≡ own = same_Some _ _ (sym (slice_get-map (still_primary entries) owns p ∙ ap (option_map (still_primary entries)) there) ∙ at) in
          kept before.primary id (ap (λ (o : Own). o.primary) is ∙ primary)

  module _ (others : List (Option ModuleEntry)) (same : (n : ℕ) → is_some (module_entry_at entries n) ≡ is_some (module_entry_at others n)) where
    same_primary : (place : Option ModId) → option_and_then (λ id. if is_some (module_entry_at entries id.0) then Some
        id else None) place ≡ option_and_then (λ id. if is_some (module_entry_at others id.0) then Some id else None)
        place
    same_primary None = refl
    same_primary (Some id) = ap (λ (b : Bool). if b then Some id else None) (same id.0)

    pub still-same : (owns : List Own) → map (still_primary entries) owns ≡ map (still_primary others) owns
    still-same [] = refl
    still-same (own ∷ owns) = λ i. record own { primary = same_primary own.primary i } ∷ still-same owns i

-- what stands at a place of a list in which one place is written
at_written : {X : Type 0} (xs : List X) (p q : ℕ) (new x : X) → slice_get (set xs p new) q ≡ Some x → (x ≡ new) ⊎ (slice_get xs q ≡ Some x)
at_written [] p q new x at = inr at
at_written (first ∷ xs) zero zero new x at = inl (sym (same_Some new x at))
at_written (first ∷ xs) zero (suc q) new x at = inr at
at_written (first ∷ xs) (suc p) zero new x at = inr at
at_written (first ∷ xs) (suc p) (suc q) new x at = at_written xs p q new x at

-- a process that has no primary module any more
pub ArePrimaries-none : (owns : List Own) (entries : List (Option ModuleEntry)) (p : ℕ) (new : Own) → new.primary ≡ None → ArePrimaries owns entries → ArePrimaries (set owns p new) entries
ArePrimaries-none owns entries p new none primaries q own id at primary = by_place (at_written owns p q new own at)
  where
    by_place : (own ≡ new) ⊎ (slice_get owns q ≡ Some own) → IsSome (module_entry_at entries id.0)
    by_place (inl is) = absurd (none-some id (sym none ∙ sym (ap (λ (o : Own). o.primary) is) ∙ primary))
    by_place (inr stood) = primaries q own id stood primary

-- the modules that are entered stay so
pub ArePrimaries-kept : (owns : List Own) (entries later : List (Option ModuleEntry))
    → ((n : ℕ) → is_some (module_entry_at later n) ≡ is_some (module_entry_at entries n)) → ArePrimaries owns entries
    → ArePrimaries owns later
ArePrimaries-kept owns entries later same primaries p own id at primary = same id.0 ∙ primaries p own id at primary
