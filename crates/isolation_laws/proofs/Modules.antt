-- An object is of the group of an entered module, or it is not.
use Rattle.std.proofs.Common.{◌≡◌, ◌≢◌, ◌⊎◌, ℕ, zero, suc, Option, Some, None, List, [], ◌∷◌, slice_get, refl, sym, ap, subst, inl, inr}
use Rattle.std.proofs.lemmas.Bool.{cases_eq}
use Rattle.std.proofs.lemmas.Option.{none-some, same_Some}
use Rattle.proc_model.specs.Memory.{MemoryState}
use Rattle.proc_model.specs.ModuleList.{ModuleEntry, module_entry_at}
use Rattle.call_laws.specs.Objects.{IsOfModule}

abbrev StandsIn : List ℕ → ℕ → Type 0
StandsIn group object = (k : ℕ) × (slice_get group k ≡ Some object)

stands-next : (x object : ℕ) (group : List ℕ) → x ≢ object → (StandsIn group object → ⊥) → StandsIn (x ∷ group) object → ⊥
stands-next x object group differ none (zero, at) = differ (same_Some x object at)
stands-next x object group differ none (suc k, at) = none (k, at)

stands-in : (group : List ℕ) (object : ℕ) → StandsIn group object ⊎ (StandsIn group object → ⊥)
stands-in [] object = inr (λ it. none-some object it.1)
stands-in (x ∷ group) object = by_first (cases_eq x object) (stands-in group object)
  where
    by_first : (x ≡ object) ⊎ (x ≢ object) → StandsIn group object ⊎ (StandsIn group object → ⊥) → StandsIn (x ∷ group) object ⊎ (StandsIn (x ∷ group) object → ⊥)
    by_first (inl same) rest = inl (0, ap Some same)
    by_first (inr differ) (inl (k, at)) = inl (suc k, at)
    by_first (inr differ) (inr none) = inr (stands-next x object group differ none)

-- it is of the group at one place
abbrev OfPlace : Option ModuleEntry → ℕ → Type 0
OfPlace None object = ⊥
OfPlace (Some entry) object = StandsIn entry.group object

abbrev OfEntries : List (Option ModuleEntry) → ℕ → Type 0
OfEntries entries object = (number : ℕ) × OfPlace (module_entry_at entries number) object

of-place : (place : Option ModuleEntry) (object : ℕ) → OfPlace place object ⊎ (OfPlace place object → ⊥)
of-place None object = inr (λ it. it)
of-place (Some entry) object = stands-in entry.group object

of-next : (place : Option ModuleEntry) (entries : List (Option ModuleEntry)) (object : ℕ) → (OfPlace place object → ⊥) → (OfEntries entries object → ⊥) → OfEntries (place ∷ entries) object → ⊥
of-next place entries object first rest (zero, it) = first it
of-next place entries object first rest (suc number, it) = rest (number, it)

of-entries : (entries : List (Option ModuleEntry)) (object : ℕ) → OfEntries entries object ⊎ (OfEntries entries object → ⊥)
of-entries [] object = inr (λ it. it.1)
of-entries (place ∷ entries) object = by_first (of-place place object) (of-entries entries object)
  where
    by_first : OfPlace place object ⊎ (OfPlace place object → ⊥) → OfEntries entries object ⊎
        (OfEntries entries object → ⊥) → OfEntries (place ∷ entries) object ⊎ (OfEntries (place ∷ entries) object → ⊥)
    by_first (inl it) rest = inl (0, it)
    by_first (inr first) (inl (number, it)) = inl (suc number, it)
    by_first (inr first) (inr rest) = inr (of-next place entries object first rest)

of-there : (m : MemoryState) (object number : ℕ) (place : Option ModuleEntry) → module_entry_at m.modules number ≡ place → OfPlace place object → IsOfModule m object
of-there m object number None is it = absurd it
of-there m object number (Some entry) is it = record { number = number; entry = entry; is = is; stands = it }

pub of-module : (m : MemoryState) (object : ℕ) → IsOfModule m object ⊎ (IsOfModule m object → ⊥)
of-module m object = by_entries (of-entries m.modules object)
  where
    by_entries : OfEntries m.modules object ⊎ (OfEntries m.modules object → ⊥) → IsOfModule m object ⊎ (IsOfModule m object → ⊥)
    by_entries (inl (number, it)) = inl (of-there m object number (module_entry_at m.modules number) refl it)
    by_entries (inr none) =
        inr (λ it. none (it.number, subst (λ (place : Option ModuleEntry). OfPlace place object) (sym it.is) it.stands))
