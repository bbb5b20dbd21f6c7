-- Tables that are filled with one value, and in which places are given.
use Rattle.std.proofs.Common.{◌≡◌, ℕ, zero, suc, ◌<◌, List, length, get_or, set, replicate, Option, Some, None, refl, sym, ap, ◌∙◌, inl, inr, ⊎_elim}
use Rattle.std.proofs.lemmas.Bool.{cases_eq}
use Rattle.std.proofs.lemmas.List.{get_or-set_same, get_or-set_other, length-set}
use Rattle.rbf_sector_rules.specs.Given.{IsPlaceGiven}
use Rattle.rbf_sector_rules.proofs.Options.{none_some, some_same}

-- a table that is filled with one value has nothing else
filled_at : {A : Type 0} (n i : ℕ) (a : A) → get_or (replicate n a) i a ≡ a
filled_at zero i a = refl
filled_at (suc n) zero a = refl
filled_at (suc n) (suc i) a = filled_at n i a

pub filled : {A : Type 0} (table : List A) (n : ℕ) (a : A) → table ≡ replicate n a → (i : ℕ) → get_or table i a ≡ a
filled table n a is i = ap (λ xs. get_or xs i a) is ∙ filled_at n i a

-- such is one of nothings
pub none_filled : (table : List (Option ℕ)) (n : ℕ) → table ≡ replicate n None → (s m : ℕ) → get_or table s None ≡ Some m → ⊥
none_filled table n is s m h = none_some m (get_or table s None) (filled table n None is s) h

-- a place that is given
pub given_new : (old : List (Option ℕ)) (n c : ℕ) → c < length old → get_or old c None ≡ None → IsPlaceGiven old (set old c (Some n)) n c
given_new old n c low none = record {
  size = length-set old c (Some n);
  kept = λ d m h. ⊎_elim
      (λ same. absurd (none_some m (get_or old d None) (ap (λ e. get_or old e None) same ∙ none) h))
      (λ apart. get_or-set_other old c d (Some n) None apart ∙ h)
      (cases_eq d c);
  only = λ d m h. ⊎_elim
      (λ same. inr (some_same m n (get_or (set old c (Some n)) d None) h (ap (λ e. get_or (set old c (Some n)) e None) same ∙ get_or-set_same old c (Some n) None low), same))
      (λ apart. inl (sym (get_or-set_other old c d (Some n) None apart) ∙ h))
      (cases_eq d c);
  there = (n, get_or-set_same old c (Some n) None low);
}
