-- If no lock is held, none conflicts.
use Rattle.std.proofs.Common.{◌≡◌, ◌+◌, ℕ, Bool, false, cond, Option, Some, None, List, [], ◌∷◌, refl, is_some, count_by, arith}
use Rattle.std.specs.List.{list_any}
use Rattle.std.proofs.lemmas.List.Sums.{sum_by-cons}
use Rattle.lock_model.specs.declared.lock.Held.{Held}
use Rattle.lock_model.specs.Conflict.{is_opposed_by}

abbrev weight : Option Held → ℕ
weight place = cond (is_some place) 1 0

pub none_opposed : (asked : Held) (test : ℕ → Bool) (places : List (Option Held)) → count_by is_some places ≡ 0
    → list_any (is_opposed_by asked test) places ≡ false
none_opposed asked test [] none = refl
none_opposed asked test (None ∷ rest) none =
    let more : ◌≡◌ {A = ℕ} (count_by is_some (None ∷ rest)) (0 + count_by is_some rest) = sum_by-cons weight None rest in
    none_opposed asked test rest (omega (arith, more, none))
none_opposed asked test (Some lock ∷ rest) none =
    let more : ◌≡◌ {A = ℕ} (count_by is_some (Some lock ∷ rest)) (1 + count_by is_some rest) = sum_by-cons weight (Some lock) rest in
    absurd (omega (arith, more, none))
