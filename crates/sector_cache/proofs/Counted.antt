-- How many places have a sector whose number has a last part.
use Rattle.std.proofs.Common.{◌≡◌, ◌+◌, ℕ, suc, cond, Option, None, List, [], ◌∷◌, refl, ap, arith}
use Rattle.std.specs.Prelude.{count_by}
use Rattle.std.proofs.lemmas.List.Sums.{sum_by-cons}
use Rattle.sector_cache.specs.declared.sector.Sector.{Sector}
use Rattle.sector_cache.specs.Inside.{has_part, in_place}

-- none, if none has a sector
pub none_counted : (part : ℕ) (places : List (Option Sector)) → ((n : ℕ) → in_place places n ≡ None) → count_by (has_part part) places ≡ 0
none_counted part [] none = refl
none_counted part (x ∷ rest) none =
    let here : ◌≡◌ {A = ℕ} (cond (has_part part x) 1 0) 0 = ap (λ (o : Option Sector). cond (has_part part o) 1 0) (none 0) in
    let more : ◌≡◌ {A = ℕ} (count_by (has_part part) (x ∷ rest)) (cond (has_part part x) 1 0 + count_by (has_part part) rest) =
    sum_by-cons (λ (o : Option Sector). cond (has_part part o) 1 0) x rest in
    omega (arith, here, more, none_counted part rest (λ n. none (suc n)))
