-- The next random number, and the next that is drawn.
use Rattle.std.proofs.Common.{◌≡◌, ℕ, ◌+◌, [], ◌∷◌, ◌++◌, refl, ap, ◌∙◌, add-one, arith}
use Rattle.std.proofs.lemmas.List.FromFn.{map-range_with_len_more}
use Rattle.guest_mods.specs.Random.{random, random_after, drawn_by, draws}

pub random-first : (seed : ℕ) → random seed 0 ≡ seed
unfolding random
random-first seed = refl

pub random-next : (seed i : ℕ) → random seed (i + 1) ≡ random_after (random seed i)
unfolding random
random-next seed i = rw add-one refl

-- the same behind a place
pub random-behind : (seed place i : ℕ) → random seed (place + (i + 1)) ≡ random_after (random seed (place + i))
random-behind seed place i =
    let there : place + (i + 1) ≡ place + i + 1 = omega arith in
    ap (random seed) there ∙ random-next seed (place + i)

pub draws-next : (seed most place count x : ℕ) → x ≡ random_after (random seed (place + count)) → draws seed most place (count + 1) ≡ draws seed most place count ++ drawn_by most x ∷ []
draws-next seed most place count x is =
    let step : random seed (place + count + 1) ≡ random_after (random seed (place + count)) = random-next seed (place + count) in
    let whole = map-range_with_len_more (λ i. drawn_by most (random seed i)) (place + 1) count (place + count + 1) (omega arith) in
    let last : drawn_by most (random seed (place + count + 1)) ≡ drawn_by most x = cc in
    whole ∙ ap (λ n. draws seed most place count ++ n ∷ []) last
