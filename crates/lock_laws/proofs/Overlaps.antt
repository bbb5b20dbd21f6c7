-- Ranges with a byte in common overlap.
use Rattle.std.proofs.Common.{◌≡◌, ℕ, ◌<◌, ◌&&◌, Bool, true, false, Option, Some, None, max, lt-ltb, refl, arith}
use Rattle.std.proofs.lemmas.Bool.{false≢true}
use Rattle.lock_model.specs.Conflict.{is_before, overlaps}
use Rattle.lock_model.specs.Laws.{IsIn}
use Rattle.lock_model.specs.declared.lock.Range.{Range}

joined : (x y : Bool) → x ≡ true → y ≡ true → (x && y) ≡ true
joined true true x y = refl
joined true false x y = absurd (false≢true y)
joined false y x e = absurd (false≢true x)

is-before : (byte : ℕ) (end : Option ℕ) → ((last : ℕ) → end ≡ Some last → byte < last) → is_before byte end ≡ true
is-before byte None below = refl
is-before byte (Some stop) below = lt-ltb byte stop (below stop refl)

pub overlaps-by : (a b : Range) (byte : ℕ) → IsIn byte a → IsIn byte b → overlaps a b ≡ true
overlaps-by a b byte in_a in_b =
    joined (is_before (max a.start b.start) a.end) (is_before (max a.start b.start) b.end)
    (is-before (max a.start b.start) a.end (λ last is. omega (arith, in_a.from, in_b.from, in_a.to last is)))
    (is-before (max a.start b.start) b.end (λ last is. omega (arith, in_a.from, in_b.from, in_b.to last is)))
