-- The byte is the later start.
use Rattle.std.proofs.Common.{◌≡◌, ◌<◌, ◌&&◌, ℕ, Bool, true, false, Option, Some, None, max, ltb-true, lt-ltb, refl, arith}
use Rattle.std.proofs.lemmas.Bool.{false≢true}
use Rattle.lock_model.specs.Conflict.{overlaps, is_before}
use Rattle.lock_model.specs.Laws.{IsIn}
use Rattle.lock_model.specs.declared.lock.Range.{Range}
use Rattle.lock_model.proofs.laws.ranges_overlap_in_a_byte.Goals as goal

both : (x y : Bool) → (x && y) ≡ true → (x ≡ true) × (y ≡ true)
both true true e = (refl, refl)
both true false e = absurd (false≢true e)
both false y e = absurd (false≢true e)

joined : (x y : Bool) → x ≡ true → y ≡ true → (x && y) ≡ true
joined true true x y = refl
joined true false x y = absurd (false≢true y)
joined false y x e = absurd (false≢true x)

before-end : (byte : ℕ) (end : Option ℕ) → is_before byte end ≡ true → (last : ℕ) → end ≡ Some last → byte < last
before-end byte None e last is = absurd (none-some last is)
  where
    none-some : (x : ℕ) → None ≡ Some x → ⊥
    none-some x e = cc
before-end byte (Some stop) e last is = let same : stop ≡ last = some-same stop last is in omega (arith, ltb-true byte stop e, same)
  where
    some-same : (x y : ℕ) → Some x ≡ Some y → x ≡ y
    some-same x y e = cc

is-before : (byte : ℕ) (end : Option ℕ) → ((last : ℕ) → end ≡ Some last → byte < last) → is_before byte end ≡ true
is-before byte None below = refl
is-before byte (Some stop) below = lt-ltb byte stop (below stop refl)

found : (a b : Range) → overlaps a b ≡ true → (byte : ℕ) × IsIn byte a × IsIn byte b
found a b e =
    let it = both (is_before (max a.start b.start) a.end) (is_before (max a.start b.start) b.end) e in (
      max a.start b.start,
      record { from = omega arith; to = before-end (max a.start b.start) a.end it.0 },
      record { from = omega arith; to = before-end (max a.start b.start) b.end it.1 },
    )

holds : (a b : Range) → (byte : ℕ) × IsIn byte a × IsIn byte b → overlaps a b ≡ true
holds a b (byte, in_a, in_b) =
    joined (is_before (max a.start b.start) a.end) (is_before (max a.start b.start) b.end)
    (is-before (max a.start b.start) a.end (λ last is. omega (arith, in_a.from, in_b.from, in_a.to last is)))
    (is-before (max a.start b.start) b.end (λ last is. omega (arith, in_a.from, in_b.from, in_b.to last is)))

pub returns : goal.returns
returns c = λ a b. (found a b, holds a b)
