-- Whole numbers modulo a power of two.
use Rattle.std.proofs.Common.{◌≡◌, ℕ, ◌+◌, ◌-◌, ◌%◌, ◌<◌, refl, ap, ◌∙◌, inl, inr, arith, ℤ, pos, negsuc, ◌-ℤ◌}
use Rattle.std.specs.Int.{int_rem_euclid}
use Rattle.std.proofs.lemmas.Bool.{cases_lt}
use Rattle.std.proofs.lemmas.Int.{ints, to_z-of_z}
use mir.Syntax.{Width}
use mir.Val.{SFits, of_z, to_z}
use Rattle.asm_model.specs.Operands.{modulo, distance}

euclid-modulo : (count : ℕ) (z : ℤ) → int_rem_euclid z (pos count) ≡ pos (modulo count z)
euclid-modulo count (pos n) = refl
euclid-modulo count (negsuc n) = refl

-- what `rem_euclid` answers
pub remainder-is : (w : Width) (count : ℕ) (z result : ℤ) → SFits w z → result ≡ int_rem_euclid (to_z w (of_z w z)) (pos count) → result ≡ pos (modulo count z)
remainder-is w count z result fits is = is ∙ ap (λ y. int_rem_euclid y (pos count)) (to_z-of_z w z fits) ∙ euclid-modulo count z

pub modulo-below : (count : ℕ) (z : ℤ) → 0 < count → modulo count z < count
modulo-below count (pos n) some = omega arith
modulo-below count (negsuc n) some = omega arith

-- the distance of a target, from the remainders
pub distance-is : (next : ℕ) (z : ℤ) → distance next z ≡ (modulo 65536 z + 65536 - next % 65536) % 65536
distance-is next (pos n) = elim (cases_lt n next) [
  | inl below ↦
      let apart : pos n -ℤ pos next ≡ negsuc (next - n - 1) = omega (arith, ints) in
      ap (modulo 65536) apart ∙ omega arith
  | inr past ↦
      let apart : pos n -ℤ pos next ≡ pos (n - next) = omega (arith, ints) in
      ap (modulo 65536) apart ∙ omega arith
]
distance-is next (negsuc n) =
    let apart : negsuc n -ℤ pos next ≡ negsuc (n + next) = omega (arith, ints) in
    ap (modulo 65536) apart ∙ omega arith
