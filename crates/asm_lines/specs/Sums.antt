-- The texts of expressions of numbers (this project's own).
use Rattle.std.specs.Prelude.{◌≡◌, ℕ, Some, List, ◌∷◌, ◌++◌, ℤ, pos, ◌+ℤ◌, ◌-ℤ◌}
use Rattle.asm_model.specs.Numbers.{number}

-- a number, with or without `-`
pub data IsOneNumber : List ℕ → ℤ → Type 0 where
  plain : {text : List ℕ} {n : ℕ} → number text ≡ Some n → IsOneNumber text (pos n)
  minus : {text : List ℕ} {n : ℕ} → number text ≡ Some n → IsOneNumber (45 ∷ text) (pos 0 -ℤ pos n)

-- an expression of this value: one number, or an expression, a sign and a number
pub data HasValue : List ℕ → ℤ → Type 0 where
  one : {text : List ℕ} {z : ℤ} → IsOneNumber text z → HasValue text z
  plus : {e : List ℕ} {z : ℤ} {n : ℕ} (text : List ℕ) → HasValue e z → number text ≡ Some n
      → HasValue (e ++ (43 ∷ text)) (z +ℤ pos n)
  less : {e : List ℕ} {z : ℤ} {n : ℕ} (text : List ℕ) → HasValue e z → number text ≡ Some n
      → HasValue (e ++ (45 ∷ text)) (z -ℤ pos n)
