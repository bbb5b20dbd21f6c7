-- The texts of expressions: terms with signs between them (this project's own).
use Rattle.std.specs.Prelude.{◌≡◌, ℕ, Some, List, [], ◌∷◌, ◌++◌}
use Rattle.asm_model.specs.Expressions.{Term, term}

-- a term with or without `-`, or an expression, a sign and a term
pub data IsExpression : List ℕ → Type 0 where
  one : {text : List ℕ} {t : Term} → term text ≡ Some t → IsExpression text
  minus : {text : List ℕ} {t : Term} → term text ≡ Some t → IsExpression (45 ∷ text)
  plus : {e : List ℕ} {t : Term} (text : List ℕ) → IsExpression e → term text ≡ Some t → IsExpression (e ++ (43 ∷ text))
  less : {e : List ℕ} {t : Term} (text : List ℕ) → IsExpression e → term text ≡ Some t → IsExpression (e ++ (45 ∷ text))

-- one or more expressions, separated by commas
pub data IsExpressionList : List ℕ → List (List ℕ) → Type 0 where
  last : {e : List ℕ} → IsExpression e → IsExpressionList e (e ∷ [])
  more : {list : List ℕ} {es : List (List ℕ)} (e : List ℕ) → IsExpression e → IsExpressionList list es
      → IsExpressionList (e ++ (44 ∷ list)) (e ∷ es)
