-- One pass over turns finds the first one of greatest age.
use Rattle.std.proofs.Common.{◌≡◌, ℕ, ◌<◌, ◌≤◌, ◌==◌, nat_lt, max, Bool, true, false, cond, Some, None, List, [], ◌∷◌, refl, sym, ap, ◌∙◌, arith}
use Rattle.std.specs.List.{find, fold}
use Rattle.std.proofs.lemmas.Bool.Decides.{nat_tests}
use Rattle.proc_model.specs.declared.turn.Turn.{Turn}
use Rattle.proc_model.specs.Turns.{greatest_age}
use Rattle.os9_sched.specs.Elder.{elder}

-- the greatest age, from another one on
abbrev greatest_from : ℕ → List Turn → ℕ
greatest_from n turns = fold (λ most t. max most t.age) n turns

from-le : (n : ℕ) (turns : List Turn) → n ≤ greatest_from n turns
from-le n [] = omega arith
from-le n (x ∷ turns) = omega (arith, from-le (max n x.age) turns)

-- a turn that is not of the greatest age is passed over
passed : (age : ℕ) (first : Turn) (turns : List Turn) → (first.age == age) ≡ false
    → find (λ t. t.age == age) (first ∷ turns) ≡ find (λ t. t.age == age) turns
passed age first turns other = ap (λ (b : Bool). cond b (Some first) (find (λ t. t.age == age) turns)) other

pass-from : (first : Turn) (turns : List Turn)
    → fold elder (Some first) turns ≡ find (λ t. t.age == greatest_from first.age turns) (first ∷ turns)
pass-from first [] = grind (arith, nat_tests)
pass-from first (second ∷ turns) =
    elim (nat_lt first.age second.age) as (λ b. nat_lt first.age second.age ≡ b
    → fold elder (cond b (Some second) (Some first)) turns
    ≡ find (λ t. t.age == greatest_from (max first.age second.age) turns) (first ∷ second ∷ turns)) [
      | true ↦ λ younger.
          let most : max first.age second.age ≡ second.age = grind (arith, nat_tests, younger) in
          let other : (first.age == greatest_from second.age turns) ≡ false = grind (arith, nat_tests, younger, from-le second.age turns) in
          pass-from second turns
          ∙ sym (passed (greatest_from second.age turns) first (second ∷ turns) other)
          ∙ ap (λ (n : ℕ). find (λ t. t.age == greatest_from n turns) (first ∷ second ∷ turns)) (sym most)
      | false ↦ λ older.
          let most : max first.age second.age ≡ first.age = grind (arith, nat_tests, older) in
          pass-from first turns
          ∙ without (greatest_from first.age turns) first second turns (grind (arith, nat_tests, older)) (from-le first.age turns)
          ∙ ap (λ (n : ℕ). find (λ t. t.age == greatest_from n turns) (first ∷ second ∷ turns)) (sym most)
    ]
    refl
  where
    -- a turn that is not older than the one before it is not found
    without : (age : ℕ) (one two : Turn) (rest : List Turn) → two.age ≤ one.age → one.age ≤ age
        → find (λ t. t.age == age) (one ∷ rest) ≡ find (λ t. t.age == age) (one ∷ two ∷ rest)
    without age one two rest less most =
        elim (one.age == age) as (λ b. (one.age == age) ≡ b → cond b (Some one) (find (λ t. t.age == age) rest)
        ≡ cond b (Some one) (find (λ t. t.age == age) (two ∷ rest))) [
          | true ↦ λ here. refl
          | false ↦ λ other. sym (passed age two rest (grind (arith, nat_tests, other, less, most)))
        ]
        refl

pub one-pass : (turns : List Turn) → fold elder None turns ≡ find (λ t. t.age == greatest_age turns) turns
one-pass [] = refl
one-pass (first ∷ turns) =
    let most : first.age ≡ max 0 first.age = omega arith in
    pass-from first turns ∙ ap (λ (n : ℕ). find (λ t. t.age == greatest_from n turns) (first ∷ turns)) most
