-- The first of greatest age is the one to choose.
use Rattle.std.proofs.Common.{◌≡◌, ◌≢◌, ◌⊎◌, inl, inr, ℕ, ◌<◌, ◌≤◌, ◌==◌, max, Bool, true, false, cond, Some, None, is_some, option_map, IfSome, IfNone, List, [], ◌∷◌, ◌++◌, refl, ap, sym, subst, arith}
use Rattle.std.specs.List.{find, fold, AllByRecursion}
use Rattle.std.proofs.lemmas.Bool.Decides.{nat_tests}
use Rattle.proc_model.specs.declared.turn.Turn.{Turn}
use Rattle.proc_model.specs.Turns.{ready_turns, greatest_age, eldest, IsToChoose, NobodyReady}

-- the greatest age, from another one on
abbrev greatest_from : ℕ → List Turn → ℕ
greatest_from n turns = fold (λ most t. max most t.age) n turns

-- a turn that is found among the Ready ones by its age
record IsFoundAt (is_ready : ℕ → Bool) (age : ℕ) (order : List Turn) (t : Turn) : Type 0 where
  before : List Turn
  after : List Turn
  stands : order ≡ before ++ t ∷ after
  ready : is_ready t.process.0 ≡ true
  is_age : t.age ≡ age
  others : AllByRecursion (λ q. is_ready q.process.0 ≡ true → q.age ≢ age) before

found_at : (is_ready : ℕ → Bool) (age : ℕ) (order : List Turn) (t : Turn)
    → find (λ u. u.age == age) (ready_turns is_ready order) ≡ Some t → IsFoundAt is_ready age order t
found_at is_ready age [] t found = absurd (cc)
found_at is_ready age (x ∷ order) t found =
    elim (is_ready x.process.0) as (λ b. is_ready x.process.0 ≡ b → find (λ u. u.age == age)
    (cond b (x ∷ ready_turns is_ready order) (ready_turns is_ready order)) ≡ Some t → IsFoundAt is_ready age
    (x ∷ order) t) [
      | true ↦ λ ready here. elim (x.age == age) as (λ b. (x.age == age) ≡ b
          → cond b (Some x) (find (λ u. u.age == age) (ready_turns is_ready order)) ≡ Some t → IsFoundAt is_ready age
          (x ∷ order) t) [
            | true ↦ λ same it. let is_t : x ≡ t = cc in record {
              before = [];
              after = order;
              stands = ap (λ (u : Turn). u ∷ order) is_t;
              ready = subst (λ (u : Turn). is_ready u.process.0 ≡ true) is_t ready;
              is_age = subst (λ (u : Turn). u.age ≡ age) is_t (grind (arith, nat_tests));
              others = tt;
            }
            | false ↦ λ other it. let rest = found_at is_ready age order t it in record {
              before = x ∷ rest.before;
              after = rest.after;
              stands = ap (λ (ts : List Turn). x ∷ ts) rest.stands;
              ready = rest.ready;
              is_age = rest.is_age;
              others = (λ r e. absurd (grind (arith, nat_tests)), rest.others);
            }
          ]
          refl here
      | false ↦ λ not_ready here. let rest = found_at is_ready age order t here in record {
        before = x ∷ rest.before;
        after = rest.after;
        stands = ap (λ (ts : List Turn). x ∷ ts) rest.stands;
        ready = rest.ready;
        is_age = rest.is_age;
        others = (λ r e. absurd (cc), rest.others);
      }
    ]
    refl found

-- no Ready one is older than the greatest age
from-le : (n : ℕ) (turns : List Turn) → n ≤ greatest_from n turns
from-le n [] = omega arith
from-le n (x ∷ turns) = omega (arith, from-le (max n x.age) turns)

none_older : (is_ready : ℕ → Bool) (n : ℕ) (order : List Turn)
    → AllByRecursion (λ q. is_ready q.process.0 ≡ true → q.age ≤ greatest_from n (ready_turns is_ready order)) order
none_older is_ready n [] = tt
none_older is_ready n (x ∷ order) =
    elim (is_ready x.process.0) as (λ b. is_ready x.process.0 ≡ b → AllByRecursion (λ q. is_ready q.process.0 ≡ true
    → q.age ≤ greatest_from n (cond b (x ∷ ready_turns is_ready order) (ready_turns is_ready order))) (x ∷ order)) [
      | true ↦ λ ready. (λ r. omega (arith, from-le (max n x.age) (ready_turns is_ready order)), none_older is_ready (max n x.age) order)
      | false ↦ λ not_ready. (λ r. absurd (cc), none_older is_ready n order)
    ]
    refl

-- the greatest age is that of a turn, if there is one
attained : (n : ℕ) (turns : List Turn) → (greatest_from n turns ≡ n) ⊎ (is_some (find (λ u. u.age == greatest_from n turns) turns) ≡ true)
attained n [] = inl refl
attained n (x ∷ turns) =
    elim (attained (max n x.age) turns) [
      | inl e ↦ grind (arith, nat_tests)
      | inr e ↦ grind (arith, nat_tests)
    ]

nobody_ready : (is_ready : ℕ → Bool) (order : List Turn) → ready_turns is_ready order ≡ [] → NobodyReady is_ready order
nobody_ready is_ready [] none = tt
nobody_ready is_ready (x ∷ order) none = (grind (arith, none), nobody_ready is_ready order (grind (arith, none)))

found_none : (turns : List Turn) → find (λ u. u.age == greatest_age turns) turns ≡ None → turns ≡ []
found_none [] none = refl
found_none (x ∷ turns) none = absurd (elim (attained 0 (x ∷ turns)) [ inl e ↦ grind (arith, nat_tests, from-le x.age turns) | inr e ↦ cc ])

younger : (is_ready : ℕ → Bool) (age : ℕ) (before after : List Turn)
    → AllByRecursion (λ q. is_ready q.process.0 ≡ true → q.age ≤ age) (before ++ after)
    → AllByRecursion (λ q. is_ready q.process.0 ≡ true → q.age ≢ age) before
    → AllByRecursion (λ q. is_ready q.process.0 ≡ true → q.age < age) before
younger is_ready age [] after most others = tt
younger is_ready age (x ∷ before) after most others = (λ r. omega (arith, most.0 r, others.0 r), younger is_ready age before after most.1 others.1)

to_choose : (is_ready : ℕ → Bool) (order : List Turn) (t : Turn) → find (λ u. u.age == greatest_age (ready_turns is_ready order)) (ready_turns is_ready order) ≡ Some t
    → IsToChoose is_ready order t.process
to_choose is_ready order t found =
    let it = found_at is_ready (greatest_age (ready_turns is_ready order)) order t found in
    let most = none_older is_ready 0 order in
    record {
      before = it.before;
      turn = t;
      after = it.after;
      stands = it.stands;
      is_process = refl;
      ready = it.ready;
      none_older = subst (λ (n : ℕ). AllByRecursion (λ q. is_ready q.process.0 ≡ true → q.age ≤ n) order) (sym it.is_age) most;
      younger_before = subst (λ (n : ℕ). AllByRecursion (λ q. is_ready q.process.0 ≡ true → q.age < n) it.before) (sym it.is_age)
          (younger is_ready (greatest_age (ready_turns is_ready order)) it.before (t ∷ it.after)
          (subst (λ (ts : List Turn). AllByRecursion (λ q. is_ready q.process.0 ≡ true → q.age ≤ greatest_age
          (ready_turns is_ready order)) ts) it.stands most) it.others);
    }

-- who is chosen is the one to choose, and nobody is chosen only if nobody is Ready
pub chosen_if : (is_ready : ℕ → Bool) (order : List Turn) → IfSome (eldest (ready_turns is_ready order)) (IsToChoose is_ready order)
chosen_if is_ready order =
    elim (find (λ u. u.age == greatest_age (ready_turns is_ready order)) (ready_turns is_ready order)) as
    (λ o. find (λ u. u.age == greatest_age (ready_turns is_ready order)) (ready_turns is_ready order) ≡ o
    → IfSome (option_map (λ (t : Turn). t.process) o) (IsToChoose is_ready order)) [
      | None ↦ λ e. tt
      | Some t ↦ λ e. to_choose is_ready order t e
    ]
    refl

pub nobody_if : (is_ready : ℕ → Bool) (order : List Turn) → IfNone (eldest (ready_turns is_ready order)) (NobodyReady is_ready order)
nobody_if is_ready order =
    elim (find (λ u. u.age == greatest_age (ready_turns is_ready order)) (ready_turns is_ready order)) as
    (λ o. find (λ u. u.age == greatest_age (ready_turns is_ready order)) (ready_turns is_ready order) ≡ o
    → IfNone (option_map (λ (t : Turn). t.process) o) (NobodyReady is_ready order)) [
      | None ↦ λ e. nobody_ready is_ready order (found_none (ready_turns is_ready order) e)
      | Some t ↦ λ e. tt
    ]
    refl
