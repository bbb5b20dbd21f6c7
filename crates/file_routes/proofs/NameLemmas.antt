-- The names of a walk: all but the last, and the last.
use Rattle.std.proofs.Common.{◌≡◌, ◌∙◌, ℕ, suc, ◌+◌, ◌-◌, ◌≤◌, Bool, Option, Some, List, [], ◌∷◌, length, take, refl, ap, sym, arith}
use Rattle.std.proofs.lemmas.Option.{same_Some}
use Rattle.std.specs.List.{slice_get}
use Rattle.rbf_model.specs.File.{DiskFile}
use Rattle.rbf_model.specs.Walk.{WalkEnd, arrives, not_allowed, not_found, go_on, step, walk}
use Rattle.rbf_walk.specs.Walk.{calls_on, step_calls, walk_calls}
use Rattle.file_rules.specs.Route.{before_last, last_of}

-- a name before others
pub before-first : (name : List ℕ) (rest : List (List ℕ)) → 1 ≤ length rest → before_last (name ∷ rest) ≡ name ∷ before_last rest
before-first name rest some =
    let less : length (name ∷ rest) - 1 ≡ suc (length rest - 1) = omega arith in
    ap (λ (k : ℕ). take k (name ∷ rest)) less

pub last-first : (name : List ℕ) (rest : List (List ℕ)) → 1 ≤ length rest → last_of (name ∷ rest) ≡ last_of rest
last-first name rest some =
    let less : length (name ∷ rest) - 1 ≡ suc (length rest - 1) = omega arith in
    ap (λ (k : ℕ). slice_get (name ∷ rest) k) less

-- on from where a walk arrives, in two parts
on-twice : (end : WalkEnd) (whole first : ℕ → WalkEnd) (then_to : ℕ → WalkEnd) → ((n : ℕ) → whole n ≡ go_on (first n) then_to) → go_on end whole ≡ go_on (go_on end first) then_to
on-twice (arrives n) whole first then_to parts = parts n
on-twice not_allowed whole first then_to parts = refl
on-twice not_found whole first then_to parts = refl

calls-twice : (end : WalkEnd) (whole first : ℕ → ℕ) (ends : ℕ → WalkEnd) (then_calls : ℕ → ℕ)
    → ((n : ℕ) → whole n ≡ first n + calls_on (ends n) then_calls) → calls_on end whole ≡ calls_on end first +
    calls_on (go_on end ends) then_calls
calls-twice (arrives n) whole first ends then_calls parts = parts n
calls-twice not_allowed whole first ends then_calls parts = refl
calls-twice not_found whole first ends then_calls parts = refl

no-further : (end : WalkEnd) → go_on end (λ n. arrives n) ≡ end
no-further (arrives n) = refl
no-further not_allowed = refl
no-further not_found = refl

no-calls : (end : WalkEnd) → calls_on end (λ n. 0) ≡ 0
no-calls (arrives n) = refl
no-calls not_allowed = refl
no-calls not_found = refl

module _ (files : ℕ → Option DiskFile) (user : ℕ) (execute : Bool) where
  -- a walk is that along all names but the last, and a step by that one
  pub walk-last : (names : List (List ℕ)) (d : ℕ) (last : List ℕ) → last_of names ≡ Some last
      → walk files user execute d names ≡ go_on (walk files user execute d (before_last names))
      (λ n. step (files n) user execute last)
  walk-last [] d last is = cc
  walk-last (name ∷ []) d last is =
      no-further (step (files d) user execute name) ∙ ap (λ (name : List ℕ). step (files d) user execute name) (same_Some name last is)
  walk-last (name ∷ (next ∷ rest)) d last is =
      let some : 1 ≤ length (next ∷ rest) = omega arith in
      on-twice (step (files d) user execute name) (λ n. walk files user execute n (next ∷ rest)) (λ n. walk files user execute n (before_last (next ∷ rest))) (λ n. step (files n) user execute last)
      (λ n. walk-last (next ∷ rest) n last (sym (last-first name (next ∷ rest) some) ∙ is))
      ∙ ap (λ (names : List (List ℕ)). go_on (walk files user execute d names) (λ n. step (files n) user execute last)) (sym (before-first name (next ∷ rest) some))

  pub calls-last : (names : List (List ℕ)) (d : ℕ) (last : List ℕ) → last_of names ≡ Some last → walk_calls files user
      execute d names ≡ walk_calls files user execute d (before_last names) + calls_on
      (walk files user execute d (before_last names)) (λ n. step_calls (files n) user execute last)
  calls-last [] d last is = cc
  calls-last (name ∷ []) d last is =
      let none : calls_on (step (files d) user execute name) (λ n. 0) ≡ 0 = no-calls (step (files d) user execute name) in
      let same : step_calls (files d) user execute name ≡ step_calls (files d) user execute last = ap (λ (name : List ℕ). step_calls (files d) user execute name) (same_Some name last is) in
      omega (arith, none, same)
  calls-last (name ∷ (next ∷ rest)) d last is =
      let some : 1 ≤ length (next ∷ rest) = omega arith in
      let on : calls_on (step (files d) user execute name) (λ n. walk_calls files user execute n (next ∷ rest)) ≡
      calls_on (step (files d) user execute name) (λ n. walk_calls files user execute n
      (before_last (next ∷ rest))) + calls_on (walk files user execute d (name ∷ before_last (next ∷ rest)))
      (λ n. step_calls (files n) user execute last) =
      calls-twice (step (files d) user execute name) (λ n. walk_calls files user execute n (next ∷ rest))
      (λ n. walk_calls files user execute n (before_last (next ∷ rest))) (λ n. walk files user execute n
      (before_last (next ∷ rest))) (λ n. step_calls (files n) user execute last)
      (λ n. calls-last (next ∷ rest) n last (sym (last-first name (next ∷ rest) some) ∙ is)) in
      let whole : walk_calls files user execute d (name ∷ (next ∷ rest)) ≡ walk_calls files user execute d
      (name ∷ before_last (next ∷ rest)) + calls_on (walk files user execute d (name ∷ before_last (next ∷ rest)))
      (λ n. step_calls (files n) user execute last) =
      omega (arith, on) in
      whole
      ∙ ap (λ (names : List (List ℕ)). walk_calls files user execute d names + calls_on
      (walk files user execute d names) (λ n. step_calls (files n) user execute last))
      (sym (before-first name (next ∷ rest) some))
