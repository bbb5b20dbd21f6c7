-- Who has a turn, how many turns there are, and what a choice depends on.
use Rattle.std.proofs.Common.{◌≡◌, ℕ, min, zero, suc, ◌+◌, ◌<◌, ◌≤◌, ◌==◌, Bool, true, false, not, ◌&&◌, ◌||◌, cond, Option, Some, None, option_map, List, [], ◌∷◌, ◌++◌, map, length, refl, ap, subst, ◌∙◌, arith}
use Rattle.std.specs.List.{find}
use Rattle.std.proofs.lemmas.Bool.Decides.{nat_tests}
use Rattle.os9_base.specs.declared.registers.Pid.{Pid}
use Rattle.proc_model.specs.declared.turn.Turn.{Turn}
use Rattle.proc_model.specs.Turns.{aged, without_turn, with_turn, has_turn, AreOnce, ready_turns, greatest_age, eldest, after_choice, choose, Choice}

-- who has a turn after one turn more, without a process, and after the ages have changed
pub has_turn-push : (order : List Turn) (t : Turn) (p : ℕ) → has_turn (order ++ t ∷ []) p ≡ (has_turn order p || (t.process.0 == p))
has_turn-push [] t p = elim (t.process.0 == p) as (λ b. (b || false) ≡ b) [ true ↦ refl | false ↦ refl ]
has_turn-push (x ∷ order) t p = elim (x.process.0 == p) as (λ b. (b || has_turn (order ++ t ∷ []) p) ≡
    ((b || has_turn order p) || (t.process.0 == p))) [ true ↦ refl | false ↦ has_turn-push order t p ]

pub has_turn-without : (order : List Turn) (p q : ℕ) → has_turn (without_turn order p) q ≡ (not (q == p) && has_turn order q)
has_turn-without [] p q = elim (q == p) as (λ b. false ≡ (not b && false)) [ true ↦ refl | false ↦ refl ]
has_turn-without (x ∷ order) p q = grind (arith, nat_tests, has_turn-without order p q)

pub has_turn-aged : (is_ready : ℕ → Bool) (priority : ℕ → ℕ) (order : List Turn) (p : ℕ) → has_turn (map (aged is_ready priority) order) p ≡ has_turn order p
has_turn-aged is_ready priority [] p = refl
has_turn-aged is_ready priority (x ∷ order) p = ap (λ (b : Bool). (x.process.0 == p) || b) (has_turn-aged is_ready priority order p)

-- the ages change whether or not a process has left
pub without-aged : (is_ready : ℕ → Bool) (priority : ℕ → ℕ) (order : List Turn) (p : ℕ)
    → without_turn (map (aged is_ready priority) order) p ≡ map (aged is_ready priority) (without_turn order p)
without-aged is_ready priority [] p = refl
without-aged is_ready priority (x ∷ order) p =
    elim (x.process.0 == p) as (λ b. cond (not b) (aged is_ready priority x ∷ without_turn
    (map (aged is_ready priority) order) p) (without_turn (map (aged is_ready priority) order) p) ≡ map
    (aged is_ready priority) (cond (not b) (x ∷ without_turn order p) (without_turn order p))) [
      | true ↦ without-aged is_ready priority order p
      | false ↦ ap (λ (ts : List Turn). aged is_ready priority x ∷ ts) (without-aged is_ready priority order p)
    ]

-- no process has two turns then
pub AreOnce-push : (order : List Turn) (t : Turn) → has_turn order t.process.0 ≡ false → AreOnce order → AreOnce (order ++ t ∷ [])
AreOnce-push [] t absent once = (refl, tt)
AreOnce-push (x ∷ order) t absent once = (grind (arith, nat_tests, has_turn-push order t x.process.0), AreOnce-push order t (grind (arith, nat_tests)) once.1)

pub AreOnce-without : (order : List Turn) (p : ℕ) → AreOnce order → AreOnce (without_turn order p)
AreOnce-without [] p once = tt
AreOnce-without (x ∷ order) p once =
    elim (x.process.0 == p) as (λ b. AreOnce (cond (not b) (x ∷ without_turn order p) (without_turn order p))) [
      | true ↦ AreOnce-without order p once.1
      | false ↦ (grind (arith, nat_tests, has_turn-without order p x.process.0), AreOnce-without order p once.1)
    ]

pub AreOnce-aged : (is_ready : ℕ → Bool) (priority : ℕ → ℕ) (order : List Turn) → AreOnce order → AreOnce (map (aged is_ready priority) order)
AreOnce-aged is_ready priority [] once = tt
AreOnce-aged is_ready priority (x ∷ order) once =
    (has_turn-aged is_ready priority order x.process.0 ∙ once.0, AreOnce-aged is_ready priority order once.1)

-- there are no more turns than numbers
without-absent : (order : List Turn) (p : ℕ) → has_turn order p ≡ false → without_turn order p ≡ order
without-absent [] p absent = refl
without-absent (x ∷ order) p absent = grind (arith, nat_tests, without-absent order p)

length-without : (order : List Turn) (p : ℕ) → AreOnce order → length order ≤ length (without_turn order p) + 1
length-without [] p once = omega arith
length-without (x ∷ order) p once = grind (arith, nat_tests, length-without order p once.1, without-absent order p)

pub length-turns : (n : ℕ) (order : List Turn) → AreOnce order → ((p : ℕ) → has_turn order p ≡ true → p < n) → length order ≤ n
length-turns zero [] once below = omega arith
length-turns zero (x ∷ order) once below = absurd (omega (arith, below x.process.0 (grind (arith, nat_tests))))
length-turns (suc n) order once below =
    omega (arith, length-without order n once, length-turns n (without_turn order n) (AreOnce-without order n once) (λ p h. grind (arith, nat_tests, below p, has_turn-without order n p)))

-- turns and ages where readiness and priority agree
abbrev choice_of : Option Pid → List Turn → Choice
choice_of chosen order = record { chosen = chosen; order = order }

ready_turns-agree : (is_ready other : ℕ → Bool) (order : List Turn) → ((p : ℕ) → has_turn order p ≡ true → is_ready p ≡ other p)
    → ready_turns is_ready order ≡ ready_turns other order
ready_turns-agree is_ready other [] same = refl
ready_turns-agree is_ready other (x ∷ order) same =
    ap (λ (b : Bool). cond b (x ∷ ready_turns is_ready order) (ready_turns is_ready order)) (same x.process.0 (grind (arith, nat_tests)))
    ∙ ap (λ (ts : List Turn). cond (other x.process.0) (x ∷ ts) ts) (ready_turns-agree is_ready other order (λ p has. same p (grind (arith, nat_tests))))

aged-agree : (is_ready other : ℕ → Bool) (priority also : ℕ → ℕ) (order : List Turn)
    → ((p : ℕ) → has_turn order p ≡ true → is_ready p ≡ other p) → ((p : ℕ) → has_turn order p ≡ true → priority p ≡ also p)
    → map (aged is_ready priority) order ≡ map (aged other also) order
aged-agree is_ready other priority also [] same alike = refl
aged-agree is_ready other priority also (x ∷ order) same alike =
    ap (λ (b : Bool). record x { age = cond b (min 255 (x.age + 1)) (priority x.process.0) } ∷ map (aged is_ready priority) order) (same x.process.0 (grind (arith, nat_tests)))
    ∙ ap (λ (n : ℕ). record x { age = cond (other x.process.0) (min 255 (x.age + 1)) n } ∷ map (aged is_ready priority) order) (alike x.process.0 (grind (arith, nat_tests)))
    ∙ ap (λ (ts : List Turn). aged other also x ∷ ts) (aged-agree is_ready other priority also order (λ p has. same p (grind (arith, nat_tests))) (λ p has. alike p (grind (arith, nat_tests))))

found_turn : (is_ready : ℕ → Bool) (test : Turn → Bool) (order : List Turn) (t : Turn) → find test (ready_turns is_ready order) ≡ Some t
    → has_turn order t.process.0 ≡ true
found_turn is_ready test [] t found = absurd (cc)
found_turn is_ready test (x ∷ order) t found = grind (arith, nat_tests, found_turn is_ready test order t)

-- who is chosen has a turn
pub has_turn-eldest : (is_ready : ℕ → Bool) (order : List Turn) (p : Pid) → eldest (ready_turns is_ready order) ≡ Some p → has_turn order p.0 ≡ true
has_turn-eldest is_ready order p chosen =
    elim (find (λ t. t.age == greatest_age (ready_turns is_ready order)) (ready_turns is_ready order)) as
    (λ o. find (λ t. t.age == greatest_age (ready_turns is_ready order)) (ready_turns is_ready order) ≡ o
    → option_map (λ (t : Turn). t.process) o ≡ Some p → has_turn order p.0 ≡ true) [
      | None ↦ λ e h. absurd (cc)
      | Some t ↦ λ e h. let same : t.process ≡ p = cc in subst (λ (q : Pid). has_turn order q.0 ≡ true) same (found_turn is_ready (λ u. u.age == greatest_age (ready_turns is_ready order)) order t e)
    ]
    refl chosen

after_choice-agree : (is_ready other : ℕ → Bool) (priority also : ℕ → ℕ) (order : List Turn) (chosen : Option Pid)
    → ((p : Pid) → chosen ≡ Some p → has_turn order p.0 ≡ true)
    → ((p : ℕ) → has_turn order p ≡ true → is_ready p ≡ other p) → ((p : ℕ) → has_turn order p ≡ true → priority p ≡ also p)
    → after_choice is_ready priority order chosen ≡ after_choice other also order chosen
after_choice-agree is_ready other priority also order None has same alike = aged-agree is_ready other priority also order same alike
after_choice-agree is_ready other priority also order (Some p) has same alike =
    ap (λ (ts : List Turn). with_turn ts p (priority p.0)) (aged-agree is_ready other priority also
    (without_turn order p.0) (λ q h. same q (grind (arith, has_turn-without order p.0 q)))
    (λ q h. alike q (grind (arith, has_turn-without order p.0 q))))
    ∙ ap (λ (n : ℕ). with_turn (map (aged other also) (without_turn order p.0)) p n) (alike p.0 (has p refl))

-- a choice depends on the readiness and the priority of those that have a turn, and of nobody else
pub choose-agree : (is_ready other : ℕ → Bool) (priority also : ℕ → ℕ) (order : List Turn)
    → ((p : ℕ) → has_turn order p ≡ true → is_ready p ≡ other p) → ((p : ℕ) → has_turn order p ≡ true → priority p ≡ also p)
    → choose is_ready priority order ≡ choose other also order
choose-agree is_ready other priority also order same alike =
    ap (λ (ts : List Turn). choice_of (eldest ts) (after_choice is_ready priority order (eldest ts))) (ready_turns-agree is_ready other order same)
    ∙ ap (λ (o : List Turn). choice_of (eldest (ready_turns other order)) o) (after_choice-agree is_ready other
    priority also order (eldest (ready_turns other order)) (has_turn-eldest other order) same alike)
