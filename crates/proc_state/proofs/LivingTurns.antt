-- Each living process has one turn, so there are as many turns as living processes.
use Rattle.std.proofs.Common.{◌≡◌, ℕ, suc, ◌+◌, ◌<◌, ◌==◌, cond, Bool, true, false, not, Option, None, List, [], ◌∷◌, length, set, get_or, refl, sym, ap, arith}
use Rattle.std.proofs.lemmas.Bool.Decides.{nat_tests}
use Rattle.std.proofs.lemmas.Grind.{common_steps}
use Rattle.std.proofs.lemmas.List.Sums.{sum_by-cons, sum_by-set}
use Rattle.proc_model.specs.declared.record.Record.{Record}
use Rattle.proc_model.specs.declared.turn.Turn.{Turn}
use Rattle.proc_model.specs.Records.{has_ended, is_living, record_passes}
use Rattle.proc_model.specs.Turns.{AreOnce, has_turn}
use Rattle.proc_state.specs.First.{living_count}
use Rattle.proc_state.proofs.Living.{place-living}

-- a place has a living process
abbrev lives : Option Record → Bool
lives place = record_passes (λ r. not (has_ended r.life)) place

-- nobody lives
nobody : (records : List (Option Record)) → ((p : ℕ) → is_living records p ≡ false) → living_count records ≡ 0
nobody [] none = refl
nobody (place ∷ records) none =
    let others : living_count records ≡ 0 = nobody records (λ p. none (suc p)) in
    let here : ◌≡◌ {A = ℕ} (cond (lives place) 1 0) 0 = ap (λ (b : Bool). cond b 1 0) (none 0) in
    let step : living_count (place ∷ records) ≡ cond (lives place) 1 0 + living_count records =
    sum_by-cons (λ (other : Option Record). cond (lives other) 1 0) place records in
    omega (arith, step, here, others)

-- one lives fewer, without one of them
one-less : (records : List (Option Record)) (p : ℕ) → is_living records p ≡ true → living_count (set records p None) + 1 ≡ living_count records
one-less records p living =
    let both : living_count (set records p None) + cond (lives (get_or records p None)) 1 0 ≡ living_count records + 0 =
    sum_by-set (λ (place : Option Record). cond (lives place) 1 0) records p None None (place-living records p living) in
    let here : ◌≡◌ {A = ℕ} (cond (lives (get_or records p None)) 1 0) 1 = ap (λ (b : Bool). cond b 1 0) living in
    omega (arith, both, here)

-- who lives without one of them
living-set : (records : List (Option Record)) (p q : ℕ) → p < length records
    → is_living (set records p None) q ≡ cond (q == p) false (is_living records q)
living-set records p q within = grind (arith, nat_tests, common_steps)

-- each of them has a turn, and nobody else
pub turns-living : (order : List Turn) (records : List (Option Record)) → AreOnce order
    → ((p : ℕ) → has_turn order p ≡ is_living records p) → length order ≡ living_count records
turns-living [] records once same = sym (nobody records (λ p. sym (same p)))
turns-living (t ∷ order) records once same =
    let p = t.process.0 in
    let living : is_living records p ≡ true = grind (arith, nat_tests, same p) in
    let within = place-living records p living in
    let rest = turns-living order (set records p None) once.1 (λ q. grind (arith, nat_tests, same q, once.0, living-set records p q within)) in
    omega (arith, rest, one-less records p living)
