use Rattle.std.proofs.Common.{◌≡◌, ◌≢◌, ℕ, Bool, true, false, not, cond, eqb, length, sym, ap, refl, ◌∙◌, ne_eqb}
use Rattle.std.proofs.lemmas.Bool.{false≢true}
use Rattle.lock_model.specs.declared.lock.Grant.{Grant}
use Rattle.lock_model.specs.declared.lock.Grant.TheVariants.{Granted, Locked, Deadlock, Wait}
use Rattle.lock_model.specs.declared.lock.Request.{Request}
use Rattle.lock_model.specs.Conflict.{conflicts}
use Rattle.lock_model.specs.Locks.{Locks}
use Rattle.lock_model.specs.Waits.{Closes, closes, first_answer}
use Rattle.lock_model.proofs.Chains.{some-opposer}
use Rattle.lock_model.proofs.Longest.{closes-of, of-closes}
use Rattle.lock_model.proofs.laws.a_deadlock_is_refused.Goals as goal

answer : Bool → Bool → Bool → Grant
answer c t k = cond (not c) Granted (cond t Locked (cond k Deadlock Wait))

tests : (c t k : Bool) → answer c t k ≡ Deadlock → (t ≡ false) × (k ≡ true)
unfolding answer
tests false t k e = absurd (differ e)
  where
    differ : Granted ≡ Deadlock → ⊥
    differ e = cc
tests true true k e = absurd (differ e)
  where
    differ : Locked ≡ Deadlock → ⊥
    differ e = cc
tests true false true e = (refl, refl)
tests true false false e = absurd (differ e)
  where
    differ : Wait ≡ Deadlock → ⊥
    differ e = cc

answers : (c t k : Bool) → c ≡ true → t ≡ false → k ≡ true → answer c t k ≡ Deadlock
unfolding answer
answers true false true c t k = refl
answers true false false c t k = absurd (false≢true k)
answers true true k c t e = absurd (false≢true (sym t))
answers false t k c e f = absurd (false≢true c)

refused : (locks : Locks) (request : Request) → first_answer locks request ≡ Deadlock → (request.ticks ≢ 1) × Closes locks request.lock
unfolding answer
refused locks request e =
    let it = tests (conflicts locks request.lock) (eqb request.ticks 1) (closes locks request.lock) e in
    ((λ one. false≢true (sym it.0 ∙ ap (λ (n : ℕ). eqb n 1) one)), closes-of locks request.lock it.1)

refuses : (locks : Locks) (request : Request) → length locks.requests ≡ 33 → (request.ticks ≢ 1) × Closes locks request.lock → first_answer locks request ≡ Deadlock
unfolding answer
refuses locks request places (ticks, it) =
    answers (conflicts locks request.lock) (eqb request.ticks 1) (closes locks request.lock)
    (some-opposer locks request.lock (λ owner. true) it.first it.opposes refl) (ne_eqb request.ticks 1 ticks)
    (of-closes locks request.lock places it)

pub returns : goal.returns
returns c = λ locks request places. (refused locks request, refuses locks request places)
