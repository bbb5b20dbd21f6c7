use Rattle.std.proofs.Common.{◌≡◌, ℕ, Bool, true, false, not, cond, eqb, refl}
use Rattle.std.proofs.lemmas.Bool.{false≢true}
use Rattle.lock_model.specs.declared.lock.Grant.{Grant}
use Rattle.lock_model.specs.declared.lock.Grant.TheVariants.{Granted, Locked, Deadlock, Wait}
use Rattle.lock_model.specs.declared.lock.Held.{Held}
use Rattle.lock_model.specs.declared.lock.Request.{Request}
use Rattle.lock_model.specs.Conflict.{conflicts}
use Rattle.lock_model.specs.Locks.{Locks}
use Rattle.lock_model.specs.Waits.{Opposes, closes, first_answer}
use Rattle.lock_model.proofs.Chains.{opposer-of, some-opposer}
use Rattle.lock_model.proofs.laws.a_conflict_is_a_lock_in_the_way.Goals as goal

opposed : (locks : Locks) (asked : Held) → conflicts locks asked ≡ true → (q : ℕ) × Opposes locks asked q
opposed locks asked e = let it = opposer-of locks asked (λ owner. true) e in (it.owner, it.opposes)

opposes : (locks : Locks) (asked : Held) → (q : ℕ) × Opposes locks asked q → conflicts locks asked ≡ true
opposes locks asked (q, it) = some-opposer locks asked (λ owner. true) q it refl

answer : Bool → Bool → Bool → Grant
answer c t k = cond (not c) Granted (cond t Locked (cond k Deadlock Wait))

free : (c t k : Bool) → answer c t k ≡ Granted → c ≡ false
unfolding answer
free false t k e = refl
free true true k e = absurd (differ e)
  where
    differ : Locked ≡ Granted → ⊥
    differ e = cc
free true false true e = absurd (differ e)
  where
    differ : Deadlock ≡ Granted → ⊥
    differ e = cc
free true false false e = absurd (differ e)
  where
    differ : Wait ≡ Granted → ⊥
    differ e = cc

granted : (c t k : Bool) → c ≡ false → answer c t k ≡ Granted
unfolding answer
granted false t k e = refl
granted true t k e = absurd (false≢true (cc))

is_free : (locks : Locks) (request : Request) → first_answer locks request ≡ Granted → conflicts locks request.lock ≡ false
unfolding answer
is_free locks request e = free (conflicts locks request.lock) (eqb request.ticks 1) (closes locks request.lock) e

is_granted : (locks : Locks) (request : Request) → conflicts locks request.lock ≡ false → first_answer locks request ≡ Granted
unfolding answer
is_granted locks request e = granted (conflicts locks request.lock) (eqb request.ticks 1) (closes locks request.lock) e

pub returns : goal.returns
returns c = record {
  conflict = λ locks asked. (opposed locks asked, opposes locks asked);
  granted = λ locks request. (is_free locks request, is_granted locks request);
}
