-- A deadlock is answered only at a first attempt, for a cycle of waits.
use Rattle.std.proofs.Common.{◌≡◌, ◌≢◌, Bool, true, false, not, eqb, ne_eqb, length, refl, sym, ◌∙◌}
use Rattle.std.proofs.lemmas.Bool.{false≢true}
use Rattle.std.specs.Prelude.{if◌then◌else◌}
use Rattle.lock_model.specs.Conflict.{conflicts}
use Rattle.lock_model.specs.Locks.{Locks}
use Rattle.lock_model.specs.Waits.{Closes, closes, first_answer}
use Rattle.lock_model.specs.declared.lock.Grant.{Grant}
use Rattle.lock_model.specs.declared.lock.Grant.TheVariants.{Deadlock, Granted, Locked, Wait}
use Rattle.lock_model.specs.declared.lock.Request.{Request}
use Rattle.lock_model.specs.declared.lock.TheConstants.{LOCK_PROCESSES}
use Rattle.lock_model.proofs.Chains.{some-opposer}
use Rattle.lock_model.proofs.Longest.{of-closes}
use Rattle.file_laws.specs.Attempt.{Attempt, made_in}
use Rattle.lock_laws.specs.Answered.{IsAnsweredSo}
use Rattle.file_laws.specs.Claims.{ClosesCycle}
use Rattle.file_laws.proofs.LockCauses.{at-first, closes-cycle}

-- ---- a first answer

-- by its tests: a conflict, ticks of 1, and a cycle
answer_by : Bool → Bool → Bool → Grant
answer_by conflict one cycle =
    if not conflict then Granted else (if one then Locked else (if cycle then Deadlock else Wait))

answers : (conflict one cycle : Bool) → conflict ≡ true → one ≡ false → cycle ≡ true → answer_by conflict one cycle ≡ Deadlock
unfolding answer_by
answers true false true conflict one cycle = refl
answers true false false conflict one cycle = absurd (false≢true cycle)
answers true true k conflict one cycle = absurd (false≢true (sym one))
answers false t k conflict one cycle = absurd (false≢true conflict)

refuses : (locks : Locks) (request : Request) → length locks.requests ≡ LOCK_PROCESSES → (request.ticks ≢ 1) × Closes locks request.lock → first_answer locks request ≡ Deadlock
unfolding answer_by
refuses locks request places (ticks, it) =
    answers (conflicts locks request.lock) (eqb request.ticks 1) (closes locks request.lock)
    (some-opposer locks request.lock (λ owner. true) it.first it.opposes refl) (ne_eqb request.ticks 1 ticks)
    (of-closes locks request.lock places it)

-- ---- the answer of an attempt

module _ (it : Attempt) (places : length it.files.records.locks.requests ≡ LOCK_PROCESSES) where
  pub closes-so : IsAnsweredSo Deadlock it → ClosesCycle (made_in it)
  closes-so so = closes-cycle (made_in it) so.request so.requests so.answer

  pub answered-so : ClosesCycle (made_in it) → IsAnsweredSo Deadlock it
  answered-so cycle = record {
    request = cycle.request;
    requests = cycle.requests;
    answer =
        at-first (made_in it) cycle.request cycle.first
        ∙ refuses it.files.records.locks cycle.request places (cycle.waits, cycle.closes);
  }
