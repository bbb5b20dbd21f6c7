-- A request that conflicts with a lock of another process, and does not wait, is answered E$Lock.
use Rattle.std.proofs.Common.{◌≡◌, ◌⊎◌, ◌+◌, ◌&&◌, not, eqb, Bool, true, false, Option, refl, ap, ◌∙◌, inl, inr}
use Rattle.std.specs.Prelude.{is_none, nat_le, nat_lt, if◌then◌else◌}
use Rattle.std.proofs.lemmas.Bool.{eq-eqb, false≢true, le-leb, lt-ltb}
use Rattle.proc_model.specs.CallResult.{CallResult}
use Rattle.os9_base.specs.declared.errors.TheConstants.{E_LOCK}
use Rattle.lock_model.specs.Conflict.{conflicts}
use Rattle.lock_model.specs.Locks.{Locks}
use Rattle.lock_model.specs.Waits.{closes, first_answer, is_late, later_answer}
use Rattle.lock_model.specs.declared.lock.Grant.TheVariants.{Deadlock, Granted, Locked, Wait}
use Rattle.lock_model.specs.declared.lock.Request.{Request}
use Rattle.lock_model.proofs.Chains.{some-opposer}
use Rattle.file_rules.specs.Locking.{answer_to}
use Rattle.file_laws.specs.Attempt.{Attempt, ReportsDriveFault, made_in}
use Rattle.file_laws.specs.Claims.{IsLockedOut, MadePathCall, WaitsNot}
use Rattle.file_laws.proofs.LockCauses.{at-first}
use Rattle.lock_laws.proofs.Answers.{lock-refuses}

-- ---- by the tests of an answer

first-locked : (conflict one cycle : Bool) → conflict ≡ true → one ≡ true → (if not conflict then Granted else (if one then Locked else (if cycle then Deadlock else Wait))) ≡ Locked
first-locked true true cycle conflict one = refl
first-locked true false cycle conflict one = absurd (false≢true one)
first-locked false one cycle conflict is = absurd (false≢true conflict)

later-locked : (conflict late : Bool) → conflict ≡ true → late ≡ true → (if not conflict then Granted else (if late then Locked else Wait)) ≡ Locked
later-locked true true conflict late = refl
later-locked true false conflict late = absurd (false≢true late)
later-locked false late conflict is = absurd (false≢true conflict)

both : (one two : Bool) → one ≡ true → two ≡ true → (one && two) ≡ true
both true two one is = is
both false two one is = absurd (false≢true one)

-- ---- an attempt

module _ (m : MadePathCall) (out : IsLockedOut m) where
  abbrev locks : Locks
  locks = m.files.records.locks

  abbrev request : Request
  request = out.request

  conflict : conflicts locks request.lock ≡ true
  conflict = some-opposer locks request.lock (λ owner. true) out.owner out.opposes refl

  answers-locked : answer_to m.asker m.files request ≡ Locked
  answers-locked = by_wait out.waits_not
    where
      by_wait : WaitsNot m request → answer_to m.asker m.files request ≡ Locked
      by_wait (inl (first, one)) =
          at-first m request first
          ∙ first-locked (conflicts locks request.lock) (eqb request.ticks 1) (closes locks request.lock) conflict (eq-eqb request.ticks 1 one)
      by_wait (inr (kept, many, over)) =
          ap (λ (kept : Option Request). if is_none kept then first_answer locks request else later_answer locks m.asker.tick request) kept
          ∙ later-locked (conflicts locks request.lock) (is_late m.asker.tick request) conflict
          (both (nat_lt 1 request.ticks) (nat_le (request.since + request.ticks) m.asker.tick) (lt-ltb 1 request.ticks many)
          (le-leb (request.since + request.ticks) m.asker.tick over))

pub locked-refuses : (it : Attempt) → IsLockedOut (made_in it) → (it.result ≡ CallResult.refused E_LOCK) ⊎ ReportsDriveFault it
locked-refuses it out =
    lock-refuses it (record { request = out.request; requests = out.requests; answer = answers-locked (made_in it) out })
