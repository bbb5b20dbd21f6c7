-- Why a request is refused: a lock of another process is against it, or its wait would close a cycle.
use Rattle.std.proofs.Common.{◌≡◌, ◌≢◌, ℕ, ◌+◌, ◌<◌, ◌≤◌, Bool, true, false, not, eqb, Option, Some, None, refl, sym, ap, ◌∙◌, inl, inr}
use Rattle.std.proofs.lemmas.Bool.{and_parts, eqb-true, false≢true, leb-true, ltb-true}
use Rattle.std.specs.Prelude.{is_none, nat_le, nat_lt, unwrap_or, if◌then◌else◌}
use Rattle.lock_model.specs.Conflict.{conflicts}
use Rattle.lock_model.specs.Locks.{Locks, request_of}
use Rattle.lock_model.specs.Waits.{Closes, closes, first_answer, is_late, later_answer}
use Rattle.lock_model.specs.declared.lock.Grant.{Grant}
use Rattle.lock_model.specs.declared.lock.Grant.TheVariants.{Deadlock, Granted, Locked, Wait}
use Rattle.lock_model.specs.declared.lock.Request.{Request}
use Rattle.lock_model.proofs.Chains.{Opposer, opposer-of}
use Rattle.lock_model.proofs.Longest.{closes-of}
use Rattle.file_rules.specs.Locking.{answer_to, first_request}
use Rattle.file_laws.specs.Claims.{ClosesCycle, IsFirstAttempt, IsLockedOut, MadePathCall, Requests, WaitsNot}

granted-locks : Granted ≡ Deadlock → ⊥
granted-locks is = cc

locked-locks : Locked ≡ Deadlock → ⊥
locked-locks is = cc

waits-locks : Wait ≡ Deadlock → ⊥
waits-locks is = cc

granted-locked : Granted ≡ Locked → ⊥
granted-locked is = cc

deadlock-locked : Deadlock ≡ Locked → ⊥
deadlock-locked is = cc

waits-locked : Wait ≡ Locked → ⊥
waits-locked is = cc

-- ---- a first answer

-- by its tests: a conflict, ticks of 1, and a cycle
answer_by : Bool → Bool → Bool → Grant
answer_by conflict one cycle =
    if not conflict then Granted else (if one then Locked else (if cycle then Deadlock else Wait))

tests : (conflict one cycle : Bool) → answer_by conflict one cycle ≡ Deadlock → (one ≡ false) × (cycle ≡ true)
unfolding answer_by
tests false one cycle is = absurd (granted-locks is)
tests true true cycle is = absurd (locked-locks is)
tests true false true is = (refl, refl)
tests true false false is = absurd (waits-locks is)

locked-tests : (conflict one cycle : Bool) → answer_by conflict one cycle ≡ Locked → (conflict ≡ true) × (one ≡ true)
unfolding answer_by
locked-tests false one cycle is = absurd (granted-locked is)
locked-tests true true cycle is = (refl, refl)
locked-tests true false true is = absurd (deadlock-locked is)
locked-tests true false false is = absurd (waits-locked is)

pub deadlocked : (locks : Locks) (request : Request) → first_answer locks request ≡ Deadlock → (request.ticks ≢ 1) × Closes locks request.lock
unfolding answer_by
deadlocked locks request is =
    let it = tests (conflicts locks request.lock) (eqb request.ticks 1) (closes locks request.lock) is in
    ((λ one. false≢true (sym it.0 ∙ ap (λ (n : ℕ). eqb n 1) one)), closes-of locks request.lock it.1)

first-locked : (locks : Locks) (request : Request) → first_answer locks request ≡ Locked → (conflicts locks request.lock ≡ true) × (request.ticks ≡ 1)
unfolding answer_by
first-locked locks request is =
    let it = locked-tests (conflicts locks request.lock) (eqb request.ticks 1) (closes locks request.lock) is in
    (it.0, eqb-true request.ticks 1 it.1)

-- ---- a later answer

-- a further attempt is never refused for a deadlock
later-never : (free late : Bool) → (if free then Granted else (if late then Locked else Wait)) ≡ Deadlock → ⊥
later-never true late is = granted-locks is
later-never false true is = locked-locks is
later-never false false is = waits-locks is

-- so the process waited in no request
pub first-alone : (locks : Locks) (p tick : ℕ) (request : Request) (kept : Option Request)
    → (if is_none kept then first_answer locks request else later_answer locks tick request) ≡ Deadlock → kept ≡ None
first-alone locks p tick request None is = refl
first-alone locks p tick request (Some other) is =
    absurd (later-never (not (conflicts locks request.lock)) (is_late tick request) is)

later-tests : (conflict late : Bool) → (if not conflict then Granted else (if late then Locked else Wait)) ≡ Locked → (conflict ≡ true) × (late ≡ true)
later-tests false late is = absurd (granted-locked is)
later-tests true true is = (refl, refl)
later-tests true false is = absurd (waits-locked is)

-- ---- the answer of an attempt

module _ (m : MadePathCall) where
  abbrev locks : Locks
  locks = m.files.records.locks

  abbrev p : ℕ
  p = m.asker.caller.process.0

  -- at a first attempt the answer is the first one
  pub at-first : (request : Request) → IsFirstAttempt m → answer_to m.asker m.files request ≡ first_answer locks request
  at-first request none =
      ap (λ (kept : Option Request). if is_none kept then first_answer locks request else later_answer locks m.asker.tick request) none

  pub closes-cycle : (request : Request) → Requests m request → answer_to m.asker m.files request ≡ Deadlock → ClosesCycle m
  closes-cycle request requests answer =
      let first : IsFirstAttempt m = first-alone locks p m.asker.tick request (request_of locks p) answer in
      let (ticks, closes) = deadlocked locks request (sym (at-first request first) ∙ answer) in
      record { request = request; requests = requests; first = first; waits = ticks; closes = closes }

  -- a conflict is with a lock of some process
  out-so : (request : Request) → Requests m request → conflicts locks request.lock ≡ true → WaitsNot m request → IsLockedOut m
  out-so request requests conflict waits_not =
      let it : Opposer locks request.lock (λ owner. true) = opposer-of locks request.lock (λ owner. true) conflict in
      record { request = request; requests = requests; owner = it.owner; opposes = it.opposes; waits_not = waits_not }

  late-so : (request : Request) → is_late m.asker.tick request ≡ true → (1 < request.ticks) × (request.since + request.ticks ≤ m.asker.tick)
  late-so request late =
      let (many, over) = and_parts (nat_lt 1 request.ticks) (nat_le (request.since + request.ticks) m.asker.tick) late in
      (ltb-true 1 request.ticks many, leb-true (request.since + request.ticks) m.asker.tick over)

  pub locked-out : (request : Request) → Requests m request → answer_to m.asker m.files request ≡ Locked → IsLockedOut m
  locked-out request requests answer = by_kept (request_of locks p) refl answer
    where
      by_kept : (kept : Option Request) → request_of locks p ≡ kept → (if is_none kept then first_answer locks request else later_answer locks m.asker.tick request) ≡ Locked → IsLockedOut m
      by_kept None none is =
          let (conflict, one) = first-locked locks request is in
          out-so request requests conflict (inl (none, one))
      by_kept (Some other) some is =
          let (conflict, late) = later-tests (conflicts locks request.lock) (is_late m.asker.tick request) is in
          let (many, over) = late-so request late in
          out-so request requests conflict (inr (some ∙ ap (λ (r : Request). Some r) (sym (same-kept other some)), many, over))
        where
          -- a further attempt makes the request that is kept
          same-kept : (other : Request) → request_of locks p ≡ Some other → request ≡ other
          same-kept other some =
              requests.is ∙ ap (λ (kept : Option Request). unwrap_or kept (first_request m.asker requests.found requests.claim)) some
