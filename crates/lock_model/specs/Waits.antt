-- Waits, cycles of waits, and answers to requests (Level Two manual, RBF record locking).
use Rattle.std.specs.Prelude.{◌≡◌, ℕ, zero, suc, ◌+◌, ◌==◌, ◌&&◌, ◌||◌, not, nat_le, nat_lt, Bool, true, false, Option, Some, None, List, [], ◌∷◌, if◌then◌else◌}
use Rattle.lock_model.specs.declared.lock.Held.{Held}
use Rattle.lock_model.specs.declared.lock.Request.{Request}
use Rattle.lock_model.specs.declared.lock.Grant.{Grant}
use Rattle.lock_model.specs.declared.lock.Grant.TheVariants.{Granted, Locked, Deadlock, Wait}
use Rattle.lock_model.specs.declared.lock.TheConstants.{LOCK_PROCESSES}
use Rattle.lock_model.specs.Conflict.{conflicts, is_against, some_opposes}
use Rattle.lock_model.specs.Locks.{Locks, lock_of, request_of, with_request}

-- ---- as relations

-- a requested lock conflicts with a lock of process q
pub record Opposes (locks : Locks) (asked : Held) (q : ℕ) : Type 0 where
  pub path : ℕ
  pub lock : Held
  pub is : lock_of locks path ≡ Some lock
  pub owned : lock.owner.0 ≡ q
  pub against : is_against asked lock ≡ true

-- p waits for q: p waits in a request that conflicts with a lock of q
pub record WaitsForProcess (locks : Locks) (p q : ℕ) : Type 0 where
  pub request : Request
  pub is : request_of locks p ≡ Some request
  pub opposes : Opposes locks request.lock q

-- q waits for the first process of a list, each of the list waits for the next, and the last one waits for p
abbrev pub IsChainOfWaits : Locks → ℕ → List ℕ → ℕ → Type 0
IsChainOfWaits locks q [] p = WaitsForProcess locks q p
IsChainOfWaits locks q (next ∷ rest) p = WaitsForProcess locks q next × IsChainOfWaits locks next rest p

-- waiting for this lock would close a cycle of waits
pub record Closes (locks : Locks) (asked : Held) : Type 0 where
  pub first : ℕ
  pub chain : List ℕ
  pub opposes : Opposes locks asked first
  pub leads : IsChainOfWaits locks first chain asked.owner.0

-- no process waits for itself, directly or through others
abbrev pub NoCycle : Locks → Type 0
NoCycle locks = (p : ℕ) (chain : List ℕ) → IsChainOfWaits locks p chain p → ⊥

-- ---- as tests

-- a request conflicts with a lock, and its owner passes a test
abbrev pub waits_by : Locks → (ℕ → Bool) → Option Request → Bool
waits_by locks test None = false
waits_by locks test (Some request) = some_opposes locks request.lock test

-- p waits for a process that passes a test
abbrev pub waits_for_one : Locks → ℕ → (ℕ → Bool) → Bool
waits_for_one locks p test = waits_by locks test (request_of locks p)

-- a chain of at most n waits leads from q to p
abbrev pub leads_within : Locks → ℕ → ℕ → ℕ → Bool
leads_within locks zero q p = false
leads_within locks (suc n) q p = waits_for_one locks q (λ next. (next == p) || leads_within locks n next p)

-- waiting for this lock would close a cycle of waits; the shortest one has each process at most once
unfoldable pub closes : Locks → Held → Bool
closes locks asked = some_opposes locks asked (λ first. leads_within locks LOCK_PROCESSES first asked.owner.0)

-- ---- answers

-- the answer to a request at its call's first attempt
abbrev pub first_answer : Locks → Request → Grant
first_answer locks request =
    if not (conflicts locks request.lock) then Granted
    else (if request.ticks == 1 then Locked else (if closes locks request.lock then Deadlock else Wait))

-- the request's limit of ticks, if it has one, has passed
abbrev pub is_late : ℕ → Request → Bool
is_late tick request = nat_lt 1 request.ticks && nat_le (request.since + request.ticks) tick

-- the answer to a request at a further attempt
abbrev pub later_answer : Locks → ℕ → Request → Grant
later_answer locks tick request =
    if not (conflicts locks request.lock) then Granted else (if is_late tick request then Locked else Wait)

-- the locks after this answer to a request: a waiting process keeps it
abbrev pub after_answer : Locks → Request → Grant → Locks
after_answer locks request Granted = with_request locks request.lock.owner.0 None
after_answer locks request Locked = with_request locks request.lock.owner.0 None
after_answer locks request Deadlock = with_request locks request.lock.owner.0 None
after_answer locks request Wait = with_request locks request.lock.owner.0 (Some request)

-- the locks after this answer to a process's kept request
abbrev pub after_later : Locks → ℕ → Grant → Locks
after_later locks p Granted = with_request locks p None
after_later locks p Locked = with_request locks p None
after_later locks p Deadlock = with_request locks p None
after_later locks p Wait = locks

-- a further attempt with this request would not wait; without a request nothing waits for a lock
abbrev pub request_may_go : Locks → ℕ → Option Request → Bool
request_may_go locks tick None = false
request_may_go locks tick (Some request) = not (conflicts locks request.lock) || is_late tick request

-- a process waits in a request, and may go on in this tick
abbrev pub lock_may_go : Locks → ℕ → ℕ → Bool
lock_may_go locks tick p = request_may_go locks tick (request_of locks p)
