-- The members of the scheduler by number: place p has what the scheduler keeps of process p, or nothing.
use Rattle.std.specs.Prelude.{◌≡◌, ℕ, ◌<◌, ◌≤◌, Bool, false, Option, Some, None, IsSome, option_map, option_and_then, unwrap_or, List, slice_index_or}
use Rattle.os9_sched.specs.declared.member.Cause.{Cause}
use Rattle.os9_sched.specs.declared.member.Wait.{Wait}
use Rattle.os9_sched.specs.declared.member.Standing.TheVariants.{Going}
use Rattle.os9_sched.specs.declared.member.Member.{Member}
use Rattle.os9_sched.specs.Waits.{is_active, wait_of}

-- what is kept of a process, if it is in the scheduler
abbrev pub member_of : List (Option Member) → ℕ → Option Member
member_of members p = slice_index_or members p None

-- a process is in the scheduler
abbrev pub IsMember : List (Option Member) → ℕ → Type 0
IsMember members p = IsSome (member_of members p)

-- what is kept of a process in the scheduler
abbrev pub member_at : List (Option Member) → ℕ → Member
member_at members p = unwrap_or (member_of members p) (record { priority = 0; standing = Going })

-- there is a member, and it is active
abbrev pub is_active_member : Option Member → Bool
is_active_member None = false
is_active_member (Some m) = is_active m.standing

-- a process is in the scheduler and active
abbrev pub is_active_in : List (Option Member) → ℕ → Bool
is_active_in members p = is_active_member (member_of members p)

-- the priority of a process
abbrev pub priority_in : List (Option Member) → ℕ → ℕ
priority_in members p = (member_at members p).priority

-- the cause and the tick of a member, if it has a cause
abbrev pub wait_at : Option Member → Option Wait
wait_at place = option_and_then (λ m. wait_of m.standing) place

-- a process has a cause
abbrev pub HasWait : List (Option Member) → ℕ → Type 0
HasWait members p = IsSome (wait_at (member_of members p))

-- a process is active without a cause
abbrev pub HasNoWait : List (Option Member) → ℕ → Type 0
HasNoWait members p = option_map (λ m. m.standing) (member_of members p) ≡ Some Going

-- a process waits for this
abbrev pub WaitsFor : List (Option Member) → Cause → ℕ → Type 0
WaitsFor members cause p = option_map (λ w. w.cause) (wait_at (member_of members p)) ≡ Some cause

-- the next process in the order of numbers that waits for this
pub record IsNextWaiting (members : List (Option Member)) (cause : Cause) (after p : ℕ) : Type 0 where
  pub above : after < p
  pub waits : WaitsFor members cause p
  pub least : (q : ℕ) → after < q → WaitsFor members cause q → p ≤ q

-- no process above this number waits for this
abbrev pub NobodyWaits : List (Option Member) → Cause → ℕ → Type 0
NobodyWaits members cause after = (q : ℕ) → after < q → WaitsFor members cause q → ⊥
