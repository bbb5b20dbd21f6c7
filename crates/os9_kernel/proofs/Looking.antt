-- Until when who is Ready is known.
use Rattle.std.proofs.Common.{◌≡◌, ℕ, ◌+◌, ◌<◌, ◌≤◌, Bool, true, false, Option, Some, None, is_some, option_map, length, not, refl, sym, ap, ◌∙◌, subst, arith}
use Rattle.std.specs.Prelude.{◌&&◌, ◌||◌, ◌^◌, nat_le, nat_lt, option_and_then, slice_index_or, if◌then◌else◌}
use Rattle.std.specs.Option.{option_map_or}
use Rattle.std.proofs.lemmas.Bool.Decides.{nat_tests}
use Rattle.os9_base.specs.declared.calls.TheConstants.{F_WAIT, F_SLEEP}
use Rattle.os9_sched.specs.Members.{is_active_in}
use Rattle.os9_sched.specs.declared.member.Cause.{Cause}
use Rattle.os9_sched.specs.declared.member.Wait.{Wait as Waiting}
use Rattle.proc_model.specs.Memory.{first_memory}
use Rattle.proc_model.specs.Ends.{ended_child}
use Rattle.proc_model.specs.Records.{IsLiving, is_living, is_waiting, record_at}
use Rattle.proc_model.specs.declared.own.Own.{Own}
use Rattle.proc_model.specs.Processes.{Processes, no_own, own_at}
use Rattle.proc_model.specs.Ready.{is_ready, may_go_on}
use Rattle.proc_model.specs.Send.{is_call}
use Rattle.proc_model.specs.Sleep.{may_wake}
use Rattle.proc_model.specs.IoReady.{has_io}
use Rattle.io_model.specs.Io.{Io}
use Rattle.io_model.specs.Waiting.{io_may_go, io_waits_for}
use Rattle.lock_model.specs.Locks.{Locks, request_of}
use Rattle.lock_model.specs.Conflict.{conflicts}
use Rattle.lock_model.specs.Waits.{is_late, lock_may_go, request_may_go}
use Rattle.lock_model.specs.declared.lock.Request.{Request}
use Rattle.file_rules.specs.Locking.{call_wait, end_of_wait, files_may_go, request_wait}
use Rattle.file_state.specs.declared.state.FileState.{FileState}
use Rattle.machine_model.specs.State.{State}
use Rattle.proc_state.proofs.Living.{place-living}
use Rattle.proc_state.specs.Tie.{processes_of}
use Rattle.proc_state.specs.declared.state.ProcState.{ProcState}
use Rattle.proc_state.specs.Active.{AreActiveAt}
use Rattle.os9_kernel.specs.Causes.{awaited}
use Rattle.os9_kernel.specs.Looks.{EndsNotBefore, may_go_in}
use Rattle.os9_kernel.specs.Outside.{Outside}
use Rattle.os9_kernel.specs.Tie.{IsLooked, Represents, ticks}
use Rattle.os9_kernel.specs.declared.kernel.Kernel.{Kernel}
use Rattle.os9_kernel.specs.declared.marks.Known.{Known}

-- the kernel that looks at each process again
abbrev pub looks_again : Kernel → Kernel
looks_again kernel = record kernel { looked_until = 0 }

pub never-looked : (kernel : Kernel) → IsLooked (looks_again kernel)
never-looked kernel = λ tick from below. absurd (omega (arith, below))

-- ---- what ends in a tick

end-same : (end now tick : ℕ) → now ≤ tick → (now < end → tick < end) → nat_le end now ≡ nat_le end tick
end-same end now tick from before = grind (arith, nat_tests)

not-short : (limit end : ℕ) → nat_lt end limit ≡ false → limit ≤ end
not-short limit end is = grind (arith, nat_tests)

-- what a process waits for, by its request
abbrev waits_so : Io → ℕ → Option Request → Option Waiting
waits_so io p request =
    option_map_or (λ request. Some (request_wait request)) request
    (option_map (λ (cause : Cause). record { cause = cause; until = None }) (io_waits_for io p))

module _ (now tick until : ℕ) (from : now ≤ tick) (below : tick < until) where
  short-same : (limit end : ℕ) → until < limit → (short : Bool) → nat_lt end limit ≡ short → EndsNotBefore now until (if short then Some end else None) → nat_le end now ≡ nat_le end tick
  short-same limit end fits true is ends = end-same end now tick from (λ later. omega (arith, ends later, below))
  short-same limit end fits false is ends =
      let past = not-short limit end is in
      end-same end now tick from (λ later. omega (arith, past, fits, below))

  limit-same : (limit end : ℕ) → until < limit → (limited : Bool) → EndsNotBefore now until
      (if limited && nat_lt end limit then Some end else None) → (limited && nat_le end now) ≡
      (limited && nat_le end tick)
  limit-same limit end fits true ends = short-same limit end fits (nat_lt end limit) refl ends
  limit-same limit end fits false ends = refl

  late-same : (request : Request) → until < 2 ^ 32 → EndsNotBefore now until (end_of_wait request) → is_late now request ≡ is_late tick request
  late-same request fits ends =
      limit-same (2 ^ 32) (request.since + request.ticks) fits (nat_lt 1 request.ticks) ends

  lock-same : (io : Io) (locks : Locks) (p : ℕ) → until < 2 ^ 32
      → EndsNotBefore now until (option_and_then (λ (wait : Waiting). wait.until) (call_wait io locks p))
      → lock_may_go locks now p ≡ lock_may_go locks tick p
  lock-same io locks p fits ends = by_request (request_of locks p) ends
    where
      by_request : (request : Option Request) → EndsNotBefore now until (option_and_then (λ (wait : Waiting). wait.until) (waits_so io p request))
          → request_may_go locks now request ≡ request_may_go locks tick request
      by_request None ends = refl
      by_request (Some request) ends =
          ap (λ (late : Bool). not (conflicts locks request.lock) || late) (late-same request fits ends)

  sleep-same : (own : Own) → EndsNotBefore now until own.until → may_wake now own ≡ may_wake tick own
  sleep-same own ends = by_end own.until ends
    where
      by_end : (end : Option ℕ) → EndsNotBefore now until end → (own.woken || option_map_or (λ until. nat_le until now) end false) ≡ (own.woken || option_map_or (λ until. nat_le until tick) end false)
      by_end None ends = refl
      by_end (Some end) ends =
          ap (λ (due : Bool). own.woken || due) (end-same end now tick from (λ later. omega (arith, ends later, below)))

  go-same : (m : Processes) (p : ℕ) → m.tick ≡ now → EndsNotBefore now until (own_at m p).until → may_go_on m p ≡ may_go_on (record m { tick = tick }) p
  go-same m p is ends =
      let sleep : may_wake m.tick (own_at m p) ≡ may_wake tick (own_at m p) = ap (λ (t : ℕ). may_wake t (own_at m p)) is ∙ sleep-same (own_at m p) ends in
      ap (λ (due : Bool). (is_call (own_at m p).call F_WAIT && is_some (ended_child m.records p)) || (is_call (own_at m p).call F_SLEEP && due)) sleep

-- ---- who is Ready

asked : (lives waits signalled one other : Bool) → (lives ≡ true → one ≡ other) → (lives && (not waits || (signalled || one))) ≡ (lives && (not waits || (signalled || other)))
asked true waits signalled one other same = λ i. not waits || (signalled || same refl i)
asked false waits signalled one other same = refl

-- who lives and may go on in one tick as in another
ready-same : (io other : ℕ → Bool) (m : Processes) (tick p : ℕ)
    → (IsLiving m.records p → (may_go_on m p || io p) ≡ (may_go_on (record m { tick = tick }) p || other p))
    → is_ready io m p ≡ is_ready other (record m { tick = tick }) p
ready-same io other m tick p same =
    asked (is_living m.records p) (is_waiting (record_at m.records p).life) (is_some (record_at m.records p).signal)
    (may_go_on m p || io p) (may_go_on (record m { tick = tick }) p || other p) same

-- the processes were settled now, by those that may go on now
module _ (files : FileState) (processes : ProcState) (io : ℕ → Bool)
    (active : (p : ℕ) → is_active_in processes.sched.members p ≡ is_ready io (processes_of processes (first_memory 0)) p)
    (same : (p : ℕ) → p < 33 → io p ≡ may_go_in files processes.tick p) where
  few : (p : ℕ) → IsLiving processes.table p → p < 33
  few p lives =
      let places : length processes.table ≡ 33 = processes.numbers.places in
      omega (arith, place-living processes.table p lives, places)

  pub active-now : AreActiveAt (may_go_in files processes.tick) processes.tick processes
  active-now p =
      let m : Processes = processes_of processes (first_memory 0) in
      active p ∙ ready-same io (may_go_in files processes.tick) m processes.tick p
      (λ lives. ap (λ (go : Bool). may_go_on m p || go) (same p (few p lives)))

  pub active-until : (until : ℕ) → until < 2 ^ 32
      → ((p : ℕ) → p < 33 → EndsNotBefore processes.tick until (slice_index_or processes.own.items p no_own).until)
      → ((p : ℕ) → p < 33 → EndsNotBefore processes.tick until (option_and_then (λ (wait : Waiting). wait.until) (awaited files p)))
      → (tick : ℕ) → processes.tick ≤ tick → tick < until → AreActiveAt (may_go_in files tick) tick processes
  active-until until fits sleeps waits tick from below p =
      let m : Processes = processes_of processes (first_memory 0) in
      active p ∙ ready-same io (may_go_in files tick) m tick p (λ lives.
      let within = few p lives in
      let go = go-same processes.tick tick until from below m p refl (sleeps p within) in
      let lock = lock-same processes.tick tick until from below files.io files.records.locks p fits (waits p within) in
      λ i. go i || ((same p within ∙ ap (λ (late : Bool). io_may_go files.io p || late) lock) i))

-- by the state that is represented
pub active-there : (kernel : Kernel) (devices : Outside) (s : State) → Represents kernel devices s → (processes : ProcState)
    → AreActiveAt (may_go_in kernel.machine.files (ticks kernel)) (ticks kernel) processes
    → AreActiveAt (files_may_go s.files s.processes.tick) s.processes.tick processes
active-there kernel devices s tied processes active p =
    let tick_is : ticks kernel ≡ s.processes.tick = sym (ap (λ (m : Processes). m.tick) tied.processes.is) in
    let io_is : kernel.machine.files.io ≡ s.files.io = sym tied.files.io in
    let records_is : kernel.machine.files.records ≡ s.files.records = sym tied.files.records in
    active p
    ∙ (λ i. is_ready (λ q. io_may_go (io_is i) q || lock_may_go (records_is i).locks (tick_is i) q)
    (record (processes_of processes (first_memory 0)) { tick = tick_is i }) p)

-- who may go on now may until the next wait for a record ends
pub known-until : (files : FileState) (processes : ProcState) (known : Known)
    → ((p : ℕ) → p < 33 → has_io known.ready p ≡ may_go_in files processes.tick p) → known.until < 2 ^ 32
    → ((p : ℕ) → p < 33 → EndsNotBefore processes.tick known.until (option_and_then (λ (wait : Waiting). wait.until) (awaited files p)))
    → (tick p : ℕ) → processes.tick ≤ tick → tick < known.until → p < 33 → has_io known.ready p ≡ may_go_in files tick p
known-until files processes known same fits waits tick p from below few =
    same p few
    ∙ ap (λ (late : Bool). io_may_go files.io p || late) (lock-same processes.tick tick known.until from below files.io files.records.locks p fits (waits p few))

-- a sooner tick is before the same ends
pub ends-sooner : (now until sooner : ℕ) (end : Option ℕ) → sooner ≤ until → EndsNotBefore now until end → EndsNotBefore now sooner end
ends-sooner now until sooner None less ends = tt
ends-sooner now until sooner (Some end) less ends = λ later. omega (arith, ends later, less)

-- what is known until a tick is known at the next one, if nothing else has changed
pub looked-next : (old new : Kernel) → new.looked_until ≡ old.looked_until → new.machine.files ≡ old.machine.files
    → new.machine.processes.tick ≡ old.machine.processes.tick + 1
    → ((io : ℕ → Bool) (tick : ℕ) → AreActiveAt io tick old.machine.processes → AreActiveAt io tick new.machine.processes)
    → IsLooked old → IsLooked new
looked-next old new until files one active looked tick from below =
    subst (λ (files : FileState). AreActiveAt (may_go_in files tick) tick new.machine.processes) (sym files)
    (active (may_go_in old.machine.files tick) tick (looked tick (omega (arith, one, from)) (omega (arith, until, below))))

-- and in the same tick
pub looked-still : (old new : Kernel) → new.looked_until ≡ old.looked_until → new.machine.files ≡ old.machine.files
    → new.machine.processes.tick ≡ old.machine.processes.tick
    → ((io : ℕ → Bool) (tick : ℕ) → AreActiveAt io tick old.machine.processes → AreActiveAt io tick new.machine.processes)
    → IsLooked old → IsLooked new
looked-still old new until files same active looked tick from below =
    subst (λ (files : FileState). AreActiveAt (may_go_in files tick) tick new.machine.processes) (sym files)
    (active (may_go_in old.machine.files tick) tick (looked tick (omega (arith, same, from)) (omega (arith, until, below))))
