-- What a process waits for since an attempt of its call.
use Rattle.std.proofs.Common.{◌≡◌, ◌∙◌, ℕ, ◌<◌, Bool, true, false, Option, Some, None, is_some, length, refl, sym, ap, subst, inl, inr}
use Rattle.std.specs.Prelude.{IfSome}
use Rattle.std.proofs.lemmas.Bool.{cases_lt, false≢true}
use Rattle.std.proofs.lemmas.List.{get_or-set_same, get_or_past}
use Rattle.os9_base.specs.declared.call.CallEnd.{CallEnd}
use Rattle.os9_base.specs.declared.call.CallEnd.TheVariants.{Done, Error, Wait, Ended, NoMemory}
use Rattle.os9_sched.specs.Members.{member_at, member_of, wait_at}
use Rattle.os9_sched.specs.Schedule.{Schedule, after_wait}
use Rattle.os9_sched.specs.declared.member.Standing.TheVariants.{Resting}
use Rattle.os9_sched.specs.declared.member.Wait.{Wait as Waiting}
use Rattle.proc_model.specs.Records.{IsLiving, record_at, is_waiting}
use Rattle.proc_calls.specs.Telling.{SchedulesWait}
use Rattle.proc_state.specs.Tie.{ReturnsCallEnd}
use Rattle.proc_state.specs.declared.state.ProcState.{ProcState}
use Rattle.proc_model.specs.Processes.{Processes}
use Rattle.proc_model.specs.Ready.{attempts, next_act}
use Rattle.io_model.specs.Attempts.{result_by, result_of}
use Rattle.io_model.specs.Step.{IoEffect, IoEnd, answers, fails, keeps}
use Rattle.machine_model.specs.declared.ends.EventEnd.TheVariants as Event
use Rattle.os9_kernel.specs.Ends.{event_end_of}

-- an event waits where its call does
pub waits-so : (end : CallEnd) → event_end_of end ≡ Event.Waits → end ≡ Wait
waits-so Done is = cc
waits-so (Error number) is = cc
waits-so Wait is = refl
waits-so Ended is = cc
waits-so NoMemory is = cc

-- the call that is attempted is the process's own
pub code-held : (call : Option ℕ) (held : Bool) (signal : Option ℕ) (code : ℕ) → next_act call held signal ≡ attempts code → call ≡ Some code
code-held None held None code is = cc
code-held None held (Some signal) code is = cc
code-held (Some other) false signal code is = (let same : other ≡ code = cc in ap Some same)
code-held (Some other) true None code is = (let same : other ≡ code = cc in ap Some same)
code-held (Some other) true (Some signal) code is = cc

-- a process that lives has a place in the scheduler
member-within : (processes : ProcState) (p : ℕ) → IsLiving processes.table p → p < length processes.sched.members
member-within processes p lives =
    let there : is_some (member_of processes.sched.members p) ≡ true = processes.turns.members p ∙ lives in
    elim (cases_lt p (length processes.sched.members)) [
      | inl less ↦ less
      | inr past ↦
          let none : member_of processes.sched.members p ≡ None = get_or_past processes.sched.members p None past in
          absurd (false≢true (ap is_some (sym none) ∙ there))
    ]

rests-at : (s : Schedule) (p : ℕ) (wait : Waiting) → p < length s.members → wait_at (member_of (after_wait s p wait).members p) ≡ Some wait
rests-at s p wait within =
    ap wait_at (get_or-set_same s.members p (Some (record (member_at s.members p) { standing = Resting wait })) None within)

-- what is waited for is what the scheduler has
pub rests-so : (wait : Option Waiting) (before after : ProcState) (p : ℕ) → IsLiving before.table p
    → is_waiting (record_at before.table p).life ≡ false → IfSome wait (λ wait. SchedulesWait before after p wait)
    → IfSome wait (λ wait. wait_at (member_of after.sched.members p) ≡ Some wait)
rests-so None before after p lives first waits = tt
rests-so (Some wait) before after p lives first waits =
    ap (λ (s : Schedule). wait_at (member_of s.members p)) (waits.first first)
    ∙ rests-at before.sched p wait (member-within before p lives)

-- an attempt of a call on a path that waits leaves the records
pub records-kept : (m : Processes) (p : ℕ) (effect : IoEffect) (processes : ProcState) → ReturnsCallEnd m p (result_of m p effect) Wait processes → processes.table ≡ m.records
records-kept m p effect processes came = by effect.end came
  where
    by : (end : IoEnd) → ReturnsCallEnd m p (result_by end m p effect) Wait processes → processes.table ≡ m.records
    by (answers regs) came = let e : Wait ≡ Done = came.0 in cc
    by (fails number) came = let e : Wait ≡ Error number = came.0 in cc
    by (keeps kept) came = sym (ap (λ (m : Processes). m.records) came.1.is)

-- what is told is what is waited for
pub told-so : (wait : Option Waiting) (told : Waiting) → IfSome wait (λ wait. told ≡ wait) → (Told : Waiting → Type 0)
    → Told told → IfSome wait Told
told-so None told is Told so = tt
told-so (Some wait) told is Told so = subst Told is so
