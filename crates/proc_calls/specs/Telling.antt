-- Which processes receive the end of a call, and what a process waits for.
use Rattle.std.specs.Prelude.{◌≡◌, ℕ, true, false, Option, List}
use Rattle.os9_base.specs.declared.call.CallEnd.{CallEnd}
use Rattle.os9_base.specs.declared.call.CallEnd.TheVariants.{Done, Error, Wait, Ended, NoMemory}
use Rattle.os9_sched.specs.declared.member.Wait.{Wait as Waiting}
use Rattle.os9_sched.specs.Schedule.{after_wait}
use Rattle.proc_model.specs.declared.record.Record.{Record}
use Rattle.proc_model.specs.Records.{IsLiving, record_at, is_waiting}
use Rattle.proc_state.specs.declared.state.ProcState.{ProcState}

-- a process lives, unless its call ended it
abbrev pub LivesOn : CallEnd → List (Option Record) → ℕ → Type 0
LivesOn Done records p = IsLiving records p
LivesOn (Error number) records p = IsLiving records p
LivesOn Wait records p = IsLiving records p
LivesOn Ended records p = Unit {0}
LivesOn NoMemory records p = Unit {0}

-- no record has changed, and no turn
pub record KeepsRecordsAndTurns (before after : ProcState) : Type 0 where
  pub table : after.table ≡ before.table
  pub sched : after.sched ≡ before.sched

-- A process waits for this: the scheduler has it from the first waiting attempt on, and a further attempt does not
-- change it.
pub record SchedulesWait (before after : ProcState) (p : ℕ) (wait : Waiting) : Type 0 where
  pub first : is_waiting (record_at before.table p).life ≡ false → after.sched ≡ after_wait before.sched p wait
  pub further : is_waiting (record_at before.table p).life ≡ true → after.sched ≡ before.sched
