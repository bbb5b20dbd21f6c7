-- The records of processes (System Programmer's Manual, process descriptors). It is a list by
-- number: place p has the record of process p, or nothing. Processes have numbers from 2 to 32.
use Rattle.std.specs.Prelude.{◌≡◌, ℕ, ◌+◌, ◌<◌, ◌≤◌, not, Bool, true, false, Option, Some, None, is_none, option_map, unwrap_or, List, length, drop, position, slice_index_or, slice_set}
use Rattle.std.specs.Option.{option_map_or}
use Rattle.os9_base.specs.declared.limits.TheConstants.{PROCESS_PLACES}
use Rattle.os9_base.specs.declared.registers.Pid.{Pid}
use Rattle.os9_base.specs.declared.registers.Regs.{Regs}
use Rattle.proc_model.specs.declared.record.Life.{Life}
use Rattle.proc_model.specs.declared.record.Life.TheVariants.{Running, Waiting, Ended}
use Rattle.proc_model.specs.declared.record.Record.{Record}

-- the numbers that processes have
abbrev pub IsProcessNumber : ℕ → Type 0
IsProcessNumber p = (2 ≤ p) × (p < PROCESS_PLACES)

-- registers that are all 0
abbrev pub zero_regs : Regs
zero_regs = record { a = 0; b = 0; dp = 0; cc = 0; x = 0; y = 0; u = 0; s = 0; pc = 0 }

-- the record of a new process: it runs, and has no intercept and no signal
abbrev pub new_record : Pid → ℕ → ℕ → Record
new_record parent user priority = record {
  parent = parent;
  user = user;
  priority = priority;
  regs = zero_regs;
  life = Running;
  intercept = None;
  signal = None;
}

-- the record of a process, if there is one
abbrev pub record_of : List (Option Record) → ℕ → Option Record
record_of records p = slice_index_or records p None

-- the record of a process that has one
abbrev pub record_at : List (Option Record) → ℕ → Record
record_at records p = unwrap_or (record_of records p) (new_record (record { 0 = 0 }) 0 0)

-- there is a record, and it passes the test
abbrev pub record_passes : (Record → Bool) → Option Record → Bool
record_passes test None = false
record_passes test (Some r) = test r

-- the process has ended
abbrev pub has_ended : Life → Bool
has_ended Running = false
has_ended Waiting = false
has_ended (Ended status) = true

-- the process waits
abbrev pub is_waiting : Life → Bool
is_waiting Running = false
is_waiting Waiting = true
is_waiting (Ended status) = false

-- a process lives: it has a record, and has not ended
abbrev pub is_living : List (Option Record) → ℕ → Bool
is_living records p = record_passes (λ r. not (has_ended r.life)) (record_of records p)

abbrev pub IsLiving : List (Option Record) → ℕ → Type 0
IsLiving records p = is_living records p ≡ true

-- what always holds of the list of records: it has 33 places, and there are no processes 0 and 1
pub record AreProcessRecords (records : List (Option Record)) : Type 0 where
  pub places : length records ≡ PROCESS_PLACES
  pub from_two : (p : ℕ) → p < 2 → record_of records p ≡ None

-- the records with this one of a process
abbrev pub with_record : List (Option Record) → ℕ → Record → List (Option Record)
with_record records p r = slice_set records p (Some r)

-- the records without the one of a process
abbrev pub without_record : List (Option Record) → ℕ → List (Option Record)
without_record records p = slice_set records p None

-- the least number from 2 on that has no record
abbrev pub free_process : List (Option Record) → Option ℕ
free_process records = option_map (λ k. k + 2) (position is_none (drop 2 records))

-- the records with a new process, if there is a number for it
abbrev pub after_make : List (Option Record) → Pid → ℕ → ℕ → List (Option Record)
after_make records parent user priority =
    option_map_or (λ p. with_record records p (new_record parent user priority)) (free_process records) records

-- the records with another user, priority or registers of a process
abbrev pub with_user : List (Option Record) → ℕ → ℕ → List (Option Record)
with_user records p user = with_record records p (record (record_at records p) { user = user })

abbrev pub with_priority : List (Option Record) → ℕ → ℕ → List (Option Record)
with_priority records p priority = with_record records p (record (record_at records p) { priority = priority })

abbrev pub with_regs : List (Option Record) → ℕ → Regs → List (Option Record)
with_regs records p regs = with_record records p (record (record_at records p) { regs = regs })

-- a process that waits, or runs
abbrev pub waiting_or_running : Bool → Life
waiting_or_running true = Waiting
waiting_or_running false = Running

-- the records in which a process waits, or runs
abbrev pub with_waiting : List (Option Record) → ℕ → Bool → List (Option Record)
with_waiting records p waits = with_record records p (record (record_at records p) { life = waiting_or_running waits })
