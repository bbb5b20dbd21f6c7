-- The observable part of a process.
use Rattle.std.specs.Prelude.{ℕ, ◌&&◌, ◌||◌, nat_lt, is_some, Bool, false, Option, Some, None, if◌then◌else◌}
use Rattle.os9_base.specs.declared.registers.Regs.{Regs}
use Rattle.proc_model.specs.Records.{is_living}
use Rattle.proc_model.specs.Processes.{Processes, own_at, regs_at}
use Rattle.proc_model.specs.Send.{is_asleep}
use Rattle.lock_model.specs.Locks.{request_of}
use Rattle.lock_model.specs.declared.lock.Request.{Request}
use Rattle.machine_model.specs.State.{State}

-- the registers of a process, if it lives
abbrev pub living_regs : Processes → ℕ → Option Regs
living_regs m p = if is_living m.records p then Some (regs_at m p) else None

-- a process sleeps, and a tick ends its sleep
abbrev pub sleeps_by_clock : Processes → ℕ → Bool
sleeps_by_clock m p = is_asleep m p && is_some (own_at m p).until

-- a request for a record waits for a limited number of ticks
abbrev pub has_limit : Option Request → Bool
has_limit None = false
has_limit (Some request) = nat_lt 1 request.ticks

-- a tick ends what a process waits for: its sleep, or its wait for a record
abbrev pub wakes_by_clock : State → ℕ → Bool
wakes_by_clock s p = sleeps_by_clock s.processes p || has_limit (request_of s.files.records.locks p)
