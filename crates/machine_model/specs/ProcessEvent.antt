-- The effect of an event of a process on the processes, and its end: an instruction, an attempt of its call, or the
-- delivery of a signal.
use Rattle.std.specs.Prelude.{ℕ, Option, Some, None, Result, Ok, Err}
use Rattle.cpu_model.specs.Step.{Outcome, Done, Calls, Aborts, step_of}
use Rattle.proc_model.specs.MemoryChanges.{written}
use Rattle.proc_model.specs.CallResult.{CallResult, done, refused, waits, ends}
use Rattle.proc_model.specs.End.{ended}
use Rattle.proc_model.specs.Processes.{Processes, own_at, regs_at, cells_at, with_memory, with_regs_of, with_own}
use Rattle.proc_model.specs.Ready.{Act, attempts, delivers, executes}
use Rattle.machine_model.specs.declared.ends.EventEnd.{EventEnd}
use Rattle.machine_model.specs.declared.ends.EventEnd.TheVariants.{Ran, Waits, Ended}

-- ---- an instruction

-- the processes after an instruction of one: it changed its registers and bytes, or it is a system call, or the process
-- ends by it with a status
abbrev pub after_instruction : Processes → ℕ → Outcome → Processes
after_instruction m p (Done effect) =
    with_regs_of (with_memory m (written m.memory p effect.writes)) p effect.regs
after_instruction m p (Calls code regs) =
    with_own (with_regs_of m p regs) p (record (own_at m p) { call = Some code })
after_instruction m p (Aborts status) = ended m p status

-- how an instruction ends
abbrev pub instruction_end : Outcome → EventEnd
instruction_end (Done effect) = Ran
instruction_end (Calls code regs) = Ran
instruction_end (Aborts status) = Ended

-- the instruction that a process executes next
abbrev pub next_instruction : Processes → ℕ → Outcome
next_instruction m p = step_of (cells_at m p) (regs_at m p)

-- ---- an attempt of a call

-- how an attempt ends
abbrev pub call_event_end : CallResult → EventEnd
call_event_end (done t) = Ran
call_event_end (refused number) = Ran
call_event_end (waits t) = Waits
call_event_end (ends status) = Ended

-- ---- the delivery of a signal

-- the processes after the call of one is broken off: Y has the count that it answers, if it answers one
abbrev pub broken_off : Processes → ℕ → Option ℕ → Processes
broken_off m p None = m
broken_off m p (Some count) = with_regs_of m p (record (regs_at m p) { y = count })

-- how a delivery ends
abbrev pub delivery_end : Result Processes ℕ → EventEnd
delivery_end (Ok t) = Ran
delivery_end (Err status) = Ended

-- ---- the cost of an event

-- instructions executed by an act of a process: attempts and deliveries cost none
abbrev pub cost_of : Act → ℕ
cost_of (attempts code) = 0
cost_of (delivers signal) = 0
cost_of executes = 1
