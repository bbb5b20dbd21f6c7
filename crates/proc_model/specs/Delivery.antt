-- The delivery of a signal (System Programmer's Manual, F$Icpt and F$Send): the process ends with it, or its routine
-- begins with the registers pushed on the stack of the process.
use Rattle.std.specs.Prelude.{ℕ, ◌+◌, ◌-◌, ◌==◌, ◌||◌, nat_lt, is_none, Bool, Option, Some, None, Result, Ok, Err, List, [], ◌∷◌, ◌++◌, if◌then◌else◌}
use Rattle.os9_base.specs.declared.errors.TheConstants.{E_PRCABT}
use Rattle.os9_base.specs.declared.registers.Regs.{Regs}
use Rattle.proc_model.specs.MemoryChanges.{stored}
use Rattle.proc_model.specs.declared.record.Intercept.{Intercept}
use Rattle.proc_model.specs.Records.{record_at, is_waiting}
use Rattle.proc_model.specs.Signals.{with_signal}
use Rattle.proc_model.specs.Attempts.{refused_regs, goes_on}
use Rattle.proc_model.specs.End.{ended}
use Rattle.proc_model.specs.Processes.{Processes, regs_at, cells_at, with_memory, with_records, with_regs_of}
use Rattle.proc_model.specs.UserBytes.{user_bytes, word_bytes}

-- the condition codes with E set
abbrev pub entire_set : ℕ → ℕ
entire_set cc = if nat_lt cc 128 then cc + 128 else cc

-- the twelve bytes of a frame, from its lowest address on; RTI pulls them
abbrev pub frame_bytes : Regs → List ℕ
frame_bytes regs =
    (entire_set regs.cc ∷ regs.a ∷ regs.b ∷ regs.dp ∷ [])
    ++ (word_bytes regs.x ++ (word_bytes regs.y ++ (word_bytes regs.u ++ word_bytes regs.pc)))

-- the end of the bytes below a stack pointer: for 0 it is the end of memory
abbrev pub stack_top : ℕ → ℕ
stack_top s = if s == 0 then 65536 else s

-- there is no room for a frame below a stack pointer: it would wrap around, or not all its bytes are in named slots
abbrev pub has_no_room : Processes → ℕ → ℕ → Bool
has_no_room s p top = nat_lt top 12 || is_none (user_bytes (cells_at s p) (top - 12) 12)

-- the registers with which a process goes on before a frame is pushed: a pending call ends with the signal
abbrev pub interrupted_regs : Processes → ℕ → ℕ → Regs
interrupted_regs s p signal =
    if is_waiting (record_at s.records p).life then refused_regs (regs_at s p) signal else regs_at s p

-- the registers with which the routine of an intercept begins
abbrev pub routine_regs : Regs → Intercept → ℕ → ℕ → Regs
routine_regs regs intercept signal frame =
    record regs { b = signal; u = intercept.area; s = frame; pc = intercept.routine }

-- the state in which these registers are pushed as a frame, and the routine begins
abbrev pub with_frame : Processes → ℕ → Intercept → ℕ → Regs → ℕ → Processes
with_frame s p intercept signal regs frame =
    with_regs_of (with_memory s (stored s.memory p frame (frame_bytes regs))) p
    (routine_regs regs intercept signal frame)

-- the state in which a signal is not pending any more, and the pending call, if there was one, is over
abbrev pub interrupted : Processes → ℕ → ℕ → Processes
interrupted s p signal =
    (if is_waiting (record_at s.records p).life then goes_on taken p (interrupted_regs s p signal) else taken)
  where
    taken : Processes
    taken = with_records s (with_signal s.records p None)

-- the routine of an intercept begins; or the process ends with E$PrcAbt if there is no room for the frame
abbrev pub routine_begun : Processes → ℕ → Intercept → ℕ → Result Processes ℕ
routine_begun s p intercept signal =
    if has_no_room s p (stack_top (regs_at s p).s)
    then Err E_PRCABT
    else Ok (with_frame (interrupted s p signal) p intercept signal (interrupted_regs s p signal)
    (stack_top (regs_at s p).s - 12))

-- the result of a signal: the state in which the routine has begun, or the status with which the process ends
abbrev pub delivered : Processes → ℕ → ℕ → Result Processes ℕ
delivered s p signal = of_intercept (record_at s.records p).intercept
  where
    of_intercept : Option Intercept → Result Processes ℕ
    of_intercept None = Err signal
    of_intercept (Some intercept) = if signal == 0 then Err signal else routine_begun s p intercept signal

-- the state after a delivery
abbrev pub after_delivery : Processes → ℕ → Result Processes ℕ → Processes
after_delivery s p (Ok t) = t
after_delivery s p (Err status) = ended s p status
