-- Pending calls on a terminal or a pipe (Level Two manual, "I/O system").
use Rattle.std.specs.Prelude.{◌≡◌, ℕ, true, Some, IsSome}
use Rattle.io_model.specs.Read.{IsReadAllowed}
use Rattle.os9_base.specs.Cells.{Cells}
use Rattle.os9_base.specs.declared.registers.Regs.{Regs}
use Rattle.proc_model.specs.Records.{IsLiving, record_at, is_waiting}
use Rattle.proc_model.specs.Processes.{Processes, own_at, regs_at, cells_at}
use Rattle.io_model.specs.declared.pending.PendingCall.{PendingCall}
use Rattle.io_model.specs.Again.{IsPending}
use Rattle.io_model.specs.Codes.{io_call_of, direction_of_call}
use Rattle.io_model.specs.Io.{Io, pending_at}
use Rattle.io_model.specs.declared.io_call.Direction.TheVariants.{Reading}
use Rattle.io_model.specs.declared.io_call.IoCall.{IoCall}

-- if a call is a read, it is not refused
abbrev pub IsAllowedIfRead : IoCall → Cells → Regs → Io → ℕ → Type 0
IsAllowedIfRead call cells regs io p = direction_of_call call ≡ Some Reading → IsReadAllowed cells regs io p

-- this is the pending call of a process, which it made with its current registers, and which is not refused if it is
-- attempted again
pub record IsPendingCall (processes : Processes) (io : Io) (p : ℕ) (pending : PendingCall) : Type 0 where
  pub lives : IsLiving processes.records p
  pub waits : is_waiting (record_at processes.records p).life ≡ true
  pub made : (own_at processes p).call ≡ Some pending.code
  pub call : IoCall
  pub again : IsPending call (regs_at processes p) io p pending
  pub stays : IsAllowedIfRead call (cells_at processes p) (regs_at processes p) io p

-- each pending call is that of its process
abbrev pub ArePending : Processes → Io → Type 0
ArePending processes io = (p : ℕ) (pending : PendingCall) → pending_at io p ≡ Some pending
    → IsPendingCall processes io p pending

-- a process waits in this call; if it is a call on paths, it is pending
pub record WaitsInCall (processes : Processes) (io : Io) (p : ℕ) : Type 0 where
  pub code : ℕ
  pub made : (own_at processes p).call ≡ Some code
  pub kept : IsSome (io_call_of code) → IsSome (pending_at io p)

-- each waiting process waits in a call
abbrev pub AreInCalls : Processes → Io → Type 0
AreInCalls processes io =
    (p : ℕ) → IsLiving processes.records p → is_waiting (record_at processes.records p).life ≡ true
    → WaitsInCall processes io p
