-- Further attempts: a pending call is attempted again with the registers of its first attempt.
use Rattle.std.specs.Prelude.{◌≡◌, ℕ, ◌<◌, ◌≤◌, Some, IfSome, length}
use Rattle.os9_base.specs.declared.registers.Regs.{Regs}
use Rattle.io_model.specs.Path.{slot_of}
use Rattle.io_model.specs.declared.pending.PendingCall.{PendingCall}
use Rattle.io_model.specs.Codes.{io_call_of}
use Rattle.io_model.specs.Io.{Io, pending_at}
use Rattle.io_model.specs.Write.{error_line}
use Rattle.io_model.specs.declared.io_call.IoCall.{IoCall}
use Rattle.io_model.specs.declared.io_call.IoCall.TheVariants as Call
use Rattle.io_model.specs.declared.modes.TheConstants.{STANDARD_ERROR}

-- the path number that a call uses
abbrev pub path_number : IoCall → Regs → ℕ
path_number Call.PErr regs = STANDARD_ERROR
path_number call regs = regs.a

-- the count of a pending call is the one that it asks for; that of a line write is what its first attempt found. A
-- call that sets a status counts as one byte
abbrev pub KeepsCount : IoCall → Regs → ℕ → Type 0
KeepsCount Call.WritLn regs count = count ≤ regs.y
KeepsCount Call.PErr regs count = count ≡ length (error_line regs.b)
KeepsCount Call.SetStt regs count = count ≡ 1
KeepsCount call regs count = count ≡ regs.y

-- the pending call of a process is this call
pub record IsPending (call : IoCall) (regs : Regs) (io : Io) (p : ℕ) (pending : PendingCall) : Type 0 where
  pub code : io_call_of pending.code ≡ Some call
  pub path : slot_of io.paths p (path_number call regs) ≡ Some pending.path
  pub count : KeepsCount call regs pending.count
  pub unfinished : pending.moved < pending.count  -- it has a byte left to move

-- the pending call of the process, if it has one, is this call
abbrev pub IsAgain : IoCall → Regs → Io → ℕ → Type 0
IsAgain call regs io p = IfSome (pending_at io p) (IsPending call regs io p)
