-- A call that is attempted again on a file is no read of a terminal.
use Rattle.std.proofs.Common.{◌≡◌, ℕ, Option, Some, None, IfSome, List, subst}
use Rattle.os9_base.specs.declared.registers.Regs.{Regs}
use Rattle.io_model.specs.declared.pending.PendingCall.{PendingCall}
use Rattle.io_model.specs.Again.{IsAgain, IsPending, KeepsCount, path_number}
use Rattle.io_model.specs.Io.{Io}
use Rattle.io_model.specs.declared.io_call.IoCall.{IoCall}
use Rattle.lock_model.specs.Locks.{request_of}
use Rattle.lock_model.specs.declared.lock.Request.{Request}
use Rattle.file_state.proofs.AskingLemmas.{may-ask as may-ask-on, no-read-again}
use Rattle.file_drives.specs.Drives.{DriveView}
use Rattle.file_state.specs.Asking.{IsPendingRequest, KeepsRequest, MayAsk, TriesAgain}
use Rattle.file_state.specs.Tie.{AreSoundFiles}
use Rattle.file_state.specs.declared.state.FileState.{FileState}
use Rattle.file_state.specs.declared.state.OpenFile.{OpenFile}
use Rattle.file_io.proofs.OpenedLemmas.{IsNamed, is-named}
use Rattle.file_io.specs.Opened.{IsOpenedPath}
use Rattle.io_state.specs.Sound.{ReadsNoTerminal}

pub again-no_read : (io : Io) (p n : ℕ) (opened : OpenFile) (call : IoCall) (regs : Regs) → IsAgain call regs io p → path_number call regs ≡ n → IsNamed io p n opened → ReadsNoTerminal io p
again-no_read io p n opened call regs again number named = no-read-again io p n opened call regs again number named.names named.place

-- ---- records

-- a process may ask for records on a file that it has opened
pub may-ask : (state : FileState) (views : List DriveView) (p n : ℕ) (opened : OpenFile) → AreSoundFiles state views
    → IsOpenedPath state p n opened → KeepsRequest state.io state.records.locks p → MayAsk state.io state.records.locks p
    opened
may-ask state views p n opened sound is kept =
    let named = is-named state views sound p n opened is in
    may-ask-on state.io state.records.locks p n opened is.path named.names named.place kept

-- the request of a call that is attempted again counts as many bytes as the call
pub kept-request : (call : IoCall) (regs : Regs) (state : FileState) (p : ℕ) → TriesAgain call regs state p → IfSome (request_of state.records.locks p) (λ request. KeepsCount call regs request.count)
kept-request call regs state p again = by (request_of state.records.locks p) again.kept
  where
    by : (kept : Option Request) → IfSome kept (IsPendingRequest state.io p) → IfSome kept (λ request. KeepsCount call regs request.count)
    by None kept = tt
    by (Some request) kept = (subst (λ (o : Option PendingCall). IfSome o (IsPending call regs state.io p)) kept.kept again.again).count
