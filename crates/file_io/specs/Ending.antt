-- The ends of attempts on the file of a path, for the processes and the state of input and output.
use Rattle.std.specs.Prelude.{◌≡◌, ◌≢◌, ℕ, ◌+◌, None, List, length, Result, Ok, Err}
use Rattle.os9_base.specs.declared.call.CallEnd.{CallEnd}
use Rattle.os9_base.specs.declared.call.CallEnd.TheVariants.{Done, Error, NoMemory}
use Rattle.os9_base.specs.declared.errors.TheConstants.{E_EOF}
use Rattle.os9_base.specs.declared.registers.Regs.{Regs}
use Rattle.proc_model.specs.Processes.{Processes, with_memory, with_regs_of}
use Rattle.proc_model.specs.MemoryChanges.{stored}
use Rattle.io_model.specs.declared.terminal.ReadKind.{ReadKind}
use Rattle.io_model.specs.Io.{Io, with_call}
use Rattle.lock_model.specs.Records.{Records, holding, written_by}
use Rattle.lock_model.specs.declared.lock.Held.{Held}
use Rattle.proc_state.specs.Tie.{RepresentsProcesses}
use Rattle.proc_state.specs.declared.state.ProcState.{ProcState}
use Rattle.rbf_access.specs.Faults.{file_error}
use Rattle.rbf_access.specs.declared.faults.FileFault.{FileFault}
use Rattle.file_rules.specs.Read.{lock_by}
use Rattle.file_state.specs.declared.state.FileState.{FileState}
use Rattle.file_state.specs.declared.state.OpenFile.{OpenFile}
use Rattle.file_io.specs.Opened.{moved_to}

-- the call of a process is done with these registers. It leaves this state of input and output, but keeps nothing of
-- the call
pub record IsCallDone (m : Processes) (p : ℕ) (regs : Regs) (io : Io) (end : CallEnd) (processes : ProcState) (new : Io)
    : Type 0 where
  pub end_is : end ≡ Done
  pub tied : RepresentsProcesses processes (with_regs_of m p regs)
  pub io_is : new ≡ with_call io p None

-- the call of a process is refused with this number. It leaves this state of input and output, but keeps nothing of the
-- call
pub record IsCallRefused (number : ℕ) (m : Processes) (p : ℕ) (io : Io) (end : CallEnd) (processes : ProcState)
    (new : Io)
    : Type 0 where
  pub end_is : end ≡ Error number
  pub tied : RepresentsProcesses processes m
  pub io_is : new ≡ with_call io p None

-- ---- reads

-- the processes after these bytes are stored from an address on
abbrev pub with_bytes : Processes → ℕ → ℕ → List ℕ → Processes
with_bytes m p at bytes = with_memory m (stored m.memory p at bytes)

-- a process gets these bytes at X and their count in Y, and the position of its path moves past them
abbrev pub GivesBytes : List ℕ → Regs → OpenFile → Processes → ℕ → Io → CallEnd → ProcState → Io → Type 0
GivesBytes bytes regs opened m p io end processes new =
    IsCallDone (with_bytes m p regs.x bytes) p (record regs { y = length bytes })
    (moved_to io opened (opened.desc.at + length bytes)) end processes new

-- a read that found the bytes `found` and gives the bytes `given`, or that found the end of the file
pub record EndsFound (found given : List ℕ) (regs : Regs) (opened : OpenFile) (m : Processes) (p : ℕ) (io : Io)
    (end : CallEnd) (processes : ProcState) (new : Io) : Type 0 where
  pub none : length found ≡ 0 → IsCallRefused E_EOF m p io end processes new
  pub some : length found ≢ 0 → GivesBytes given regs opened m p io end processes new

-- ---- entries in the history

-- the call of a process is done, with these registers, and its entry makes the records these: it leaves this but for
-- what is kept of the call. Or memory was wanting for the entry, and the state is as it was
pub record EndsEntered (m : Processes) (p : ℕ) (regs : Regs) (io : Io) (records : Records) (state : FileState)
    (end : CallEnd) (processes : ProcState) (new : FileState) : Type 0 where
  pub done : end ≢ NoMemory → IsCallDone m p regs io end processes new.io
  pub entered : end ≢ NoMemory → new ≡ record state { io = new.io; records = records }
  pub lacks : end ≡ NoMemory → new ≡ state

-- a read of these bytes under a lock, which the path then holds; the position is behind them
abbrev pub GivesLocked : ReadKind → Held → List ℕ → Regs → OpenFile → Processes → ℕ → FileState → CallEnd → ProcState
    → FileState → Type 0
GivesLocked kind lock bytes regs opened m p state end processes new =
    EndsEntered (with_bytes m p regs.x bytes) p (record regs { y = length bytes })
    (moved_to state.io opened (lock.range.start + length bytes))
    (holding state.records opened.path.0 (lock_by kind lock bytes) bytes) state end processes new

-- a write of these bytes under a lock that was answered so: if it is done its process has these registers, the position
-- is behind the bytes, and the path holds no lock
abbrev pub EndsWrite : Result (Unit {0}) FileFault → Held → List ℕ → Regs → OpenFile → Processes → ℕ → FileState
    → CallEnd
    → ProcState → FileState → Type 0
EndsWrite (Ok done) lock bytes regs opened m p state end processes new =
    EndsEntered m p regs (moved_to state.io opened (lock.range.start + length bytes))
    (written_by state.records opened.path.0 lock bytes) state end processes new
EndsWrite (Err fault) lock bytes regs opened m p state end processes new =
    IsCallRefused (file_error fault) m p state.io end processes new.io × (new ≡ record state { io = new.io })
