-- What an attempt of a call on a path leaves if there is no memory (this project's own).
use Rattle.std.specs.Prelude.{◌≡◌, ◌≢◌, ℕ, List, [], ◌∷◌, ◌++◌, length}
use Rattle.os9_base.specs.declared.registers.TimePacket.{TimePacket}
use Rattle.os9_outer.specs.TerminalState.{TerminalState}
use Rattle.proc_model.specs.CallResult.{CallResult}
use Rattle.proc_model.specs.Processes.{Processes}
use Rattle.lock_model.specs.Records.{Records}
use Rattle.lock_model.specs.declared.history.Entry.{Entry}
use Rattle.lock_model.specs.declared.lock.EntryKind.TheVariants.{Drop}
use Rattle.io_model.specs.Attempts.{caller_of}
use Rattle.io_model.specs.Memory.{WantsMemory}
use Rattle.io_model.specs.Step.{IoStep}
use Rattle.file_rules.specs.Attempts.{FileAttempts, asker_of, file_step}
use Rattle.file_rules.specs.Files.{Files}
use Rattle.file_rules.specs.Step.{as_io, deed_of}
use Rattle.file_rules.specs.declared.path_call.PathCall.{PathCall}

-- an attempt is on a terminal, and memory was lacking for a byte that was to be put there
pub record LacksMemory (call : PathCall) (m : Processes) (files : Files) (now : TimePacket) (p : ℕ)
    (before after : List TerminalState) : Type 0 where
  pub step : IoStep
  pub on_device : deed_of (file_step call (asker_of m p now) files (length before)) files ≡ as_io step
  pub wants : WantsMemory step (caller_of m p) files.io before after

-- a lock that was granted, or a write, is the last entry of the history now. The end of a lock wants no memory
pub record AddsHistoryEntry (old new : Records) : Type 0 where
  pub entry : Entry
  pub is : new.history ≡ old.history ++ entry ∷ []
  pub no_end : entry.kind ≢ Drop

-- an attempt is on a file, and memory was wanting for its entry in the history: of these files the devices have what it
-- does, which is done
pub record LacksEntry (call : PathCall) (m : Processes) (files : Files) (now : TimePacket) (p : ℕ) (done : Files)
    (before after : List TerminalState) : Type 0 where
  pub result : CallResult
  pub attempts : FileAttempts call m files now p result done before after
  pub enters : AddsHistoryEntry files.records done.records
