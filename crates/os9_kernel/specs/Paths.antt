-- The effect of a call on processes and modules on paths and directories.
use Rattle.std.specs.Prelude.{◌≡◌, ℕ, ◌<◌, None, List, Option}
use Rattle.os9_base.specs.declared.call.CallEnd.{CallEnd}
use Rattle.os9_base.specs.declared.call.CallEnd.TheVariants.{Done, Error, Wait, Ended, NoMemory}
use Rattle.proc_model.specs.declared.record.Record.{Record}
use Rattle.proc_model.specs.Records.{record_at}
use Rattle.io_model.specs.Io.{Io, pending_at}
use Rattle.file_rules.specs.Files.{Files}
use Rattle.file_rules.specs.Processes.{files_ended, files_started}
use Rattle.os9_kernel.specs.declared.service.LoadCall.{LoadCall}
use Rattle.os9_kernel.specs.declared.service.LoadCall.TheVariants.{Fork}

-- the number in A of a process
abbrev pub number_in_a : List (Option Record) → ℕ → ℕ
number_in_a records p = (record_at records p).regs.a

-- a process may begin with this number: it is a valid number, and no call of it is kept
pub record MayBegin (io : Io) (child : ℕ) : Type 0 where
  pub process : child < 33
  pub quiet : pending_at io child ≡ None

-- the files after a call with this end: what an ended process had is closed
abbrev pub files_then : CallEnd → Files → ℕ → Files
files_then Done files p = files
files_then (Error number) files p = files
files_then Wait files p = files
files_then Ended files p = files_ended files p
files_then NoMemory files p = files

-- the files after a call that may load, with this end and this number in A: the child that F$Fork started has its
-- parent's standard paths and directories
abbrev pub files_begun : LoadCall → CallEnd → Files → ℕ → ℕ → Files
files_begun Fork Done files p a = files_started files p a
files_begun call end files p a = files
