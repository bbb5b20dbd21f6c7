-- Attempts of the calls on paths, files and directories: each call by its code, and the effect of an attempt (System
-- Programmer's Manual, "I/O service requests").
use Rattle.std.specs.Prelude.{◌≡◌, ℕ, List, length}
use Rattle.os9_base.specs.Cells.{Cells, store_cells}
use Rattle.os9_base.specs.declared.call.CallEnd.{CallEnd}
use Rattle.os9_base.specs.declared.registers.Regs.{Regs}
use Rattle.os9_base.specs.declared.registers.TimePacket.{TimePacket}
use Rattle.os9_outer.specs.TerminalState.{TerminalState}
use Rattle.proc_model.specs.CallResult.{CallResult}
use Rattle.proc_model.specs.Processes.{Processes, user_at}
use Rattle.io_model.specs.Attempts.{caller_of, end_of, pending_in, regs_after, result_of}
use Rattle.io_model.specs.Dup.{i_dup}
use Rattle.io_model.specs.Io.{with_call}
use Rattle.io_model.specs.Step.{IoEffect}
use Rattle.file_rules.specs.ChgDir.{i_chgdir}
use Rattle.file_rules.specs.Close.{i_close}
use Rattle.file_rules.specs.Create.{i_create}
use Rattle.file_rules.specs.Delete.{i_delete, i_deletx}
use Rattle.file_rules.specs.Files.{Files, Asker, with_io, with_records}
use Rattle.file_rules.specs.Locking.{records_after}
use Rattle.file_rules.specs.MakDir.{i_makdir}
use Rattle.file_rules.specs.Open.{i_open}
use Rattle.file_rules.specs.Read.{i_read, i_readln}
use Rattle.file_rules.specs.Seek.{i_seek}
use Rattle.file_rules.specs.Status.{i_getstt, i_setstt}
use Rattle.file_rules.specs.Step.{FileEffect, FileStep, comes, as_io, FileDoes}
use Rattle.file_rules.specs.Write.{i_write, i_writln, f_perr}
use Rattle.file_rules.specs.declared.path_call.PathCall.{PathCall}
use Rattle.file_rules.specs.declared.path_call.PathCall.TheVariants as Call

-- an attempt of a call, on a machine with `terms` terminals
abbrev pub file_step : PathCall → Asker → Files → ℕ → FileStep
file_step Call.Dup asker files terms = comes (as_io (i_dup asker.caller files.io))
file_step Call.Create asker files terms = i_create asker files terms
file_step Call.Open asker files terms = i_open asker files terms
file_step Call.MakDir asker files terms = i_makdir asker files terms
file_step Call.ChgDir asker files terms = i_chgdir asker files terms
file_step Call.Delete asker files terms = i_delete asker files terms
file_step Call.DeletX asker files terms = i_deletx asker files terms
file_step Call.Seek asker files terms = i_seek asker files
file_step Call.Read asker files terms = i_read asker files
file_step Call.Write asker files terms = i_write asker files
file_step Call.ReadLn asker files terms = i_readln asker files
file_step Call.WritLn asker files terms = i_writln asker files
file_step Call.GetStt asker files terms = i_getstt asker files
file_step Call.SetStt asker files terms = i_setstt asker files
file_step Call.Close asker files terms = i_close asker files
file_step Call.PErr asker files terms = f_perr asker files

-- the state after an attempt of a process, with the state kept of its call
abbrev pub files_kept : ℕ → FileEffect → Files
files_kept p effect = with_io effect.files (with_call effect.files.io p (pending_in effect.end))

-- and with its request for a record only if it waits
abbrev pub files_after : ℕ → FileEffect → Files
files_after p effect =
    with_records (files_kept p effect) (records_after effect.end effect.files.records p)

-- ---- by the caller's registers and the bytes that it sees

-- an attempt of a call: its end, and after it the caller's registers, the bytes that it sees, the state and the
-- terminals
pub record AskerAttempts (call : PathCall) (asker : Asker) (files : Files) (end : CallEnd) (regs : Regs) (cells : Cells)
    (new : Files) (before after : List TerminalState) : Type 0 where
  pub effect : FileEffect
  pub does : FileDoes (file_step call asker files (length before)) asker files effect before after
  pub end_is : end ≡ end_of effect.end
  pub regs_are : regs ≡ regs_after effect.end asker.caller.regs
  pub cells_are : cells ≡ store_cells asker.caller.cells effect.at effect.bytes
  pub state : new ≡ files_after asker.caller.process.0 effect

-- ---- by the state of the processes

-- the calling process, at a time
abbrev pub asker_of : Processes → ℕ → TimePacket → Asker
asker_of processes p now =
    record { caller = caller_of processes p; user = user_at processes p; now = now; tick = processes.tick }

-- the effect on the paths, terminals and pipes
abbrev pub io_effect : FileEffect → IoEffect
io_effect effect = record { end = effect.end; at = effect.at; bytes = effect.bytes; io = effect.files.io }

-- an attempt of a call by a process, at a time: its result, and the state and the terminals after it
pub record FileAttempts (call : PathCall) (processes : Processes) (files : Files) (now : TimePacket) (p : ℕ)
    (result : CallResult) (new : Files) (before after : List TerminalState) : Type 0 where
  pub effect : FileEffect
  pub does : FileDoes (file_step call (asker_of processes p now) files (length before)) (asker_of processes p now) files
      effect
      before after
  pub result_is : result ≡ result_of processes p (io_effect effect)
  pub state : new ≡ files_after p effect
