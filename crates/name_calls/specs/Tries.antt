-- An attempt of a call that returns X past its path list, or is refused.
use Rattle.std.specs.Prelude.{ℕ, ◌%◌, List, Result, Ok, Err}
use Rattle.os9_base.specs.declared.call.CallEnd.{CallEnd}
use Rattle.os9_base.specs.declared.call.CallEnd.TheVariants.{Done, Error}
use Rattle.os9_base.specs.declared.registers.Regs.{Regs}
use Rattle.os9_base.specs.declared.registers.TimePacket.{TimePacket}
use Rattle.os9_outer.specs.TerminalState.{TerminalState}
use Rattle.proc_model.specs.Processes.{Processes}
use Rattle.io_model.specs.Step.{IoEnd, answers, fails}
use Rattle.proc_state.specs.Tie.{RepresentsProcesses}
use Rattle.file_drives.specs.Drives.{DriveView}
use Rattle.file_rules.specs.Attempts.{asker_of}
use Rattle.file_rules.specs.Files.{Asker, Files}
use Rattle.file_rules.specs.Step.{FileDoes, FileStep, leaves}
use Rattle.file_state.specs.Attempt.{MachineOnDrives}
use Rattle.file_state.specs.Counted.{CalledAtMost, calls_of}
use Rattle.file_state.specs.Media.{KeepsDrives}
use Rattle.file_state.specs.Tie.{RepresentsFiles}
use Rattle.file_state.specs.declared.state.FileState.{FileState}

-- the end for a caller with these registers: its list ends before this address, or this is its error
abbrev pub end_by : Regs → Result ℕ ℕ → IoEnd
end_by regs (Ok next) = answers (record regs { x = next % 65536 })
end_by regs (Err number) = fails number

-- the same as the end of the call for the process
abbrev pub told_by : Result ℕ ℕ → CallEnd
told_by (Ok next) = Done
told_by (Err number) = Error number

-- an attempt with this step and this result, which calls the drives at most `most` times if the step reaches one
pub record TriesNameCall (step : FileStep) (most : ℕ) (asker : Asker) (files : Files) (result : Result ℕ ℕ)
    (new : FileState)
    (before now : List DriveView) : Type 0 where
  pub left : Files
  pub does : (terms : List TerminalState)
      → FileDoes step asker files (leaves (end_by asker.caller.regs result) left) terms terms
  pub stands : RepresentsFiles new now left
  pub calls : CalledAtMost (calls_of step most) before now
  pub drives : KeepsDrives step asker files (told_by result) before now

-- such an attempt of a process, at a time and with this number of terminals, from each state of the machine that the
-- kernel's state represents
abbrev pub TriesNameCallFrom : (Asker → Files → ℕ → FileStep) → (Asker → Files → ℕ → ℕ) → TimePacket → ℕ → ℕ
    → Result ℕ ℕ
    → MachineOnDrives → MachineOnDrives → Type 0
TriesNameCallFrom step most now p terms result before after =
    (m : Processes) (was : Files) → RepresentsProcesses before.processes m
    → RepresentsFiles before.files before.views was
    → TriesNameCall (step (asker_of m p now) was terms) (most (asker_of m p now) was terms) (asker_of m p now) was
    result
    after.files before.views after.views
