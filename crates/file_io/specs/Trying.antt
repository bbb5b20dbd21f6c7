-- What an attempt on the file of a path does.
use Rattle.std.specs.Prelude.{◌≡◌, ℕ, Some, List}
use Rattle.os9_base.specs.declared.call.CallEnd.{CallEnd}
use Rattle.os9_base.specs.declared.registers.TimePacket.{TimePacket}
use Rattle.os9_outer.specs.TerminalState.{TerminalState}
use Rattle.proc_model.specs.Processes.{Processes}
use Rattle.rbf_model.specs.File.{DiskFile}
use Rattle.rbf_model.specs.Volume.{DiskVolume}
use Rattle.proc_state.specs.Tie.{RepresentsProcesses}
use Rattle.file_rules.specs.Attempts.{asker_of}
use Rattle.file_rules.specs.Files as rules
use Rattle.file_rules.specs.Files.{Asker, Files, volume_at}
use Rattle.file_rules.specs.Step.{FileStep}
use Rattle.file_state.specs.Attempt.{MachineOnDrives, unrequested}
use Rattle.file_state.specs.Ends.{EndsOrLacks}
use Rattle.file_state.specs.Tie.{RepresentsFiles}
use Rattle.file_state.specs.declared.state.OpenFile.{OpenFile}
use Rattle.file_io.specs.Opened.{found_on}

-- an attempt on the file of a path does this, for every state that the kernel's state represents once its files are
-- changed so, or no memory was left for its entry in the history
abbrev pub TriesFileStepFrom : (Files → Files) → (Asker → Files → rules.OpenFile → FileStep)
    → (Asker → Files → rules.OpenFile → ℕ) → OpenFile → TimePacket → ℕ → CallEnd → MachineOnDrives → MachineOnDrives
    → Type 0
TriesFileStepFrom changed step most opened now p end before after =
    (m : Processes) (files : Files) (v : DiskVolume) (file : DiskFile) (terms : List TerminalState)
    → RepresentsProcesses before.processes m → RepresentsFiles before.files before.views (changed files)
    → volume_at files opened.place.drive ≡ Some v → v.files opened.place.number ≡ Some file
    → EndsOrLacks (step (asker_of m p now) files (found_on opened v file))
    (most (asker_of m p now) files (found_on opened v file)) m files now p end after.processes after.files before.views
    after.views terms

-- whatever files the kernel's are
abbrev pub TriesFileStep : (Asker → Files → rules.OpenFile → FileStep) → (Asker → Files → rules.OpenFile → ℕ) → OpenFile
    → TimePacket → ℕ → CallEnd → MachineOnDrives → MachineOnDrives → Type 0
TriesFileStep step most opened now p end before after = TriesFileStepFrom (λ files. files) step most opened now p end
    before after

-- at any time
abbrev pub TriesAlways : (Asker → Files → rules.OpenFile → FileStep) → (Asker → Files → rules.OpenFile → ℕ) → OpenFile
    → ℕ → CallEnd → MachineOnDrives → MachineOnDrives → Type 0
TriesAlways step most opened p end before after =
    (now : TimePacket) → TriesFileStep step most opened now p end before after

-- once its request is granted: the kernel's files have it no longer
abbrev pub TriesGranted : (Asker → Files → rules.OpenFile → FileStep) → (Asker → Files → rules.OpenFile → ℕ) → OpenFile
    → TimePacket → ℕ → CallEnd → MachineOnDrives → MachineOnDrives → Type 0
TriesGranted step most opened now p end before after =
    TriesFileStepFrom (unrequested p) step most opened now p end before after
