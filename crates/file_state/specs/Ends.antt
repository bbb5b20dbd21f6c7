-- The end of an attempt of a call on files that is a step from here on.
use Rattle.std.specs.Prelude.{◌≡◌, ◌≢◌, ◌⊎◌, ℕ, None, List}
use Rattle.os9_base.specs.declared.call.CallEnd.{CallEnd}
use Rattle.os9_base.specs.declared.call.CallEnd.TheVariants.{NoMemory}
use Rattle.os9_base.specs.declared.registers.TimePacket.{TimePacket}
use Rattle.os9_outer.specs.TerminalState.{TerminalState}
use Rattle.proc_model.specs.Processes.{Processes}
use Rattle.io_model.specs.Attempts.{pending_in, result_of}
use Rattle.io_model.specs.Step.{IoEnd}
use Rattle.proc_state.specs.Tie.{ReturnsCallEnd}
use Rattle.proc_state.specs.declared.state.ProcState.{ProcState}
use Rattle.file_rules.specs.Attempts.{asker_of, files_kept, io_effect}
use Rattle.file_rules.specs.Files.{Files}
use Rattle.file_rules.specs.Memory.{AddsHistoryEntry}
use Rattle.file_rules.specs.Step.{FileDoes, FileEffect, FileStep}
use Rattle.file_drives.specs.Drives.{DriveView, drive_states}
use Rattle.file_drives.specs.Mounted.{AreMounted}
use Rattle.file_state.specs.Attempt.{unrequested, without_request}
use Rattle.file_state.specs.Counted.{CalledAtMost, calls_of}
use Rattle.file_state.specs.Media.{KeepsDrives}
use Rattle.file_state.specs.Tie.{RepresentsFiles}
use Rattle.file_state.specs.declared.state.FileState.{FileState}

-- the kernel's files are those of the machine after an attempt that ends so, or they are so without a request of the
-- process, which does not wait then
abbrev pub StandsAfter : ℕ → IoEnd → FileState → List DriveView → Files → Type 0
StandsAfter p end state views files =
    RepresentsFiles state views files
    ⊎ ((pending_in end ≡ None)
    × RepresentsFiles (without_request p state) views (unrequested p files))

-- an attempt of a process, at a time, does what the step says, and calls the drives at most `most` times if it reaches
-- one. It has this end, and these are the processes, the state and the drives after it. The terminals are unchanged
pub record EndsFileAttempt (step : FileStep) (most : ℕ) (m : Processes) (files : Files) (now : TimePacket) (p : ℕ)
    (end : CallEnd)
    (processes : ProcState) (new : FileState) (before after : List DriveView) (terms : List TerminalState) : Type 0
  where
    pub effect : FileEffect
    pub does : FileDoes step (asker_of m p now) files effect terms terms
    pub comes : ReturnsCallEnd m p (result_of m p (io_effect effect)) end processes
    pub stands : StandsAfter p effect.end new after (files_kept p effect)
    pub calls : CalledAtMost (calls_of step most) before after
    pub drives : KeepsDrives step (asker_of m p now) files end before after

-- memory was wanting for the entry of an attempt in the history: what its step does on the drives is done
pub record EndsUnentered (step : FileStep) (most : ℕ) (m : Processes) (files : Files) (now : TimePacket) (p : ℕ)
    (end : CallEnd) (new : FileState) (before after : List DriveView) (terms : List TerminalState) : Type 0 where
  pub effect : FileEffect
  pub does : FileDoes step (asker_of m p now) files effect terms terms
  pub enters : AddsHistoryEntry files.records effect.files.records
  pub drives : effect.files.drives ≡ drive_states after
  pub mounted : AreMounted new.disks after effect.files.volumes
  pub calls : CalledAtMost (calls_of step most) before after
  pub images : KeepsDrives step (asker_of m p now) files end before after

-- an attempt ends so, or memory was wanting for its entry
pub record EndsOrLacks (step : FileStep) (most : ℕ) (m : Processes) (files : Files) (now : TimePacket) (p : ℕ)
    (end : CallEnd) (processes : ProcState) (new : FileState) (before after : List DriveView)
    (terms : List TerminalState) : Type 0 where
  pub ends : end ≢ NoMemory → EndsFileAttempt step most m files now p end processes new before after terms
  pub lacks : end ≡ NoMemory → EndsUnentered step most m files now p end new before after terms
