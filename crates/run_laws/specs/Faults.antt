-- Attempts, runs in which no device fails, and runs that are the same.
use Rattle.std.specs.Prelude.{◌<◌, ◌-◌, ◌^◌, ◌≡◌, ◌⊎◌, ℕ, None, Some, List, length}
use Rattle.std.specs.List.{AllByRecursion, AllZip}
use Rattle.os9_base.specs.Count.{Rose}
use Rattle.os9_base.specs.declared.registers.TimePacket.{TimePacket}
use Rattle.os9_outer.specs.TerminalState.{TerminalState}
use Rattle.proc_model.specs.Attempts.{after_attempt}
use Rattle.proc_model.specs.Ready.{attempts, act_of}
use Rattle.io_model.specs.Attempts.{result_of}
use Rattle.file_rules.specs.Attempts.{asker_of, file_step, files_after, io_effect}
use Rattle.rbf_model.specs.File.{DiskFile}
use Rattle.rbf_model.specs.Volume.{DiskVolume}
use Rattle.rbf_change.specs.Calls.{cluster_size}
use Rattle.rbf_change.specs.Contents.{written}
use Rattle.rbf_change.specs.Growth.{clusters_needed}
use Rattle.file_rules.specs.Change.{Change, writes, sizes, sets_attributes, creates, makes_directory, deletes}
use Rattle.file_rules.specs.Files.{DriveState, Files, drive_at, volume_at}
use Rattle.file_rules.specs.Step.{Deed, FileEffect, IsChanged, IsTooLong, VolumeChange, changes, deed_of, with_drives_after}
use Rattle.file_rules.specs.declared.path_call.PathCall.{PathCall}
use Rattle.machine_model.specs.declared.ends.EventEnd.{EventEnd}
use Rattle.machine_model.specs.declared.ends.EventEnd.TheVariants.{Ran}
use Rattle.machine_model.specs.declared.ends.SliceEnd.{SliceEnd}
use Rattle.time_rules.specs.Clock.{IsNow}
use Rattle.machine_model.specs.Services.{on_paths, service_of}
use Rattle.machine_model.specs.State.{State, rest_of, with_rest}

-- ---- devices that do not fail

-- the count of faults of a terminal did not rise
abbrev pub NotFailed : TerminalState → TerminalState → Type 0
NotFailed before now = Rose before.faults now.faults → ⊥

-- no drive's count of faults rose
abbrev pub NoDriveFailed : List DriveState → List DriveState → Type 0
NoDriveFailed before now = (drive : ℕ) → Rose (drive_at before drive).faults (drive_at now drive).faults → ⊥

-- no count of faults rose from one state to another, of a terminal or of a drive
pub record NoneFailed (s t : State) : Type 0 where
  pub terminals : AllZip NotFailed s.terms t.terms
  pub drives : NoDriveFailed s.files.drives t.files.drives

-- every count of faults can still rise: none is at its greatest value
pub record CanRise (s : State) : Type 0 where
  pub terminals : AllByRecursion (λ (terminal : TerminalState). terminal.faults < 2 ^ 64 - 1) s.terms
  pub drives : (drive : ℕ) → (drive_at s.files.drives drive).faults < 2 ^ 64 - 1

-- ---- what the machine may choose

-- file n needs more clusters to be of this size; or its list of segments is longer than that of a file on a disk may be
pub record NeedsClusters (v : DiskVolume) (n : ℕ) (size : DiskFile → ℕ) : Type 0 where
  pub file : DiskFile
  pub is : v.files n ≡ Some file
  pub some : (0 < clusters_needed (cluster_size v) file.segments (size file)) ⊎ (48 < length file.segments)

-- a change takes clusters of a volume: those that a file needs, or those of a new file or directory
abbrev pub TakesClusters : Change → DiskVolume → Type 0
TakesClusters (writes n at bytes) v = NeedsClusters v n (λ file. length (written file.contents at bytes))
TakesClusters (sizes n size) v = NeedsClusters v n (λ file. size)
TakesClusters (sets_attributes n attributes) v = ⊥
TakesClusters (creates d name attributes) v = Unit {0}
TakesClusters (makes_directory d name attributes) v = Unit {0}
TakesClusters (deletes d n name) v = ⊥

-- the volume of a change is mounted, and it takes clusters of it
pub record TakesFrom (files : Files) (it : VolumeChange) : Type 0 where
  pub old : DiskVolume
  pub mounted : volume_at files it.drive ≡ Some old
  pub takes : TakesClusters it.change old

-- what is done is such a change
pub record DeedTakes (files : Files) (deed : Deed) : Type 0 where
  pub it : VolumeChange
  pub is : deed ≡ changes it
  pub taken : TakesFrom files it

-- the chosen process attempts a call on paths that takes clusters of a volume
pub record MayChoose (s : State) : Type 0 where
  pub p : ℕ
  pub chosen : s.chosen ≡ Some p
  pub code : ℕ
  pub next : act_of s.processes p ≡ attempts code
  pub call : PathCall
  pub asks : service_of code ≡ on_paths call
  pub now : TimePacket
  pub is_now : IsNow s.clock s.processes.tick now
  pub deed : DeedTakes s.files (deed_of (file_step call (asker_of s.processes p now) s.files (length s.terms)) s.files)

-- the state after an attempt of a process that had this effect on the files, without a fault of a drive
abbrev pub after_effect : State → ℕ → FileEffect → State
after_effect s p effect =
    with_rest s (after_attempt s.processes p (result_of s.processes p (io_effect effect)))
    (record (rest_of s) { files = files_after p (with_drives_after effect s.files.drives) })

-- an event makes the change of the volume that such an attempt asks for, with some clusters, or finds no place for them
pub record ChoosesClusters (s : State) (choice : MayChoose s) (end : EventEnd) (t : State) : Type 0 where
  pub effect : FileEffect
  pub does : IsChanged choice.deed.it (asker_of s.processes choice.p choice.now) s.files effect
      ⊎ IsTooLong choice.deed.it s.files effect
  pub ends : end ≡ Ran
  pub is : t ≡ after_effect s choice.p effect

-- two events make one change of a volume, each with its clusters
pub record SameButClusters (s : State) (end : EventEnd) (t : State) (other : EventEnd) (u : State) : Type 0 where
  pub choice : MayChoose s
  pub one : ChoosesClusters s choice end t
  pub second : ChoosesClusters s choice other u

-- no volume is mounted
abbrev pub HasNoVolumes : State → Type 0
HasNoVolumes s = (drive : ℕ) → volume_at s.files drive ≡ None

-- ---- sameness

-- two events are the same
pub record SameEvent (end : EventEnd) (t : State) (other : EventEnd) (u : State) : Type 0 where
  pub ends : end ≡ other  -- how they end
  pub last : t ≡ u  -- the states then

-- two slices are the same
pub record SameSlice (states : List State) (end : SliceEnd) (t : State) (others : List State) (other : SliceEnd)
    (u : State) : Type 0 where
  pub through : states ≡ others  -- the states after their events
  pub ends : end ≡ other  -- how they end
  pub last : t ≡ u  -- the states at their ends

-- two runs are the same
pub record SameRun (states : List State) (written : List ℕ) (t : State) (others : List State) (bytes : List ℕ)
    (u : State) : Type 0 where
  pub through : states ≡ others  -- the states after their events
  pub writes : written ≡ bytes  -- what they write
  pub last : t ≡ u  -- the states at their ends
