-- What an event of a process changes of volumes and drives, of the directories of processes and of the clock (Level Two
-- manual, "I/O system"; System Programmer's Manual, "I/O service requests", F$STime).
use Rattle.std.specs.Prelude.{◌≡◌, ◌≢◌, ◌⊎◌, ℕ, true, Some, List}
use Rattle.proc_model.specs.Records.{free_process}
use Rattle.proc_model.specs.Ready.{attempts, act_of}
use Rattle.proc_model.specs.declared.proc_call.ProcCall.TheVariants as Call
use Rattle.file_rules.specs.Files.{DriveState, KeepsDriveFaults, OneFailed, directories_at, volume_at}
use Rattle.file_rules.specs.declared.path_call.PathCall.{PathCall}
use Rattle.file_rules.specs.declared.places.Directories.{Directories}
use Rattle.call_laws.specs.Others.{AttemptsCall}
use Rattle.time_rules.specs.Codes.{time_call_of}
use Rattle.time_rules.specs.declared.time_call.TimeCall.TheVariants as Time
use Rattle.file_laws.specs.Touch.{may_change_volume}
use Rattle.isolation_laws.specs.Drives.{ReachesDrive}
use Rattle.machine_model.specs.Services.{Service, on_paths}
use Rattle.machine_model.specs.State.{State}

-- the volume of one drive may change, by a call that changes volumes and reaches that drive; no other volume changes
pub record ChangesOneVolume (s : State) (p : ℕ) (t : State) : Type 0 where
  pub call : PathCall
  pub changing : may_change_volume call ≡ true
  pub drive : ℕ
  pub reaches : ReachesDrive s p (on_paths call) drive
  pub others : (other : ℕ) → other ≢ drive → volume_at t.files other ≡ volume_at s.files other

-- a drive has failed, and no other one: the drive that the process reaches in an attempt of its call
pub record FailsOneDrive (s : State) (p : ℕ) (drives : List DriveState) : Type 0 where
  pub service : Service
  pub drive : ℕ
  pub reaches : ReachesDrive s p service drive
  pub number : ℕ
  pub failed : OneFailed drive number s.files.drives drives

-- F$Fork gives a child the directories of its parent
pub record IsGivenDirectories (s : State) (p q : ℕ) (directories : Directories) : Type 0 where
  pub call : AttemptsCall s.processes p Call.Fork
  pub number : free_process s.processes.records ≡ Some q
  pub given : directories ≡ directories_at s.files p

-- only F$STime sets the clock
abbrev pub SetsClock : State → ℕ → Type 0
SetsClock s p = (code : ℕ) × (act_of s.processes p ≡ attempts code) × (time_call_of code ≡ Some Time.STime)

-- an event of a process leaves unchanged the directories of the others, the volumes, the counts of faults and the
-- clock, except for these changes
pub record LeavesVolumes (s : State) (p : ℕ) (t : State) : Type 0 where
  pub volumes : (t.files.volumes ≡ s.files.volumes) ⊎ ChangesOneVolume s p t
  pub drives : KeepsDriveFaults s.files.drives t.files.drives ⊎ FailsOneDrive s p t.files.drives
  pub directories : (q : ℕ) → q ≢ p
      → (directories_at t.files q ≡ directories_at s.files q) ⊎ IsGivenDirectories s p q (directories_at t.files q)
  pub clock : (t.clock ≡ s.clock) ⊎ SetsClock s p
