-- The existence of events, slices and runs.
use Rattle.std.specs.Prelude.{◌≡◌, ◌⊎◌, ℕ, Some, List}
use Rattle.os9_outer.specs.TerminalState.{fault_counts}
use Rattle.proc_model.specs.Ready.{attempts, act_of}
use Rattle.file_rules.specs.Codes.{path_call_of}
use Rattle.rbf_model.specs.Volume.{DiskVolume}
use Rattle.file_rules.specs.Files.{KeepsDriveFaults, volume_at}
use Rattle.file_rules.specs.declared.path_call.PathCall.TheVariants as Call
use Rattle.machine_model.specs.declared.ends.EventEnd.{EventEnd}
use Rattle.machine_model.specs.declared.ends.SliceEnd.{SliceEnd}
use Rattle.machine_model.specs.Event.{Event}
use Rattle.machine_model.specs.Run.{Run, Slice}
use Rattle.machine_model.specs.State.{State}
use Rattle.run_laws.specs.Faults.{HasNoVolumes}

-- the count of faults of each terminal is the same in two states
abbrev pub SameCounts : State → State → Type 0
SameCounts s t = fault_counts t.terms ≡ fault_counts s.terms

-- the chosen process attempts I$Create or I$MakDir, and a volume is mounted
pub record MakesFile (s : State) : Type 0 where
  pub p : ℕ
  pub chosen : s.chosen ≡ Some p
  pub code : ℕ
  pub next : act_of s.processes p ≡ attempts code
  pub makes : (path_call_of code ≡ Some Call.Create) ⊎ (path_call_of code ≡ Some Call.MakDir)
  pub drive : ℕ
  pub volume : DiskVolume
  pub mounted : volume_at s.files drive ≡ Some volume

-- a state has an event in which no terminal fails, and no drive unless a file or a directory is made
pub record HasUnfailedEvent (s : State) : Type 0 where
  pub end : EventEnd
  pub last : State
  pub event : Event s end last
  pub counts : SameCounts s last
  pub drives : KeepsDriveFaults s.files.drives last.files.drives ⊎ MakesFile s

-- a slice of n instructions ends without a failure of a terminal, and without volumes also of a drive
pub record HasUnfailedSlice (n : ℕ) (s : State) : Type 0 where
  pub states : List State
  pub end : SliceEnd
  pub last : State
  pub slice : Slice n s states end last
  pub counts : SameCounts s last
  pub drives : HasNoVolumes s → KeepsDriveFaults s.files.drives last.files.drives

-- there is a run over these slices in which no terminal fails, and without volumes no drive
pub record HasRun (slices : List ℕ) (s : State) : Type 0 where
  pub states : List State
  pub written : List ℕ
  pub last : State
  pub run : Run slices s states written last
  pub counts : SameCounts s last
  pub drives : HasNoVolumes s → KeepsDriveFaults s.files.drives last.files.drives
