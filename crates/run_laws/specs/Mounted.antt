-- Facts of the volumes in every state of a run.
use Rattle.std.specs.Prelude.{◌≡◌, ℕ, ◌<◌, Some, length}
use Rattle.rbf_model.specs.File.{DiskFile}
use Rattle.rbf_model.specs.Volume.{DiskVolume}
use Rattle.rbf_change.specs.Calls.{shape}
use Rattle.file_rules.specs.Files.{Files, volume_at}
use Rattle.call_laws.specs.Running.{IsRunning}
use Rattle.machine_model.specs.State.{State}

-- the files of a volume have numbers of its sectors
abbrev pub HasNumbers : DiskVolume → Type 0
HasNumbers v = (n : ℕ) (file : DiskFile) → v.files n ≡ Some file → n < (shape v).total

-- each mounted volume is in an existing drive, and its files have numbers of its sectors
pub record MountsAreSound (files : Files) : Type 0 where
  pub drives : (drive : ℕ) (v : DiskVolume) → volume_at files drive ≡ Some v → drive < length files.drives
  pub numbers : (drive : ℕ) (v : DiskVolume) → volume_at files drive ≡ Some v → HasNumbers v

-- facts of a state from which the machine goes on
pub record CanGo (s : State) : Type 0 where
  pub running : IsRunning s
  pub mounted : MountsAreSound s.files
