-- An attempt of a call on files, step by step in the order of its refusals. If it reaches a drive, a fault of that
-- drive may end it; before that no fault may.
use Rattle.std.specs.Prelude.{◌≡◌, ◌⊎◌, ℕ, Bool, true, false, Option, Some, None, List, []}
use Rattle.os9_base.specs.declared.errors.TheConstants.{E_SLF}
use Rattle.os9_base.specs.declared.registers.Regs.{Regs}
use Rattle.os9_outer.specs.TerminalState.{TerminalState}
use Rattle.lock_model.specs.Records.{with_waiting}
use Rattle.rbf_model.specs.Volume.{DiskVolume}
use Rattle.io_model.specs.Attempts.{HasIoEffect}
use Rattle.io_model.specs.Step.{IoEnd, answers, fails, IoEffect, IoStep}
use Rattle.file_rules.specs.Change.{Change, AppliesChange, MayBeTooLong, ChangeMayLeave}
use Rattle.file_rules.specs.Files.{Files, Asker, DriveState, KeepsDriveFaults, OneFailed, volume_at, with_io, with_records, with_volume, with_drives}

-- ---- steps

-- the steps whose result is an `E`
pub data Step (E : Type 0) : Type 0 where
  -- it is refused with this number, and changes nothing
  refused : ℕ → Step E
  -- it has this result
  comes : E → Step E
  -- it reaches this drive, and goes on with this step if the drive does not fail
  reaches : ℕ → Step E → Step E

-- it goes on with this value, or is refused with this number if there is none
abbrev pub needs : {A E : Type 0} → Option A → ℕ → (A → Step E) → Step E
needs None number next = refused number
needs (Some a) number next = next a

-- it is refused with this number if the test is true, and goes on otherwise
abbrev pub refuses : {E : Type 0} → Bool → ℕ → Step E → Step E
refuses true number next = refused number
refuses false number next = next

-- the drive that it reaches, if any; no step reaches two
abbrev pub drive_of : {E : Type 0} → Step E → Option ℕ
drive_of (refused number) = None
drive_of (comes it) = None
drive_of (reaches drive step) = Some drive

-- ---- what an attempt does

-- the effect of an attempt: its end, the bytes that it stores from an address on, and the state except for what is kept
-- of a call on a terminal or a pipe
pub record FileEffect : Type 0 where
  pub end : IoEnd
  pub at : ℕ
  pub bytes : List ℕ
  pub files : Files

abbrev pub leaves : IoEnd → Files → FileEffect
leaves end files = record { end = end; at = 0; bytes = []; files = files }

abbrev pub stores : ℕ → List ℕ → Regs → Files → FileEffect
stores at bytes regs files = record { end = answers regs; at = at; bytes = bytes; files = files }

-- a change of the volume of a drive, and the effect of the attempt in addition to it, by the number of the new file
pub record VolumeChange : Type 0 where
  pub drive : ℕ
  pub change : Change
  pub effect : ℕ → FileEffect

pub data Deed : Type 0 where
  -- it has this effect, and changes no volume
  leaves_so : FileEffect → Deed
  -- it is this call on a terminal or a pipe
  as_io : IoStep → Deed
  -- it changes a volume
  changes : VolumeChange → Deed

abbrev pub FileStep : Type 0
FileStep = Step Deed

-- the call is done: the caller has these registers, and this is the state
abbrev pub done : Regs → Files → FileStep
done regs files = comes (leaves_so (leaves (answers regs) files))

-- the call is refused, and nothing has changed
abbrev pub refuses_so : ℕ → Files → FileEffect
refuses_so number files = leaves (fails number) files

-- what it does if no drive fails
abbrev pub deed_of : FileStep → Files → Deed
deed_of (refused number) files = leaves_so (refuses_so number files)
deed_of (comes deed) files = deed
deed_of (reaches drive step) files = deed_of step files

-- ---- its effect

-- what a call of a process on a terminal or a pipe left, in the state of files; it waits for no record
abbrev pub on_files : ℕ → Files → IoEffect → FileEffect
on_files p files it = record {
  end = it.end;
  at = it.at;
  bytes = it.bytes;
  files = with_records (with_io files it.io) (with_waiting files.records p None);
}

abbrev pub with_volume_after : FileEffect → ℕ → DiskVolume → FileEffect
with_volume_after it drive volume = record it { files = with_volume it.files drive volume }

abbrev pub with_drives_after : FileEffect → List DriveState → FileEffect
with_drives_after it drives = record it { files = with_drives it.files drives }

-- the volume has been changed
pub record IsChanged (it : VolumeChange) (asker : Asker) (files : Files) (effect : FileEffect) : Type 0 where
  pub old : DiskVolume
  pub is : volume_at files it.drive ≡ Some old
  pub new : DiskVolume
  pub number : ℕ
  pub makes : AppliesChange it.change asker.user asker.now old new number
  pub effect_is : effect ≡ with_volume_after (it.effect number) it.drive new

-- a list of segments had no place for a chosen cluster
pub record IsTooLong (it : VolumeChange) (files : Files) (effect : FileEffect) : Type 0 where
  pub old : DiskVolume
  pub is : volume_at files it.drive ≡ Some old
  pub too_long : MayBeTooLong it.change old
  pub effect_is : effect ≡ refuses_so E_SLF files

-- what is done has this effect, and leaves these terminals
abbrev pub DoesDeed : Deed → Asker → Files → FileEffect → List TerminalState → List TerminalState → Type 0
DoesDeed (leaves_so it) asker files effect before after = (effect ≡ it) × (after ≡ before)
DoesDeed (as_io step) asker files effect before after =
    (it : IoEffect) × HasIoEffect step asker.caller files.io it before after
    × (effect ≡ on_files asker.caller.process.0 files it)
DoesDeed (changes it) asker files effect before after =
    (IsChanged it asker files effect ⊎ IsTooLong it files effect) × (after ≡ before)

-- no drive failed
pub record GoesWell (step : FileStep) (asker : Asker) (files : Files) (effect : FileEffect)
    (before after : List TerminalState) : Type 0 where
  pub it : FileEffect
  pub does : DoesDeed (deed_of step files) asker files it before after
  pub drives : List DriveState
  pub none_failed : KeepsDriveFaults files.drives drives
  pub effect_is : effect ≡ with_drives_after it drives

-- what a fault may leave of a volume on which this was to be done
abbrev pub MayBeLeft : Deed → Asker → DiskVolume → DiskVolume → Type 0
MayBeLeft (leaves_so it) asker old left = left ≡ old
MayBeLeft (as_io step) asker old left = left ≡ old
MayBeLeft (changes it) asker old left = ChangeMayLeave it.change asker.user asker.now old left

-- the drive that the step reached has failed. The call returns the number of the fault that the drive had in this
-- attempt, and nothing but the volume and the drives' counts has changed
pub record IsBroken (step : FileStep) (asker : Asker) (files : Files) (effect : FileEffect) : Type 0 where
  pub drive : ℕ
  pub reached : drive_of step ≡ Some drive
  pub number : ℕ
  pub drives : List DriveState
  pub failed : OneFailed drive number files.drives drives
  pub old : DiskVolume
  pub is : volume_at files drive ≡ Some old
  pub left : DiskVolume
  pub may_be : MayBeLeft (deed_of step files) asker old left
  pub effect_is : effect ≡ refuses_so number (with_drives (with_volume files drive left) drives)

-- an attempt has this effect, and leaves these terminals
abbrev pub FileDoes : FileStep → Asker → Files → FileEffect → List TerminalState → List TerminalState → Type 0
FileDoes step asker files effect before after =
    GoesWell step asker files effect before after ⊎ (IsBroken step asker files effect × (after ≡ before))
