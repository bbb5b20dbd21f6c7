-- Calls of the program for `vol` on one image, in turn (this project's own).
use Rattle.std.specs.Prelude.{◌≡◌, ◌≢◌, ◌⊎◌, ◌==◌, ℕ, Bool, true, Option, Some, None, List, [], ◌∷◌, filter_map, option_map, if◌then◌else◌}
use Rattle.os9_outer.specs.Host.{HostFiles, file_contents}
use Rattle.os9_outer.specs.Stream.{stream_with}
use Rattle.os9_words.specs.Command.{command_of}
use Rattle.os9_words.specs.Notes.{Notes}
use Rattle.os9_words.specs.declared.command.Command.TheVariants.{Vol}
use Rattle.os9_words.specs.declared.vol_words.Verb.TheVariants.{Format, Get}
use Rattle.os9_words.specs.declared.vol_words.VolWords.{VolWords}
use Rattle.rbf_model.specs.Volume.{DiskVolume, Vol as HoldsVolume}
use Rattle.vol_tools.specs.Tool.{IsListed, IsFileRead}
use Rattle.vol_tools.specs.UsesInTurn.{Use}
use Rattle.os9_boot.specs.NewDisk.{NewDisk}
use Rattle.boot_run.specs.World.{World}
use Rattle.boot_run.specs.End.{status_number}
use Rattle.boot_run.specs.declared.status.End.TheVariants.{Ended, Refused}
use Rattle.os9_boot.specs.Vol.{file_of, path_of, vol_tool}
use Rattle.os9_boot.specs.TopCall.{TopCall}

-- a finished call: its words, the contents of the files before and after it, and its status
pub record FinishedVolCall : Type 0 where
  pub vol : VolWords
  pub files : HostFiles
  pub now : HostFiles
  pub status : ℕ

-- the program was called with these words, and the files of its host were observed
pub record IsCalled (turn : FinishedVolCall) : Type 0 where
  pub words : List (List ℕ)
  pub spell : command_of words ≡ Some (Vol turn.vol)
  pub before : World
  pub had : before.files ≡ Some turn.files
  pub after : World
  pub has : after.files ≡ Some turn.now
  pub noted : Notes
  pub notes : Notes
  pub call : TopCall words before after noted notes turn.status

-- it was done
abbrev pub is_done : FinishedVolCall → Bool
is_done turn = turn.status == status_number Ended

-- it was done, or its tool was refused with some number
abbrev pub IsDoneOrRefused : FinishedVolCall → Type 0
IsDoneOrRefused turn =
    (turn.status ≡ status_number Ended) ⊎ ((number : ℕ) × (turn.status ≡ status_number (Refused number)))

-- it was done or refused, and its image was the file of this name, which held these bytes
pub record IsTurnOn (name old : List ℕ) (turn : FinishedVolCall) : Type 0 where
  pub called : IsCalled turn
  pub image : turn.vol.image ≡ name
  pub found : file_contents turn.files name ≡ old
  pub ended : IsDoneOrRefused turn

-- Such calls, in turn. The first finds the old bytes in the file, each later one what the one before left there, and
-- the last leaves the new bytes.
abbrev pub CallsInTurn : (name : List ℕ) → List FinishedVolCall → (old new : List ℕ) → Type 0
CallsInTurn name [] old new = new ≡ old
CallsInTurn name (turn ∷ turns) old new =
    IsTurnOn name old turn × CallsInTurn name turns (file_contents turn.now name) new

-- a `get` was done whose FILE is its image
pub record GetsOver (turn : FinishedVolCall) : Type 0 where
  pub verb : turn.vol.verb ≡ Get
  pub file : file_of turn.vol ≡ turn.vol.image
  pub done : is_done turn ≡ true

-- it did not replace the disk, as `format` and such a `get` do
pub record KeepsDisk (turn : FinishedVolCall) : Type 0 where
  pub tool : turn.vol.verb ≢ Format
  pub apart : ¬ GetsOver turn

-- the tool that it used, at the time of its words, if it was done and its verb has a tool
abbrev pub use_of : FinishedVolCall → Option Use
use_of turn =
    if is_done turn
    then option_map (λ tool. record { tool = tool; now = turn.vol.start }) (vol_tool turn.files turn.vol)
    else None

-- the tools of a list of calls, in its order; a refused call has none
abbrev pub uses_of : List FinishedVolCall → List Use
uses_of turns = filter_map use_of turns

-- the disk that the words of `format` specify
abbrev pub disk_of : VolWords → NewDisk
disk_of vol = record { sectors = vol.sectors; cluster = vol.cluster; made = vol.start }

-- these bytes are those of the file at a path on the old disk
pub record AreBytesOfFile (old path bytes : List ℕ) : Type 0 where
  pub volume : DiskVolume
  pub was : HoldsVolume old volume
  pub read : IsFileRead volume path bytes

-- these bytes are the lines of the directory at a path on the old disk
pub record AreLinesOf (old path bytes : List ℕ) : Type 0 where
  pub volume : DiskVolume
  pub was : HoldsVolume old volume
  pub listed : IsListed volume path bytes

-- a call that was done has printed the lines of the directory at its PATH on the old disk
pub record PrintsLines (old : List ℕ) (turn : FinishedVolCall) (before after : World) : Type 0 where
  pub lines : List ℕ
  pub are : AreLinesOf old (path_of turn.vol) lines
  pub printed : after.out ≡ stream_with before.out lines
