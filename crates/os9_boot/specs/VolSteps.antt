-- The steps of `vol`: the files that it reads, what it makes of them, and what it prints and writes.
use Rattle.std.specs.Prelude.{◌≡◌, ◌≢◌, ◌⊎◌, ℕ, ⊤, Some, List, [], OnOk, Result, Ok, Err}
use Rattle.os9_outer.specs.Host.{HostFiles, file_contents, IfObserved}
use Rattle.os9_outer.specs.Stream.{GainsPrefix, stream_with}
use Rattle.os9_words.specs.declared.vol_words.Verb.{Verb}
use Rattle.os9_words.specs.declared.vol_words.Verb.TheVariants.{Put, Get}
use Rattle.os9_words.specs.declared.vol_words.VolWords.{VolWords}
use Rattle.rbf_model.specs.Faults.{IsFault}
use Rattle.rbf_check.specs.declared.faults.CheckFault.{CheckFault}
use Rattle.vol_tools.specs.Tool.{Tool, repair}
use Rattle.vol_tools.specs.UsesInTurn.{Use}
use Rattle.file_drives.specs.Drives.{DriveView, drive_states, media_of}
use Rattle.file_rules.specs.Files.{KeepsDriveFaults, OneFailed}
use Rattle.boot_run.specs.BootFile.{IsVolume}
use Rattle.boot_run.specs.Images.{WritesAll, WritesUpTo}
use Rattle.boot_run.specs.Ready.{AreEmptyAgain}
use Rattle.boot_run.specs.World.{World, FailsToWriteFile, HasNoFault}
use Rattle.vol_tools.specs.Answers.{OnVolumeBefore}
use Rattle.vol_tools.specs.Faults.{MovesFaults, tool_fault}
use Rattle.vol_tools.specs.Others.{KeepsOthersBy}
use Rattle.vol_tools.specs.Tail.{KeepsTailBy, OnMedia}
use Rattle.vol_tools.specs.declared.fault.ToolFault.{ToolFault}
use Rattle.vol_tools.specs.declared.fault.ToolFault.TheVariants.{Number, Device, OutOfMemory}
use Rattle.boot_run.specs.Fails.{FailsToWriteInput}
use Rattle.boot_run.specs.Output.{StopsPrint}
use Rattle.boot_run.specs.declared.status.End.{End}
use Rattle.boot_run.specs.declared.status.End.TheVariants.{Ended, CannotWriteImage, CannotWriteFile, NoMemory, BadImage, DriveFailed, Refused}
use Rattle.boot_run.specs.declared.status.Input.TheVariants.{File, Image}
use Rattle.os9_boot.specs.VolLeft.{MayFail, MountsImage, ReadsInput, WritesImage}
use Rattle.os9_boot.specs.Vol.{IsFormatted, IsToolUsed, ClearsLost, MakesBy, RefusesBy, file_of, path_of, printed_of, tool_of, vol_file_name, vol_outputs, written_of}
use Rattle.os9_boot.specs.declared.files.VolFiles.{VolFiles}
use Rattle.os9_boot.specs.declared.made.Made.{Made}

-- ---- the files

-- the bytes that were read are those of the image, and of FILE of `put`
pub record HasVolFiles (files : HostFiles) (vol : VolWords) (read : VolFiles) : Type 0 where
  pub image : read.image.items ≡ file_contents files vol.image
  pub file : vol.verb ≡ Put → read.file.items ≡ file_contents files (file_of vol)

-- ---- the drive

-- a tool was used on the image in a drive, with this answer
pub record UsesDrive {A : Type 0} (use_ : Use) (bytes : A → List ℕ) (answer : Result A ToolFault)
    (old new : DriveView) : Type 0 where
  pub answers : OnVolumeBefore use_ bytes old.media new.media answer
  pub tail : OnMedia (KeepsTailBy use_.tool) old.media new.media
  pub others : OnOk answer (OnMedia (KeepsOthersBy use_.tool) old.media new.media)
  pub counts : MovesFaults (tool_fault answer) old.counts new.counts

-- the end of a command whose tool ended with this fault
abbrev pub fault_end : ToolFault → End
fault_end (Number number) = Refused number
fault_end (Device number) = DriveFailed 0 number
fault_end OutOfMemory = NoMemory

-- a tool was used on an image in D0: its result, or why it ended
abbrev pub UsesImage : Tool → VolWords → List ℕ → Result Made End → Type 0
UsesImage tool vol old (Ok made) = IsToolUsed tool vol old made.answer.items made.image.items
UsesImage tool vol old (Err (Refused number)) = RefusesBy (Some tool) vol old number
UsesImage tool vol old (Err (DriveFailed drive number)) = drive ≡ 0
UsesImage tool vol old (Err NoMemory) = ⊤
UsesImage tool vol old (Err end) = ⊥

-- only D0 has failed, with the fault that ended the command; or no drive has failed. If the image was refused, no drive
-- was accessed.
abbrev pub DrivesFail : {A : Type 0} → Result A End → List DriveView → List DriveView → Type 0
DrivesFail (Err (DriveFailed drive number)) before after =
    OneFailed drive number (drive_states before) (drive_states after)
DrivesFail (Err (BadImage number fault)) before after = after ≡ before
DrivesFail answer before after = KeepsDriveFaults (drive_states before) (drive_states after)

-- the drives afterwards: without images, as before
pub record DrivesAfter {A : Type 0} (answer : Result A End) (before after : List DriveView) : Type 0 where
  pub fails : DrivesFail answer before after
  pub media_kept : media_of after ≡ media_of before
  pub empty : AreEmptyAgain before after

-- ---- what is made

-- the drive of a well formed image has failed
pub record HasFailedDrive (verb : Verb) (image : List ℕ) (drive : ℕ) : Type 0 where
  pub may : MayFail verb drive
  pub volume : IsVolume image

-- a tool for mounted volumes was refused
pub record RefusesOf (vol : VolWords) (image bytes : List ℕ) (number : ℕ) : Type 0 where
  pub mounts : MountsImage vol.verb
  pub refuses : RefusesBy (tool_of vol.verb (path_of vol) bytes) vol image number

-- an image that is read is not well formed
pub record HasImageFault (verb : Verb) (image : List ℕ) (number : ℕ) (fault : CheckFault) : Type 0 where
  pub reads : ReadsInput verb (Image number)
  pub is : IsFault image fault.rule fault.lsn

-- for an image and the bytes of FILE: what the verb has made, or why it has not
abbrev pub MakesOf : VolWords → (image bytes : List ℕ) → Result Made End → Type 0
MakesOf vol image bytes (Ok made) =
    MakesBy (tool_of vol.verb (path_of vol) bytes) vol image made.answer.items made.image.items
MakesOf vol image bytes (Err (BadImage number fault)) = HasImageFault vol.verb image number fault
MakesOf vol image bytes (Err (Refused number)) = RefusesOf vol image bytes number
MakesOf vol image bytes (Err (DriveFailed drive number)) = HasFailedDrive vol.verb image drive
MakesOf vol image bytes (Err NoMemory) = ⊤
MakesOf vol image bytes (Err end) = ⊥

-- a disk was formatted; or out of memory
abbrev pub FormatsDisk : VolWords → Result Made End → Type 0
FormatsDisk vol (Ok made) = IsFormatted vol made.answer.items made.image.items
FormatsDisk vol (Err NoMemory) = ⊤
FormatsDisk vol (Err end) = ⊥

-- the lost clusters were freed
pub record IsMended (old answer image : List ℕ) : Type 0 where
  pub used : (vol : VolWords) → IsToolUsed repair vol old answer image
  pub bits : ClearsLost old image

-- the same; or the image was refused, or out of memory
abbrev pub RepairsImage : List ℕ → Result Made End → Type 0
RepairsImage old (Ok made) = IsMended old made.answer.items made.image.items
RepairsImage old (Err (BadImage number fault)) = (number ≡ 0) × IsFault old fault.rule fault.lsn
RepairsImage old (Err NoMemory) = ⊤
RepairsImage old (Err end) = ⊥

-- the image was refused, or out of memory
abbrev pub RefusesImage : List ℕ → End → Type 0
RefusesImage image (BadImage number fault) = (number ≡ 0) × IsFault image fault.rule fault.lsn
RefusesImage image NoMemory = ⊤
RefusesImage image end = ⊥

-- ---- what is printed and written

-- the file may have been written in part
pub record StopsOutput (vol : VolWords) (written : List (List ℕ)) (before after : World) : Type 0 where
  pub part : IfObserved (WritesUpTo 0 (vol_outputs vol) written) before.files after.files

-- the end of the write
abbrev pub WritesEnd : VolWords → List (List ℕ) → World → World → End → Type 0
WritesEnd vol written before after Ended =
    HasNoFault before after × IfObserved (WritesAll (vol_outputs vol) written) before.files after.files
WritesEnd vol written before after (CannotWriteImage number) =
    (number ≡ 0) × WritesImage vol.verb × FailsToWriteFile vol.image before after
    × StopsOutput vol written before after
WritesEnd vol written before after CannotWriteFile =
    (vol.verb ≡ Get) × FailsToWriteInput (vol_file_name vol) File before after
    × StopsOutput vol written before after
WritesEnd vol written before after NoMemory = HasNoFault before after × StopsOutput vol written before after
WritesEnd vol written before after end = ⊥

-- the file of the verb was written; the output and the devices are unchanged
pub record WritesMade (vol : VolWords) (answer image : List ℕ) (end : End) (before after : World) : Type 0 where
  pub ends : WritesEnd vol (written_of vol.verb answer image) before after end
  pub out : after.out ≡ before.out
  pub devices : after.devices ≡ before.devices

-- the lines of the verb were printed, and then its file was written
pub record PrintsThenWrites (vol : VolWords) (answer image : List ℕ) (end : End) (before after : World) : Type 0 where
  pub mid : World
  pub output : mid.out ≡ stream_with before.out (printed_of vol.verb answer)
  pub no_fault : HasNoFault before mid
  pub files : mid.files ≡ before.files
  pub devices : mid.devices ≡ before.devices
  pub writes : WritesMade vol answer image end mid after

-- or the print ended it
pub record PrintEnds (bytes : List ℕ) (end : End) (before after : World) : Type 0 where
  pub prefix : GainsPrefix before.out bytes after.out
  pub some : bytes ≢ []
  pub stopped : StopsPrint before after end
  pub files : after.files ≡ before.files
  pub devices : after.devices ≡ before.devices

abbrev pub Finishes : VolWords → (answer image : List ℕ) → End → World → World → Type 0
Finishes vol answer image end before after =
    PrintsThenWrites vol answer image end before after ⊎ PrintEnds (printed_of vol.verb answer) end before after
