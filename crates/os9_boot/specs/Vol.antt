-- The results of `vol` (this project's own; the tools are those of vol_tools).
use Rattle.std.specs.Prelude.{◌≡◌, ◌≢◌, ◌⊎◌, ℕ, ⊤, Option, Some, None, List, [], ◌∷◌, slice_get, unwrap_or}
use Rattle.os9_outer.specs.Host.{HostFiles, file_contents, IfObserved}
use Rattle.os9_outer.specs.Stream.{GainsPrefix, stream_with}
use Rattle.os9_words.specs.declared.vol_words.Verb.{Verb}
use Rattle.os9_words.specs.declared.vol_words.Verb.TheVariants.{Format, Put, Get, Mkdir, Delete, Dir, Repair}
use Rattle.os9_words.specs.declared.vol_words.VolWords.{VolWords}
use Rattle.rbf_model.specs.Faults.{IsFault}
use Rattle.rbf_model.specs.Geometry.{image_geometry}
use Rattle.rbf_model.specs.Volume.{DiskVolume, Vol, lost_clusters}
use Rattle.vol_tools.specs.Image.{IsClean}
use Rattle.vol_tools.specs.Clearing.{ClearsBits}
use Rattle.vol_tools.specs.Blank.{blank_volume}
use Rattle.vol_tools.specs.Refusals.{RefusesTool}
use Rattle.vol_tools.specs.Tool.{Gives, Tool, put, get, mkdir, remove, list, repair}
use Rattle.vol_tools.specs.Others.{KeepsOthersBy}
use Rattle.vol_tools.specs.Tail.{KeepsTailBy}
use Rattle.boot_run.specs.BootFile.{IsVolume}
use Rattle.boot_run.specs.Images.{WritesAll, WritesUpTo}
use Rattle.boot_run.specs.World.{World}
use Rattle.boot_run.specs.declared.status.End.{End}
use Rattle.boot_run.specs.declared.status.End.TheVariants.{Ended, CannotRead, CannotWrite, CannotWriteImage, CannotWriteFile, NoMemory, BadImage, DriveFailed, Refused}
use Rattle.boot_run.specs.declared.status.Input.{Input}
use Rattle.boot_run.specs.declared.status.Input.TheVariants.{File, Image}

-- ---- the words

-- PATH, and FILE of `put` and `get`
abbrev pub path_of : VolWords → List ℕ
path_of vol = unwrap_or (slice_get vol.rest 0) []

abbrev pub file_of : VolWords → List ℕ
file_of vol = unwrap_or (slice_get vol.rest 1) []

-- the names of its files: the image, and FILE, if the words have one
abbrev pub vol_file_name : VolWords → Input → Option (List ℕ)
vol_file_name vol (Image number) = Some vol.image
vol_file_name vol File = slice_get vol.rest 1
vol_file_name vol input = None

-- the files that it reads: the image, except for `format`, and then FILE of `put`
abbrev pub file_names : Verb → VolWords → List (List ℕ)
file_names Put vol = file_of vol ∷ []
file_names verb vol = []

abbrev pub inputs_of : Verb → VolWords → List (List ℕ)
inputs_of Format vol = []
inputs_of verb vol = vol.image ∷ file_names verb vol

abbrev pub vol_inputs : VolWords → List (List ℕ)
vol_inputs vol = inputs_of vol.verb vol

-- the files that it writes if it is done: FILE of `get`, none for `dir`, otherwise the image
abbrev pub outputs_of : Verb → VolWords → List (List ℕ)
outputs_of Get vol = file_of vol ∷ []
outputs_of Dir vol = []
outputs_of verb vol = vol.image ∷ []

abbrev pub vol_outputs : VolWords → List (List ℕ)
vol_outputs vol = outputs_of vol.verb vol

-- ---- what is made

-- the tool of a verb, with these bytes of FILE; `format` has none
abbrev pub tool_of : Verb → List ℕ → List ℕ → Option Tool
tool_of Format path bytes = None
tool_of Put path bytes = Some (put path bytes)
tool_of Get path bytes = Some (get path)
tool_of Mkdir path bytes = Some (mkdir path)
tool_of Delete path bytes = Some (remove path)
tool_of Dir path bytes = Some (list path)
tool_of Repair path bytes = Some repair

-- the same over the contents of the files
abbrev pub vol_tool : HostFiles → VolWords → Option Tool
vol_tool files vol = tool_of vol.verb (path_of vol) (file_contents files (file_of vol))

-- the printed part of a tool's answer: the lines of `dir` and of `repair`
abbrev pub printed_of : Verb → List ℕ → List ℕ
printed_of Dir answer = answer
printed_of Repair answer = answer
printed_of verb answer = []

-- what is written: the answer of `get`, otherwise the image
abbrev pub written_of : Verb → (answer image : List ℕ) → List (List ℕ)
written_of Get answer image = answer ∷ []
written_of Dir answer image = []
written_of verb answer image = image ∷ []

-- a tool was used on the volume of an image, with this answer and the volume of another image, which has the same LSN
-- 0, the same bits of the map without a whole cluster, and the same other sectors, if the tool must keep them
pub record IsToolUsed (tool : Tool) (vol : VolWords) (old answer image : List ℕ) : Type 0 where
  pub before : DiskVolume
  pub was : Vol old before
  pub after : DiskVolume
  pub is : Vol image after
  pub gives : Gives tool vol.start before after answer
  pub tail : KeepsTailBy tool old image
  pub others : KeepsOthersBy tool old image

-- only the marks of the lost clusters were cleared, and no other bit of the image has changed
pub record ClearsLost (old image : List ℕ) : Type 0 where
  pub volume : DiskVolume
  pub was : Vol old volume
  pub bits : ClearsBits old image (lost_clusters (image_geometry old) volume)

-- the same for `repair`
abbrev pub ChangesBits : Verb → (old image : List ℕ) → Type 0
ChangesBits Repair old image = ClearsLost old image
ChangesBits verb old image = ⊤

-- the tool of the verb was used
pub record IsToolDone (tool : Tool) (vol : VolWords) (old answer image : List ℕ) : Type 0 where
  pub used : IsToolUsed tool vol old answer image
  pub bits : ChangesBits vol.verb old image

-- a disk was formatted, and is clear outside its volume
pub record IsFormatted (vol : VolWords) (answer image : List ℕ) : Type 0 where
  pub is : Vol image (blank_volume vol.sectors vol.cluster vol.start)
  pub clean : IsClean image vol.sectors vol.cluster
  pub silent : answer ≡ []

-- the verb was done, with this answer, and has made this image
abbrev pub MakesBy : Option Tool → VolWords → (old answer image : List ℕ) → Type 0
MakesBy None vol old answer image = IsFormatted vol answer image
MakesBy (Some tool) vol old answer image = IsToolDone tool vol old answer image

pub record DoesVolVerb (files : HostFiles) (vol : VolWords) (out : List ℕ) (written : List (List ℕ)) : Type 0 where
  pub answer : List ℕ
  pub image : List ℕ
  pub made : MakesBy (vol_tool files vol) vol (file_contents files vol.image) answer image
  pub out_is : out ≡ printed_of vol.verb answer
  pub written_is : written ≡ written_of vol.verb answer image

-- its tool was refused with a number
abbrev pub RefusesBy : Option Tool → VolWords → List ℕ → ℕ → Type 0
RefusesBy None vol old number = ⊥
RefusesBy (Some tool) vol old number =
    (before : DiskVolume) × (after : DiskVolume) × Vol old before × RefusesTool tool vol.start before after number

-- ---- how it ends

-- the verb was done, and `then_` holds for what it printed and wrote
pub record MakesThen (files : HostFiles) (vol : VolWords) (then_ : List ℕ → List (List ℕ) → Type 0) : Type 0 where
  pub out : List ℕ
  pub written : List (List ℕ)
  pub makes : DoesVolVerb files vol out written
  pub rest : then_ out written

-- its lines were printed, and its file was written
pub record PrintsAndWrites (names : List (List ℕ)) (before after : World) (out : List ℕ) (written : List (List ℕ))
    : Type 0 where
  pub output : after.out ≡ stream_with before.out out
  pub files : IfObserved (WritesAll names written) before.files after.files

-- its lines were printed, and a part of its file may be written
pub record PrintsAndStops (names : List (List ℕ)) (before after : World) (out : List ℕ) (written : List (List ℕ))
    : Type 0 where
  pub output : after.out ≡ stream_with before.out out
  pub files : IfObserved (WritesUpTo 0 names written) before.files after.files

-- the first of its lines were printed, and nothing was written
pub record PrintsFirstLines (before after : World) (out : List ℕ) (written : List (List ℕ)) : Type 0 where
  pub output : GainsPrefix before.out out after.out
  pub files : after.files ≡ before.files
  pub some : out ≢ []

-- nothing was printed or written
pub record IsUntouched (before after : World) : Type 0 where
  pub output : after.out ≡ before.out
  pub files : after.files ≡ before.files

-- the result, by how it ends
abbrev pub VolComesTo : HostFiles → VolWords → World → World → End → Type 0
VolComesTo files vol before after Ended =
    MakesThen files vol (PrintsAndWrites (vol_outputs vol) before after)
VolComesTo files vol before after CannotWrite = MakesThen files vol (PrintsFirstLines before after)
VolComesTo files vol before after (CannotWriteImage number) =
    MakesThen files vol (PrintsAndStops (vol_outputs vol) before after)
VolComesTo files vol before after CannotWriteFile =
    MakesThen files vol (PrintsAndStops (vol_outputs vol) before after)
VolComesTo files vol before after NoMemory =
    IsUntouched before after ⊎ MakesThen files vol (PrintsFirstLines before after)
    ⊎ MakesThen files vol (PrintsAndStops (vol_outputs vol) before after)
VolComesTo files vol before after (BadImage number fault) =
    IsFault (file_contents files vol.image) fault.rule fault.lsn
VolComesTo files vol before after (Refused number) =
    RefusesBy (vol_tool files vol) vol (file_contents files vol.image) number
VolComesTo files vol before after (CannotRead input) = ⊤
VolComesTo files vol before after (DriveFailed drive number) = IsVolume (file_contents files vol.image)
VolComesTo files vol before after end = ⊥
