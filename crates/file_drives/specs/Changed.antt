-- A change of a mounted volume: the result of a call that makes it, the reason, and the volume mounted then (OS-9
-- Technical Reference, Random Block File Manager; the choice between the errors is this project's own).
use Rattle.std.specs.Prelude.{◌≡◌, ◌⊎◌, ℕ, ◌+◌, nat_lt, ◌==◌, ◌&&◌, ◌||◌, not, Bool, true, false, Option, Some, List, length, slice_set, Result, Ok, Err, OnOk, OnErr}
use Rattle.os9_base.specs.declared.registers.TimePacket.{TimePacket}
use Rattle.rbf_model.specs.File.{DiskFile}
use Rattle.rbf_model.specs.Volume.{DiskVolume}
use Rattle.rbf_change.specs.Calls.{cluster_size, free_total}
use Rattle.rbf_change.specs.Contents.{written}
use Rattle.rbf_change.specs.Growth.{clusters_needed}
use Rattle.rbf_change.specs.NewFiles.{entry_clusters, file_clusters, owns_file}
use Rattle.rbf_access.specs.declared.faults.FileFault.{FileFault}
use Rattle.rbf_access.specs.declared.faults.FileFault.TheVariants.{Device, NoCluster, TooManyRuns}
use Rattle.rbf_access.specs.declared.volume.Volume.{Volume}
use Rattle.rbf_entries.specs.Entering.{AnswersEntering}
use Rattle.rbf_entries.specs.Creating.{request}
use Rattle.rbf_entries.specs.Deleted.{AnswersDeletionOf}
use Rattle.rbf_entries.specs.Asked.{folder_request}
use Rattle.rbf_entries.specs.Attributes.{with_new_attributes}
use Rattle.rbf_walk.specs.Walk.{directory_fault}
use Rattle.rbf_walk.specs.declared.error.DirError.{DirError}
use Rattle.rbf_walk.specs.declared.error.DirError.TheVariants.{NotAllowed, BadPath, NotFound, Exists, File}
use Rattle.rbf_write.specs.Outcomes.{AnswersWrite}
use Rattle.rbf_write.specs.Sizes.{AnswersSize}
use Rattle.file_rules.specs.Change.{Change, writes, sizes, sets_attributes, creates, makes_directory, deletes, AppliesChange, ChangeMayLeave, MayBeTooLong}
use Rattle.file_rules.specs.MakDir.{new_directory_size}
use Rattle.lock_model.specs.declared.place.FilePlace.{FilePlace}
use Rattle.file_drives.specs.Drives.{DriveView, KeepsIdent, OneDriveMoves, media_at, media_of}
use Rattle.file_drives.specs.Mounted.{AreMounted, mounted_at}

-- a change of a volume that a user asks for, at a time
pub record Asked : Type 0 where
  pub change : Change
  pub user : ℕ
  pub now : TimePacket

-- this change, by this user, at this time
abbrev pub asking : Change → ℕ → TimePacket → Asked
asking change user now = record { change = change; user = user; now = now }

-- ---- why it is refused. `file` is the file that is changed, or the directory in which a file is made or deleted

-- only the owner of a file and user 0 may change its attributes
abbrev pub is_allowed : Change → ℕ → DiskFile → Bool
is_allowed (writes n at bytes) user file = true
is_allowed (sizes n size) user file = true
is_allowed (sets_attributes n attributes) user file = owns_file file user
is_allowed (creates d name attributes) user dir = true
is_allowed (makes_directory d name attributes) user dir = true
is_allowed (deletes d n name) user dir = true

-- the number of clusters that a new file of a size and its entry in a directory need
abbrev pub new_file_needs : DiskVolume → DiskFile → ℕ → ℕ
new_file_needs v dir size = file_clusters (cluster_size v) size + entry_clusters (cluster_size v) dir

-- the number of clusters that a change needs
abbrev pub change_needs : Change → DiskVolume → DiskFile → ℕ
change_needs (writes n at bytes) v file =
    clusters_needed (cluster_size v) file.segments (length (written file.contents at bytes))
change_needs (sizes n size) v file = clusters_needed (cluster_size v) file.segments size
change_needs (sets_attributes n attributes) v file = 0
change_needs (creates d name attributes) v dir = new_file_needs v dir 0
change_needs (makes_directory d name attributes) v dir = new_file_needs v dir new_directory_size
change_needs (deletes d n name) v dir = 0

-- fewer clusters are free than the change needs
abbrev pub is_full_for : Change → DiskVolume → DiskFile → Bool
is_full_for change v file = nat_lt (free_total v) (change_needs change v file)

-- a new entry needs a cluster, and its directory already has all its segments
abbrev pub has_no_segment : DiskVolume → DiskFile → Bool
has_no_segment v dir = nat_lt 0 (entry_clusters (cluster_size v) dir) && (length dir.segments == 48)

abbrev pub has_full_list : Change → DiskVolume → DiskFile → Bool
has_full_list (writes n at bytes) v file = false
has_full_list (sizes n size) v file = false
has_full_list (sets_attributes n attributes) v file = false
has_full_list (creates d name attributes) v dir = has_no_segment v dir
has_full_list (makes_directory d name attributes) v dir = has_no_segment v dir
has_full_list (deletes d n name) v dir = false

-- the change has to be refused
abbrev pub is_refused : Asked → DiskVolume → DiskFile → Bool
is_refused asked v file =
    not (is_allowed asked.change asked.user file)
    || (is_full_for asked.change v file || has_full_list asked.change v file)

-- ---- the result, and the volume that is left then

-- the change did not have to be refused, and has been made; n is the number of the new file, if the change makes one
pub record ChangeIsMade (asked : Asked) (v : DiskVolume) (file : DiskFile) (left : DiskVolume) (n : ℕ) : Type 0 where
  pub allowed : is_allowed asked.change asked.user file ≡ true
  pub enough : is_full_for asked.change v file ≡ false
  pub list : has_full_list asked.change v file ≡ false
  pub makes : AppliesChange asked.change asked.user asked.now v left n

-- the drive failed. If the change had to be refused, nothing has changed
pub record ChangeIsBroken (asked : Asked) (v : DiskVolume) (file : DiskFile) (left : DiskVolume) : Type 0 where
  pub may_be : ChangeMayLeave asked.change asked.user asked.now v left
  pub refused : is_refused asked v file ≡ true → left ≡ v

-- E$FNA
pub record ChangeIsForbidden (asked : Asked) (v : DiskVolume) (file : DiskFile) (left : DiskVolume) : Type 0 where
  pub forbidden : is_allowed asked.change asked.user file ≡ false
  pub same : left ≡ v

-- E$Full
pub record ChangeIsFull (asked : Asked) (v : DiskVolume) (file : DiskFile) (left : DiskVolume) : Type 0 where
  pub allowed : is_allowed asked.change asked.user file ≡ true
  pub few : is_full_for asked.change v file ≡ true
  pub same : left ≡ v

-- E$SLF: a list of segments is already full, or has no place for a chosen cluster
pub record ChangeIsTooLong (asked : Asked) (v : DiskVolume) (file : DiskFile) (left : DiskVolume) : Type 0 where
  pub allowed : is_allowed asked.change asked.user file ≡ true
  pub enough : is_full_for asked.change v file ≡ false
  pub full : (has_full_list asked.change v file ≡ true) ⊎ MayBeTooLong asked.change v
  pub same : left ≡ v

abbrev pub AnswersChange : Asked → DiskVolume → DiskFile → DiskVolume → Result ℕ DirError → Type 0
AnswersChange asked v file left (Ok n) = ChangeIsMade asked v file left n
AnswersChange asked v file left (Err NotAllowed) = ChangeIsForbidden asked v file left
AnswersChange asked v file left (Err BadPath) = ⊥
AnswersChange asked v file left (Err NotFound) = ⊥
AnswersChange asked v file left (Err Exists) = ⊥
AnswersChange asked v file left (Err (File (Device number))) = ChangeIsBroken asked v file left
AnswersChange asked v file left (Err (File NoCluster)) = ChangeIsFull asked v file left
AnswersChange asked v file left (Err (File TooManyRuns)) = ChangeIsTooLong asked v file left

-- it is refused, and no drive fault ended it
abbrev pub IsRefusedChange : Result ℕ DirError → Type 0
IsRefusedChange (Ok n) = ⊥
IsRefusedChange (Err NotAllowed) = Unit {0}
IsRefusedChange (Err BadPath) = Unit {0}
IsRefusedChange (Err NotFound) = Unit {0}
IsRefusedChange (Err Exists) = Unit {0}
IsRefusedChange (Err (File (Device number))) = ⊥
IsRefusedChange (Err (File NoCluster)) = Unit {0}
IsRefusedChange (Err (File TooManyRuns)) = Unit {0}

-- a result without a number; no file has the number 0
abbrev pub numbered : Result (Unit {0}) DirError → Result ℕ DirError
numbered (Ok done) = Ok 0
numbered (Err error) = Err error

-- the result of a call on a file
abbrev pub file_answer : Result (Unit {0}) FileFault → Result ℕ DirError
file_answer (Ok done) = Ok 0
file_answer (Err fault) = Err (File fault)

-- ---- the media, including what no volume shows of it

-- a fact of the result of a call on a file, which is this one
abbrev pub OfFile : Result ℕ DirError → (Result (Unit {0}) FileFault → Type 0) → Type 0
OfFile answer fact = (result : Result (Unit {0}) FileFault) × (answer ≡ file_answer result) × fact result

-- the result of the disk's own call that makes a change for a user, at a time, and what it leaves of the media. A
-- change does not say whether the place of a new file was searched in order to execute a file
abbrev pub AnswersOnDisk : Change → ℕ → TimePacket → DiskVolume → DiskFile → Result ℕ DirError → Option (List ℕ)
    → Option (List ℕ) → Type 0
AnswersOnDisk (writes n at bytes) user now v file answer before after =
    OfFile answer (AnswersWrite v file (record { number = n; at = at; bytes = bytes; now = now }) before after)
AnswersOnDisk (sizes n size) user now v file answer before after =
    OfFile answer (AnswersSize v file (record { number = n; size = size; now = now }) before after)
AnswersOnDisk (sets_attributes n attributes) user now v file answer before after =
    OnOk answer (after ≡ with_new_attributes before n attributes now) × OnErr answer (after ≡ before)
AnswersOnDisk (creates d name attributes) user now v dir answer before after =
    (execute : Bool) × AnswersEntering v dir (request d name attributes user execute now) before after answer
AnswersOnDisk (makes_directory d name attributes) user now v dir answer before after =
    AnswersEntering v dir (folder_request d name attributes user now) before after answer
AnswersOnDisk (deletes d n name) user now v dir answer before after =
    OfFile answer (AnswersDeletionOf v d n name before after)

-- ---- the drives

-- a volume on a drive has been changed or not, by the result: it is mounted there then, and the others are unchanged.
-- `most` is the greatest number of calls of the drive
pub record LeavesVolume (asked : Asked) (answer : Result ℕ DirError) (most : DiskVolume → ℕ) (v : DiskVolume)
    (file : DiskFile) (drive : ℕ) (volumes : List (Option DiskVolume)) (before : List DriveView)
    (new : List (Option Volume)) (after : List DriveView) : Type 0 where
  pub left : DiskVolume
  pub answers : AnswersChange asked v file left answer
  pub mounted : AreMounted new after (slice_set volumes drive (Some left))
  pub moves : OneDriveMoves (directory_fault answer) (most left) drive before after
  -- a call that is refused, or had to be when the drive failed, writes nothing
  pub refused : IsRefusedChange answer ⊎ (is_refused asked v file ≡ true) → media_of after ≡ media_of before
  -- the media of the drive
  pub disk : AnswersOnDisk asked.change asked.user asked.now v file answer (media_at before drive)
      (media_at after drive)
  pub ident : KeepsIdent (media_at before drive) (media_at after drive)

-- the same for the volume and the file at a place, whichever volumes are mounted
abbrev pub ChangesVolume : FilePlace → Asked → Result ℕ DirError → (DiskVolume → DiskFile → DiskVolume → ℕ)
    → List (Option Volume) → List DriveView → List (Option Volume) → List DriveView → Type 0
ChangesVolume place asked answer most disks before new after =
    (volumes : List (Option DiskVolume)) (v : DiskVolume) (file : DiskFile) → AreMounted disks before volumes
    → mounted_at volumes place.drive ≡ Some v → v.files place.number ≡ Some file
    → LeavesVolume asked answer (most v file) v file place.drive volumes before new after
