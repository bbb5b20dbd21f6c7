-- What a call may leave if a drive's fault ended it. The fault occurred before the call's last write to the disk.
use Rattle.std.specs.Prelude.{◌≡◌, ◌⊎◌, ℕ, ◌+◌, ◌%◌, ◌<◌, ◌&&◌, ◌||◌, Bool, true, List, [], length, take, Some}
use Rattle.os9_base.specs.declared.registers.TimePacket.{TimePacket}
use Rattle.rbf_model.specs.Geometry.{sector as image_sector}
use Rattle.rbf_model.specs.Segments.{has}
use Rattle.rbf_model.specs.File.{DiskFile}
use Rattle.rbf_model.specs.Space.{has_cluster, is_marked, is_whole}
use Rattle.rbf_model.specs.Volume.{DiskVolume}
use Rattle.rbf_model.specs.Writes.{put_at, with_lost}
use Rattle.rbf_change.specs.Contents.{written}
use Rattle.rbf_change.specs.Growth.{IsChoice}
use Rattle.rbf_change.specs.Cut.{cut_file, is_given_up}
use Rattle.rbf_change.specs.Calls.{shape, cluster_size, is_free_in, replaced, minute_of}
use Rattle.rbf_change.specs.NewFiles.{IsFileEntered, Plan, Deletes}

-- the volume is the same, except that some of these clusters may be lost now
pub record MayLose (v w : DiskVolume) (clusters : ℕ → Bool) : Type 0 where
  pub same : w ≡ with_lost v w.lost
  pub still : (c : ℕ) → v.lost c ≡ true → w.lost c ≡ true
  pub only : (c : ℕ) → w.lost c ≡ true → (v.lost c || clusters c) ≡ true

-- the clusters that a file was to gain for a size: none, if the fault occurred before the choice, or a choice
abbrev pub IsPlanned : DiskVolume → DiskFile → ℕ → List ℕ → Type 0
IsPlanned v old size clusters = (clusters ≡ []) ⊎ IsChoice (cluster_size v) (is_free_in v) old.segments size clusters

-- the number of bytes of a write that may be on the disk: those up to the end of a sector, or up to the file's size if
-- that is less; never all
pub data IsWriteFront (size at : ℕ) (bytes : List ℕ) : ℕ → Type 0 where
  none : IsWriteFront size at bytes 0
  sector : {count : ℕ} → count < length bytes → at + count < size → (at + count) % 256 ≡ 0
      → IsWriteFront size at bytes count
  end : {count : ℕ} → count < length bytes → at + count ≡ size → IsWriteFront size at bytes count

-- a file whose bytes from a place on are the first `count` of others
abbrev pub with_front : DiskFile → ℕ → List ℕ → ℕ → DiskFile
with_front file at bytes count = record file { contents = put_at file.contents at (take count bytes) }

-- the clusters that a file gains for a size have all been taken: they are lost, since no descriptor has them yet
pub record AllAreTaken (v w : DiskVolume) (old : DiskFile) (size : ℕ) (clusters : List ℕ) : Type 0 where
  pub choice : IsChoice (cluster_size v) (is_free_in v) old.segments size clusters
  pub lost : (c : ℕ) → has clusters c ≡ true → w.lost c ≡ true

-- an interrupted write to file n: a front of its bytes may be there, and clusters that it took may be lost
pub record WriteEnds (v w : DiskVolume) (n at : ℕ) (bytes : List ℕ) : Type 0 where
  pub some : 0 < length bytes
  pub old : DiskFile
  pub is : v.files n ≡ Some old
  pub count : ℕ
  pub front : IsWriteFront (length old.contents) at bytes count
  pub taken : List ℕ
  pub planned : IsPlanned v old (length (written old.contents at bytes)) taken
  pub volume : MayLose (replaced v n (Some (with_front old at bytes count))) w (has taken)
  -- the first byte is written after the last mark
  pub order : (count ≡ 0) ⊎ AllAreTaken v w old (length (written old.contents at bytes)) taken

-- a file that was to be made longer: it is unchanged, and clusters that it took may be lost
pub record LengthenEnds (v w : DiskVolume) (n size : ℕ) : Type 0 where
  pub old : DiskFile
  pub is : v.files n ≡ Some old
  pub longer : length old.contents < size
  pub taken : List ℕ
  pub planned : IsPlanned v old size taken
  pub volume : MayLose v w (has taken)

-- one of the clusters that were given up is still marked in the image that is left, since the fault occurred before the
-- call's last write
abbrev pub OneIsMarked : List ℕ → (ℕ → Bool) → Type 0
OneIsMarked left given_up = (c : ℕ) × (given_up c ≡ true) × (is_marked (image_sector left) c ≡ true)

-- a file that was to be cut and has been: whole clusters that it gave up may be lost
pub record CutEnds (left : List ℕ) (v w : DiskVolume) (n size : ℕ) (now : TimePacket) : Type 0 where
  pub old : DiskFile
  pub is : v.files n ≡ Some old
  pub shorter : size < length old.contents
  pub new : DiskFile
  pub cut : new ≡ cut_file (cluster_size v) n old size (minute_of now)
  pub volume : MayLose (replaced v n (Some new)) w (λ c. is_whole (shape v) c && is_given_up (shape v) n old new c)
  pub unfinished : OneIsMarked left (is_given_up (shape v) n old new)

-- an interrupted change of a size, and the image that is left
pub data SizeEnds (left : List ℕ) (v w : DiskVolume) (n size : ℕ) (now : TimePacket) : Type 0 where
  before : w ≡ v → SizeEnds left v w n size now
  longer : LengthenEnds v w n size → SizeEnds left v w n size now
  cut : CutEnds left v w n size now → SizeEnds left v w n size now

-- a new file n and its directory d, some of whose clusters have been taken
pub record EntryEnds (v w : DiskVolume) (d n : ℕ) (name : List ℕ) (plan : Plan) : Type 0 where
  pub both : IsFileEntered v d n name plan
  pub volume : MayLose v w (λ c. has_cluster (shape v) n both.file c || has both.entry.gained c)

-- an interrupted creation: the tree is unchanged, and clusters that were taken may be lost
pub data NewFileEnds (v w : DiskVolume) (d : ℕ) (name : List ℕ) (plan : ℕ → Plan) : Type 0 where
  before : w ≡ v → NewFileEnds v w d name plan
  taken : {n : ℕ} → EntryEnds v w d n name (plan n) → NewFileEnds v w d name plan

-- an interrupted deletion, and the image that is left: the tree is unchanged, or file n has been removed and its whole
-- clusters may be lost
pub data DeletionEnds (left : List ℕ) (v w : DiskVolume) (d n : ℕ) (name : List ℕ) : Type 0 where
  before : w ≡ v → DeletionEnds left v w d n name
  gone : {u : DiskVolume} {file : DiskFile} → Deletes v u d n name → v.files n ≡ Some file
      → MayLose u w (λ c. is_whole (shape v) c && has_cluster (shape v) n file c)
      → OneIsMarked left (has_cluster (shape v) n file) → DeletionEnds left v w d n name
