-- What each call makes of a volume, and when the call is refused.
use Rattle.std.specs.Prelude.{◌≡◌, ℕ, ◌+◌, ◌*◌, ◌/◌, ◌%◌, ◌<◌, ◌==◌, Bool, List, [], ◌∷◌, length, Option, Some, if◌then◌else◌}
use Rattle.os9_base.specs.declared.registers.TimePacket.{TimePacket}
use Rattle.rbf_model.specs.Geometry.{Geometry, geometry}
use Rattle.rbf_model.specs.File.{DiskFile}
use Rattle.rbf_model.specs.Volume.{DiskVolume, is_free, free_clusters}
use Rattle.rbf_model.specs.Writes.{put_file}
use Rattle.rbf_change.specs.Contents.{written, resized}
use Rattle.rbf_change.specs.Growth.{with_clusters, IsChoice}
use Rattle.rbf_change.specs.Cut.{cut_file}

-- the sizes that the volume's own sector 0 gives, its sectors per cluster, its free clusters and their number
abbrev pub shape : DiskVolume → Geometry
shape v = geometry v.ident

abbrev pub cluster_size : DiskVolume → ℕ
cluster_size v = (shape v).cluster

abbrev pub is_free_in : DiskVolume → ℕ → Bool
is_free_in v c = is_free (shape v) v c

abbrev pub free_total : DiskVolume → ℕ
free_total v = length (free_clusters (shape v) v)

-- a volume whose file n is replaced or removed; all else is unchanged, the lost clusters too
abbrev pub replaced : DiskVolume → ℕ → Option DiskFile → DiskVolume
replaced v n file = record { ident = v.ident; files = put_file v.files n file; lost = v.lost; rest = v.rest }

-- one file has been changed in this way, and nothing else of the volume
pub record Changes (change : DiskFile → DiskFile → Type 0) (v w : DiskVolume) (n : ℕ) : Type 0 where
  pub old : DiskFile
  pub new : DiskFile
  pub is : v.files n ≡ Some old
  pub changed : change old new
  pub volume : w ≡ replaced v n (Some new)

-- the five bytes of a date and time (FD.DAT): year, month, day, hour and minute. The first three are a date (FD.CREAT)
abbrev pub minute_of : TimePacket → List ℕ
minute_of now = now.year ∷ now.month ∷ now.day ∷ now.hour ∷ now.minute ∷ []

abbrev pub day_of : TimePacket → List ℕ
day_of now = now.year ∷ now.month ∷ now.day ∷ []

-- a file after a write; its date changes only if its size does
abbrev pub written_file : DiskFile → ℕ → List ℕ → TimePacket → List (ℕ × ℕ) → DiskFile
written_file file at bytes now segments =
    record file {
      contents = written file.contents at bytes;
      segments = segments;
      modified =
          if length (written file.contents at bytes) == length file.contents then file.modified else minute_of now;
    }

-- and the file gains the clusters that it needs for that
pub record WritesFile (k : ℕ) (free : ℕ → Bool) (at : ℕ) (bytes : List ℕ) (now : TimePacket) (old new : DiskFile)
    : Type 0 where
  pub gained : List ℕ
  pub choice : IsChoice k free old.segments (length (written old.contents at bytes)) gained
  pub file : new ≡ written_file old at bytes now (with_clusters k old.segments gained)

-- a write at a place of file n
abbrev pub WritesFileAt : DiskVolume → DiskVolume → ℕ → ℕ → List ℕ → TimePacket → Type 0
WritesFileAt v w n at bytes now = Changes (WritesFile (cluster_size v) (is_free_in v) at bytes now) v w n

-- a file that is made longer, and then has these segments: zeros are added
abbrev pub lengthened_file : DiskFile → ℕ → TimePacket → List (ℕ × ℕ) → DiskFile
lengthened_file file size now segments =
    record file { contents = resized file.contents size; segments = segments; modified = minute_of now }

-- and the file gains the clusters that it needs for that
pub record LengthensFile (k : ℕ) (free : ℕ → Bool) (size : ℕ) (now : TimePacket) (old new : DiskFile) : Type 0 where
  pub gained : List ℕ
  pub choice : IsChoice k free old.segments size gained
  pub file : new ≡ lengthened_file old size now (with_clusters k old.segments gained)

-- a file n whose size is set: it is unchanged, made longer, or cut
pub data SizesFile (k : ℕ) (free : ℕ → Bool) (n size : ℕ) (now : TimePacket) : DiskFile → DiskFile → Type 0 where
  stays : {file : DiskFile} → length file.contents ≡ size → SizesFile k free n size now file file
  lengthens : {old new : DiskFile} → length old.contents < size → LengthensFile k free size now old new
      → SizesFile k free n size now old new
  cuts : {old : DiskFile} → size < length old.contents
      → SizesFile k free n size now old (cut_file k n old size (minute_of now))

-- the size of file n is set
abbrev pub SetsSize : DiskVolume → DiskVolume → ℕ → ℕ → TimePacket → Type 0
SetsSize v w n size now = Changes (SizesFile (cluster_size v) (is_free_in v) n size now) v w n

-- the changed attributes of a file: bit 7, the kind of the file, is unchanged
abbrev pub changed_attributes : ℕ → ℕ → ℕ
changed_attributes old attributes = 128 * (old / 128) + attributes % 128

abbrev pub with_attributes : DiskFile → ℕ → TimePacket → DiskFile
with_attributes file attributes now =
    record file { attributes = changed_attributes file.attributes attributes; modified = minute_of now }

-- file n gets other attributes
abbrev pub SetsAttributes : DiskVolume → DiskVolume → ℕ → ℕ → TimePacket → Type 0
SetsAttributes v w n attributes now = Changes (λ old new. new ≡ with_attributes old attributes now) v w n
