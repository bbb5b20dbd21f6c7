-- A file, and the file that a descriptor represents.
use Rattle.std.specs.Prelude.{ℕ, ◌*◌, ◌%◌, ◌==◌, ◌&&◌, nat_le, Bool, List, take, length, flat_map}
use Rattle.std.specs.Int.{bit_at}
use Rattle.rbf_model.specs.Fields.{attributes_field, owner_field, modified_field, links_field, size_field, created_field, segments_field}
use Rattle.rbf_model.specs.Segments.{sectors_of}

-- a file or directory: the fields of its descriptor, its segments, and its bytes
pub record DiskFile : Type 0 where
  pub attributes : ℕ
  pub owner : ℕ
  pub modified : List ℕ
  pub links : ℕ
  pub created : List ℕ
  pub segments : List (ℕ × ℕ)
  pub contents : List ℕ

-- bit 7 of the attributes is set if the file is a directory ("File Descriptors", FD.ATT)
abbrev pub is_directory : DiskFile → Bool
is_directory file = bit_at file.attributes 7 == 1

-- the bytes of the sectors of a segment list
abbrev pub segment_bytes : (ℕ → List ℕ) → List (ℕ × ℕ) → List ℕ
segment_bytes disk segments = flat_map disk (sectors_of segments)

-- the file that a descriptor represents on a disk: its contents are the first bytes of its sectors, up to its size
abbrev pub file_from : (ℕ → List ℕ) → List ℕ → DiskFile
file_from disk descriptor = record {
  attributes = attributes_field descriptor;
  owner = owner_field descriptor;
  modified = modified_field descriptor;
  links = links_field descriptor;
  created = created_field descriptor;
  segments = segments_field descriptor;
  contents = take (size_field descriptor) (segment_bytes disk (segments_field descriptor));
}

-- the file whose descriptor is in sector n
abbrev pub file_at : (ℕ → List ℕ) → ℕ → DiskFile
file_at disk n = file_from disk (disk n)

-- the sectors of a segment list have room for this number of bytes
abbrev pub has_room : List (ℕ × ℕ) → ℕ → Bool
has_room segments size = nat_le size (256 * length (sectors_of segments))

-- a valid size of a directory: whole entries, at least two
abbrev pub is_directory_size : ℕ → Bool
is_directory_size size = nat_le 64 size && (size % 32 == 0)
