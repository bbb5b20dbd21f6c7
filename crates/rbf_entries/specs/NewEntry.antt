-- The entry of a new file, written into a directory whose descriptor has been read.
use Rattle.std.specs.Prelude.{◌≡◌, ◌≢◌, ◌⊎◌, ℕ, ◌*◌, ◌/◌, ◌%◌, Bool, true, false, Option, Some, List, length, get_or, Result, Ok, Err}
use Rattle.os9_base.specs.declared.registers.TimePacket.{TimePacket}
use Rattle.rbf_model.specs.Disk.{image_disk}
use Rattle.rbf_model.specs.Fields.{descriptor_field}
use Rattle.rbf_model.specs.File.{DiskFile, file_at, is_directory}
use Rattle.rbf_model.specs.Geometry.{image_geometry, sector}
use Rattle.rbf_model.specs.Laws.{IsMapSector, IsReady}
use Rattle.rbf_model.specs.Segments.{sectors_of, has}
use Rattle.rbf_model.specs.Volume.{DiskVolume, Vol}
use Rattle.rbf_model.specs.Writes.{put_at, IsNewEntry}
use Rattle.rbf_change.specs.Calls.{cluster_size, is_free_in}
use Rattle.rbf_change.specs.Contents.{written}
use Rattle.rbf_change.specs.Faults.{MayLose}
use Rattle.rbf_change.specs.Growth.{with_clusters, IsChoice}
use Rattle.rbf_change.specs.Names.{entry_place}
use Rattle.rbf_change.specs.Parts.{EntryIsPut}
use Rattle.rbf_change.specs.Tidy.{KeepsListEnd, KeepsMapEnd}
use Rattle.rbf_access.specs.Mounted.{RepresentsVolume}
use Rattle.rbf_access.specs.declared.faults.FileFault.{FileFault}
use Rattle.rbf_access.specs.declared.faults.FileFault.TheVariants.{Device, NoCluster, TooManyRuns}
use Rattle.rbf_entries.specs.Rooms.{HasClusterRoom}
use Rattle.rbf_entries.specs.declared.place.NewPlace.{NewPlace}

-- an entry that is written into a place of a directory, at a time
pub record EntryWrite : Type 0 where
  pub directory : ℕ
  pub place : ℕ
  pub entry : List ℕ
  pub now : TimePacket

-- this entry, at the place that was found for it
abbrev pub entry_at : NewPlace → List ℕ → TimePacket → EntryWrite
entry_at found entry now =
    record { directory = found.dir.number; place = found.place; entry = entry; now = now }

-- the place of a new entry in directory d, and the entry of a new file, which is on the disk, by a name that is not in
-- the directory
pub record MayEnter (media : Option (List ℕ)) (d place : ℕ) (entry : List ℕ) : Type 0 where
  pub content : DiskVolume
  pub on : RepresentsVolume media content
  pub dir : DiskFile
  pub is : content.files d ≡ Some dir
  pub directory : is_directory dir ≡ true
  pub place_is : place ≡ entry_place dir.contents
  pub new : IsNewEntry dir.contents place entry (descriptor_field entry)
  pub ready : IsReady (image_disk on.image) content d (descriptor_field entry)
  pub room : HasClusterRoom content dir place 0

-- the same, if the place is the one after the last entry
pub record MayAppend (media : Option (List ℕ)) (d place : ℕ) (entry : List ℕ) : Type 0 where
  pub content : DiskVolume
  pub on : RepresentsVolume media content
  pub dir : DiskFile
  pub is : content.files d ≡ Some dir
  pub directory : is_directory dir ≡ true
  pub end : length dir.contents ≡ 32 * place
  pub new : IsNewEntry dir.contents place entry (descriptor_field entry)
  pub ready : IsReady (image_disk on.image) content d (descriptor_field entry)
  pub room : HasClusterRoom content dir place 0

-- the sector of a file with these segments that holds an entry
abbrev pub sector_of_place : List (ℕ × ℕ) → ℕ → ℕ
sector_of_place segments place = get_or (sectors_of segments) (place / 8) 0

-- on the media the entry has its 32 bytes; apart from its sector, only the map and the directory's descriptor have
-- changed; the directory has these segments
pub record WritesEntry (old now : List ℕ) (segments : List (ℕ × ℕ)) (a : EntryWrite) : Type 0 where
  pub filled : sector now (sector_of_place segments a.place)
      ≡ put_at (sector old (sector_of_place segments a.place)) (32 * (a.place % 8)) a.entry
  pub others : (s : ℕ) → ¬ IsMapSector (image_geometry old) s → s ≢ a.directory → s ≢ sector_of_place segments a.place
      → sector now s ≡ sector old s
  pub list : KeepsListEnd (sector old a.directory) (sector now a.directory)
  pub end : KeepsMapEnd old now (λ _. false)

-- the entry is in the directory
pub record IsEntryWritten (v : DiskVolume) (a : EntryWrite) (old new : Option (List ℕ)) : Type 0 where
  pub image : List ℕ
  pub now : List ℕ
  pub was : old ≡ Some image
  pub is : new ≡ Some now
  pub after : DiskVolume
  pub vol : Vol now after
  pub put : EntryIsPut v after (sector image) a.directory a.place a.entry a.now
  pub writes : WritesEntry image now put.new.segments a

-- a sector is unchanged, or these clusters were all marked before it was written: they are lost in the volume that is
-- left
abbrev pub IsAfterMarks : List ℕ → List ℕ → ℕ → DiskVolume → (ℕ → Bool) → Type 0
IsAfterMarks old now s left clusters =
    (sector now s ≡ sector old s) ⊎ ((c : ℕ) → clusters c ≡ true → left.lost c ≡ true)

-- the sector of an entry has the entry's 32 bytes, and its other bytes are unchanged; the entry is after the last entry
-- of the directory, which does not count it yet
pub record IsUncountedEntry (old now : List ℕ) (dir : DiskFile) (s place : ℕ) (entry : List ℕ) : Type 0 where
  pub end : length dir.contents ≡ 32 * place
  pub filled : sector now s ≡ put_at (sector old s) (32 * (place % 8)) entry

-- a fault occurred before the entry was in the directory: the tree is unchanged, and a taken cluster may be lost
pub record EntryStops (v : DiskVolume) (dir : DiskFile) (a : EntryWrite) (old new : Option (List ℕ)) : Type 0 where
  pub image : List ℕ
  pub now : List ℕ
  pub was : old ≡ Some image
  pub is : new ≡ Some now
  pub taken : List ℕ
  pub choice : IsChoice (cluster_size v) (is_free_in v) dir.segments
      (length (written dir.contents (32 * a.place) a.entry)) taken
  pub left : DiskVolume
  pub vol : Vol now left
  pub lose : MayLose v left (has taken)
  -- only the map and the entry's sector have changed
  pub others : (s : ℕ) → ¬ IsMapSector (image_geometry image) s
      → s ≢ sector_of_place (with_clusters (cluster_size v) dir.segments taken) a.place → sector now s ≡ sector image s
  -- the entry's sector is unchanged, or it was written after the marks of all clusters that the directory gains
  pub order : (sector now (sector_of_place (with_clusters (cluster_size v) dir.segments taken) a.place)
      ≡ sector image (sector_of_place (with_clusters (cluster_size v) dir.segments taken) a.place))
      ⊎ (IsUncountedEntry image now dir (sector_of_place (with_clusters (cluster_size v) dir.segments taken) a.place)
      a.place a.entry × ((c : ℕ) → has taken c ≡ true → left.lost c ≡ true))
  -- the file that it names is unchanged
  pub named : file_at (sector now) (descriptor_field a.entry) ≡ file_at (sector image) (descriptor_field a.entry)
  pub end : KeepsMapEnd image now (λ _. false)

-- each answer, and what it leaves
abbrev pub AnswersEntry : DiskVolume → DiskFile → EntryWrite → Option (List ℕ) → Option (List ℕ)
    → Result (Unit {0}) FileFault → Type 0
AnswersEntry v dir a old new (Ok done) = IsEntryWritten v a old new
AnswersEntry v dir a old new (Err (Device n)) = EntryStops v dir a old new
AnswersEntry v dir a old new (Err NoCluster) = ⊥
AnswersEntry v dir a old new (Err TooManyRuns) = ⊥
