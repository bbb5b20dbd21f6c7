-- Bytes that are laid over those of a file from a place on, with zeros between its end and that place.
use Rattle.std.specs.Prelude.{◌≡◌, ◌≢◌, ◌⊎◌, ℕ, ◌+◌, ◌/◌, ◌<◌, ◌≤◌, ◌==◌, true, false, Option, Some, List, length, get_or, Result, Ok, Err, if◌then◌else◌}
use Rattle.os9_base.specs.declared.registers.TimePacket.{TimePacket}
use Rattle.rbf_model.specs.Geometry.{image_geometry, sector}
use Rattle.rbf_model.specs.Segments.{sectors_of, has}
use Rattle.rbf_model.specs.File.{DiskFile, segment_bytes}
use Rattle.rbf_model.specs.Space.{is_marked}
use Rattle.rbf_model.specs.Volume.{DiskVolume}
use Rattle.rbf_model.specs.Writes.{put_at}
use Rattle.rbf_model.specs.Laws.{IsMapSector}
use Rattle.rbf_change.specs.Contents.{extended}
use Rattle.rbf_change.specs.Growth.{with_clusters, clusters_needed, IsChoice, IsOneTooMany}
use Rattle.rbf_change.specs.Calls.{cluster_size, is_free_in, free_total, replaced, minute_of}
use Rattle.rbf_change.specs.Faults.{MayLose, IsWriteFront, with_front}
use Rattle.rbf_change.specs.Tidy.{KeepsMapEnd, KeepsListEnd}
use Rattle.rbf_access.specs.declared.faults.FileFault.{FileFault}
use Rattle.rbf_access.specs.declared.faults.FileFault.TheVariants.{Device, NoCluster, TooManyRuns}
use Rattle.rbf_access.specs.Mounted.{RepresentsVolume}
use Rattle.rbf_write.specs.declared.new_bytes.NewBytes.{NewBytes}

-- bytes that are laid over file n from a place on, at a time
pub record Laying : Type 0 where
  pub number : ℕ
  pub at : ℕ
  pub bytes : List ℕ
  pub now : TimePacket

abbrev pub laying_of : ℕ → NewBytes → Laying
laying_of n write = record { number = n; at = write.at; bytes = write.bytes.now; now = write.date }

-- the resulting contents
abbrev pub laid_contents : List ℕ → Laying → List ℕ
laid_contents contents laying = put_at (extended contents laying.at) laying.at laying.bytes

-- the resulting file, with these segments; its date changes only if its size does
abbrev pub laid_file : DiskFile → Laying → List (ℕ × ℕ) → DiskFile
laid_file file laying segments =
    record file {
      contents = laid_contents file.contents laying;
      segments = segments;
      modified =
          if length (laid_contents file.contents laying) == length file.contents then file.modified
          else minute_of laying.now;
    }

-- the number of clusters that it needs for that
abbrev pub laying_needs : DiskVolume → DiskFile → Laying → ℕ
laying_needs v file laying =
    clusters_needed (cluster_size v) file.segments (length (laid_contents file.contents laying))

-- the end of these bytes in the file
abbrev pub laying_end : Laying → ℕ
laying_end laying = laying.at + length laying.bytes

-- the bytes of the segments' sectors are unchanged from a place of the file on, even those after its size
abbrev pub KeepsBytesFrom : ℕ → List (ℕ × ℕ) → List ℕ → List ℕ → Type 0
KeepsBytesFrom end segments old new =
    (place : ℕ) → end ≤ place
    → get_or (segment_bytes (sector new) segments) place 0 ≡ get_or (segment_bytes (sector old) segments) place 0

-- what is unchanged on the media, in addition to what the volume shows, if file n was given these segments and bytes up
-- to an end
pub record IsTidyChange (before after : Option (List ℕ)) (n : ℕ) (segments : List (ℕ × ℕ)) (end : ℕ) : Type 0 where
  pub image : List ℕ
  pub now : List ℕ
  pub was : before ≡ Some image
  pub is : after ≡ Some now
  -- all sectors except those of the file, its descriptor and the map
  pub others : (s : ℕ) → ¬ IsMapSector (image_geometry image) s → s ≢ n → has (sectors_of segments) s ≡ false
      → sector now s ≡ sector image s
  -- in the file's sectors, everything after the bytes
  pub behind : KeepsBytesFrom end segments image now
  -- the marks after the whole clusters
  pub map_end : KeepsMapEnd image now (λ _. false)
  -- the end of the list of segments and the bytes after it
  pub list : KeepsListEnd (sector image n) (sector now n)

-- the clusters of all sectors of the segments are marked
abbrev pub AllAreMarked : List ℕ → List (ℕ × ℕ) → Type 0
AllAreMarked image segments =
    (s : ℕ) → has (sectors_of segments) s ≡ true
    → is_marked (sector image) (s / (image_geometry image).cluster) ≡ true

-- what a fault has left unchanged, if file n was to be given these segments and bytes up to an end: its descriptor, and
-- all sectors except those of the segments and of the map
pub record IsTidyStop (before after : Option (List ℕ)) (n : ℕ) (segments : List (ℕ × ℕ)) (end : ℕ) : Type 0 where
  pub image : List ℕ
  pub now : List ℕ
  pub was : before ≡ Some image
  pub is : after ≡ Some now
  pub descriptor : sector now n ≡ sector image n
  pub others : (s : ℕ) → ¬ IsMapSector (image_geometry image) s → has (sectors_of segments) s ≡ false
      → sector now s ≡ sector image s
  pub behind : KeepsBytesFrom end segments image now
  -- a sector outside the map is unchanged until all clusters of the segments are marked
  pub marks : (s : ℕ) → ¬ IsMapSector (image_geometry image) s
      → (sector now s ≡ sector image s) ⊎ AllAreMarked now segments
  pub map_end : KeepsMapEnd image now (λ _. false)

-- all is done
pub record IsLaidOver (v : DiskVolume) (old : DiskFile) (laying : Laying) (before after : Option (List ℕ))
    : Type 0 where
  pub enough : laying_needs v old laying ≤ free_total v
  pub gained : List ℕ
  pub choice : IsChoice (cluster_size v) (is_free_in v) old.segments (length (laid_contents old.contents laying)) gained
  pub on : RepresentsVolume after
      (replaced v laying.number (Some (laid_file old laying (with_clusters (cluster_size v) old.segments gained))))
  pub tidy : IsTidyChange before after laying.number (with_clusters (cluster_size v) old.segments gained)
      (laying_end laying)

-- a fault has ended it: a front of the bytes is written, and clusters that were taken may be lost
pub record LayingEnds (v : DiskVolume) (old : DiskFile) (laying : Laying) (before after : Option (List ℕ))
    : Type 0 where
  pub count : ℕ
  pub front : IsWriteFront (length old.contents) laying.at laying.bytes count
  pub taken : List ℕ
  pub choice : IsChoice (cluster_size v) (is_free_in v) old.segments (length (laid_contents old.contents laying)) taken
  pub left : DiskVolume
  pub on : RepresentsVolume after left
  pub lose : MayLose (replaced v laying.number (Some (with_front old laying.at laying.bytes count))) left (has taken)
  -- the first byte is written after the last mark
  pub order : (count ≡ 0) ⊎ ((c : ℕ) → has taken c ≡ true → left.lost c ≡ true)
  pub tidy : IsTidyStop before after laying.number (with_clusters (cluster_size v) old.segments taken)
      (laying_end laying)

-- fewer clusters are free than it needs
pub record LayingIsFull (v : DiskVolume) (old : DiskFile) (laying : Laying) (before after : Option (List ℕ))
    : Type 0 where
  pub few : free_total v < laying_needs v old laying
  pub media_kept : after ≡ before

-- enough are free, and a chosen cluster does not fit the list
pub record LayingIsTooLong (v : DiskVolume) (old : DiskFile) (laying : Laying) (before after : Option (List ℕ))
    : Type 0 where
  pub enough : laying_needs v old laying ≤ free_total v
  pub chosen : List ℕ
  pub full : IsOneTooMany (cluster_size v) (is_free_in v) old.segments
      (length (laid_contents old.contents laying)) chosen
  pub media_kept : after ≡ before

-- its answers, and what each leaves
abbrev pub AnswersLaying : DiskVolume → DiskFile → Laying → Option (List ℕ) → Option (List ℕ)
    → Result (Unit {0}) FileFault → Type 0
AnswersLaying v old laying before after (Ok done) = IsLaidOver v old laying before after
AnswersLaying v old laying before after (Err (Device n)) = LayingEnds v old laying before after
AnswersLaying v old laying before after (Err NoCluster) = LayingIsFull v old laying before after
AnswersLaying v old laying before after (Err TooManyRuns) = LayingIsTooLong v old laying before after
