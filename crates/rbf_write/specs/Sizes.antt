-- The answers of a change of a file's size, and what each leaves.
use Rattle.std.specs.Prelude.{◌≡◌, ◌≢◌, ℕ, ◌+◌, ◌<◌, ◌≤◌, nat_lt, Option, Some, List, [], length, Bool, false, Result, Ok, Err, if◌then◌else◌}
use Rattle.os9_base.specs.declared.registers.TimePacket.{TimePacket}
use Rattle.rbf_model.specs.Geometry.{image_geometry, sector}
use Rattle.rbf_model.specs.Segments.{sectors_of, has}
use Rattle.rbf_model.specs.File.{DiskFile}
use Rattle.rbf_model.specs.Volume.{DiskVolume}
use Rattle.rbf_model.specs.Laws.{IsMapSector}
use Rattle.rbf_change.specs.Growth.{with_clusters, clusters_needed, IsChoice, IsOneTooMany}
use Rattle.rbf_change.specs.Cut.{cut_file, is_given_up}
use Rattle.rbf_change.specs.Calls.{shape, cluster_size, is_free_in, free_total, minute_of, SetsSize}
use Rattle.rbf_change.specs.Faults as ends
use Rattle.rbf_change.specs.Faults.{SizeEnds}
use Rattle.rbf_change.specs.Tidy.{KeepsMapEnd, MayKeepMapEnd, KeepsListEnd}
use Rattle.rbf_access.specs.MapMarks.{marking_sectors}
use Rattle.rbf_access.specs.declared.faults.FileFault.{FileFault}
use Rattle.rbf_access.specs.declared.faults.FileFault.TheVariants.{Device, NoCluster, TooManyRuns}
use Rattle.rbf_access.specs.Mounted.{RepresentsVolume}
use Rattle.rbf_write.specs.Laying.{KeepsBytesFrom, IsTidyStop}
use Rattle.rbf_write.specs.Outcomes.{laying_calls}

-- the setting of the size of file n, at a time
pub record Sizing : Type 0 where
  pub number : ℕ
  pub size : ℕ
  pub now : TimePacket

-- the number of clusters that it needs in addition
abbrev pub size_needs : DiskVolume → DiskFile → Sizing → ℕ
size_needs v file sizing = clusters_needed (cluster_size v) file.segments sizing.size

-- the clusters that a file gives up when it is cut to that size
abbrev pub given_up : DiskVolume → DiskFile → Sizing → ℕ → Bool
given_up v file sizing c =
    is_given_up (shape v) sizing.number file
    (cut_file (cluster_size v) sizing.number file sizing.size (minute_of sizing.now)) c

-- the clusters that are given up: none if the file is made longer
abbrev pub giving_up : DiskVolume → DiskFile → Sizing → ℕ → Bool
giving_up v file sizing c = if nat_lt sizing.size (length file.contents) then given_up v file sizing c else false

-- the segments in whose sectors zeros are laid: none if the file is cut
abbrev pub zeroed_segments : DiskFile → Sizing → List (ℕ × ℕ) → List (ℕ × ℕ)
zeroed_segments old sizing segments = if nat_lt (length old.contents) sizing.size then segments else []

-- what is unchanged on the media if file n got a size with zeros in these segments, and some clusters were given up
pub record IsTidySize (before after : Option (List ℕ)) (n : ℕ) (segments : List (ℕ × ℕ)) (size : ℕ) (gone : ℕ → Bool)
    : Type 0 where
  pub image : List ℕ
  pub now : List ℕ
  pub was : before ≡ Some image
  pub is : after ≡ Some now
  -- all sectors except those of the segments, its descriptor and the map
  pub others : (s : ℕ) → ¬ IsMapSector (image_geometry image) s → s ≢ n → has (sectors_of segments) s ≡ false
      → sector now s ≡ sector image s
  -- in the segments' sectors, everything after the size
  pub behind : KeepsBytesFrom size segments image now
  -- the marks after the whole clusters, except that of a cluster that is given up
  pub map_end : KeepsMapEnd image now gone
  -- the end of the list of segments and the bytes after it
  pub list : KeepsListEnd (sector image n) (sector now n)

-- the same after a fault, if the file had been cut: only the map and its descriptor have changed, and that mark may
-- still be set
pub record IsTidyCut (before after : Option (List ℕ)) (n : ℕ) (gone : ℕ → Bool) : Type 0 where
  pub image : List ℕ
  pub now : List ℕ
  pub was : before ≡ Some image
  pub is : after ≡ Some now
  pub others : (s : ℕ) → ¬ IsMapSector (image_geometry image) s → s ≢ n → sector now s ≡ sector image s
  pub map_end : MayKeepMapEnd image now gone
  pub list : KeepsListEnd (sector image n) (sector now n)

-- by how the fault ended the call: nothing has changed; or the clusters had been chosen, and only the map and sectors
-- of the planned segments have changed; or only the map and its descriptor have
abbrev pub IsTidyEnd : (left : List ℕ) (v w : DiskVolume) (sizing : Sizing) → (ℕ → Bool) → Option (List ℕ)
    → Option (List ℕ) → SizeEnds left v w sizing.number sizing.size sizing.now → Type 0
IsTidyEnd left v w sizing gone media now (ends.before same) = now ≡ media
IsTidyEnd left v w sizing gone media now (ends.longer end) =
    IsChoice (cluster_size v) (is_free_in v) end.old.segments sizing.size end.taken
    × IsTidyStop media now sizing.number (with_clusters (cluster_size v) end.old.segments end.taken) sizing.size
IsTidyEnd left v w sizing gone media now (ends.cut end) = IsTidyCut media now sizing.number gone

-- the file has the size
pub record IsFileSized (v : DiskVolume) (old : DiskFile) (sizing : Sizing) (before after : Option (List ℕ)) : Type 0
  where
    pub enough : size_needs v old sizing ≤ free_total v
    pub volume : DiskVolume
    pub on : RepresentsVolume after volume
    pub sets : SetsSize v volume sizing.number sizing.size sizing.now
    pub tidy : IsTidySize before after sizing.number (zeroed_segments old sizing sets.new.segments) sizing.size
        (giving_up v old sizing)
    pub same : length old.contents ≡ sizing.size → after ≡ before

-- a fault has ended the call
pub record SizeIsEnded (v : DiskVolume) (old : DiskFile) (sizing : Sizing) (before after : Option (List ℕ))
    : Type 0 where
  pub volume : DiskVolume
  pub on : RepresentsVolume after volume
  pub ends : SizeEnds on.image v volume sizing.number sizing.size sizing.now
  pub tidy : IsTidyEnd on.image v volume sizing (giving_up v old sizing) before after ends

-- error 248: fewer clusters are free than the size needs
pub record SizeIsFull (v : DiskVolume) (old : DiskFile) (sizing : Sizing) (before after : Option (List ℕ))
    : Type 0 where
  pub few : free_total v < size_needs v old sizing
  pub media_kept : after ≡ before

-- error 217: enough are free, and a chosen cluster does not fit the list of segments
pub record SizeIsTooLong (v : DiskVolume) (old : DiskFile) (sizing : Sizing) (before after : Option (List ℕ))
    : Type 0 where
  pub enough : size_needs v old sizing ≤ free_total v
  pub chosen : List ℕ
  pub full : IsOneTooMany (cluster_size v) (is_free_in v) old.segments sizing.size chosen
  pub media_kept : after ≡ before

-- each answer of a change of size with its cause and what it leaves
abbrev pub AnswersSize : DiskVolume → DiskFile → Sizing → Option (List ℕ) → Option (List ℕ)
    → Result (Unit {0}) FileFault → Type 0
AnswersSize v old sizing before after (Ok done) = IsFileSized v old sizing before after
AnswersSize v old sizing before after (Err (Device n)) = SizeIsEnded v old sizing before after
AnswersSize v old sizing before after (Err NoCluster) = SizeIsFull v old sizing before after
AnswersSize v old sizing before after (Err TooManyRuns) = SizeIsTooLong v old sizing before after

-- the number of the map's sectors that have a mark of a cluster that is given up
abbrev pub giving_calls : DiskVolume → DiskFile → Sizing → ℕ
giving_calls v file sizing = marking_sectors (shape v) (given_up v file sizing)

-- the greatest number of its drive calls: only that of the descriptor if the size is unchanged, those of a write up to
-- the new end, or two and one for each sector of the map that has a mark of the clusters that are given up
abbrev pub size_calls : DiskVolume → DiskFile → ℕ → Sizing → ℕ
size_calls v file marks sizing =
    if nat_lt (length file.contents) sizing.size then 1 + laying_calls v file marks sizing.size sizing.size
    else (if nat_lt sizing.size (length file.contents) then 2 + giving_calls v file sizing else 1)
