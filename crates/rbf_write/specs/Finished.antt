-- A descriptor that is written after the bytes of its file.
use Rattle.std.specs.Prelude.{◌≡◌, ℕ, ◌<◌, ◌≤◌, Option, List, length}
use Rattle.os9_base.specs.declared.registers.TimePacket.{TimePacket}
use Rattle.os9_outer.specs.Drive.{sector_count, with_sector}
use Rattle.rbf_model.specs.Fields.{segments_field}
use Rattle.rbf_model.specs.Segments.{sectors_of}
use Rattle.rbf_change.specs.Calls.{minute_of}
use Rattle.rbf_change.specs.Tidy.{KeepsListEnd}
use Rattle.rbf_access.specs.Mounted.{IsSoundMedia}
use Rattle.rbf_write.specs.Changed.{HasFields}
use Rattle.rbf_write.specs.declared.loaded.Loaded.{Loaded}

-- the descriptor with a new size, these segments, and the date of that change
pub record IsResized (loaded : Loaded) (segments : List (ℕ × ℕ)) (size : ℕ) (now : TimePacket) (bytes : List ℕ)
    : Type 0 where
  pub whole : length bytes ≡ 256
  pub fields : HasFields (record loaded.file { size = size; modified = minute_of now; segs = segments }) bytes
  pub list : segments_field bytes ≡ segments
  pub end : KeepsListEnd loaded.descriptor bytes

-- it is written if the bytes end after the old size
pub data IsFinished (loaded : Loaded) (segments : List (ℕ × ℕ)) (end : ℕ) (now : TimePacket)
    (before after : Option (List ℕ)) : Type 0 where
  stays : end ≤ loaded.file.size → after ≡ before → IsFinished loaded segments end now before after
  resized : {bytes : List ℕ} → loaded.file.size < end → IsResized loaded segments end now bytes
      → after ≡ with_sector before loaded.number bytes → IsFinished loaded segments end now before after

-- a descriptor that was read may be written with these segments: it is on the drive and lists those of the file, these
-- are the same or have another number of sectors, and the media represents a volume after the write
pub record MayFinish (media : Option (List ℕ)) (loaded : Loaded) (segments : List (ℕ × ℕ))
    (written : Option (List ℕ) → Type 0) : Type 0 where
  pub number : loaded.number < sector_count media
  pub list : segments_field loaded.descriptor ≡ loaded.file.segs
  pub same : length (sectors_of segments) ≡ length (sectors_of loaded.file.segs) → segments ≡ loaded.file.segs
  pub sound : (after : Option (List ℕ)) → written after → IsSoundMedia after

-- the same with the segments of the file; the descriptor has the fields that were read
pub record MayResize (media : Option (List ℕ)) (loaded : Loaded) (written : Option (List ℕ) → Type 0) : Type 0 where
  pub may : MayFinish media loaded loaded.file.segs written
  pub fields : HasFields loaded.file loaded.descriptor
