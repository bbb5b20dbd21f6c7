-- The lawful writes of one sector, as one kind of step, and lists of them.
use Rattle.std.specs.Prelude.{◌≡◌, ℕ, ◌&&◌, ◌||◌, not, Bool, List, length, Some, None}
use Rattle.rbf_model.specs.Disk.{disk_of}
use Rattle.rbf_model.specs.Geometry.{sector}
use Rattle.rbf_model.specs.File.{DiskFile, file_from, file_at}
use Rattle.rbf_model.specs.Volume.{DiskVolume}
use Rattle.rbf_model.specs.Writes.{put_sector, with_file, with_file_in_place, with_lost}
use Rattle.rbf_model.specs.Laws.{MarksFreeClusters, FreesClusters, IsUnseen, Overwrites, with_sector_bytes, Redescribes, AddsEntry, AppendsEntry, RemovesEntry, with_directory_entry}
use Rattle.rbf_change.specs.Calls.{shape}

-- a write of these bytes to sector s by one of the laws, and the volume that the disk represents then
pub data IsLawful (disk : ℕ → List ℕ) (v : DiskVolume) : ℕ → List ℕ → DiskVolume → Type 0 where
  takes : {s : ℕ} {bytes : List ℕ} {taken : ℕ → Bool} → MarksFreeClusters (disk_of (shape v) disk) v s bytes taken
      → IsLawful disk v s bytes (with_lost v (λ c. v.lost c || taken c))
  frees : {s : ℕ} {bytes : List ℕ} {freed : ℕ → Bool} → FreesClusters (disk_of (shape v) disk) v s bytes freed
      → IsLawful disk v s bytes (with_lost v (λ c. v.lost c && not (freed c)))
  unseen : {s : ℕ} {bytes : List ℕ} → IsUnseen (disk_of (shape v) disk) v s bytes → IsLawful disk v s bytes v
  overwrites : {n j s : ℕ} {file : DiskFile} {bytes : List ℕ} → Overwrites v n file j s
      → IsLawful disk v s bytes (with_file_in_place v n (with_sector_bytes file j bytes))
  redescribes : {n : ℕ} {old : DiskFile} {bytes : List ℕ} → Redescribes (disk_of (shape v) disk) v n old bytes
      → IsLawful disk v n bytes (with_file (shape v) v n (Some (file_from disk bytes)))
  enters : {d j s i n : ℕ} {dir : DiskFile} {bytes entry : List ℕ}
      → AddsEntry (disk_of (shape v) disk) v (record { directory = d; file = dir; place = i; bytes = entry })
      (record { place = j; lsn = s; bytes = bytes }) n
      → IsLawful disk v s bytes
      (with_file (shape v) (with_file_in_place v d (with_directory_entry dir i entry)) n (Some (file_at disk n)))
  appends : {d i n : ℕ} {dir : DiskFile} {bytes entry : List ℕ}
      → AppendsEntry (disk_of (shape v) disk) v (record { directory = d; file = dir; place = i; bytes = entry }) bytes n
      → IsLawful disk v d bytes
      (with_file (shape v) (with_file (shape v) v d (Some (file_from disk bytes))) n (Some (file_at disk n)))
  leaves : {d j s i n : ℕ} {dir file : DiskFile} {bytes entry : List ℕ}
      → RemovesEntry disk v (record { directory = d; file = dir; place = i; bytes = entry })
      (record { place = j; lsn = s; bytes = bytes }) n file
      → IsLawful disk v s bytes (with_file (shape v) (with_file_in_place v d (with_directory_entry dir i entry)) n None)

-- lawful writes in a row, from an image and its volume to another image and its volume
pub data AreLawful (image : List ℕ) (v : DiskVolume) : List ℕ → DiskVolume → Type 0 where
  done : AreLawful image v image v
  then : {now : List ℕ} {u w : DiskVolume} {s : ℕ} {bytes : List ℕ} → AreLawful image v now u → length bytes ≡ 256
      → IsLawful (sector now) u s bytes w → AreLawful image v (put_sector now s bytes) w
