-- What a write leaves of the files that it does not reach.
use Rattle.std.proofs.Common.{◌≡◌, ◌≢◌, ℕ, ◌≤◌, true, false, List, length, Some, sym, ◌∙◌, subst, arith}
use Rattle.rbf_model.specs.Disk.{disk_of, IsDisk}
use Rattle.rbf_model.specs.Fields.{size_field, segments_field}
use Rattle.rbf_model.specs.Geometry.{Geometry}
use Rattle.rbf_model.specs.Segments.{has, sectors_of}
use Rattle.rbf_model.specs.File.{DiskFile, file_at, has_room}
use Rattle.rbf_model.specs.Space.{own_sectors}
use Rattle.rbf_model.specs.Volume.{DiskVolume, Sound}
use Rattle.rbf_model.specs.Writes.{put}
use Rattle.rbf_model.proofs.Bytes.{put_beside, file_at_beside, not_has_first, length-put}

-- a disk stays one
pub disk_put : (g : Geometry) (disk : ℕ → List ℕ) (s : ℕ) (bytes : List ℕ) → IsDisk (disk_of g disk) → length bytes ≡ 256 → IsDisk (disk_of g (put disk s bytes))
disk_put g disk s bytes sectors whole n low = length-put disk s bytes n whole (sectors n low)

-- what a file shows, by its number
pub record IsShown (disk : ℕ → List ℕ) (n : ℕ) (file : DiskFile) : Type 0 where
  pub same : file ≡ file_at disk n
  pub room : has_room file.segments (size_field (disk n)) ≡ true

-- a write to no sector of a file leaves it
pub shown_at : (disk : ℕ → List ℕ) (n : ℕ) (file : DiskFile) (s : ℕ) (bytes : List ℕ) → IsShown disk n file → has (own_sectors n file) s ≡ false → IsShown (put disk s bytes) n file
shown_at disk n file s bytes is none =
    let e = is.same in
    let none_at = subst (λ f. has (own_sectors n f) s ≡ false) e none in
    let parts = not_has_first n (sectors_of (segments_field (disk n))) s none_at in
    record {
      same = e ∙ sym (file_at_beside disk s bytes n none_at);
      room = subst (λ d. has_room file.segments (size_field d) ≡ true) (sym (put_beside disk s bytes n parts.0)) is.room;
    }

module _ (g : Geometry) (disk : ℕ → List ℕ) (v : DiskVolume) (sound : Sound (disk_of g disk) v) where
  pub shown_beside : (n : ℕ) (file : DiskFile) (s : ℕ) (bytes : List ℕ) → v.files n ≡ Some file → has (own_sectors n file) s ≡ false → IsShown (put disk s bytes) n file
  shown_beside n file s bytes is none =
      shown_at disk n file s bytes (record { same = sound.shows.shown n file is; room = sound.shows.room n file is }) none

  pub ident_beside : (s : ℕ) (bytes : List ℕ) → 1 ≤ s → v.ident ≡ put disk s bytes 0
  ident_beside s bytes low =
      let differ : 0 ≢ s = λ same. absurd (omega arith) in
      sound.shows.ident ∙ sym (put_beside disk s bytes 0 differ)
