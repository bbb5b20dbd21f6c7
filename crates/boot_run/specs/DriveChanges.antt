-- Drives that receive an image, or give theirs up.
use Rattle.std.specs.Prelude.{◌≡◌, ℕ, IfSome, List}
use Rattle.file_drives.specs.Drives.{DriveView}
use Rattle.boot_run.specs.Drives.{with_media, without_media}

-- the drive was given this image
abbrev pub IsInserted : List ℕ → DriveView → DriveView → Type 0
IsInserted image old new = new ≡ with_media image old

-- the image that was in the drive was taken out, with these bytes
pub record IsEjected (bytes : List ℕ) (old new : DriveView) : Type 0 where
  pub handed_over : IfSome old.media (λ image. bytes ≡ image)
  pub none_left : new ≡ without_media old
