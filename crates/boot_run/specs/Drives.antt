-- Drives with images and without (this project's own).
use Rattle.std.specs.Prelude.{◌≡◌, ◌≤◌, ℕ, Some, None, List, [], ◌∷◌, length, map, slice_get, All}
use Rattle.file_drives.specs.Drives.{DriveView, media_at}

-- no image is in the drive
abbrev pub IsEmptyDrive : DriveView → Type 0
IsEmptyDrive drive = drive.media ≡ None

-- there are at most four drives, at least one for each image, and no image is in them
pub record HaveRoom (images : ℕ) (drives : List DriveView) : Type 0 where
  pub enough : images ≤ length drives
  pub few : length drives ≤ 4
  pub empty : All IsEmptyDrive drives

-- the drive with this image in it, and without one
abbrev pub with_media : List ℕ → DriveView → DriveView
with_media image drive = record drive { media = Some image }

abbrev pub without_media : DriveView → DriveView
without_media drive = record drive { media = None }

-- the drives with these images in them, the first in D0; a drive for which there is none is unchanged
abbrev pub holding : List (List ℕ) → List DriveView → List DriveView
holding [] drives = drives
holding (image ∷ images) [] = []
holding (image ∷ images) (drive ∷ drives) = with_media image drive ∷ holding images drives

-- the images were taken out of all drives; these are the unchanged images of the first drives
pub record TakesImages (images : List (List ℕ)) (before after : List DriveView) : Type 0 where
  pub each : (n : ℕ) (image media : List ℕ) → slice_get images n ≡ Some image → media_at before n ≡ Some media
      → image ≡ media
  pub left : after ≡ map without_media before
