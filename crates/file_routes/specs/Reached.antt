-- The result of a walk on the volume of its drive, in the terms of the calls on files.
use Rattle.std.specs.Prelude.{◌≡◌, ℕ, Some, List}
use Rattle.rbf_model.specs.Volume.{DiskVolume}
use Rattle.rbf_model.specs.Walk.{WalkEnd, arrives, walk}
use Rattle.file_rules.specs.Files.{Files, volume_at}
use Rattle.file_rules.specs.Route.{Found}
use Rattle.lock_model.specs.declared.place.FilePlace.{FilePlace}
use Rattle.file_routes.specs.declared.walk.Walker.{Walker}

-- it has this end on the volume of the drive
pub record HasWalkEnd (walker : Walker) (files : Files) (from : FilePlace) (names : List (List ℕ)) (end : WalkEnd)
    : Type 0 where
  pub volume : DiskVolume
  pub volume_is : volume_at files from.drive ≡ Some volume
  pub end_is : walk volume.files walker.by.user walker.by.execute from.number names ≡ end

-- it arrives at this file
pub record FindsFilePlace (walker : Walker) (files : Files) (from : FilePlace) (names : List (List ℕ))
    (place : FilePlace)
    : Type 0 where
  pub found : Found
  pub place_is : found.place ≡ place
  pub drive_is : place.drive ≡ from.drive
  pub volume_is : volume_at files from.drive ≡ Some found.volume
  pub end_is : walk found.volume.files walker.by.user walker.by.execute from.number names ≡ arrives place.number
  pub file_is : found.volume.files place.number ≡ Some found.file
