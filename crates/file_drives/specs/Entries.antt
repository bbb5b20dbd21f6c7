-- What is found in a directory of a mounted volume before one of its entries changes.
use Rattle.std.specs.Prelude.{◌≡◌, ℕ, Bool, Some, List, slice_get}
use Rattle.rbf_entries.specs.Places.{IsPlaceForName}
use Rattle.rbf_entries.specs.declared.place.NewPlace.{NewPlace}
use Rattle.rbf_entries.specs.Deletions.{IsDeletable}
use Rattle.rbf_entries.specs.declared.deletion.Deletable.{Deletable}
use Rattle.file_rules.specs.Change.{deletes}
use Rattle.lock_model.specs.declared.place.FilePlace.{FilePlace}
use Rattle.file_drives.specs.Changed.{Asked}
use Rattle.file_drives.specs.Drives.{DriveView}

-- the place in a directory where a new entry goes
pub record IsPlaceAt (views : List DriveView) (dir : FilePlace) (name : List ℕ) (found : NewPlace) : Type 0 where
  pub view : DriveView
  pub is : slice_get views dir.drive ≡ Some view
  pub place : IsPlaceForName view.media name found
  pub directory_is : found.dir.number ≡ dir.number

-- the same place, found for this user
pub record IsPlaceOn (views : List DriveView) (dir : FilePlace) (name : List ℕ) (user : ℕ) (execute : Bool)
    (found : NewPlace) : Type 0 where
  pub at : IsPlaceAt views dir name found
  pub user_is : found.by.user ≡ user
  pub execute_is : found.by.execute ≡ execute

-- the entry of a directory with a name, if it may be made free
pub record IsDeletableOn (views : List DriveView) (dir : FilePlace) (name : List ℕ) (found : Deletable) : Type 0 where
  pub view : DriveView
  pub is : slice_get views dir.drive ≡ Some view
  pub entry : IsDeletable view.media dir.number name found

-- the same for some name
pub record MayBeDeletedOn (views : List DriveView) (dir : FilePlace) (found : Deletable) : Type 0 where
  pub name : List ℕ
  pub is : IsDeletableOn views dir name found

-- a deletion of the file that the found entry names is asked for
pub record IsDeletionOn (dir : FilePlace) (found : Deletable) (asked : Asked) (views : List DriveView) : Type 0 where
  pub name : List ℕ
  pub is : IsDeletableOn views dir name found
  pub change_is : asked.change ≡ deletes dir.number found.descriptor name
