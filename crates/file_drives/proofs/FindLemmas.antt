-- What is found in a directory on a volume that is mounted.
use Rattle.std.proofs.Common.{◌≡◌, ℕ, Bool, Option, Some, IfOk, List, Result, Ok, Err, slice_get, sym, subst}
use Rattle.rbf_access.specs.Mounted.{HasFile}
use Rattle.rbf_access.specs.Reading.{OnFile}
use Rattle.rbf_entries.specs.Places.{AnswersPlace, IsFoundFor, IsNewPlace, IsPlaceForName, place_found}
use Rattle.rbf_entries.specs.declared.place.NewPlace.{NewPlace}
use Rattle.rbf_entries.specs.Deletions.{IsDeletable}
use Rattle.rbf_entries.specs.declared.deletion.Deletable.{Deletable}
use Rattle.rbf_walk.specs.declared.error.DirError.{DirError}
use Rattle.rbf_write.specs.Files.{IsDescriptorLoaded}
use Rattle.lock_model.specs.declared.place.FilePlace.{FilePlace}
use Rattle.file_drives.specs.Drives.{DriveView}
use Rattle.file_drives.specs.Entries.{IsDeletableOn, IsPlaceOn}

-- a place that was found for a user is one for him
place-for : (media : Option (List ℕ)) (n user : ℕ) (execute : Bool) (name : List ℕ)
    (result : Result NewPlace DirError) → HasFile media n → OnFile media n (λ file. AnswersPlace file name user
    execute (place_found result)) → IfOk result (IsFoundFor media n user execute)
    → IfOk result (IsPlaceForName media name)
place-for media n user execute name (Ok found) has answer read =
    let same : found.dir.number ≡ n = read.read.number_is in
    record {
      file = subst (λ m. HasFile media m) (sym same) has;
      read = subst (λ m. IsDescriptorLoaded media m found.dir) (sym same) read.read;
      new = λ v file on is.
          subst (λ u. IsNewPlace file name u found.by.execute found.place) (sym read.user_is)
          (subst (λ e. IsNewPlace file name user e found.place) (sym read.execute_is)
          (answer v file on (subst (λ m. v.files m ≡ Some file) same is)));
    }
place-for media n user execute name (Err error) has answer read = tt

on-media : {A : Type 0} (before after : Option (List ℕ)) (result : Result A DirError) (fact : Option (List ℕ) → A → Type 0) → after ≡ before → IfOk result (fact before) → IfOk result (fact after)
on-media before after result fact same holds = subst (λ media. IfOk result (fact media)) (sym same) holds

-- on the drives of a machine
pub place-found : (views : List DriveView) (before : Option (List ℕ)) (after : DriveView) (dir : FilePlace)
    (name : List ℕ) (user : ℕ) (execute : Bool) (result : Result NewPlace DirError) → slice_get views dir.drive ≡
    Some after → HasFile before dir.number → after.media ≡ before → OnFile before dir.number
    (λ file. AnswersPlace file name user execute (place_found result)) → IfOk result
    (IsFoundFor before dir.number user execute) → IfOk result (IsPlaceOn views dir name user execute)
place-found views before after dir name user execute result is has same answer read =
    found-on result (on-media before after.media result (λ media found. IsFoundFor media dir.number user execute found) same read)
    (on-media before after.media result (λ media found. IsPlaceForName media name found) same (place-for before dir.number user execute name result has answer read))
  where
    found-on : (result : Result NewPlace DirError) → IfOk result (IsFoundFor after.media dir.number user execute)
        → IfOk result (IsPlaceForName after.media name) → IfOk result (IsPlaceOn views dir name user execute)
    found-on (Ok found) read place = record {
      at = record { view = after; is = is; place = place; directory_is = read.read.number_is };
      user_is = read.user_is;
      execute_is = read.execute_is;
    }
    found-on (Err error) read place = tt

pub entry-found : (views : List DriveView) (before : Option (List ℕ)) (after : DriveView) (dir : FilePlace)
    (name : List ℕ) (result : Result Deletable DirError) → slice_get views dir.drive ≡ Some after → after.media ≡
    before → IfOk result (IsDeletable before dir.number name) → IfOk result (IsDeletableOn views dir name)
entry-found views before after dir name result is same entry =
    found-on result (on-media before after.media result (λ media found. IsDeletable media dir.number name found) same entry)
  where
    found-on : (result : Result Deletable DirError) → IfOk result (IsDeletable after.media dir.number name)
        → IfOk result (IsDeletableOn views dir name)
    found-on (Ok found) entry = record { view = after; is = is; entry = entry }
    found-on (Err error) entry = tt
