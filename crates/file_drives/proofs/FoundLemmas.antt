-- A place that was found in a directory, on the drive of that directory.
use Rattle.std.proofs.Common.{◌≡◌, ℕ, ◌∙◌, Some, List, slice_get, sym, subst}
use Rattle.std.proofs.lemmas.Option.{same_Some}
use Rattle.rbf_entries.specs.Places.{IsPlaceForName}
use Rattle.rbf_entries.specs.declared.place.NewPlace.{NewPlace}
use Rattle.lock_model.specs.declared.place.FilePlace.{FilePlace}
use Rattle.file_drives.specs.Drives.{DriveView}
use Rattle.file_drives.specs.Entries.{IsPlaceAt}

pub place-here : (views : List DriveView) (view : DriveView) (dir : FilePlace) (name : List ℕ) (found : NewPlace)
    → IsPlaceAt views dir name found → slice_get views dir.drive ≡ Some view → IsPlaceForName view.media name found
place-here views view dir name found at is =
    subst (λ (w : DriveView). IsPlaceForName w.media name found) (same_Some at.view view (sym at.is ∙ is)) at.place
