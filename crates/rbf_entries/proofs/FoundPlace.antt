-- A place that has been found, for the call that uses it.
use Rattle.std.proofs.Common.{◌≡◌, ℕ, Bool, Option, Some, Ok, List, sym, ap, ◌∙◌, subst}
use Rattle.rbf_model.specs.File.{DiskFile}
use Rattle.rbf_model.specs.Volume.{DiskVolume}
use Rattle.rbf_access.specs.Mounted.{RepresentsVolume, HasFile}
use Rattle.rbf_access.specs.Reading.{OnFile}
use Rattle.rbf_write.specs.Files.{IsDescriptorLoaded}
use Rattle.rbf_entries.specs.declared.place.NewPlace.{NewPlace}
use Rattle.rbf_entries.specs.Places.{AnswersPlace, IsNewPlace, IsFoundFor, IsPlaceForName}

module _ (m0 m1 : Option (List ℕ)) (same : m1 ≡ m0) (d : ℕ) (name : List ℕ) (user : ℕ) (execute : Bool) (found : NewPlace) (is : IsFoundFor m0 d user execute found) where
  place_new : OnFile m0 d (λ file. AnswersPlace file name user execute (Ok found.place)) → (n : ℕ) → n ≡ d → OnFile m0 n (λ file. IsNewPlace file name found.by.user found.by.execute found.place)
  place_new answer n at v file on there =
      subst (λ u. IsNewPlace file name u found.by.execute found.place) (sym is.user_is)
      (subst (λ x. IsNewPlace file name user x found.place) (sym is.execute_is) (answer v file on (ap v.files (sym at) ∙ there)))

  pub place_for : HasFile m0 d → OnFile m0 d (λ file. AnswersPlace file name user execute (Ok found.place)) → IsPlaceForName m1 name found
  place_for has answer = subst (λ m. IsPlaceForName m name found) (sym same) (record {
    file = subst (HasFile m0) (sym is.read.number_is) has;
    read = subst (λ n. IsDescriptorLoaded m0 n found.dir) (sym is.read.number_is) is.read;
    new = place_new answer found.dir.number is.read.number_is;
  })

  -- what holds of each file of its directory's number, for its user, holds of those of the one where it was looked for
  pub asked : (P : Option (List ℕ) → ℕ → ℕ → Bool → DiskVolume → DiskFile → Type 0)
      → ((v : DiskVolume) (file : DiskFile) → RepresentsVolume m1 v → v.files found.dir.number ≡ Some file
      → P m1 found.dir.number found.by.user found.by.execute v file)
      → (v : DiskVolume) (file : DiskFile) → RepresentsVolume m0 v → v.files d ≡ Some file → P m0 d user execute v file
  asked P holds v file on there =
      subst (λ m. P m d user execute v file) same
      (subst (λ x. P m1 d user x v file) is.execute_is
      (subst (λ u. P m1 d u found.by.execute v file) is.user_is
      (subst (λ n. P m1 n found.by.user found.by.execute v file) is.read.number_is
      (holds v file (record { image = on.image; is = same ∙ on.is; vol = on.vol }) (ap v.files is.read.number_is ∙ there)))))
