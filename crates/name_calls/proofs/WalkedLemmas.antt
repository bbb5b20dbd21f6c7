-- A walk along names, in the words of what it was looking for.
use Rattle.std.proofs.Common.{◌≡◌, ◌∙◌, ℕ, ◌≤◌, arith, Some, None, option_and_then, List, Result, Ok, Err, inl, inr, refl, ap, sym}
use Rattle.os9_base.specs.declared.errors.TheConstants.{E_FNA, E_PNNF}
use Rattle.rbf_model.specs.Volume.{DiskVolume}
use Rattle.rbf_access.specs.declared.faults.FileFault.TheVariants.{Device, NoCluster, TooManyRuns}
use Rattle.rbf_walk.specs.Walk.{directory_error, directory_fault, walk_calls}
use Rattle.rbf_walk.specs.declared.error.DirError.{DirError}
use Rattle.rbf_walk.specs.declared.error.DirError.TheVariants.{NotAllowed, BadPath, NotFound, Exists, File}
use Rattle.file_rules.specs.Files.{Asker, Files, file_in, volume_at}
use Rattle.file_rules.specs.Step.{Step, refused, comes, reaches, drive_of}
use Rattle.file_rules.specs.Route.{Found, walks}
use Rattle.lock_model.specs.declared.place.FilePlace.{FilePlace}
use Rattle.file_drives.specs.Drives.{DriveView}
use Rattle.file_drives.specs.Mounted.{HasFileAt}
use Rattle.file_state.proofs.CountLemmas.{called-more, called-read}
use Rattle.file_state.proofs.ReachedLemmas as reached
use Rattle.file_state.specs.Counted.{CalledAtMost, calls_of}
use Rattle.file_state.specs.Reached.{HasReadDrive}
use Rattle.file_state.specs.Tie.{RepresentsFiles}
use Rattle.file_state.specs.declared.state.FileState.{FileState}
use Rattle.file_routes.proofs.ReachLemmas.{volume-there, walk-comes, walks-forbidden, walks-found, walks-reaches, walks-unfound, WalkComes}
use Rattle.file_routes.proofs.VolumeLemmas.{file-there}
use Rattle.file_routes.specs.Reached.{FindsFilePlace}
use Rattle.file_routes.specs.Walks.{WalksAlongNames}
use Rattle.file_routes.specs.declared.walk.Walker.{Walker}
use Rattle.name_calls.proofs.ListCallLemmas.{calls-reached}
use Rattle.name_calls.specs.Locating.{IsFileIn}
use Rattle.name_calls.specs.Looks.{Looks, SearchHasResult, answer_of}

-- a file that was found
pub found-in : (walker : Walker) (files : Files) (from : FilePlace) (names : List (List ℕ)) (place : FilePlace) (it : FindsFilePlace walker files from names place) → IsFileIn files it.found
found-in walker files from names place it = record {
  volume_is = ap (λ (at : FilePlace). volume_at files at.drive) it.place_is ∙ ap (volume_at files) it.drive_is ∙ it.volume_is;
  file_is = ap (λ (at : FilePlace). it.found.volume.files at.number) it.place_is ∙ it.file_is;
}

module _ {A : Type 0} (asker : Asker) (walker : Walker) (files : Files) (from : FilePlace) (names : List (List ℕ)) (user : asker.user ≡ walker.by.user) (next : Found → Step A) where
  -- its drive was reached
  pub reached-there : (place : FilePlace) (it : FindsFilePlace walker files from names place) → drive_of (walks asker files walker.by.execute from names next) ≡ Some it.found.place.drive
  reached-there place it =
      walks-reaches asker walker files from names user next it.found.volume it.volume_is
      ∙ ap (λ (drive : ℕ). Some drive) (sym it.drive_is ∙ ap (λ (at : FilePlace). at.drive) (sym it.place_is))

module _ {A R : Type 0} (fact : A → R → Type 0) (made : Found → A) (asker : Asker) (walker : Walker) (files : Files)
    (from : FilePlace) (names : List (List ℕ)) (state new : FileState) (views now : List DriveView)
    (user : asker.user ≡ walker.by.user) (stands : RepresentsFiles state views files) (has : HasFileAt state.disks views from)
    (io : new.io ≡ state.io) (directories : new.directories ≡ state.directories)
    (records : new.records ≡ state.records) (most : ℕ) (enough : (v : DiskVolume) → volume_at files from.drive ≡ Some
    v → walk_calls v.files walker.by.user walker.by.execute from.number names ≤ most) where
  abbrev next : Found → Step A
  next found = comes (made found)

  abbrev step : Step A
  step = walks asker files walker.by.execute from names next

  there : file_in files from ≡ Some has.file
  there =
      let volume = volume-there state.disks views from files.volumes has stands.mounted in
      ap (option_and_then (λ (v : DiskVolume). v.files from.number)) volume.1 ∙ file-there state.disks views from has files.volumes volume.0 stands.mounted volume.1

  module _ (arrived : Result FilePlace DirError) (it : WalksAlongNames walker from names arrived state.disks views new.disks now) where
    read : HasReadDrive (directory_fault arrived) from.drive files new views now
    read = reached.has-read state new views now files from has.file (directory_fault arrived)
        (λ v file. walk_calls v.files walker.by.user walker.by.execute from.number names) stands there io directories
        records it.drive

    called : CalledAtMost (calls_of step most) views now
    called =
        let volume = volume-there state.disks views from files.volumes has stands.mounted in
        let of-walk = enough volume.0 volume.1 in
        let of-step = calls-reached step from.drive most (walks-reaches asker walker files from names user next volume.0 volume.1) in
        called-more (walk_calls volume.0.files walker.by.user walker.by.execute from.number names) (calls_of step most) views now (omega (arith, of-walk, of-step))
        (called-read state new views now files from volume.0 has.file (directory_fault arrived)
        (λ v file. walk_calls v.files walker.by.user walker.by.execute from.number names) stands volume.1
        (file-there state.disks views from has files.volumes volume.0 stands.mounted volume.1) it.drive)

    comes-to : WalkComes walker files from names arrived
    comes-to = walk-comes walker files from names state.disks views new.disks now has stands.mounted arrived it

  well : (answer : Result A ℕ) (end : Step A) → step ≡ reaches from.drive end → answer_of end ≡ answer → HasReadDrive None from.drive files new views now → Looks step answer files new views now
  well answer end is ends it = inl (record { is = sym ends ∙ sym (ap answer_of is); drive = from.drive; reached = inl (ap drive_of is); read = it })

  pub walk-found : (place : FilePlace) (thing : R) → WalksAlongNames walker from names (Ok place) state.disks views new.disks
      now → ((it : FindsFilePlace walker files from names place) → fact (made it.found) thing) → SearchHasResult fact step most
      (Ok thing) files new views now
  walk-found place thing it holds =
      let found : FindsFilePlace walker files from names place = comes-to (Ok place) it in
      record {
        answer = Ok (made found.found);
        is = holds found;
        looks = well (Ok (made found.found)) (next found.found) (walks-found asker walker files from names user next place found) refl (read (Ok place) it);
        drives_are = stands.drives;
        calls = called (Ok place) it;
      }

  pub walk-lost : (error : DirError) → WalksAlongNames walker from names (Err error) state.disks views new.disks now → SearchHasResult fact step most (Err (directory_error error)) files new views now
  walk-lost NotAllowed it = record {
    answer = Err E_FNA;
    is = refl;
    looks = well (Err E_FNA) (refused E_FNA) (walks-forbidden asker walker files from names user next (comes-to (Err NotAllowed) it)) refl (read (Err NotAllowed) it);
    drives_are = stands.drives;
    calls = called (Err NotAllowed) it;
  }
  walk-lost BadPath it = absurd (comes-to (Err BadPath) it)
  walk-lost NotFound it = record {
    answer = Err E_PNNF;
    is = refl;
    looks = well (Err E_PNNF) (refused E_PNNF) (walks-unfound asker walker files from names user next (comes-to (Err NotFound) it)) refl (read (Err NotFound) it);
    drives_are = stands.drives;
    calls = called (Err NotFound) it;
  }
  walk-lost Exists it = absurd (comes-to (Err Exists) it)
  walk-lost (File (Device number)) it =
      let volume : (v : DiskVolume) × (volume_at files from.drive ≡ Some v) = comes-to (Err (File (Device number))) it in
      record {
        answer = Err number;
        is = refl;
        looks = inr (record {
          drive = from.drive;
          reached = walks-reaches asker walker files from names user next volume.0 volume.1;
          volume = volume.0;
          is = volume.1;
          number = number;
          read = read (Err (File (Device number))) it;
          answer_is = refl;
        });
        drives_are = stands.drives;
        calls = called (Err (File (Device number))) it;
      }
  walk-lost (File NoCluster) it = absurd (comes-to (Err (File NoCluster)) it)
  walk-lost (File TooManyRuns) it = absurd (comes-to (Err (File TooManyRuns)) it)
