-- A walk from the file at a place along the names of a path list, over the drives of a machine.
use Rattle.std.specs.Prelude.{◌≡◌, ℕ, ◌<◌, ⊤, IfOk, Option, Some, Result, Ok, Err, List, [], ◌∷◌}
use Rattle.os9_base.specs.Cells.{Cells}
use Rattle.rbf_model.specs.Walk.{step, walk}
use Rattle.rbf_access.specs.declared.volume.Volume.{Volume}
use Rattle.rbf_walk.specs.Walk.{AnswersWalk, directory_fault, step_calls, walk_calls}
use Rattle.rbf_walk.specs.declared.error.DirError.{DirError}
use Rattle.file_rules.specs.Route.{before_last, last_of}
use Rattle.lock_model.specs.declared.place.FilePlace.{FilePlace}
use Rattle.file_drives.specs.Drives.{DriveView}
use Rattle.file_drives.specs.Mounted.{ArrivesOn, OnDisks, ReadsFile, number_arrived}
use Rattle.device_paths.specs.Standing.{NamesFrom, NamesStand}
use Rattle.file_routes.specs.declared.walk.LastName.{LastName}
use Rattle.file_routes.specs.declared.walk.NamePlace.{NamePlace}
use Rattle.file_routes.specs.declared.walk.Stepped.{Stepped}
use Rattle.file_routes.specs.declared.walk.Stepped.TheVariants.{Last, Onward}
use Rattle.file_routes.specs.declared.walk.Walker.{Walker}

-- ---- the names

-- some names are at an address and after it
pub record SomeStand (cells : Cells) (at : ℕ) : Type 0 where
  pub names : List (List ℕ)
  pub stand : NamesStand cells at names

-- the same, or no names
pub record SomeFrom (cells : Cells) (first : Option ℕ) : Type 0 where
  pub names : List (List ℕ)
  pub from : NamesFrom cells first names

-- ---- a walk

-- by one name, from the directory at a place
pub record WalksBy (walker : Walker) (at : FilePlace) (name : List ℕ) (result : Result FilePlace DirError)
    (disks : List (Option Volume)) (before : List DriveView) (new : List (Option Volume)) (after : List DriveView)
    : Type 0 where
  pub walked : OnDisks disks before at (λ v file.
      AnswersWalk (step (Some file) walker.by.user walker.by.execute name) (number_arrived result))
  pub file : IfOk result (ArrivesOn at.drive new after)
  pub drive : ReadsFile at (directory_fault result) (λ v file.
      step_calls (Some file) walker.by.user walker.by.execute name) disks before new after

-- along these names: it has the end of the walk on the volume, unless a fault of the drive ended it before
pub record WalksAlongNames (walker : Walker) (from : FilePlace) (names : List (List ℕ))
    (result : Result FilePlace DirError)
    (disks : List (Option Volume)) (before : List DriveView) (new : List (Option Volume)) (after : List DriveView)
    : Type 0 where
  pub walked : OnDisks disks before from (λ v file.
      AnswersWalk (walk v.files walker.by.user walker.by.execute from.number names) (number_arrived result))
  pub file : IfOk result (ArrivesOn from.drive new after)
  pub drive : ReadsFile from (directory_fault result) (λ v file.
      walk_calls v.files walker.by.user walker.by.execute from.number names) disks before new after

-- the end of a walk along all names but the last
abbrev pub directory_reached : Result LastName DirError → Result FilePlace DirError
directory_reached (Ok last) = Ok last.directory
directory_reached (Err error) = Err error

-- along all names but the last, which it returns
pub record WalksToLast (walker : Walker) (from : FilePlace) (names : List (List ℕ)) (result : Result LastName DirError)
    (disks : List (Option Volume)) (before : List DriveView) (new : List (Option Volume)) (after : List DriveView)
    : Type 0 where
  pub walks : WalksAlongNames walker from (before_last names) (directory_reached result) disks before new after
  pub name : IfOk result (λ last. last_of names ≡ Some last.name)

-- the last of some names is at an address, and no other after it
pub record LastStands (cells : Cells) (names : List (List ℕ)) (at : ℕ) : Type 0 where
  pub name : List ℕ
  pub last : last_of names ≡ Some name
  pub stand : NamesStand cells at (name ∷ [])

abbrev pub place_reached : Result NamePlace DirError → Result FilePlace DirError
place_reached (Ok last) = Ok last.directory
place_reached (Err error) = Err error

-- along all names but the last, which is at the returned address
pub record ReachesLast (cells : Cells) (walker : Walker) (from : FilePlace) (names : List (List ℕ))
    (result : Result NamePlace DirError) (disks : List (Option Volume)) (before : List DriveView)
    (new : List (Option Volume)) (after : List DriveView) : Type 0 where
  pub walks : WalksAlongNames walker from (before_last names) (place_reached result) disks before new after
  pub last : IfOk result (λ last. LastStands cells names last.at)

-- ---- one step of it

-- the name is the last one, and no drive was read
pub record StepsToLast (names : List (List ℕ)) (disks : List (Option Volume)) (before : List DriveView)
    (new : List (Option Volume)) (after : List DriveView) : Type 0 where
  pub name : List ℕ
  pub one : names ≡ name ∷ []
  pub disks_kept : new ≡ disks
  pub drives_kept : after ≡ before

-- by a name that is not the last one
pub record StepsBy (cells : Cells) (walker : Walker) (at : FilePlace) (names : List (List ℕ)) (next : ℕ)
    (result : Result FilePlace DirError) (disks : List (Option Volume)) (before : List DriveView)
    (new : List (Option Volume)) (after : List DriveView) : Type 0 where
  pub name : List ℕ
  pub rest : List (List ℕ)
  pub are : names ≡ name ∷ rest
  pub stand : NamesStand cells next rest
  pub walks : WalksBy walker at name result disks before new after

-- the step to a reached file, if the next name is at this address
abbrev pub stepped_to : ℕ → Result FilePlace DirError → Result Stepped DirError
stepped_to next (Ok place) = Ok (Onward (record { directory = place; at = next }))
stepped_to next (Err error) = Err error

-- the next name is at a later address
abbrev pub StepsToLaterName : ℕ → Stepped → Type 0
StepsToLaterName at Last = ⊤
StepsToLaterName at (Onward next) = (at < next.at) × (next.at < 65536)

abbrev pub StepsAlongNames : Cells → Walker → FilePlace → List (List ℕ) → Result Stepped DirError → List (Option Volume)
    → List DriveView → List (Option Volume) → List DriveView → Type 0
StepsAlongNames cells walker at names (Ok Last) disks before new after = StepsToLast names disks before new after
StepsAlongNames cells walker at names (Ok (Onward next)) disks before new after =
    StepsBy cells walker at names next.at (Ok next.directory) disks before new after
StepsAlongNames cells walker at names (Err error) disks before new after =
    (next : ℕ) × StepsBy cells walker at names next (Err error) disks before new after
