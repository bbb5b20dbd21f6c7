-- The file that the path list of a call names.
use Rattle.std.specs.Prelude.{◌≡◌, ℕ, Bool, Option, Some, List, Result, Ok, Err}
use Rattle.os9_base.specs.declared.errors.TheConstants.{E_FNA}
use Rattle.io_model.specs.PathList.{PathList}
use Rattle.file_rules.specs.Files.{Asker, Files, volume_at}
use Rattle.file_rules.specs.Step.{Step, refused, comes, drive_of}
use Rattle.file_rules.specs.Route.{Route, along, to_device, nowhere, Found, list_of, reads_list, walks, route_of}
use Rattle.lock_model.specs.declared.place.FilePlace.{FilePlace}
use Rattle.file_drives.specs.Drives.{DriveView}
use Rattle.file_state.specs.declared.state.FileState.{FileState}
use Rattle.file_routes.specs.Routes.{refuses_by}
use Rattle.rbf_walk.specs.Walk.{directory_error}
use Rattle.rbf_walk.specs.declared.error.DirError.{DirError}
use Rattle.name_calls.specs.Looks.{SearchHasResult}
use Rattle.file_routes.specs.declared.route.Located.{Located}

-- a path list, and the file that it names
pub record FoundBy : Type 0 where
  pub list : PathList
  pub found : Found

abbrev pub found_by : PathList → Found → FoundBy
found_by list found = record { list = list; found = found }

-- along a route; a terminal or a pipe is refused
abbrev pub locates_on : Asker → Files → Bool → PathList → Route → Step FoundBy
locates_on asker files execute list (along from names) =
    walks asker files execute from names (λ found. comes (found_by list found))
locates_on asker files execute list to_device = refused E_FNA
locates_on asker files execute list (nowhere number) = refused number

-- by the list at X, for execution or not, of a call with this refusal, if any
abbrev pub locates : Bool → Option ℕ → Asker → Files → ℕ → Step FoundBy
locates execute refusal asker files terms =
    reads_list (list_of asker) (refuses_by refusal)
    (λ list. locates_on asker files execute list (route_of asker files terms execute list))

-- the found file is one of the files
pub record IsFileIn (files : Files) (found : Found) : Type 0 where
  pub volume_is : volume_at files found.place.drive ≡ Some found.volume
  pub file_is : found.volume.files found.place.number ≡ Some found.file

-- the found file is the one located by a step, on the drive that the step reached
pub record IsLocated (step : Step FoundBy) (files : Files) (it : FoundBy) (located : Located) : Type 0 where
  pub place_is : it.found.place ≡ located.place
  pub next_is : located.next ≡ it.list.next
  pub there : IsFileIn files it.found
  pub reached : drive_of step ≡ Some it.found.place.drive

-- by the end of a walk
abbrev pub located_by : Result FilePlace DirError → ℕ → Result Located ℕ
located_by (Ok place) next = Ok (record { place = place; next = next })
located_by (Err error) next = Err (directory_error error)

-- a search by this step has this result
abbrev pub Locates : Step FoundBy → ℕ → Result Located ℕ → Files → FileState → List DriveView → List DriveView → Type 0
Locates step most result files new before now = SearchHasResult (IsLocated step files) step most result files new before
    now
