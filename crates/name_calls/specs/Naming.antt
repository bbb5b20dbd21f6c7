-- The last name of the path list of a call, and the directory in which it has to be looked up.
use Rattle.std.specs.Prelude.{◌≡◌, ℕ, Bool, false, Option, Some, None, List, Result, Ok, Err}
use Rattle.os9_base.specs.declared.errors.TheConstants.{E_BPNAM, E_FNA}
use Rattle.rbf_change.specs.Names.{is_dots}
use Rattle.io_model.specs.PathList.{PathList}
use Rattle.file_rules.specs.Files.{Asker, Files}
use Rattle.file_rules.specs.Step.{Step, refused, comes, drive_of}
use Rattle.file_rules.specs.Route.{Route, along, to_device, nowhere, Found, before_last, last_of, list_of, reads_list, walks}
use Rattle.lock_model.specs.declared.place.FilePlace.{FilePlace}
use Rattle.file_drives.specs.Drives.{DriveView}
use Rattle.file_state.specs.declared.state.FileState.{FileState}
use Rattle.file_routes.specs.Routes.{refuses_by, route_for}
use Rattle.file_routes.specs.declared.walk.LastName.{LastName}
use Rattle.file_routes.specs.declared.route.Purpose.{Purpose}
use Rattle.file_routes.specs.declared.route.Purpose.TheVariants.{Existing, New}
use Rattle.rbf_walk.specs.Walk.{directory_error}
use Rattle.rbf_walk.specs.declared.error.DirError.{DirError}
use Rattle.name_calls.specs.Locating.{IsFileIn}
use Rattle.name_calls.specs.Looks.{SearchHasResult}
use Rattle.name_calls.specs.declared.naming.LastLocated.{LastLocated}

-- a path list, its last name, and the directory that the names before it lead to
pub record NamedBy : Type 0 where
  pub list : PathList
  pub name : List ℕ
  pub directory : Found

abbrev pub named_by : PathList → List ℕ → Found → NamedBy
named_by list name directory = record { list = list; name = name; directory = directory }

-- the number with which a list without names is refused: it can name nothing new, and it names the root, a directory,
-- which is not deleted
abbrev pub unnamed_number : Purpose → ℕ
unnamed_number New = E_BPNAM
unnamed_number Existing = E_FNA

abbrev pub unnamed : Purpose → Asker → Files → Bool → FilePlace → List (List ℕ) → Step NamedBy
unnamed New asker files execute from names = refused E_BPNAM
unnamed Existing asker files execute from names = walks asker files execute from names (λ root. refused E_FNA)

-- along a route, by the last name of its list; a terminal or a pipe is refused
abbrev pub names_on : Purpose → Asker → Files → Bool → PathList → Route → Option (List ℕ) → Step NamedBy
names_on purpose asker files execute list (along from names) None = unnamed purpose asker files execute from names
names_on purpose asker files execute list (along from names) (Some name) =
    walks asker files execute from (before_last names) (λ directory. comes (named_by list name directory))
names_on purpose asker files execute list to_device name = refused E_FNA
names_on purpose asker files execute list (nowhere number) name = refused number

-- by the list at X, for execution or not, of a call with this refusal, if any
abbrev pub names_last : Purpose → Bool → Option ℕ → Asker → Files → ℕ → Step NamedBy
names_last purpose execute refusal asker files terms =
    reads_list (list_of asker) (refuses_by refusal)
    (λ list. names_on purpose asker files execute list (route_for purpose asker files terms execute list)
    (last_of list.names))

-- the located name and its directory are those of a step, on the drive that the step reached
pub record IsNameLocated (purpose : Purpose) (step : Step NamedBy) (files : Files) (it : NamedBy)
    (located : LastLocated)
    : Type 0 where
  pub place_is : it.directory.place ≡ located.last.directory
  pub name_is : it.name ≡ located.last.name
  pub next_is : located.next ≡ it.list.next
  pub there : IsFileIn files it.directory
  pub reached : drive_of step ≡ Some it.directory.place.drive
  -- nothing is made with the name of a directory itself or of the one above it
  pub proper : purpose ≡ New → is_dots it.name ≡ false

-- by the end of a walk
abbrev pub last_by : Result LastName DirError → ℕ → Result LastLocated ℕ
last_by (Ok last) next = Ok (record { last = last; next = next })
last_by (Err error) next = Err (directory_error error)

-- a search by this step has this result
abbrev pub LocatesLast : Purpose → Step NamedBy → ℕ → Result LastLocated ℕ → Files → FileState → List DriveView
    → List DriveView → Type 0
LocatesLast purpose step most result files new before now =
    SearchHasResult (IsNameLocated purpose step files) step most result files new before now
