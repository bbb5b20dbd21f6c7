-- The route of a path list, in the code's form.
use Rattle.std.specs.Prelude.{◌≡◌, ℕ, ◌<◌, ◌&&◌, ◌||◌, not, ⊤, Bool, true, false, IfOk, Option, Some, None, Result, Ok, Err, List, length}
use Rattle.std.specs.Option.{option_map_or}
use Rattle.os9_base.specs.Cells.{Cells}
use Rattle.os9_base.specs.declared.errors.TheConstants.{E_BMODE}
use Rattle.device_table.specs.Names.{device_of}
use Rattle.device_table.specs.declared.devices.Dev.{Dev}
use Rattle.device_table.specs.declared.devices.Dev.TheVariants.{Drive, Term, Pipe}
use Rattle.io_model.specs.PathList.{PathList}
use Rattle.rbf_access.specs.declared.volume.Volume.{Volume}
use Rattle.file_rules.specs.Files.{Asker, Files, directory_of}
use Rattle.file_rules.specs.Step.{Step, refused, comes, reaches}
use Rattle.file_rules.specs.Route.{along, to_device, nowhere, is_drive, list_of, reads_list, route_of, route_to_new}
use Rattle.file_rules.specs.Route as Rule
use Rattle.lock_model.specs.declared.place.FilePlace.{FilePlace}
use Rattle.file_drives.specs.Drives.{DriveView}
use Rattle.file_drives.specs.Mounted.{AreMounted, HasFileAt}
use Rattle.device_paths.specs.Standing.{NamesFrom}
use Rattle.device_paths.specs.declared.list.Listed.{Listed}
use Rattle.file_routes.specs.Walks.{SomeFrom}
use Rattle.file_routes.specs.declared.route.Course.{Course}
use Rattle.file_routes.specs.declared.route.Course.TheVariants.{Along, Device}
use Rattle.file_routes.specs.declared.route.Purpose.{Purpose}
use Rattle.file_routes.specs.declared.route.Purpose.TheVariants.{Existing, New}
use Rattle.file_routes.specs.declared.route.Query.{Query}
use Rattle.file_routes.specs.declared.route.Route.{Route}

-- ---- courses

-- the route, or none, in the form of the calls' rules, on a course with these names
abbrev pub route_on : Result Course ℕ → List (List ℕ) → Rule.Route
route_on (Ok (Along start)) names = along start.directory names
route_on (Ok Device) names = to_device
route_on (Err number) names = nowhere number

-- from a directory along names, the first at this address; without a directory the list is refused
abbrev pub along_from : Option FilePlace → Option ℕ → ℕ → Result Course ℕ
along_from None first number = Err number
along_from (Some directory) first number = Ok (Along (record { directory = directory; first = first }))

-- these are the names of a course
abbrev pub NamesOn : Cells → Course → List (List ℕ) → Type 0
NamesOn cells (Along start) names = NamesFrom cells start.first names
NamesOn cells Device names = ⊤

-- there is a file where it starts
abbrev pub StartsAtFile : List (Option Volume) → List DriveView → Course → Type 0
StartsAtFile disks views (Along start) = HasFileAt disks views start.directory
StartsAtFile disks views Device = ⊤

-- it has some names, or no names
abbrev pub HasCourseNames : Cells → Course → Type 0
HasCourseNames cells (Along start) = SomeFrom cells start.first
HasCourseNames cells Device = ⊤

-- the route of a list, by the purpose of the call
abbrev pub route_for : Purpose → Asker → Files → ℕ → Bool → PathList → Rule.Route
route_for Existing asker files terms execute list = route_of asker files terms execute list
route_for New asker files terms execute list = route_to_new asker files terms execute list

-- ---- devices

-- a drive is one of four
abbrev pub IsDriveInRange : Dev → Type 0
IsDriveInRange (Drive drive) = drive < 4
IsDriveInRange (Term terminal) = ⊤
IsDriveInRange Pipe = ⊤

-- a list is the root of a drive, on a machine with `drives` drives and `terms` terminals
abbrev pub names_root : ℕ → ℕ → Listed → Bool
names_root drives terms list =
    not list.has_names && option_map_or (λ device. is_drive (device_of drives terms device)) list.device false

-- nothing may be made with it
abbrev pub makes_nothing : Purpose → ℕ → ℕ → Listed → Bool
makes_nothing Existing drives terms list = false
makes_nothing New drives terms list = list.dots || names_root drives terms list

-- ---- a call's path list

-- a list that was read, and its route
pub record Led : Type 0 where
  pub list : PathList
  pub route : Rule.Route

-- a list without a route is refused
abbrev pub led_by : PathList → Rule.Route → Step Led
led_by list (along from names) = comes (record { list = list; route = along from names })
led_by list to_device = comes (record { list = list; route = to_device })
led_by list (nowhere number) = refused number

-- the test of a call after its list was read: the call is refused with this number, or goes on
abbrev pub refuses_by : {E : Type 0} → Option ℕ → Step E → Step E
refuses_by None step = step
refuses_by (Some number) step = refused number

-- the refusal of a call by its mode, by whether the mode is allowed
abbrev pub mode_refusal : Bool → Option ℕ
mode_refusal true = None
mode_refusal false = Some E_BMODE

-- the list of a call with this refusal, if any
abbrev pub leads : Asker → Option ℕ → (PathList → Rule.Route) → Step Led
leads asker refusal route = reads_list (list_of asker) (refuses_by refusal) (λ list. led_by list (route list))

-- the result, if the call has no refusal
abbrev pub unless_refused : {A : Type 0} → Option ℕ → Result A ℕ → Result A ℕ
unless_refused None answer = answer
unless_refused (Some number) answer = Err number

-- the step that goes on with the result of a step
abbrev pub next_step : {A E : Type 0} → Step A → (A → Step E) → Step E
next_step (refused number) next = refused number
next_step (comes it) next = next it
next_step (reaches drive step) next = reaches drive (next_step step next)

-- a query of an asker with these bytes, if these drives are read
pub record Asks (query : Query) (cells : Cells) (disks : List (Option Volume)) (views : List DriveView) (drives : ℕ)
    (asker : Asker) (files : Files) (execute : Bool) : Type 0 where
  pub cells_are : asker.caller.cells ≡ cells
  pub at_is : asker.caller.regs.x ≡ query.at
  pub directory_is : directory_of files asker.caller.process.0 execute ≡ query.directory
  pub mounted : AreMounted disks views files.volumes
  pub as_many : length files.drives ≡ drives

-- the route of a list that was read is this one of the calls' rules
pub record IsRouteTo (cells : Cells) (list : PathList) (meant : Rule.Route) (route : Route) : Type 0 where
  pub course_is : meant ≡ route_on (Ok route.course) list.names
  pub next_is : route.next ≡ list.next
  pub names : NamesOn cells route.course list.names

abbrev pub IsRouteOf : Cells → PathList → Rule.Route → Result Route ℕ → Type 0
IsRouteOf cells list meant (Ok route) = IsRouteTo cells list meant route
IsRouteOf cells list meant (Err number) = meant ≡ nowhere number

-- the route of a list of files or of a device, after it was read
pub record IsRoute (cells : Cells) (asker : Asker) (step : Step Led) (route : Route) : Type 0 where
  pub list : PathList
  pub read : list_of asker ≡ Ok list
  pub meant : Rule.Route
  pub comes_to : step ≡ comes (record { list = list; route = meant })
  pub route_is : IsRouteTo cells list meant route

-- the route, or the number with which the call is refused
abbrev pub RouteIs : Cells → Asker → Step Led → Result Route ℕ → Type 0
RouteIs cells asker step (Ok route) = IsRoute cells asker step route
RouteIs cells asker step (Err number) = step ≡ refused number

-- the result for a call with this purpose and this refusal, if any: the route of its path list, on a machine with
-- `terms` terminals, or the number with which it is refused
abbrev pub IsRouteFor : Purpose → Option ℕ → Cells → Asker → Files → ℕ → Bool → Result Route ℕ → Type 0
IsRouteFor purpose refusal cells asker files terms execute result =
    RouteIs cells asker (leads asker refusal (route_for purpose asker files terms execute)) result

-- a found route has some names, or no names
abbrev pub RouteHasNames : Cells → Result Route ℕ → Type 0
RouteHasNames cells result = IfOk result (λ route. HasCourseNames cells route.course)

-- and there is a file at its start
abbrev pub RouteStarts : List (Option Volume) → List DriveView → Result Route ℕ → Type 0
RouteStarts disks views result = IfOk result (λ route. StartsAtFile disks views route.course)
