-- How often drives are called in I$Open and I$Create.
use Rattle.std.proofs.Common.{◌≡◌, ◌∙◌, ℕ, ◌+◌, ◌≤◌, Bool, Option, Some, None, List, Result, Ok, Err, refl, ap, sym, subst, arith}
use Rattle.std.proofs.lemmas.Option.{none-some}
use Rattle.std.specs.Option.{option_map_or}
use Rattle.os9_base.specs.Cells.{Cells}
use Rattle.os9_base.specs.declared.name_fault.NameFault.{NameFault}
use Rattle.io_model.specs.PathList.{PathList}
use Rattle.rbf_model.specs.File.{DiskFile}
use Rattle.rbf_model.specs.Volume.{DiskVolume}
use Rattle.rbf_model.specs.Walk.{WalkEnd, arrives, walk}
use Rattle.rbf_access.specs.declared.faults.FileFault.TheVariants.{Device, NoCluster, TooManyRuns}
use Rattle.rbf_entries.specs.Entering.{entering_calls}
use Rattle.rbf_walk.specs.Walk.{calls_on, walk_calls}
use Rattle.rbf_walk.specs.declared.error.DirError.{DirError}
use Rattle.rbf_walk.specs.declared.error.DirError.TheVariants.{NotAllowed, BadPath, NotFound, Exists, File}
use Rattle.file_rules.specs.Files.{Asker, Files}
use Rattle.file_rules.specs.Open.{is_for_execution}
use Rattle.file_rules.specs.Step.{FileStep, Step, comes, drive_of, reaches, refused}
use Rattle.file_rules.specs.Route.{along, nowhere, reads_list, to_device, route_of, route_to_new}
use Rattle.file_rules.specs.Route as Rule
use Rattle.file_state.specs.Counted.{calls_of}
use Rattle.file_routes.specs.Routes.{IsRoute, Led, leads, led_by, refuses_by, route_for, route_on}
use Rattle.file_routes.specs.declared.route.Purpose.TheVariants.{Existing, New}
use Rattle.file_routes.specs.declared.route.Route.{Route}
use Rattle.file_routes.specs.declared.route.Course.{Course}
use Rattle.file_routes.specs.declared.route.Course.TheVariants.{Along}
use Rattle.file_routes.specs.declared.walk.WalkStart.{WalkStart}
use Rattle.file_routes.specs.Calls.{listed_calls, walk_and}
use Rattle.name_calls.specs.OpenCalls.{calls_at_place, creating_calls, i_create_calls, i_open_calls, opening_calls}

-- where a step reaches a drive
pub calls-reached : (step : FileStep) (drive most : ℕ) → drive_of step ≡ Some drive → calls_of step most ≡ most
calls-reached (refused number) drive most is = absurd (none-some drive is)
calls-reached (comes deed) drive most is = absurd (none-some drive is)
calls-reached (reaches at step) drive most is = refl

pub no-less : (n : ℕ) → 0 ≤ n
no-less n = omega arith

pub as-many-as : (n : ℕ) → n ≤ n
as-many-as n = omega arith

pub within-sum : (a b : ℕ) → a ≤ a + b
within-sum a b = omega arith

-- behind other calls
pub sum-within : (a b c : ℕ) → b ≤ c → a + b ≤ a + c
sum-within a b c less = omega (arith, less)

pub sum-behind : (a b c : ℕ) → (a + b) + c ≡ a + (b + c)
sum-behind a b c = omega arith

-- ---- a walk

module _ (user : ℕ) (execute : Bool) (d : ℕ) (names : List (List ℕ)) (most : DiskVolume → DiskFile → ℕ) (v : DiskVolume) (volume : Option DiskVolume) (is : volume ≡ Some v) where
  abbrev walking : ℕ
  walking = walk_calls v.files user execute d names

  -- the walk itself
  pub walk-within : walking ≤ walk_and user execute d names most volume
  walk-within =
      subst (λ (volume : Option DiskVolume). walking ≤ walk_and user execute d names most volume) (sym is)
      (within-sum walking (calls_on (walk v.files user execute d names) (λ n. option_map_or (most v) (v.files n) 0)))

  -- and what is called for the file that it finds
  pub walk-found : (n : ℕ) (file : DiskFile) → walk v.files user execute d names ≡ arrives n → v.files n ≡ Some file → walking + most v file ≡ walk_and user execute d names most volume
  walk-found n file ends there = sym
      (ap (λ (volume : Option DiskVolume). walk_and user execute d names most volume) is
      ∙ ap (λ (end : WalkEnd). walking + calls_on end (λ n. option_map_or (most v) (v.files n) 0)) ends
      ∙ ap (λ (file : Option DiskFile). walking + option_map_or (most v) file 0) there)

-- ---- a new file

-- where it is refused no call is made
pub entering-within : (v : DiskVolume) (dir : DiskFile) (answer : Result ℕ DirError) → entering_calls v dir 2 answer ≤ calls_at_place v dir
entering-within v dir (Ok n) = as-many-as (calls_at_place v dir)
entering-within v dir (Err NotAllowed) = no-less (calls_at_place v dir)
entering-within v dir (Err BadPath) = no-less (calls_at_place v dir)
entering-within v dir (Err NotFound) = no-less (calls_at_place v dir)
entering-within v dir (Err Exists) = no-less (calls_at_place v dir)
entering-within v dir (Err (File (Device n))) = as-many-as (calls_at_place v dir)
entering-within v dir (Err (File NoCluster)) = no-less (calls_at_place v dir)
entering-within v dir (Err (File TooManyRuns)) = no-less (calls_at_place v dir)

-- ---- by the list

-- the route of a list that was led
abbrev route_led : Step Led → Rule.Route
route_led (refused number) = nowhere number
route_led (comes led) = led.route
route_led (reaches drive step) = nowhere 0

led-route : (refusal : Option ℕ) (list : PathList) (led meant : Rule.Route) → refuses_by refusal (led_by list led) ≡ comes (record { list = list; route = meant }) → led ≡ meant
led-route None list (along from names) meant is = ap route_led is
led-route None list to_device meant is = ap route_led is
led-route None list (nowhere number) meant is = ap route_led is
led-route (Some number) list led meant is = cc

led-along : (cells : Cells) (asker : Asker) (refusal : Option ℕ) (meant : PathList → Rule.Route) (route : Route)
    (start : WalkStart) (it : IsRoute cells asker (leads asker refusal meant) route) → route.course ≡ Along start
    → meant it.list ≡ along start.directory it.list.names
led-along cells asker refusal meant route start it is =
    led-route refusal it.list (meant it.list) it.meant
    (ap (λ (read : Result PathList NameFault). reads_list read (refuses_by refusal) (λ list. led_by list (meant list))) (sym it.read) ∙ it.comes_to)
    ∙ it.route_is.course_is
    ∙ ap (λ (course : Course). route_on (Ok course) it.list.names) is

module _ (cells : Cells) (asker : Asker) (files : Files) (terms : ℕ) (refusal : Option ℕ) (execute : Bool)
    (execute_is : execute ≡ is_for_execution asker.caller.regs.a) (route : Route) (start : WalkStart)
  where
    pub open-calls : (it : IsRoute cells asker (leads asker refusal (route_for Existing asker files terms execute)) route)
        → route.course ≡ Along start → opening_calls asker files (along start.directory it.list.names) ≡ i_open_calls asker files
        terms
    open-calls it is = sym
        (ap (λ (read : Result PathList NameFault). listed_calls read (λ list. opening_calls asker files (route_of asker files terms (is_for_execution asker.caller.regs.a) list))) it.read
        ∙ ap (λ (execute : Bool). opening_calls asker files (route_of asker files terms execute it.list)) (sym execute_is)
        ∙ ap (opening_calls asker files) (led-along cells asker refusal (route_for Existing asker files terms execute) route start it is))

    pub create-calls : (it : IsRoute cells asker (leads asker refusal (route_for New asker files terms execute)) route)
        → route.course ≡ Along start → creating_calls asker files (along start.directory it.list.names) ≡ i_create_calls asker
        files terms
    create-calls it is = sym
        (ap (λ (read : Result PathList NameFault). listed_calls read (λ list. creating_calls asker files (route_to_new asker files terms (is_for_execution asker.caller.regs.a) list))) it.read
        ∙ ap (λ (execute : Bool). creating_calls asker files (route_to_new asker files terms execute it.list)) (sym execute_is)
        ∙ ap (creating_calls asker files) (led-along cells asker refusal (route_for New asker files terms execute) route start it is))
