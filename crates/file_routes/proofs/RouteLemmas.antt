-- The route of a path list.
use Rattle.std.proofs.Common.{◌≡◌, ◌∙◌, ℕ, ◌==◌, ◌&&◌, ◌||◌, not, Bool, true, false, IfOk, IfSome, Option, Some, None, option_map, Result, Ok, Err, List, length, refl, ap, sym, subst, if◌then◌else◌}
use Rattle.std.specs.Option.{option_map_or}
use Rattle.os9_base.specs.Cells.{Cells}
use Rattle.os9_base.specs.declared.errors.TheConstants.{E_BPADDR, E_BPNAM, E_MNF, E_PNNF}
use Rattle.device_table.specs.Names.{device_of}
use Rattle.device_table.specs.declared.devices.Dev.{Dev}
use Rattle.os9_base.specs.declared.name_fault.NameFault.{NameFault}
use Rattle.os9_base.specs.declared.name_fault.NameFault.TheVariants.{Unreadable, NoName}
use Rattle.io_model.specs.PathList.{PathList, ends_in_dots}
use Rattle.rbf_model.specs.Volume.{DiskVolume}
use Rattle.rbf_access.specs.declared.volume.Volume.{Volume}
use Rattle.file_rules.specs.Files.{Asker, Files, directory_of}
use Rattle.file_rules.specs.Open.{tests_mode}
use Rattle.file_rules.specs.Step.{Step, refused, comes}
use Rattle.file_rules.specs.Route.{along, to_device, nowhere, is_drive, is_root, list_of, reads_list, root_of, to_device_of, route_by, route_from, route_of, route_of_device, route_on_drive, route_to_new}
use Rattle.file_rules.specs.Route as Rule
use Rattle.lock_model.specs.declared.place.FilePlace.{FilePlace}
use Rattle.file_drives.specs.Drives.{DriveView}
use Rattle.file_drives.specs.Mounted.{HasFileAt}
use Rattle.device_paths.specs.Listed.{listed, listed_of}
use Rattle.device_paths.specs.Standing.{NamesFrom}
use Rattle.device_paths.specs.declared.list.Listed.{Listed}
use Rattle.file_routes.specs.declared.route.Purpose.{Purpose}
use Rattle.file_routes.specs.declared.route.Purpose.TheVariants.{Existing, New}
use Rattle.file_routes.specs.declared.route.Route.{Route}
use Rattle.file_routes.specs.declared.route.Course.{Course}
use Rattle.file_routes.specs.declared.route.Course.TheVariants.{Along, Device}
use Rattle.file_routes.specs.Routes.{HasCourseNames, IsRouteOf, NamesOn, RouteIs, StartsAtFile, along_from, led_by, leads, makes_nothing, names_root, next_step, refuses_by, mode_refusal, unless_refused, route_for, route_on}

-- ---- by where it starts

from-directory : (directory : Option FilePlace) (first : Option ℕ) (names : List (List ℕ)) → route_on (along_from directory first E_PNNF) names ≡ route_from directory names
from-directory None first names = refl
from-directory (Some place) first names = refl

on-drive : (n : ℕ) (volume : Option DiskVolume) (first : Option ℕ) (names : List (List ℕ)) → route_on (along_from (option_map (root_of n) volume) first E_MNF) names ≡ route_on_drive n names volume
on-drive n None first names = refl
on-drive n (Some v) first names = refl

pub drive-route : (n : ℕ) (volume : Option DiskVolume) (root : Option FilePlace) (first : Option ℕ)
    (names : List (List ℕ)) (result : Result Course ℕ) → result ≡ along_from root first E_MNF → root ≡ option_map
    (root_of n) volume → route_on result names ≡ route_on_drive n names volume
drive-route n volume root first names result is root_is =
    ap (λ (result : Result Course ℕ). route_on result names) is ∙ ap (λ (root : Option FilePlace). route_on (along_from root first E_MNF) names) root_is ∙ on-drive n volume first names

slash-by : (slash : Bool) (names : List (List ℕ)) → route_on (if slash then Err E_BPNAM else Ok Device) names ≡ (if slash then nowhere E_BPNAM else to_device)
slash-by true names = refl
slash-by false names = refl

pub device-route : (list : Listed) (named : PathList) (result : Result Course ℕ) → list ≡ listed named
    → result ≡ (if list.slash || list.has_names then Err E_BPNAM else Ok Device) → route_on result named.names ≡
    to_device_of named
device-route list named result is result_is =
    ap (λ (result : Result Course ℕ). route_on result named.names) result_is
    ∙ ap (λ (list : Listed). route_on (if list.slash || list.has_names then Err E_BPNAM else Ok Device) named.names) is
    ∙ slash-by (named.slash || not (length named.names == 0)) named.names

-- ---- what it has

pub along-names : (cells : Cells) (start : Option FilePlace) (first : Option ℕ) (number : ℕ) (names : List (List ℕ))
    → NamesFrom cells first names → IfOk (along_from start first number) (λ course. NamesOn cells course names)
along-names cells None first number names stand = tt
along-names cells (Some from) first number names stand = stand

pub along-starts : (disks : List (Option Volume)) (views : List DriveView) (start : Option FilePlace)
    (first : Option ℕ) (number : ℕ) → IfSome start (HasFileAt disks views) → IfOk (along_from start first number)
    (StartsAtFile disks views)
along-starts disks views None first number has = tt
along-starts disks views (Some from) first number has = has

pub device-names : (cells : Cells) (slash : Bool) (names : List (List ℕ)) → IfOk {E = ℕ} (if slash then Err E_BPNAM else Ok Device) (λ course. NamesOn cells course names)
device-names cells true names = tt
device-names cells false names = tt

pub device-starts : (disks : List (Option Volume)) (views : List DriveView) (slash : Bool) → IfOk {E = ℕ} (if slash then Err E_BPNAM else Ok Device) (StartsAtFile disks views)
device-starts disks views true = tt
device-starts disks views false = tt

pub has-names : (cells : Cells) (course : Course) (names : List (List ℕ)) → NamesOn cells course names → HasCourseNames cells course
has-names cells (Along start) names stand = record { names = names; from = stand }
has-names cells Device names stand = tt

-- what holds of a route holds of it where the call has no refusal
pub unless-refused : (refusal : Option ℕ) (route result : Result Route ℕ) (P : Route → Type 0) → result ≡ unless_refused refusal route → IfOk route P → IfOk result P
unless-refused refusal route result P is holds = subst (λ (result : Result Route ℕ). IfOk result P) (sym is) (by refusal)
  where
    by : (refusal : Option ℕ) → IfOk (unless_refused refusal route) P
    by None = holds
    by (Some number) = tt

-- ---- a place for what is made

not-not : (b : Bool) → not (not b) ≡ b
not-not true = refl
not-not false = refl

module _ (asker : Asker) (files : Files) (drives terms : ℕ) (execute : Bool) (named : PathList) (as_many : length files.drives ≡ drives) where
  root-same : names_root drives terms (listed named) ≡ is_root files terms named
  root-same =
      ap (λ (n : ℕ). not (not (length named.names == 0)) && option_map_or (λ device. is_drive (device_of n terms device)) named.device false) (sym as_many)
      ∙ ap (λ (b : Bool). b && option_map_or (λ device. is_drive (device_of (length files.drives) terms device)) named.device false) (not-not (length named.names == 0))

  nothing-same : (made : Bool) → makes_nothing New drives terms (listed named) ≡ made → route_to_new asker files terms
      execute named ≡ (if made then nowhere E_BPNAM else route_of asker files terms execute named)
  nothing-same made is =
      ap (λ (made : Bool). if made then nowhere E_BPNAM else route_of asker files terms execute named)
      (ap (λ (root : Bool). ends_in_dots named || root) (sym root-same) ∙ is)

  pub makes-none : (purpose : Purpose) (list : Listed) → list ≡ listed named → makes_nothing purpose drives terms list ≡ true → nowhere E_BPNAM ≡ route_for purpose asker files terms execute named
  makes-none Existing list is none = cc
  makes-none New list is none = sym (nothing-same true (ap (makes_nothing New drives terms) (sym is) ∙ none))

  pub makes-some : (purpose : Purpose) (list : Listed) → list ≡ listed named → makes_nothing purpose drives terms list
      ≡ false → route_for purpose asker files terms execute named ≡ route_of asker files terms execute named
  makes-some Existing list is some = refl
  makes-some New list is some = nothing-same false (ap (makes_nothing New drives terms) (sym is) ∙ some)

  -- a list without a device
  pub directory-route : (list : Listed) (directory : Option FilePlace) (first : Option ℕ) (result : Result Course ℕ)
      → list ≡ listed named → list.device ≡ None → directory_of files asker.caller.process.0 execute ≡ directory
      → result ≡ along_from directory first E_PNNF → route_on result named.names ≡ route_of asker files terms execute
      named
  directory-route list directory first result is none directory_is result_is =
      ap (λ (result : Result Course ℕ). route_on result named.names) result_is
      ∙ from-directory directory first named.names
      ∙ ap (λ (start : Option FilePlace). route_from start named.names) (sym directory_is)
      ∙ ap (route_by asker files terms execute named) (sym none ∙ ap (λ (list : Listed). list.device) is)

  -- a list with one
  pub named-route : (list : Listed) (name : List ℕ) (device : Option Dev) → list ≡ listed named → list.device ≡ Some
      name → device ≡ device_of drives terms name → route_of_device files named device ≡ route_of asker files terms
      execute named
  named-route list name device is some device_is =
      ap (route_of_device files named) (device_is ∙ ap (λ (n : ℕ). device_of n terms name) (sym as_many))
      ∙ ap (route_by asker files terms execute named) (sym some ∙ ap (λ (list : Listed). list.device) is)

-- ---- the list that was read

-- a list that was not read
read-fault : (read : Result PathList NameFault) (fault : NameFault) → listed_of read ≡ Err fault → read ≡ Err fault
read-fault (Ok list) fault is = cc
read-fault (Err other) fault is = cc

-- a list that was read
pub read-list : (read : Result PathList NameFault) (found : Listed) → listed_of read ≡ Ok found → (list : PathList) × (read ≡ Ok list) × (found ≡ listed list)
read-list (Ok list) found is = (list, refl, let e : Ok (listed list) ≡ Ok found = is in cc)
read-list (Err fault) found is = absurd (let e : Err fault ≡ Ok found = is in cc)

module _ (cells : Cells) (asker : Asker) (meant : PathList → Rule.Route) where
  -- it breaks off
  pub unreadable-route : (refusal : Option ℕ) → listed_of (list_of asker) ≡ Err Unreadable → leads asker refusal meant ≡ refused E_BPADDR
  unreadable-route refusal is =
      ap (λ (read : Result PathList NameFault). reads_list read (refuses_by refusal) (λ list. led_by list (meant list))) (read-fault (list_of asker) Unreadable is)

  -- a name is none
  pub nameless-route : (refusal : Option ℕ) → listed_of (list_of asker) ≡ Err NoName → RouteIs cells asker (leads asker refusal meant) (unless_refused refusal (Err E_BPNAM))
  nameless-route None is = ap (λ (read : Result PathList NameFault). reads_list read (refuses_by None) (λ list. led_by list (meant list))) (read-fault (list_of asker) NoName is)
  nameless-route (Some number) is = ap (λ (read : Result PathList NameFault). reads_list read (refuses_by (Some number)) (λ list. led_by list (meant list))) (read-fault (list_of asker) NoName is)

  led-to : (list : PathList) (to : Course) (w : Rule.Route) → w ≡ route_on (Ok to) list.names → led_by list w ≡ comes (record { list = list; route = w })
  led-to list to w is =
      subst (λ (w : Rule.Route). led_by list w ≡ comes (record { list = list; route = w })) (sym is) (by to)
    where
      by : (to : Course) → led_by list (route_on (Ok to) list.names) ≡ comes (record { list = list; route = route_on (Ok to) list.names })
      by (Along start) = refl
      by Device = refl

  pub route-read : (refusal : Option ℕ) (named : PathList) (route : Result Route ℕ) → list_of asker ≡ Ok named
      → IsRouteOf cells named (meant named) route → RouteIs cells asker (leads asker refusal meant)
      (unless_refused refusal route)
  route-read None named (Ok route) read it = record {
    list = named;
    read = read;
    meant = meant named;
    comes_to =
        ap (λ (read : Result PathList NameFault). reads_list read (refuses_by None) (λ list. led_by list (meant list))) read
        ∙ led-to named route.course (meant named) it.course_is;
    route_is = it;
  }
  route-read None named (Err number) read it =
      ap (λ (read : Result PathList NameFault). reads_list read (refuses_by None) (λ list. led_by list (meant list))) read ∙ ap (led_by named) it
  route-read (Some number) named route read it =
      ap (λ (read : Result PathList NameFault). reads_list read (refuses_by (Some number)) (λ list. led_by list (meant list))) read

-- ---- for the calls above

-- the test of a mode is a refusal, or none
pub mode-tested : {E : Type 0} (allowed : Bool) (step : Step E) → tests_mode allowed step ≡ refuses_by (mode_refusal allowed) step
mode-tested true step = refl
mode-tested false step = refl

on-led : {E : Type 0} (on : PathList → Rule.Route → Step E) → ((list : PathList) (number : ℕ) → on list (nowhere number)
    ≡ refused number) → (list : PathList) (w : Rule.Route) → on list w ≡ next_step (led_by list w)
    (λ led. on led.list led.route)
on-led on refuses list (along from names) = refl
on-led on refuses list to_device = refl
on-led on refuses list (nowhere number) = refuses list number

-- what a call makes of its path list, which is refused where that leads nowhere
pub leads-on : {E : Type 0} (asker : Asker) (refusal : Option ℕ) (meant : PathList → Rule.Route) (on : PathList → Rule.Route
    → Step E) → ((list : PathList) (number : ℕ) → on list (nowhere number) ≡ refused number)
    → reads_list (list_of asker) (refuses_by refusal) (λ list. on list (meant list)) ≡ next_step
    (leads asker refusal meant) (λ led. on led.list led.route)
leads-on {E} asker refusal meant on refuses = by (list_of asker) refusal
  where
    by : (read : Result PathList NameFault) (refusal : Option ℕ) → reads_list read (refuses_by refusal)
        (λ list. on list (meant list)) ≡ next_step (reads_list read (refuses_by refusal)
        (λ list. led_by list (meant list))) (λ led. on led.list led.route)
    by (Ok list) None = on-led on refuses list (meant list)
    by (Ok list) (Some number) = refl
    by (Err Unreadable) refusal = refl
    by (Err NoName) None = refl
    by (Err NoName) (Some number) = refl
