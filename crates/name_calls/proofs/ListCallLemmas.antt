-- How often the drives are called at most, by what a search comes to.
use Rattle.std.proofs.Common.{◌≡◌, ℕ, ◌+◌, ◌≤◌, Bool, Option, Some, None, List, Result, Ok, Err, subst, sym, arith}
use Rattle.std.specs.Option.{option_map_or}
use Rattle.std.proofs.Math.Nat.{min-le_left}
use Rattle.os9_base.specs.declared.name_fault.NameFault.{NameFault}
use Rattle.os9_base.specs.declared.name_fault.NameFault.TheVariants.{Unreadable, NoName}
use Rattle.io_model.specs.PathList.{PathList}
use Rattle.rbf_model.specs.File.{DiskFile}
use Rattle.rbf_model.specs.Volume.{DiskVolume, in_file}
use Rattle.rbf_model.specs.Walk.{WalkEnd, arrives, not_allowed, not_found, walk}
use Rattle.rbf_change.specs.Calls.{cluster_size, shape}
use Rattle.rbf_change.specs.NewFiles.{file_clusters}
use Rattle.rbf_access.specs.MapMarks.{marking_sectors}
use Rattle.rbf_access.specs.declared.faults.FileFault.{FileFault}
use Rattle.rbf_access.specs.declared.faults.FileFault.TheVariants.{Device, NoCluster, TooManyRuns}
use Rattle.rbf_entries.specs.Entering.{entry_calls, widened}
use Rattle.rbf_walk.specs.Walk.{calls_on, walk_calls}
use Rattle.file_rules.specs.Files.{Asker, Files, volume_at}
use Rattle.file_rules.specs.MakDir.{new_directory_size}
use Rattle.file_rules.specs.Step.{Step, refused, comes, reaches, drive_of, needs}
use Rattle.file_rules.specs.Route.{Route, along, to_device, nowhere, Found, before_last, last_of, list_of, reads_list, walk_ends, walks, route_of}
use Rattle.lock_model.specs.declared.place.FilePlace.{FilePlace}
use Rattle.file_drives.specs.Calls as drives
use Rattle.file_drives.specs.Drives.{DriveView}
use Rattle.file_state.proofs.CountLemmas.{called-more, called-none}
use Rattle.file_state.specs.Counted.{CalledAtMost, calls_of}
use Rattle.file_routes.specs.Routes.{next_step, refuses_by, route_for}
use Rattle.file_routes.specs.declared.route.Purpose.{Purpose}
use Rattle.file_routes.specs.declared.route.Purpose.TheVariants.{Existing, New}
use Rattle.file_routes.specs.Calls.{listed_calls, walk_and}
use Rattle.name_calls.specs.ListCalls.{last_calls, located_calls, named_calls, route_calls}
use Rattle.name_calls.specs.Locating.{FoundBy, found_by, locates, locates_on}
use Rattle.name_calls.specs.Looks.{answer_of}
use Rattle.name_calls.specs.Naming.{NamedBy, named_by, names_last, names_on}

-- ---- a step

pub calls-few : {E : Type 0} (step : Step E) (most : ℕ) → calls_of step most ≤ most
calls-few (refused number) most = omega arith
calls-few (comes it) most = omega arith
calls-few (reaches drive step) most = omega arith

pub calls-more : {E : Type 0} (step : Step E) (few most : ℕ) → few ≤ most → calls_of step few ≤ calls_of step most
calls-more (refused number) few most more = omega arith
calls-more (comes it) few most more = omega arith
calls-more (reaches drive step) few most more = more

pub calls-next : {A E : Type 0} (step : Step A) (next : A → Step E) (most : ℕ) → calls_of step most ≤ calls_of (next_step step next) most
calls-next (refused number) next most = omega arith
calls-next (comes it) next most = omega arith
calls-next (reaches drive step) next most = omega arith

pub calls-reached : {E : Type 0} (step : Step E) (drive most : ℕ) → drive_of step ≡ Some drive → most ≤ calls_of step most
calls-reached (refused number) drive most at = cc
calls-reached (comes it) drive most at = cc
calls-reached (reaches other step) drive most at = omega arith

-- where no drive was called
pub called-nothing : {E : Type 0} (step : Step E) (most : ℕ) (views : List DriveView) → CalledAtMost (calls_of step most) views views
called-nothing step most views = called-more 0 (calls_of step most) views views (omega arith) (called-none views)

-- ---- a walk

module _ (user : ℕ) (execute : Bool) (d : ℕ) (names : List (List ℕ)) (most : DiskVolume → DiskFile → ℕ) where
  -- the walk is a part of it
  pub walk-part : (volume : Option DiskVolume) (v : DiskVolume) → volume ≡ Some v → walk_calls v.files user execute d names ≤ walk_and user execute d names most volume
  walk-part volume v is = subst (λ (o : Option DiskVolume). walk_calls v.files user execute d names ≤ walk_and user execute d names most o) (sym is) (omega arith)

  module _ (v : DiskVolume) (calls : ℕ) where
    at-file : (file : Option DiskFile) → calls + option_map_or (λ (file : DiskFile). 0) file 0 ≤ calls + option_map_or (most v) file 0
    at-file None = omega arith
    at-file (Some file) = omega arith

    at-end : (end : WalkEnd) → calls + calls_on end (λ n. option_map_or (λ (file : DiskFile). 0) (v.files n) 0) ≤ calls + calls_on end (λ n. option_map_or (most v) (v.files n) 0)
    at-end (arrives n) = at-file (v.files n)
    at-end not_allowed = omega arith
    at-end not_found = omega arith

  pub walk-seen : (volume : Option DiskVolume) → walk_and user execute d names (λ v file. 0) volume ≤ walk_and user execute d names most volume
  walk-seen None = omega arith
  walk-seen (Some v) = at-end v (walk_calls v.files user execute d names) (walk v.files user execute d names)

-- and what is called for what it finds
module _ {A : Type 0} (asker : Asker) (files : Files) (execute : Bool) (from : FilePlace) (names : List (List ℕ))
    (next : Found → Step A) (it : A) (more : ℕ) (most : DiskVolume → DiskFile → ℕ) (enough : (found : Found)
    → answer_of (next found) ≡ Ok it → more ≤ most found.volume found.file) where
  module _ (v : DiskVolume) (calls : ℕ) where
    with-file : (n : ℕ) (file : Option DiskFile)
        → answer_of (needs file 216
        (λ file. next (record { place = record { drive = from.drive; number = n }; volume = v; file = file }))) ≡ Ok
        it → calls + option_map_or (λ (file : DiskFile). 0) file 0 + more ≤ calls + option_map_or (most v) file 0
    with-file n None is = cc
    with-file n (Some file) is =
        let room : more ≤ most v file = enough (record { place = record { drive = from.drive; number = n }; volume = v; file = file }) is in omega (arith, room)

    with-end : (end : WalkEnd) → answer_of (walk_ends from.drive v end next) ≡ Ok it → calls + calls_on end
        (λ n. option_map_or (λ (file : DiskFile). 0) (v.files n) 0) + more ≤ calls + calls_on end
        (λ n. option_map_or (most v) (v.files n) 0)
    with-end (arrives n) is = with-file n (v.files n) is
    with-end not_allowed is = cc
    with-end not_found is = cc

  pub walk-within : answer_of (walks asker files execute from names next) ≡ Ok it → walk_and asker.user execute
      from.number names (λ v file. 0) (volume_at files from.drive) + more ≤ walk_and asker.user execute from.number
      names most (volume_at files from.drive)
  walk-within = by (volume_at files from.drive)
    where
      by : (volume : Option DiskVolume)
          → answer_of (needs volume 221
          (λ v. reaches from.drive (walk_ends from.drive v (walk v.files asker.user execute from.number names) next)))
          ≡ Ok it → walk_and asker.user execute from.number names (λ v file. 0) volume + more ≤ walk_and asker.user
          execute from.number names most volume
      by None is = cc
      by (Some v) is = with-end v (walk_calls v.files asker.user execute from.number names) (walk v.files asker.user execute from.number names) is

-- ---- to a file

module _ (asker : Asker) (files : Files) (terms : ℕ) (execute : Bool) (most : DiskVolume → DiskFile → ℕ) where
  route-seen : (route : Route) → route_calls asker files execute (λ v file. 0) route ≤ route_calls asker files execute most route
  route-seen (along from names) = walk-seen asker.user execute from.number names most (volume_at files from.drive)
  route-seen to_device = omega arith
  route-seen (nowhere number) = omega arith

  pub located-seen : located_calls execute (λ v file. 0) asker files terms ≤ located_calls execute most asker files terms
  located-seen = by (list_of asker)
    where
      by : (read : Result PathList NameFault) → listed_calls read (λ list. route_calls asker files execute (λ v file. 0)
          (route_of asker files terms execute list)) ≤ listed_calls read (λ list. route_calls asker files execute most
          (route_of asker files terms execute list))
      by (Ok list) = route-seen (route_of asker files terms execute list)
      by (Err fault) = omega arith

  module _ (it : FoundBy) where
    abbrev more : ℕ
    more = most it.found.volume it.found.file

    route-within : (list : PathList) (route : Route) → answer_of (locates_on asker files execute list route) ≡ Ok it
        → route_calls asker files execute (λ v file. 0) route + more ≤ route_calls asker files execute most route
    route-within list (along from names) is =
        walk-within asker files execute from names (λ found. comes (found_by list found)) it more most
        (λ found is. let same : found_by list found ≡ it = cc in subst (λ (it : FoundBy). most it.found.volume it.found.file ≤ most found.volume found.file) same (omega arith))
        is
    route-within list to_device is = cc
    route-within list (nowhere number) is = cc

    pub located-within : (refusal : Option ℕ) → answer_of (locates execute refusal asker files terms) ≡ Ok it
        → located_calls execute (λ v file. 0) asker files terms + more ≤ located_calls execute most asker files terms
    located-within = by (list_of asker)
      where
        by : (read : Result PathList NameFault) (refusal : Option ℕ) → answer_of (reads_list read (refuses_by refusal)
            (λ list. locates_on asker files execute list (route_of asker files terms execute list))) ≡ Ok it
            → listed_calls read (λ list. route_calls asker files execute (λ v file. 0) (route_of asker files terms execute
            list)) + more ≤ listed_calls read (λ list. route_calls asker files execute most
            (route_of asker files terms execute list))
        by (Ok list) None is = route-within list (route_of asker files terms execute list) is
        by (Ok list) (Some number) is = cc
        by (Err Unreadable) refusal is = cc
        by (Err NoName) None is = cc
        by (Err NoName) (Some number) is = cc

-- ---- to the directory of a last name

module _ (purpose : Purpose) (asker : Asker) (files : Files) (terms : ℕ) (execute : Bool) (most : List ℕ → DiskVolume → DiskFile → ℕ) where
  last-seen : (route : Route) (last : Option (List ℕ)) → last_calls asker files execute (λ name v dir. 0) route last ≤ last_calls asker files execute most route last
  last-seen (along from names) None = omega arith
  last-seen (along from names) (Some name) = walk-seen asker.user execute from.number (before_last names) (most name) (volume_at files from.drive)
  last-seen to_device last = omega arith
  last-seen (nowhere number) last = omega arith

  pub named-seen : named_calls purpose execute (λ name v dir. 0) asker files terms ≤ named_calls purpose execute most asker files terms
  named-seen = by (list_of asker)
    where
      by : (read : Result PathList NameFault) → listed_calls read (λ list. last_calls asker files execute
          (λ name v dir. 0) (route_for purpose asker files terms execute list) (last_of list.names)) ≤ listed_calls read
          (λ list. last_calls asker files execute most (route_for purpose asker files terms execute list)
          (last_of list.names))
      by (Ok list) = last-seen (route_for purpose asker files terms execute list) (last_of list.names)
      by (Err fault) = omega arith

  module _ (it : NamedBy) where
    abbrev after : ℕ
    after = most it.name it.directory.volume it.directory.file

    -- a list without names comes to no directory
    no-name : (purpose : Purpose) (list : PathList) (from : FilePlace) (names : List (List ℕ)) → answer_of (names_on purpose asker files execute list (along from names) None) ≡ Ok it → ⊥
    no-name New list from names is = cc
    no-name Existing list from names is =
        let none = walk-within asker files execute from names (λ root. refused 214) it 1 (λ v file. 0) (λ found is. cc) is in omega (arith, none)

    last-within : (list : PathList) (route : Route) (last : Option (List ℕ))
        → answer_of (names_on purpose asker files execute list route last) ≡ Ok it → last_calls asker files execute
        (λ name v dir. 0) route last + after ≤ last_calls asker files execute most route last
    last-within list (along from names) None is = absurd (no-name purpose list from names is)
    last-within list (along from names) (Some name) is =
        walk-within asker files execute from (before_last names) (λ directory. comes (named_by list name directory)) it after (most name)
        (λ found is. let same : named_by list name found ≡ it = cc in subst (λ (it : NamedBy). most it.name
        it.directory.volume it.directory.file ≤ most name found.volume found.file) same (omega arith))
        is
    last-within list to_device last is = cc
    last-within list (nowhere number) last is = cc

    pub named-within : (refusal : Option ℕ) → answer_of (names_last purpose execute refusal asker files terms) ≡ Ok it
        → named_calls purpose execute (λ name v dir. 0) asker files terms + after ≤ named_calls purpose execute most
        asker files terms
    named-within = by (list_of asker)
      where
        by : (read : Result PathList NameFault) (refusal : Option ℕ) → answer_of (reads_list read (refuses_by refusal)
            (λ list. names_on purpose asker files execute list (route_for purpose asker files terms execute list)
            (last_of list.names))) ≡ Ok it → listed_calls read (λ list. last_calls asker files execute
            (λ name v dir. 0) (route_for purpose asker files terms execute list) (last_of list.names)) + after ≤
            listed_calls read (λ list. last_calls asker files execute most (route_for purpose asker files terms execute
            list) (last_of list.names))
        by (Ok list) None is = last-within list (route_for purpose asker files terms execute list) (last_of list.names) is
        by (Ok list) (Some number) is = cc
        by (Err Unreadable) refusal is = cc
        by (Err NoName) None is = cc
        by (Err NoName) (Some number) is = cc

-- ---- what is done in the directory

-- a new directory and its entry, however many sectors of the map are written for it
pub making-within : (result : Result ℕ FileFault) (v : DiskVolume) (dir : DiskFile) (left : DiskVolume)
    → drives.making_calls (widened result) v dir left ≤ file_clusters (cluster_size v) new_directory_size + 2 +
    entry_calls v dir
making-within (Ok n) v dir left =
    let few = min-le_left (file_clusters (cluster_size v) new_directory_size) (marking_sectors (shape v) (in_file (shape v) n (left.files n))) in
    omega (arith, few)
making-within (Err (Device number)) v dir left = omega arith
making-within (Err NoCluster) v dir left = omega arith
making-within (Err TooManyRuns) v dir left = omega arith
