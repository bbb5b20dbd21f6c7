-- A walk along the names of a path list, name by name.
use Rattle.std.proofs.Common.{◌≡◌, ◌∙◌, ℕ, ◌+◌, ◌<◌, ◌≤◌, IfOk, IfSome, Option, Some, None, Result, Ok, Err, List, [], ◌∷◌, length, ◌-◌, refl, ap, sym, subst, arith}
use Rattle.std.proofs.lemmas.Option.{slice_get-get_or}
use Rattle.os9_base.specs.Cells.{Cells}
use Rattle.rbf_model.specs.File.{DiskFile}
use Rattle.rbf_model.specs.Volume.{DiskVolume}
use Rattle.rbf_model.specs.Walk.{WalkEnd, arrives, go_on, step, walk}
use Rattle.rbf_access.specs.declared.faults.FileFault.TheVariants.{Device, NoCluster, TooManyRuns}
use Rattle.rbf_access.specs.declared.volume.Volume.{Volume}
use Rattle.rbf_walk.specs.Walk.{AnswersWalk, calls_on, directory_fault, step_calls, walk_calls}
use Rattle.rbf_walk.specs.declared.error.DirError.{DirError}
use Rattle.rbf_walk.specs.declared.error.DirError.TheVariants.{NotAllowed, BadPath, NotFound, Exists, File}
use Rattle.file_rules.specs.Route.{before_last, last_of}
use Rattle.lock_model.specs.declared.place.FilePlace.{FilePlace}
use Rattle.file_drives.specs.Drives.{DriveView, ReadsDrive}
use Rattle.file_drives.specs.Mounted.{AreMounted, ArrivesOn, HasFileAt, OnDisks, StayMounted, mounted_at, number_arrived}
use Rattle.os9_base.specs.declared.name_fault.NameFault.{NameFault}
use Rattle.device_paths.specs.Standing.{IsFirstOf, IsFirstRead, NamesFrom, NamesStand, NextIsBehind}
use Rattle.device_paths.specs.declared.named.Named.{Named}
use Rattle.device_paths.proofs.StandingLemmas.{some-stand}
use Rattle.file_routes.specs.declared.walk.LastName.{LastName}
use Rattle.file_routes.specs.declared.walk.NamePlace.{NamePlace}
use Rattle.file_routes.specs.declared.walk.Stepped.{Stepped}
use Rattle.file_routes.specs.declared.walk.Stepped.TheVariants.{Last, Onward}
use Rattle.file_routes.specs.declared.walk.Walker.{Walker}
use Rattle.file_routes.specs.Walks.{StepsToLaterName, LastStands, ReachesLast, StepsAlongNames, StepsBy, StepsToLast, WalksAlongNames, WalksBy, WalksToLast, stepped_to}
use Rattle.file_routes.proofs.NameLemmas.{before-first, calls-last, last-first, walk-last}
use Rattle.file_routes.proofs.VolumeLemmas.{file-there, reads-most, reads-none, reads-then, view-there}

-- ---- where a walk ends

-- a walk that ends at one name ends there whatever follows
stops : (end : WalkEnd) (next : ℕ → WalkEnd) (error : DirError) → AnswersWalk end (Err error) → AnswersWalk (go_on end next) (Err error)
stops end next NotAllowed ends = ap (λ (x : WalkEnd). go_on x next) ends
stops end next BadPath ends = ends
stops end next NotFound ends = ap (λ (x : WalkEnd). go_on x next) ends
stops end next Exists ends = ends
stops end next (File (Device n)) ends = tt
stops end next (File NoCluster) ends = ends
stops end next (File TooManyRuns) ends = ends

-- on from where it arrived
goes-on : (end : WalkEnd) (next : ℕ → WalkEnd) (n : ℕ) (result : Result ℕ DirError) → end ≡ arrives n → AnswersWalk (next n) result → AnswersWalk (go_on end next) result
goes-on end next n result is ends = subst (λ (x : WalkEnd). AnswersWalk (go_on x next) result) (sym is) ends

-- ---- no names

pub walks-nowhere : (walker : Walker) (from : FilePlace) (disks : List (Option Volume)) (views : List DriveView)
    → HasFileAt disks views from → WalksAlongNames walker from [] (Ok from) disks views disks views
walks-nowhere walker from disks views has = record {
  walked = λ volumes v file mounted is there. refl;
  file = record { drive_is = refl; file = has };
  drive = record {
    drive = λ volumes v file mounted is there.
        let at = view-there disks views volumes from.drive v mounted is in
        reads-none from.drive views at.0 at.1;
    mounted = λ volumes mounted. mounted;
  };
}

-- ---- a walk that goes on from where it has come

-- it has come to a directory, from where it goes on along the names that stand from an address on
pub record IsWalkedTo (cells : Cells) (walker : Walker) (from : FilePlace) (names : List (List ℕ)) (at : FilePlace)
    (next : ℕ) (disks : List (Option Volume)) (before : List DriveView) (now : List (Option Volume))
    (views : List DriveView) : Type 0 where
  pub rest : List (List ℕ)
  pub stand : NamesStand cells next rest
  pub last : last_of names ≡ last_of rest
  pub walked : OnDisks disks before from (λ v file. walk v.files walker.by.user walker.by.execute from.number
      (before_last names) ≡ walk v.files walker.by.user walker.by.execute at.number (before_last rest))
  pub reads : OnDisks disks before from (λ v file. (made : ℕ) × ReadsDrive None made from.drive before views ×
      (made + walk_calls v.files walker.by.user walker.by.execute at.number (before_last rest) ≤ walk_calls v.files
      walker.by.user walker.by.execute from.number (before_last names)))

-- and a file is there
pub record IsThere (from at : FilePlace) (disks : List (Option Volume)) (before : List DriveView) (now : List (Option Volume)) (views : List DriveView) : Type 0 where
  pub drive_is : at.drive ≡ from.drive
  pub has : HasFileAt now views at
  pub stay : StayMounted disks before now views

pub there-first : (from : FilePlace) (disks : List (Option Volume)) (views : List DriveView) → HasFileAt disks views from → IsThere from from disks views disks views
there-first from disks views has = record { drive_is = refl; has = has; stay = λ volumes mounted. mounted }

pub walked-first : (cells : Cells) (walker : Walker) (from : FilePlace) (names : List (List ℕ)) (next : ℕ)
    (disks : List (Option Volume)) (views : List DriveView) → NamesStand cells next names → IsWalkedTo cells walker
    from names from next disks views disks views
walked-first cells walker from names next disks views stand = record {
  rest = names;
  stand = stand;
  last = refl;
  walked = λ volumes v file mounted is there. refl;
  reads = λ volumes v file mounted is there.
      let at = view-there disks views volumes from.drive v mounted is in
      (0, reads-none from.drive views at.0 at.1, omega arith);
}

module _ (walker : Walker) (from at : FilePlace) (disks : List (Option Volume)) (before : List DriveView)
    (now : List (Option Volume)) (views : List DriveView) (so_far : IsThere from at disks before now views) where
  -- the file from which it goes on, on the volume
  here : (volumes : List (Option DiskVolume)) (v : DiskVolume) → AreMounted disks before volumes → mounted_at volumes from.drive ≡ Some v → v.files at.number ≡ Some so_far.has.file
  here volumes v mounted is =
      file-there now views at so_far.has volumes v (so_far.stay volumes mounted) (ap (mounted_at volumes) so_far.drive_is ∙ is)

  module _ (name : List ℕ) (result : Result FilePlace DirError) (new : List (Option Volume)) (after : List DriveView) (walks : WalksBy walker at name result now views new after) where
    -- what the step by the name comes to on the volume
    stepped : (volumes : List (Option DiskVolume)) (v : DiskVolume) → AreMounted disks before volumes
        → mounted_at volumes from.drive ≡ Some v → AnswersWalk (step (v.files at.number) walker.by.user walker.by.execute
        name) (number_arrived result)
    stepped volumes v mounted is =
        subst (λ (file : Option DiskFile). AnswersWalk (step file walker.by.user walker.by.execute name) (number_arrived result)) (sym (here volumes v mounted is))
        (walks.walked volumes v so_far.has.file (so_far.stay volumes mounted) (ap (mounted_at volumes) so_far.drive_is ∙ is) (here volumes v mounted is))

    read : (volumes : List (Option DiskVolume)) (v : DiskVolume) → AreMounted disks before volumes
        → mounted_at volumes from.drive ≡ Some v → ReadsDrive (directory_fault result) (step_calls (v.files at.number)
        walker.by.user walker.by.execute name) from.drive views after
    read volumes v mounted is =
        subst (λ (drive : ℕ). ReadsDrive (directory_fault result) (step_calls (v.files at.number) walker.by.user walker.by.execute name) drive views after) so_far.drive_is
        (subst (λ (file : Option DiskFile). ReadsDrive (directory_fault result) (step_calls file walker.by.user walker.by.execute name) at.drive views after) (sym (here volumes v mounted is))
        (walks.drive.drive volumes v so_far.has.file (so_far.stay volumes mounted) (ap (mounted_at volumes) so_far.drive_is ∙ is) (here volumes v mounted is)))

    stay : StayMounted disks before new after
    stay volumes mounted = walks.drive.mounted volumes (so_far.stay volumes mounted)

    pub there-more : (place : FilePlace) → result ≡ Ok place → IsThere from place disks before new after
    there-more place arrived =
        let on : ArrivesOn at.drive new after place = subst (λ (r : Result FilePlace DirError). IfOk r (ArrivesOn at.drive new after)) arrived walks.file in
        record { drive_is = on.drive_is ∙ so_far.drive_is; has = on.file; stay = stay }

    -- the name is not the last one
    module _ (cells : Cells) (names : List (List ℕ)) (next : ℕ) (walked_to : IsWalkedTo cells walker from names at
        next disks before now views) (rest : List (List ℕ)) (later : ℕ) (are : walked_to.rest ≡ name ∷ rest)
        (stand : NamesStand cells later rest) where
      behind : before_last walked_to.rest ≡ name ∷ before_last rest
      behind = ap before_last are ∙ before-first name rest (some-stand cells later rest stand)

      module _ (volumes : List (Option DiskVolume)) (v : DiskVolume) (file : DiskFile) (mounted : AreMounted disks
          before volumes) (is : mounted_at volumes from.drive ≡ Some v) (there : v.files from.number ≡ Some file)
        where
          whole : walk v.files walker.by.user walker.by.execute from.number (before_last names) ≡ go_on
              (step (v.files at.number) walker.by.user walker.by.execute name) (λ n. walk v.files walker.by.user walker.by.execute n
              (before_last rest))
          whole = walked_to.walked volumes v file mounted is there ∙ ap (walk v.files walker.by.user walker.by.execute at.number) behind

          calls : walk_calls v.files walker.by.user walker.by.execute at.number (before_last walked_to.rest) ≡ step_calls
              (v.files at.number) walker.by.user walker.by.execute name + calls_on (step (v.files at.number) walker.by.user
              walker.by.execute name) (λ n. walk_calls v.files walker.by.user walker.by.execute n (before_last rest))
          calls = ap (walk_calls v.files walker.by.user walker.by.execute at.number) behind

          stopped : (error : DirError) → result ≡ Err error → AnswersWalk (walk v.files walker.by.user walker.by.execute from.number (before_last names)) (Err error)
          stopped error failed =
              let ends : AnswersWalk (step (v.files at.number) walker.by.user walker.by.execute name) (Err error) =
              subst (λ (r : Result FilePlace DirError). AnswersWalk (step (v.files at.number) walker.by.user walker.by.execute name) (number_arrived r)) failed (stepped volumes v mounted is) in
              subst (λ (end : WalkEnd). AnswersWalk end (Err error)) (sym whole)
              (stops (step (v.files at.number) walker.by.user walker.by.execute name) (λ n. walk v.files walker.by.user walker.by.execute n (before_last rest)) error ends)

          stopped-read : (error : DirError) → result ≡ Err error
              → ReadsDrive (directory_fault {A = FilePlace} (Err error)) (walk_calls v.files walker.by.user walker.by.execute
              from.number (before_last names)) from.drive before after
          stopped-read error failed =
              let so : (made : ℕ) × ReadsDrive None made from.drive before views ×
              (made + walk_calls v.files walker.by.user walker.by.execute at.number (before_last walked_to.rest) ≤
              walk_calls v.files walker.by.user walker.by.execute from.number (before_last names)) = walked_to.reads
              volumes v file mounted is there in
              let few = so.2 in
              let by_name = calls in
              let enough : so.0 + step_calls (v.files at.number) walker.by.user walker.by.execute name ≤ walk_calls v.files
              walker.by.user walker.by.execute from.number (before_last names) = omega (arith, few, by_name) in
              reads-most (directory_fault {A = FilePlace} (Err error)) (so.0 + step_calls (v.files at.number)
              walker.by.user walker.by.execute name) (walk_calls v.files walker.by.user walker.by.execute from.number
              (before_last names)) from.drive before after enough
              (reads-then (directory_fault {A = FilePlace} (Err error)) so.0 (step_calls (v.files at.number) walker.by.user walker.by.execute name) from.drive before views after so.1
              (subst (λ (r : Result FilePlace DirError). ReadsDrive (directory_fault r) (step_calls (v.files at.number)
              walker.by.user walker.by.execute name) from.drive views after) failed (read volumes v mounted is)))

          arrived-at : (place : FilePlace) → result ≡ Ok place → step (v.files at.number) walker.by.user walker.by.execute name ≡ arrives place.number
          arrived-at place arrived =
              subst (λ (r : Result FilePlace DirError). AnswersWalk (step (v.files at.number) walker.by.user walker.by.execute name) (number_arrived r)) arrived (stepped volumes v mounted is)

          more-walked : (place : FilePlace) → result ≡ Ok place → walk v.files walker.by.user walker.by.execute from.number
              (before_last names) ≡ walk v.files walker.by.user walker.by.execute place.number (before_last rest)
          more-walked place arrived =
              whole ∙ ap (λ (end : WalkEnd). go_on end (λ n. walk v.files walker.by.user walker.by.execute n (before_last rest))) (arrived-at place arrived)

          more-read : (place : FilePlace) → result ≡ Ok place → (made : ℕ) × ReadsDrive None made from.drive before
              after × (made + walk_calls v.files walker.by.user walker.by.execute place.number (before_last rest) ≤ walk_calls
              v.files walker.by.user walker.by.execute from.number (before_last names))
          more-read place arrived =
              let so : (made : ℕ) × ReadsDrive None made from.drive before views ×
              (made + walk_calls v.files walker.by.user walker.by.execute at.number (before_last walked_to.rest) ≤
              walk_calls v.files walker.by.user walker.by.execute from.number (before_last names)) = walked_to.reads
              volumes v file mounted is there in
              let few = so.2 in
              let by_name = calls ∙ ap (λ (end : WalkEnd). step_calls (v.files at.number) walker.by.user walker.by.execute
              name + calls_on end (λ n. walk_calls v.files walker.by.user walker.by.execute n (before_last rest)))
              (arrived-at place arrived) in (
                so.0 + step_calls (v.files at.number) walker.by.user walker.by.execute name,
                reads-then None so.0 (step_calls (v.files at.number) walker.by.user walker.by.execute name) from.drive before views after so.1
                    (subst (λ (r : Result FilePlace DirError). ReadsDrive (directory_fault r)
                    (step_calls (v.files at.number) walker.by.user walker.by.execute name) from.drive views after) arrived
                    (read volumes v mounted is)),
                omega (arith, few, by_name),
              )

      pub stops-there : (error : DirError) → result ≡ Err error → WalksAlongNames walker from (before_last names) (Err error) disks before new after
      stops-there error failed = record {
        walked = λ volumes v file mounted is there. stopped volumes v file mounted is there error failed;
        file = tt;
        drive = record {
          drive = λ volumes v file mounted is there. stopped-read volumes v file mounted is there error failed;
          mounted = stay;
        };
      }

      pub walked-more : (place : FilePlace) → result ≡ Ok place → IsWalkedTo cells walker from names place later disks before new after
      walked-more place arrived = record {
        rest = rest;
        stand = stand;
        last = walked_to.last ∙ ap last_of are ∙ last-first name rest (some-stand cells later rest stand);
        walked = λ volumes v file mounted is there. more-walked volumes v file mounted is there place arrived;
        reads = λ volumes v file mounted is there. more-read volumes v file mounted is there place arrived;
      }

    -- it is the last name of all
    module _ (names : List (List ℕ)) (last : last_of names ≡ Some name) (walks_before : WalksAlongNames walker from (before_last names) (Ok at) disks before now views) where
      module _ (volumes : List (Option DiskVolume)) (v : DiskVolume) (file : DiskFile) (mounted : AreMounted disks
          before volumes) (is : mounted_at volumes from.drive ≡ Some v) (there : v.files from.number ≡ Some file)
        where
          comes-here : walk v.files walker.by.user walker.by.execute from.number (before_last names) ≡ arrives at.number
          comes-here = walks_before.walked volumes v file mounted is there

          all-walked : AnswersWalk (walk v.files walker.by.user walker.by.execute from.number names) (number_arrived result)
          all-walked =
              subst (λ (end : WalkEnd). AnswersWalk end (number_arrived result)) (sym (walk-last v.files walker.by.user walker.by.execute names from.number name last))
              (goes-on (walk v.files walker.by.user walker.by.execute from.number (before_last names))
              (λ n. step (v.files n) walker.by.user walker.by.execute name) at.number (number_arrived result) comes-here
              (stepped volumes v mounted is))

          all-read : ReadsDrive (directory_fault result) (walk_calls v.files walker.by.user walker.by.execute from.number names) from.drive before after
          all-read =
              let most : walk_calls v.files walker.by.user walker.by.execute from.number names ≡ walk_calls v.files
              walker.by.user walker.by.execute from.number (before_last names) + step_calls (v.files at.number)
              walker.by.user walker.by.execute name =
              calls-last v.files walker.by.user walker.by.execute names from.number name last
              ∙ ap (λ (end : WalkEnd). walk_calls v.files walker.by.user walker.by.execute from.number (before_last names) +
              calls_on end (λ n. step_calls (v.files n) walker.by.user walker.by.execute name)) comes-here in
              subst (λ (most : ℕ). ReadsDrive (directory_fault result) most from.drive before after) (sym most)
              (reads-then (directory_fault result) (walk_calls v.files walker.by.user walker.by.execute from.number
              (before_last names)) (step_calls (v.files at.number) walker.by.user walker.by.execute name) from.drive
              before views after (walks_before.drive.drive volumes v file mounted is there)
              (read volumes v mounted is))

      pub walks-all : WalksAlongNames walker from names result disks before new after
      walks-all = record {
        walked = all-walked;
        file = subst (λ (drive : ℕ). IfOk result (ArrivesOn drive new after)) so_far.drive_is walks.file;
        drive = record { drive = all-read; mounted = stay };
      }

  -- the last name stands here
  pub ends-there : (cells : Cells) (names : List (List ℕ)) (next : ℕ) (walked_to : IsWalkedTo cells walker from names
      at next disks before now views) (name : List ℕ) → walked_to.rest ≡ name ∷ [] → ReachesLast cells walker from
      names (Ok (record { directory = at; at = next })) disks before now views
  ends-there cells names next walked_to name one = record {
    walks = record {
      walked = λ volumes v file mounted is there.
          walked_to.walked volumes v file mounted is there ∙ ap (λ (rest : List (List ℕ)). walk v.files walker.by.user walker.by.execute at.number (before_last rest)) one;
      file = record { drive_is = so_far.drive_is; file = so_far.has };
      drive = record {
        drive = λ volumes v file mounted is there.
            let so : (made : ℕ) × ReadsDrive None made from.drive before views ×
            (made + walk_calls v.files walker.by.user walker.by.execute at.number (before_last walked_to.rest) ≤
            walk_calls v.files walker.by.user walker.by.execute from.number (before_last names)) = walked_to.reads
            volumes v file mounted is there in
            let few = so.2 in
            reads-most None so.0 (walk_calls v.files walker.by.user walker.by.execute from.number (before_last names)) from.drive before views (omega (arith, few)) so.1;
        mounted = so_far.stay;
      };
    };
    last = record {
      name = name;
      last = walked_to.last ∙ ap last_of one;
      stand = subst (λ (names : List (List ℕ)). NamesStand cells next names) one walked_to.stand;
    };
  }

-- ---- the whole walk

-- the directory that was reached is there
pub there-before : (walker : Walker) (from at : FilePlace) (names : List (List ℕ)) (disks : List (Option Volume))
    (before : List DriveView) (now : List (Option Volume)) (views : List DriveView) → WalksAlongNames walker from names (Ok at)
    disks before now views → IsThere from at disks before now views
there-before walker from at names disks before now views walks = record {
  drive_is = walks.file.drive_is;
  has = walks.file.file;
  stay = walks.drive.mounted;
}

some-last : (names : List (List ℕ)) → 1 ≤ length names → (last : List ℕ) × (last_of names ≡ Some last)
some-last names some = (_, slice_get-get_or names (length names - 1) [] (omega arith))

-- it stopped before the last name
pub stops-before : (walker : Walker) (from : FilePlace) (names : List (List ℕ)) (error : DirError)
    (disks : List (Option Volume)) (before : List DriveView) (new : List (Option Volume)) (after : List DriveView)
    → 1 ≤ length names → WalksAlongNames walker from (before_last names) (Err error) disks before new after → WalksAlongNames walker from
    names (Err error) disks before new after
stops-before walker from names error disks before new after some walks =
    let last : (last : List ℕ) × (last_of names ≡ Some last) = some-last names some in
    record {
      walked = λ volumes v file mounted is there.
          subst (λ (end : WalkEnd). AnswersWalk end (Err error)) (sym (walk-last v.files walker.by.user walker.by.execute names from.number last.0 last.1))
          (stops (walk v.files walker.by.user walker.by.execute from.number (before_last names))
          (λ n. step (v.files n) walker.by.user walker.by.execute last.0) error (walks.walked volumes v file mounted is
          there));
      file = tt;
      drive = record {
        drive = λ volumes v file mounted is there.
            let all = calls-last v.files walker.by.user walker.by.execute names from.number last.0 last.1 in
            reads-most (directory_fault {A = FilePlace} (Err error)) (walk_calls v.files walker.by.user walker.by.execute
            from.number (before_last names)) (walk_calls v.files walker.by.user walker.by.execute from.number names)
            from.drive before after (omega (arith, all))
            (walks.drive.drive volumes v file mounted is there);
        mounted = walks.drive.mounted;
      };
    }

-- ---- the steps of the loop

-- what a step comes to, of the same bytes
pub steps-of : (now old : Cells) (walker : Walker) (at : FilePlace) (next : ℕ) (result found : Result Stepped
    DirError) (disks : List (Option Volume)) (before : List DriveView) (new : List (Option Volume))
    (after : List DriveView) → now ≡ old → result ≡ found → ((names : List (List ℕ)) → NamesStand now next names
    → StepsAlongNames now walker at names result disks before new after) → (names : List (List ℕ)) → NamesStand old next names
    → StepsAlongNames old walker at names found disks before new after
steps-of now old walker at next result found disks before new after same is steps =
    subst (λ (found : Result Stepped DirError). (names : List (List ℕ)) → NamesStand old next names → StepsAlongNames old walker at names found disks before new after) is
    (subst (λ (cells : Cells). (names : List (List ℕ)) → NamesStand cells next names → StepsAlongNames cells walker at names result disks before new after) same steps)

module _ (cells : Cells) (walker : Walker) (from at : FilePlace) (names : List (List ℕ)) (next : ℕ)
    (disks : List (Option Volume)) (before : List DriveView) (now : List (Option Volume)) (views : List DriveView)
    (new : List (Option Volume)) (after : List DriveView) (so_far : IsThere from at disks before now views)
    (walked_to : IsWalkedTo cells walker from names at next disks before now views) where
  pub walk-stopped : (error : DirError) → StepsAlongNames cells walker at walked_to.rest (Err error) now views new after → ReachesLast cells walker from names (Err error) disks before new after
  walk-stopped error (later, step) = record {
    walks = stops-there walker from at disks before now views so_far step.name (Err error) new after step.walks cells names next walked_to step.rest later step.are step.stand error refl;
    last = tt;
  }

  pub walk-onward : (onto : NamePlace) → StepsAlongNames cells walker at walked_to.rest (Ok (Onward onto)) now views new after
      → IsWalkedTo cells walker from names onto.directory onto.at disks before new after
  walk-onward onto step =
      walked-more walker from at disks before now views so_far step.name (Ok onto.directory) new after step.walks cells names next walked_to step.rest onto.at step.are step.stand onto.directory refl

  pub there-onward : (onto : NamePlace) → StepsAlongNames cells walker at walked_to.rest (Ok (Onward onto)) now views new after → IsThere from onto.directory disks before new after
  there-onward onto step = there-more walker from at disks before now views so_far step.name (Ok onto.directory) new after step.walks onto.directory refl

  pub walk-ended : StepsAlongNames cells walker at walked_to.rest (Ok Last) now views new after → ReachesLast cells walker from names (Ok (record { directory = at; at = next })) disks before new after
  walk-ended step =
      let result : Result NamePlace DirError = Ok (record { directory = at; at = next }) in
      subst (λ (disks_now : List (Option Volume)). ReachesLast cells walker from names result disks before disks_now after) (sym step.disks_kept)
      (subst (λ (views_now : List DriveView). ReachesLast cells walker from names result disks before now views_now) (sym step.drives_kept)
      (ends-there walker from at disks before now views so_far cells names next walked_to step.name step.one))

-- ---- the name that was read

only-name : (cells : Cells) (names : List (List ℕ)) (named : Named) → IsFirstOf cells names named → named.next ≡ None → names ≡ named.name ∷ []
only-name cells names named first none =
    let last : first.rest ≡ [] = subst (λ (next : Option ℕ). NamesFrom cells next first.rest) none first.stand in
    first.are ∙ ap (λ (rest : List (List ℕ)). named.name ∷ rest) last

-- a name that was read is the first one
pub first-of : (cells : Cells) (names : List (List ℕ)) (result : Result Named NameFault) (named : Named) → result ≡ Ok named → IsFirstRead cells names result → IsFirstOf cells names named
first-of cells names result named is first = subst (IsFirstRead cells names) is first

pub steps-last : (cells : Cells) (names : List (List ℕ)) (named : Named) (disks : List (Option Volume))
    (views : List DriveView) → IsFirstOf cells names named → named.next ≡ None → StepsToLast names disks views disks
    views
steps-last cells names named disks views first none = record {
  name = named.name;
  one = only-name cells names named first none;
  disks_kept = refl;
  drives_kept = refl;
}

steps-by : (cells : Cells) (walker : Walker) (at : FilePlace) (names : List (List ℕ)) (next : ℕ)
    (answer : Result FilePlace DirError) (disks : List (Option Volume)) (before : List DriveView)
    (new : List (Option Volume)) (after : List DriveView) → StepsBy cells walker at names next answer disks before new
    after → StepsAlongNames cells walker at names (stepped_to next answer) disks before new after
steps-by cells walker at names next (Ok place) disks before new after step = step
steps-by cells walker at names next (Err error) disks before new after step = (next, step)

pub steps-onward : (cells : Cells) (walker : Walker) (at : FilePlace) (names : List (List ℕ)) (named : Named)
    (next : ℕ) (answer : Result FilePlace DirError) (result : Result Stepped DirError) (disks : List (Option Volume))
    (before : List DriveView) (new : List (Option Volume)) (after : List DriveView) → IsFirstOf cells names named
    → named.next ≡ Some next → result ≡ stepped_to next answer → WalksBy walker at named.name answer disks before new
    after → StepsAlongNames cells walker at names result disks before new after
steps-onward cells walker at names named next answer result disks before new after first some is walks =
    subst (λ (result : Result Stepped DirError). StepsAlongNames cells walker at names result disks before new after) (sym is)
    (steps-by cells walker at names next answer disks before new after (record {
      name = named.name;
      rest = first.rest;
      are = first.are;
      stand = subst (λ (next : Option ℕ). NamesFrom cells next first.rest) some first.stand;
      walks = walks;
    }))

up-by : (at next : ℕ) (answer : Result FilePlace DirError) → (at < next) × (next < 65536) → IfOk (stepped_to next answer) (StepsToLaterName at)
up-by at next (Ok place) up = up
up-by at next (Err error) up = tt

pub goes-up : (at next : ℕ) (answer : Result FilePlace DirError) (result : Result Stepped DirError)
    (read : Result Named NameFault) (named : Named) → read ≡ Ok named → NextIsBehind at read → named.next ≡ Some next
    → result ≡ stepped_to next answer → IfOk result (StepsToLaterName at)
goes-up at next answer result read named is behind some result_is =
    let up : IfSome named.next (λ next. (at < next) × (next < 65536)) = subst (NextIsBehind at) is behind in
    subst (λ (result : Result Stepped DirError). IfOk result (StepsToLaterName at)) (sym result_is)
    (up-by at next answer (subst (λ (next : Option ℕ). IfSome next (λ next. (at < next) × (next < 65536))) some up))

-- ---- the last name

-- it was read
pub last-read : (cells : Cells) (names : List (List ℕ)) (at : ℕ) (named : Named) → LastStands cells names at
    → ((names : List (List ℕ)) → NamesStand cells at names → IsFirstOf cells names named) → last_of names ≡ Some
    named.name
last-read cells names at named it first =
    let only : it.name ∷ [] ≡ named.name ∷ (first (it.name ∷ []) it.stand).rest = (first (it.name ∷ []) it.stand).are in
    let same : it.name ≡ named.name = cc in
    it.last ∙ ap (λ (name : List ℕ). Some name) same

-- ---- the whole walk, by what the walk to its last name answered

pub walks-none : (cells : Cells) (walker : Walker) (from : FilePlace) (names : List (List ℕ)) (first : Option ℕ)
    (disks : List (Option Volume)) (views : List DriveView) → first ≡ None → NamesFrom cells first names
    → HasFileAt disks views from → WalksAlongNames walker from names (Ok from) disks views disks views
walks-none cells walker from names first disks views none stand has =
    let no : names ≡ [] = subst (λ (first : Option ℕ). NamesFrom cells first names) none stand in
    subst (λ (names : List (List ℕ)). WalksAlongNames walker from names (Ok from) disks views disks views) (sym no) (walks-nowhere walker from disks views has)

pub from-some : (cells : Cells) (names : List (List ℕ)) (first : Option ℕ) (at : ℕ) → first ≡ Some at → NamesFrom cells first names → NamesStand cells at names
from-some cells names first at some stand = subst (λ (first : Option ℕ). NamesFrom cells first names) some stand

pub walks-last : (walker : Walker) (from : FilePlace) (names : List (List ℕ)) (last : LastName)
    (result : Result FilePlace DirError) (disks : List (Option Volume)) (before : List DriveView)
    (now : List (Option Volume)) (views : List DriveView) (new : List (Option Volume)) (after : List DriveView)
    → WalksToLast walker from names (Ok last) disks before now views → WalksBy walker last.directory last.name result
    now views new after → WalksAlongNames walker from names result disks before new after
walks-last walker from names last result disks before now views new after to_last by =
    walks-all walker from last.directory disks before now views (there-before walker from last.directory
    (before_last names) disks before now views to_last.walks) last.name result new after by names to_last.name
    to_last.walks
