-- Where a name in a directory leads.
use Rattle.std.proofs.Common.{◌≡◌, ℕ, suc, ◌+◌, ◌<◌, ◌≤◌, drop, get_or, Bool, true, false, Option, Some, None, IsSome, List, [], ◌∷◌, length, Result, Err, refl, ap, sym, subst, ◌∙◌, arith, is_some}
use Rattle.std.proofs.lemmas.Bool.{cond-true, cond-false, false≢true}
use Rattle.std.proofs.lemmas.Option.{same_Some}
use Rattle.std.proofs.lemmas.List.{drop_all}
use Rattle.std.proofs.Math.Seq.{drop-cons}
use Rattle.rbf_change.specs.Agrees.{MountedPart}
use Rattle.rbf_model.specs.Geometry.{image_geometry}
use Rattle.rbf_model.specs.File.{DiskFile}
use Rattle.rbf_model.specs.Volume.{DiskVolume, Vol}
use Rattle.rbf_model.specs.Walk.{WalkEnd, arrives, not_allowed, not_found, end_at, go_on, step, walk, look_up, may_search}
use Rattle.rbf_model.proofs.Lists.{some_of}
use Rattle.rbf_model.proofs.Unique.{vol_is_unique}
use Rattle.rbf_model.proofs.Walked.{walk_file}
use Rattle.rbf_change.specs.Contents.{sector_count}
use Rattle.rbf_sector.specs.declared.fd.Fd.{Fd}
use Rattle.sector_cache.specs.declared.sector.Sector.{Sector}
use Rattle.rbf_access.specs.Cached.{IsCacheOf}
use Rattle.rbf_access.specs.Drive.{DriveCounts, MovesCounts}
use Rattle.rbf_access.specs.Faults.{file_fault}
use Rattle.rbf_access.specs.Mounted.{RepresentsVolume, HasFile}
use Rattle.rbf_access.specs.Reading.{IsFdOf, OnFile}
use Rattle.rbf_access.specs.declared.faults.FileFault.{FileFault}
use Rattle.rbf_access.specs.declared.faults.FileFault.TheVariants.{Device, NoCluster, TooManyRuns}
use Rattle.rbf_access.proofs.Counting.{no_calls, counts_then, counts_most, counts_within}
use Rattle.rbf_walk.specs.Search.{IsFdOn, OnFd, IsNameFoundAt, IsAbsentName, IsSearched, sectors_searched}
use Rattle.rbf_walk.specs.Walk.{AnswersWalk, directory_fault, step_calls, calls_on, walk_calls}
use Rattle.rbf_walk.specs.declared.directory.Searched.{Searched}
use Rattle.rbf_walk.specs.declared.directory.Searched.TheVariants.{Found, Absent}
use Rattle.rbf_walk.specs.declared.error.DirError.{DirError}
use Rattle.rbf_walk.specs.declared.error.DirError.TheVariants.{NotAllowed, BadPath, NotFound, Exists, File}

-- a media represents one volume at most
pub same_content : (media : Option (List ℕ)) (v w : DiskVolume) → RepresentsVolume media v → RepresentsVolume media w → v ≡ w
same_content media v w one other =
    let same : one.image ≡ other.image = same_Some one.image other.image (sym one.is ∙ other.is) in
    let P : List ℕ → Type 0 = λ i. Vol i v in
    vol_is_unique other.image v w (subst P same one.vol) other.vol

-- so the number of a file is that of one of the volume
pub file_in : (media : Option (List ℕ)) (n : ℕ) (has : HasFile media n) (v : DiskVolume) → RepresentsVolume media v → v.files n ≡ Some has.file
file_in media n has v on = ap (λ (w : DiskVolume). w.files n) (same_content media v has.content on has.on) ∙ has.is

represents_still : (media now : Option (List ℕ)) (v : DiskVolume) → now ≡ media → RepresentsVolume media v → RepresentsVolume now v
represents_still media now v same on = record { image = on.image; is = same ∙ on.is; vol = on.vol }

-- an answer that is a fault of a file call
pub fault_walked : (A : Type 0) (end : WalkEnd) (fault : FileFault) (r : Result ℕ DirError) → r ≡ Err (File fault) → IsSome (file_fault {A = A} (Err fault)) → AnswersWalk end r
fault_walked A end fault r is device = subst (AnswersWalk end) (sym is) (by_fault fault device)
  where
    by_fault : (f : FileFault) → IsSome (file_fault {A = A} (Err f)) → AnswersWalk end (Err (File f))
    by_fault (Device n) some = tt
    by_fault NoCluster some = absurd (false≢true some)
    by_fault TooManyRuns some = absurd (false≢true some)

pub fault_calls : (A : Type 0) (fault : FileFault) (r : Result ℕ DirError) (n : ℕ) (s t : DriveCounts) → r ≡ Err (File fault) → MovesCounts (file_fault {A = A} (Err fault)) n s t
    → MovesCounts (directory_fault r) n s t
fault_calls A fault r n s t is moved = subst (λ f. MovesCounts f n s t) (sym (ap directory_fault is ∙ same_fault fault)) moved
  where
    same_fault : (f : FileFault) → directory_fault {A = ℕ} (Err (File f)) ≡ file_fault {A = A} (Err f)
    same_fault (Device k) = refl
    same_fault NoCluster = refl
    same_fault TooManyRuns = refl

-- the descriptor's call is one of those that a step makes at most
pub first_calls : (media : Option (List ℕ)) (dir : ℕ) (has : HasFile media dir) (user : ℕ) (execute : Bool)
    (name : List ℕ) (v : DiskVolume) → RepresentsVolume media v → (f : Option ℕ) (s t : DriveCounts)
    → MovesCounts f 1 s t → MovesCounts f (step_calls (v.files dir) user execute name) s t
first_calls media dir has user execute name v on f s t one =
    subst (λ o. MovesCounts f (step_calls o user execute name) s t) (sym (file_in media dir has v on)) (counts_most f 1 (step_calls (Some has.file) user execute name) s t (omega arith) one)

module _ (media : Option (List ℕ)) (dir : ℕ) (has : HasFile media dir) (fd : Fd) (known : OnFile media dir (λ file. IsFdOf file fd)) where
  -- the descriptor that has been read is on the media
  pub fd_on : (now : Option (List ℕ)) → now ≡ media → IsFdOn now fd
  fd_on now same = record {
    content = has.content;
    on = represents_still media now has.content same has.on;
    number = dir;
    file = has.file;
    is = has.is;
    fields = known has.content has.file has.on has.is;
  }

  module _ (user : ℕ) (execute : Bool) (name : List ℕ) (test : Bool)
      (tested : (file : DiskFile) → IsFdOf file fd → test ≡ may_search file user execute) (v : DiskVolume)
      (on : RepresentsVolume media v) where
    is : v.files dir ≡ Some has.file
    is = file_in media dir has v on

    fields : IsFdOf has.file fd
    fields = known v has.file on is

    size_is : fd.size ≡ length has.file.contents
    size_is = fields.size_is

    pub closed_walked : test ≡ false → step (v.files dir) user execute name ≡ not_allowed
    closed_walked fails =
        ap (λ o. step o user execute name) is
        ∙ cond-false (may_search has.file user execute) (end_at (look_up has.file.contents name)) not_allowed (sym (tested has.file fields) ∙ fails)

    opened : test ≡ true → step (v.files dir) user execute name ≡ end_at (look_up has.file.contents name)
    opened passes =
        ap (λ o. step o user execute name) is
        ∙ cond-true (may_search has.file user execute) (end_at (look_up has.file.contents name)) not_allowed (sym (tested has.file fields) ∙ passes)

    pub open_calls : (now : Option (List ℕ)) → now ≡ media → (f : Option ℕ) (s t u : DriveCounts) → test ≡ true → MovesCounts None 1 s t → MovesCounts f (sector_count fd.size) t u
        → OnFd now fd (λ file. u.calls ≤ t.calls + sectors_searched file.contents name) → MovesCounts f (step_calls (v.files dir) user execute name) s u
    open_calls now same f s t u passes one other read =
        let few = read v dir has.file (represents_still media now v same on) is fields in
        let all : step_calls (v.files dir) user execute name ≡ 1 + sectors_searched has.file.contents name =
        ap (λ o. step_calls o user execute name) is
        ∙ ap (λ n. 1 + n) (cond-true (may_search has.file user execute) (sectors_searched has.file.contents name) 0 (sym (tested has.file fields) ∙ passes)) in
        subst (λ n. MovesCounts f n s u) (sym all)
        (counts_then f 1 (sectors_searched has.file.contents name) s t u one (counts_within f (sector_count fd.size) (sectors_searched has.file.contents name) t u few other))

    module _ (now : Option (List ℕ)) (same : now ≡ media) (answer : Searched) (searched : OnFd now fd (λ file. IsSearched file.contents name answer)) (passes : test ≡ true) where
      here : IsSearched has.file.contents name answer
      here = searched v dir has.file (represents_still media now v same on) is fields

      pub found_walked : (place n : ℕ) → answer ≡ Found place n → step (v.files dir) user execute name ≡ arrives n
      found_walked place n found =
          let at : IsNameFoundAt has.file.contents name place n = subst (IsSearched has.file.contents name) found here in
          opened passes ∙ ap end_at at.names

      pub absent_walked : (free : ℕ) → answer ≡ Absent free → step (v.files dir) user execute name ≡ not_found
      absent_walked free absent =
          let none : IsAbsentName has.file.contents name free = subst (IsSearched has.file.contents name) absent here in
          opened passes ∙ ap end_at none.names_none

-- where a name leads from a file there is a file
pub arrives_on : (media : Option (List ℕ)) (dir n user : ℕ) (execute : Bool) (name : List ℕ) (has : HasFile media dir)
    → step (has.content.files dir) user execute name ≡ arrives n → HasFile media n
arrives_on media dir n user execute name has leads =
    let vol = has.on.vol in
    let w =
    some_of (has.content.files n) (walk_file (image_geometry has.on.image) has.content.files vol.sound.tree user execute
    dir n (name ∷ []) (ap is_some has.is) (ap (λ e. go_on e (λ m. arrives m)) leads)) in
    record { content = has.content; on = has.on; file = w.0; is = w.1 }

-- a walk that has gone along the first names
pub record IsWalkedTo (media : Option (List ℕ)) (user : ℕ) (execute : Bool) (from : ℕ) (names : List (List ℕ))
    (at i : ℕ) (media_now : Option (List ℕ)) (volume volume_now : MountedPart) (held : List Sector)
    (before now : DriveCounts) : Type 0 where
  pub file : HasFile media at
  pub same_media : media_now ≡ media
  pub same_volume : volume_now ≡ volume
  pub cached : IsCacheOf media_now held
  pub rest : (v : DiskVolume) → RepresentsVolume media v → walk v.files user execute from names ≡ walk v.files user execute at (drop i names)
  pub called : (v : DiskVolume) → RepresentsVolume media v
      → (k : ℕ) × MovesCounts None k before now × (k + walk_calls v.files user execute at (drop i names) ≤ walk_calls v.files user execute from names)

pub not_begun : (media : Option (List ℕ)) (user : ℕ) (execute : Bool) (from : ℕ) (names : List (List ℕ)) (volume : MountedPart) (held : List Sector) (before : DriveCounts)
    → HasFile media from → IsCacheOf media held
    → IsWalkedTo media user execute from names from 0 media volume volume held before before
not_begun media user execute from names volume held before has cached = record {
  file = has;
  same_media = refl;
  same_volume = refl;
  cached = cached;
  rest = λ v on. refl;
  called = λ v on. (0, no_calls before, omega arith);
}

-- a walk that ends at one name ends there whatever follows
stops_walked : (end : WalkEnd) (next : ℕ → WalkEnd) (e : DirError) → AnswersWalk end (Err e) → AnswersWalk (go_on end next) (Err e)
stops_walked end next NotAllowed ends = ap (λ (x : WalkEnd). go_on x next) ends
stops_walked end next BadPath ends = ends
stops_walked end next NotFound ends = ap (λ (x : WalkEnd). go_on x next) ends
stops_walked end next Exists ends = ends
stops_walked end next (File (Device n)) ends = tt
stops_walked end next (File NoCluster) ends = ends
stops_walked end next (File TooManyRuns) ends = ends

module _ (media : Option (List ℕ)) (user : ℕ) (execute : Bool) (from : ℕ) (names : List (List ℕ)) (at i : ℕ) (mid : Option (List ℕ)) (volume half : MountedPart) (before then_counts : DriveCounts)
    (held : List Sector) (so_far : IsWalkedTo media user execute from names at i mid volume half held before
    then_counts) (name : List ℕ) (low : i < length names) (item : name ≡ get_or names i name) where
  more : drop i names ≡ name ∷ drop (i + 1) names
  more =
      let next : suc i ≡ i + 1 = omega arith in
      drop-cons names i name low ∙ ap (λ x. x ∷ drop (suc i) names) (sym item) ∙ ap (λ j. name ∷ drop j names) next

  module _ (v : DiskVolume) (on : RepresentsVolume media v) where
    walk_is : walk v.files user execute from names ≡ go_on (step (v.files at) user execute name) (λ n. walk v.files user execute n (drop (i + 1) names))
    walk_is = so_far.rest v on ∙ ap (walk v.files user execute at) more

    calls_are : walk_calls v.files user execute at (drop i names) ≡ step_calls (v.files at) user execute name + calls_on
        (step (v.files at) user execute name) (λ n. walk_calls v.files user execute n (drop (i + 1) names))
    calls_are = ap (walk_calls v.files user execute at) more

  pub stopped_walked : (e : DirError) (r : Result ℕ DirError) → r ≡ Err e → ((v : DiskVolume) → RepresentsVolume mid v → AnswersWalk (step (v.files at) user execute name) (Err e))
      → (v : DiskVolume) → RepresentsVolume media v → AnswersWalk (walk v.files user execute from names) r
  stopped_walked e r is ends v on =
      let there = stops_walked (step (v.files at) user execute name) (λ n. walk v.files user execute n (drop (i + 1) names)) e (ends v (represents_still media mid v so_far.same_media on)) in
      let whole : AnswersWalk (walk v.files user execute from names) (Err e) = subst (λ end. AnswersWalk end (Err e)) (sym (walk_is v on)) there in
      subst (AnswersWalk (walk v.files user execute from names)) (sym is) whole

  pub stopped_calls : (e : DirError) (r : Result ℕ DirError) (now : DriveCounts) → r ≡ Err e
      → ((v : DiskVolume) → RepresentsVolume mid v → MovesCounts (directory_fault {A = ℕ} (Err e)) (step_calls (v.files at) user execute name) then_counts now)
      → (v : DiskVolume) → RepresentsVolume media v → MovesCounts (directory_fault r) (walk_calls v.files user execute from names) before now
  stopped_calls e r now is moved v on =
      let w = so_far.called v on in
      let enough = w.2 in
      let all = calls_are v on in
      let here =
      counts_then (directory_fault {A = ℕ} (Err e)) w.0 (step_calls (v.files at) user execute name) before then_counts
      now w.1 (moved v (represents_still media mid v so_far.same_media on)) in
      subst (λ f. MovesCounts f (walk_calls v.files user execute from names) before now) (sym (ap directory_fault is))
      (counts_most (directory_fault {A = ℕ} (Err e)) (w.0 + step_calls (v.files at) user execute name) (walk_calls v.files user execute from names) before now (omega arith) here)

  pub one_more : (n : ℕ) (now : Option (List ℕ)) (after : MountedPart) (counts : DriveCounts) (news : List Sector) → HasFile mid n → now ≡ mid → after ≡ half → IsCacheOf now news
      → ((v : DiskVolume) → RepresentsVolume mid v → step (v.files at) user execute name ≡ arrives n)
      → ((v : DiskVolume) → RepresentsVolume mid v → MovesCounts None (step_calls (v.files at) user execute name) then_counts counts)
      → IsWalkedTo media user execute from names n (i + 1) now volume after news before counts
  one_more n now after counts news has same kept cached leads moved = record {
    file = subst (λ m. HasFile m n) so_far.same_media has;
    same_media = same ∙ so_far.same_media;
    same_volume = kept ∙ so_far.same_volume;
    cached = cached;
    rest = λ v on. walk_is v on ∙ ap (λ end. go_on end (λ m. walk v.files user execute m (drop (i + 1) names))) (leads v (represents_still media mid v so_far.same_media on));
    called = λ v on.
        let w = so_far.called v on in
        let enough = w.2 in
        let mid_on = represents_still media mid v so_far.same_media on in
        let all = calls_are v on ∙ ap (λ end. step_calls (v.files at) user execute name + calls_on end (λ m. walk_calls v.files user execute m (drop (i + 1) names))) (leads v mid_on) in
        (w.0 + step_calls (v.files at) user execute name, counts_then None w.0 (step_calls (v.files at) user execute name) before then_counts counts w.1 (moved v mid_on), omega arith);
  }

-- all names have been gone along
module _ (media : Option (List ℕ)) (user : ℕ) (execute : Bool) (from : ℕ) (names : List (List ℕ)) (at i : ℕ) (mid : Option (List ℕ)) (volume half : MountedPart) (before counts : DriveCounts)
    (held : List Sector) (so_far : IsWalkedTo media user execute from names at i mid volume half held before counts) (past : length names ≤ i) where
  pub ended_walked : (v : DiskVolume) → RepresentsVolume media v → walk v.files user execute from names ≡ arrives at
  ended_walked v on = so_far.rest v on ∙ ap (walk v.files user execute at) (drop_all i names past)

  pub ended_calls : (v : DiskVolume) → RepresentsVolume media v → MovesCounts None (walk_calls v.files user execute from names) before counts
  ended_calls v on =
      let w = so_far.called v on in
      let enough = w.2 in
      counts_most None w.0 (walk_calls v.files user execute from names) before counts (omega arith) w.1
