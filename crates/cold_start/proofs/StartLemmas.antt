-- The directories of the first process are found on D0 and given to it, or there is no D0.
use Rattle.std.proofs.Common.{◌≡◌, ℕ, ◌-◌, ◌∙◌, Option, Some, None, option_map, List, ◌++◌, length, map, replicate, slice_get, slice_set, OnOk, Result, Ok, Err, refl, ap, sym, subst}
use Rattle.std.specs.Option.{option_map_or}
use Rattle.std.proofs.lemmas.List.{length-map}
use Rattle.std.proofs.lemmas.Option.{none-some, same_Some, slice_get_within}
use Rattle.rbf_model.specs.File.{DiskFile}
use Rattle.rbf_model.specs.Volume.{DiskVolume}
use Rattle.rbf_access.specs.declared.volume.Volume.{Volume}
use Rattle.file_rules.specs.Files.{Files, KeepsDriveFaults, no_directories}
use Rattle.file_rules.specs.Processes.{first_directories, first_files}
use Rattle.file_rules.specs.Route.{root_of}
use Rattle.file_rules.specs.declared.places.Directories.{Directories}
use Rattle.lock_model.specs.declared.place.FilePlace.{FilePlace}
use Rattle.file_drives.specs.Drives.{DriveView, drive_state, drive_states}
use Rattle.file_drives.specs.Mounted.{AreMounted, ReadsFile, mounted_at}
use Rattle.file_state.specs.Tie.{RepresentsFiles}
use Rattle.file_state.specs.declared.state.FileState.{FileState}
use Rattle.cold_start.proofs.CommandLemmas.{root-of}
use Rattle.cold_start.proofs.FirstLemmas.{first-volume, image-vol, images-zip}
use Rattle.cold_start.proofs.ReadLemmas.{fails-among, moves-of, moves-then, read-one, read-then, start-moves}
use Rattle.cold_start.specs.Start.{AreFirst, FailsAmong, IsFaultOfDrive, HasMounted, RepresentsFirstFiles, HaveImages, HaveVolumes, HoldVolumes, IsRootAt, OnFirst, ReadUpTo, StartMoves, StartedOn, StartsDrives, given, mounted_files, mounts_calls, only_drive, root_calls, search_calls, start_calls, start_fault}
use Rattle.cold_start.specs.declared.fault.StartFault.{StartFault}
use Rattle.cold_start.specs.declared.fault.StartFault.TheVariants.{OutOfMemory, Drive}

-- ---- how D0 was read

module _ (disks : List (Option Volume)) (views : List DriveView) (root : FilePlace) (at : IsRootAt disks views root) (new : List (Option Volume)) (after : List DriveView) where
  pub root-reads : (fault : Option ℕ) → root.drive ≡ 0 → ReadsFile root fault (λ v file. search_calls file) disks
      views new after → (volumes : List (Option DiskVolume)) (v : DiskVolume) → AreMounted disks views volumes
      → mounted_at volumes 0 ≡ Some v → ReadUpTo (only_drive 0 (root_calls (Some v))) views after
  root-reads fault first read volumes v mounted is =
      let here = subst (λ d. mounted_at volumes d ≡ Some v) (sym first) is in
      let of = root-of disks views root at volumes v mounted here in
      let all : search_calls of.file ≡ root_calls (Some v) = ap (λ (file : Option DiskFile). option_map_or search_calls file 0) (sym of.there) in
      subst (λ most. ReadUpTo (only_drive 0 most) views after) all
      (subst (λ d. ReadUpTo (only_drive d (search_calls of.file)) views after) first
      (read-one fault (search_calls of.file) root.drive views after (read.drive volumes v of.file mounted here of.is)))

  pub root-moves : {A : Type 0} (result : Result A StartFault) → IsFaultOfDrive root.drive result
      → ReadsFile root (start_fault result) (λ v file. search_calls file) disks views new after → StartMoves result
      views after
  root-moves result fails read =
      let of = root-of disks views root at at.volumes at.volume at.mounted at.is in
      start-moves result (search_calls of.file) root.drive views after fails
      (moves-of (start_fault result) (search_calls of.file) root.drive views after (read.drive at.volumes at.volume of.file at.mounted at.is of.is))

-- of whatever was to be answered
pub moves-as : (A B : Type 0) (fault : StartFault) (before after : List DriveView) → StartMoves {A = A} (Err fault) before after → StartMoves {A = B} (Err fault) before after
moves-as A B OutOfMemory before after moves = moves
moves-as A B (Drive drive number) before after moves = moves

pub fails-as : (A B : Type 0) (fault : StartFault) (n : ℕ) → IsFaultOfDrive {A = A} n (Err fault) → IsFaultOfDrive {A = B} n (Err fault)
fails-as A B OutOfMemory n fails = fails
fails-as A B (Drive drive number) n fails = fails

pub among-as : (A B : Type 0) (fault : StartFault) (drives : ℕ) → FailsAmong {A = A} drives (Err fault) → FailsAmong {A = B} drives (Err fault)
among-as A B OutOfMemory drives among = among
among-as A B (Drive drive number) drives among = among

-- ---- the root

pub root-from : (o : Option DiskVolume) (root : FilePlace) → Some root ≡ option_map (root_of 0) o → (v : DiskVolume) × (o ≡ Some v) × (root ≡ root_of 0 v)
root-from None root is = absurd (none-some root (sym is))
root-from (Some v) root is = (v, refl, same_Some root (root_of 0 v) is)

pub root-none : (o : Option DiskVolume) → None ≡ option_map (root_of 0) o → o ≡ None
root-none None is = refl
root-none (Some v) is = absurd (none-some (root_of 0 v) is)

abbrev IsRootOf : List (Option Volume) → FilePlace → Type 0
IsRootOf disks root =
    (views : List DriveView) (volumes : List (Option DiskVolume)) → AreMounted disks views volumes → Some root ≡ option_map (root_of 0) (mounted_at volumes 0)

pub root-first : (state : FileState) (views : List DriveView) (root : FilePlace) → AreFirst state views → IsRootOf state.disks root → root.drive ≡ 0
root-first state views root first is =
    let volumes = mounted_files first.volumes (drive_states views) in
    let of = root-from (mounted_at volumes.volumes 0) root (is views volumes.volumes first.mounted.mounted) in
    ap (λ (place : FilePlace). place.drive) of.2

pub root-at : (state : FileState) (views : List DriveView) (root : FilePlace) → AreFirst state views → IsRootOf state.disks root → IsRootAt state.disks views root
root-at state views root first is =
    let all = mounted_files first.volumes (drive_states views) in
    let of = root-from (mounted_at all.volumes 0) root (is views all.volumes first.mounted.mounted) in
    let same : root.drive ≡ 0 = root-first state views root first is in
    record {
      volumes = all.volumes;
      mounted = first.mounted.mounted;
      volume = of.0;
      is = ap (mounted_at all.volumes) same ∙ of.1;
      each = λ volumes v mounted here.
          let other = root-from (mounted_at volumes 0) root (is views volumes mounted) in
          let one : other.0 ≡ v = same_Some other.0 v (sym other.1 ∙ sym (ap (mounted_at volumes) same) ∙ here) in
          other.2 ∙ ap (root_of 0) one ∙ ap (λ d. root_of d v) (sym same);
    }

-- ---- the state

pub ok-map : {A E : Type 0} (result : Result A E) (P Q : Type 0) → (P → Q) → OnOk result P → OnOk result Q
ok-map (Ok a) P Q next holds = next holds
ok-map (Err fault) P Q next holds = holds

pub given-first : (volumes : List DiskVolume) (v : DiskVolume) (before after : List DriveView) → slice_get volumes 0 ≡
    Some v → length after ≡ length before → given (mounted_files volumes (drive_states before)) v after ≡ first_files
    volumes (drive_states after)
given-first volumes v before after is many =
    let states : length (drive_states before) ≡ length (drive_states after) = length-map before drive_state ∙ sym many ∙ sym (length-map after drive_state) in
    ap (λ (directories : Directories). record (given (mounted_files volumes (drive_states before)) v after)
    { directories = slice_set (replicate 33 no_directories) 2 directories }) (ap first_directories (sym is))
    ∙ ap (λ count. record (first_files volumes (drive_states after)) { volumes = map (λ (v : DiskVolume). Some v) volumes ++ replicate (count - length volumes) None }) states

-- the volume of D0
pub first-is : (volumes : List DiskVolume) (views : List DriveView) (v : DiskVolume) → mounted_at (mounted_files volumes (drive_states views)).volumes 0 ≡ Some v → slice_get volumes 0 ≡ Some v
first-is volumes views v is = sym (first-volume volumes (length (drive_states views) - length volumes)) ∙ is

pub without-drives : (volumes : List DiskVolume) (state : FileState) (views : List DriveView)
    → mounted_at (mounted_files volumes (drive_states views)).volumes 0 ≡ None → HasMounted volumes state views
    → RepresentsFirstFiles volumes state views
without-drives volumes state views none has =
    let is : slice_get volumes 0 ≡ None = sym (first-volume volumes (length (drive_states views) - length volumes)) ∙ none in
    subst (λ (directories : Directories). RepresentsFiles state views (record (first_files volumes (drive_states views))
    { directories = slice_set (replicate 33 no_directories) 2 directories })) (ap first_directories (sym is)) has

-- the first process has its directories on D0
module _ (state new : FileState) (views after : List DriveView) (volumes : List DiskVolume) (root : FilePlace)
    (has : HasMounted volumes state views) (is : IsRootOf state.disks root) (read : OnFirst state views
    (λ files v. ReadUpTo (only_drive 0 (root_calls (Some v))) views after)) where
  abbrev files_before : Files
  files_before = mounted_files volumes (drive_states views)

  on-first : (v : DiskVolume) × (mounted_at files_before.volumes 0 ≡ Some v) × (root ≡ root_of 0 v)
  on-first = root-from (mounted_at files_before.volumes 0) root (is views files_before.volumes has.mounted)

  pub read-first : ReadUpTo (only_drive 0 (root_calls (slice_get volumes 0))) views after
  read-first =
      subst (λ (v : Option DiskVolume). ReadUpTo (only_drive 0 (root_calls v)) views after) (sym (first-is volumes views on-first.0 on-first.1)) (read files_before on-first.0 has on-first.1)

  -- D0 is one of the drives then
  pub among-first : {A : Type 0} (result : Result A StartFault) → IsFaultOfDrive 0 result → FailsAmong (length volumes) result
  among-first result fails =
      fails-among result 0 (length volumes) (slice_get_within volumes 0 on-first.0 (first-is volumes views on-first.0 on-first.1)) fails

  pub stands-first : {A E : Type 0} (result : Result A E) → OnFirst state views
      (λ files v. OnOk result (RepresentsFiles new after (given files v after)))
      → OnOk result (RepresentsFirstFiles volumes new after)
  stands-first result stands =
      ok-map result (RepresentsFiles new after (given files_before on-first.0 after)) (RepresentsFirstFiles volumes new after)
      (subst (λ (files : Files). RepresentsFiles new after files) (given-first volumes on-first.0 views after
      (first-is volumes views on-first.0 on-first.1) (read files_before on-first.0 has on-first.1).as_many))
      (stands files_before on-first.0 has on-first.1)

-- ---- the start

-- the volumes are mounted, and then the directories are looked for
pub starts-drives : {A : Type 0} (result : Result A StartFault) (state : FileState) (drives : ℕ)
    (before mid after : List DriveView) → HaveVolumes drives before → ((volumes : List DiskVolume)
    → length volumes ≡ drives → HoldVolumes volumes before → HasMounted volumes state mid)
    → ReadUpTo (mounts_calls drives before) before mid → KeepsDriveFaults (drive_states before) (drive_states mid)
    → ((volumes : List DiskVolume) → HasMounted volumes state mid
    → ReadUpTo (only_drive 0 (root_calls (slice_get volumes 0))) mid after) → StartMoves result mid after
    → ((volumes : List DiskVolume) → HasMounted volumes state mid → FailsAmong (length volumes) result)
    → StartsDrives drives result before after
starts-drives result state drives before mid after have has mounted none found moves among = record {
  moves = moves-then result before mid after none moves;
  among =
      subst (λ k. FailsAmong k result) have.as_many (among have.volumes (has have.volumes have.as_many have.hold));
  media = (reads have.volumes have.as_many have.hold).media;
  reads = reads;
}
  where
    reads : (volumes : List DiskVolume) → length volumes ≡ drives → HoldVolumes volumes before → ReadUpTo (start_calls volumes before) before after
    reads volumes many hold =
        read-then (mounts_calls (length volumes) before) (only_drive 0 (root_calls (slice_get volumes 0))) before mid after
        (subst (λ k. ReadUpTo (mounts_calls k before) before mid) (sym many) mounted) (found volumes (has volumes many hold))

pub started-on : (images : List (List ℕ)) (state : FileState) (before after : List DriveView) (drives : ℕ)
    (have : HaveVolumes drives before) → HaveImages drives images before → RepresentsFirstFiles have.volumes state after
    → StartedOn images state after
started-on images state before after drives have at has = record {
  was = first_files have.volumes (drive_states after);
  starts = record {
    volumes = have.volumes;
    mounted = images-zip images have.volumes (at.as_many ∙ sym have.as_many) (λ n image v here there. image-vol before n image v (at.each n image here) (have.hold.each n v there));
    is = refl;
  };
  stands = has;
}
