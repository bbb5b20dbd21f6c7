-- A new file or directory on a volume that is mounted.
use Rattle.std.proofs.Common.{◌≡◌, ℕ, ◌+◌, ◌∙◌, Bool, true, false, nat_lt, not, ◌||◌, Option, Some, None, is_some, List, length, min, Result, Ok, Err, refl, ap, sym, subst, inl, inr, eq-eqb}
use Rattle.std.specs.Prelude.{if◌then◌else◌}
use Rattle.os9_base.specs.declared.registers.TimePacket.{TimePacket}
use Rattle.rbf_model.specs.File.{DiskFile, file_at}
use Rattle.rbf_model.specs.Space.{has_cluster}
use Rattle.rbf_model.specs.Volume.{DiskVolume, in_file}
use Rattle.rbf_model.specs.Walk.{look_up}
use Rattle.rbf_model.specs.Writes.{put_file}
use Rattle.rbf_change.specs.Calls.{cluster_size, free_total, replaced, shape}
use Rattle.rbf_change.specs.Faults as ends
use Rattle.rbf_change.specs.Names.{is_dots, may_change}
use Rattle.rbf_change.specs.NewFiles.{NewEntryRefusal, bad_path, not_allowed, exists, no_cluster, too_many_runs, file_clusters}
use Rattle.os9_outer.specs.Drive.{sector_at}
use Rattle.rbf_access.specs.Drive.{MovesCounts}
use Rattle.rbf_access.specs.Faults.{file_fault}
use Rattle.rbf_access.specs.MapMarks.{marking_sectors}
use Rattle.rbf_access.specs.Mounted.{IsMounted, RepresentsVolume}
use Rattle.rbf_access.specs.Reading.{OnVolumeFile}
use Rattle.rbf_access.specs.declared.faults.FileFault.{FileFault}
use Rattle.rbf_access.specs.declared.faults.FileFault.TheVariants.{Device, NoCluster, TooManyRuns}
use Rattle.rbf_access.specs.declared.volume.Volume.{Volume}
use Rattle.rbf_entries.specs.Entering.{AnswersEntering, Entering, EnteringStops, unchanged, took, entering_calls, refusal_of, widened}
use Rattle.rbf_entries.specs.Creating.{request}
use Rattle.rbf_entries.proofs.Entries.{listing_size}
use Rattle.rbf_entries.specs.Asked.{folder_request}
use Rattle.rbf_entries.specs.FolderMade.{folder_calls}
use Rattle.rbf_walk.specs.declared.error.DirError.TheVariants.{File}
use Rattle.rbf_entries.specs.declared.place.NewPlace.{NewPlace}
use Rattle.file_rules.specs.Change.{creates, makes_directory}
use Rattle.file_rules.specs.MakDir.{new_directory_size}
use Rattle.file_drives.proofs.IdentLemmas.{made-anyway}
use Rattle.file_drives.proofs.SlotLemmas.{LeavesMounted, mounted-left}
use Rattle.file_drives.specs.Calls.{directory_calls, making_calls}
use Rattle.file_drives.specs.Changed.{Asked, ChangeIsMade, has_no_segment, new_file_needs}
use Rattle.file_drives.specs.Drives.{DriveView}
use Rattle.file_drives.specs.Mounted.{IsMountedAs}

-- ---- why a new entry is refused

abbrev pub first_cause : Bool → Bool → Bool → Bool → Bool → Option NewEntryRefusal
first_cause dots closed there full long =
    if dots then Some bad_path
    else (if closed then Some not_allowed
    else (if there then Some exists else (if full then Some no_cluster else (if long then Some too_many_runs else None))))

room-for : (dots closed there full long : Bool) → first_cause dots closed there full long ≡ None → (full ≡ false) × (long ≡ false)
room-for true closed there full long h = absurd (cc h)
room-for false true there full long h = absurd (cc h)
room-for false false true full long h = absurd (cc h)
room-for false false false true long h = absurd (cc h)
room-for false false false false true h = absurd (cc h)
room-for false false false false false h = (refl, refl)

no-room : (dots closed there full long : Bool) → first_cause dots closed there full long ≡ Some no_cluster → full ≡ true
no-room true closed there full long h = absurd (cc h)
no-room false true there full long h = absurd (cc h)
no-room false false true full long h = absurd (cc h)
no-room false false false true long h = refl
no-room false false false false true h = absurd (cc h)
no-room false false false false false h = absurd (cc h)

no-segment : (dots closed there full long : Bool) → first_cause dots closed there full long ≡ Some too_many_runs → (full ≡ false) × (long ≡ true)
no-segment true closed there full long h = absurd (cc h)
no-segment false true there full long h = absurd (cc h)
no-segment false false true full long h = absurd (cc h)
no-segment false false false true long h = absurd (cc h)
no-segment false false false false true h = (refl, refl)
no-segment false false false false false h = absurd (cc h)

-- by the size of the new file
module _ (v : DiskVolume) (dir : DiskFile) (e : Entering) (size : ℕ) (sized : length (e.plan 0).contents ≡ size) where
  abbrev full : Bool
  full = nat_lt (free_total v) (new_file_needs v dir size)

  by_size : refusal_of v dir e ≡ first_cause (is_dots e.name) (not (may_change dir e.user e.execute)) (is_some (look_up dir.contents e.name)) full (has_no_segment v dir)
  by_size = ap (λ s. first_cause (is_dots e.name) (not (may_change dir e.user e.execute))
      (is_some (look_up dir.contents e.name)) (nat_lt (free_total v) (new_file_needs v dir s)) (has_no_segment v dir))
      sized

  pub has_room : refusal_of v dir e ≡ None → (full ≡ false) × (has_no_segment v dir ≡ false)
  has_room allowed = room-for _ _ _ full (has_no_segment v dir) (sym by_size ∙ allowed)

  pub is_full : refusal_of v dir e ≡ Some no_cluster → full ≡ true
  is_full because = no-room _ _ _ full (has_no_segment v dir) (sym by_size ∙ because)

  pub is_long : refusal_of v dir e ≡ Some too_many_runs → (full ≡ false) × (has_no_segment v dir ≡ true)
  is_long because = no-segment _ _ _ full (has_no_segment v dir) (sym by_size ∙ because)

-- where neither holds nothing is refused
pub not-refused : (full long : Bool) → full ≡ false → long ≡ false → (not true || (full || long)) ≡ true → ⊥
not-refused true long a b h = absurd (cc a)
not-refused false true a b h = absurd (cc b)
not-refused false false a b h = absurd (cc h)

module _ (new : Volume) (before after : DriveView) (found : NewPlace) (name : List ℕ)
    (attributes : ℕ) (now : TimePacket) (mounted : IsMounted new after.media) where
  on-left : (w : DiskVolume) → RepresentsVolume after.media w → IsMountedAs new after.media w
  on-left w on = mounted-left new after.media w mounted on

  stayed-on : (v : DiskVolume) → after.media ≡ before.media → RepresentsVolume before.media v → IsMountedAs new after.media v
  stayed-on v same on = on-left v (record { image = on.image; is = same ∙ on.is; vol = on.vol })

  -- ---- a file

  abbrev creation : Asked
  creation = record { change = creates found.dir.number name attributes; user = found.by.user; now = now }

  abbrev file_asked : Entering
  file_asked = request found.dir.number name attributes found.by.user found.by.execute now

  create_leaves : (result : Result ℕ FileFault) (v : DiskVolume) (dir : DiskFile) → RepresentsVolume before.media v
      → AnswersEntering v dir file_asked before.media after.media (widened result) → MovesCounts (file_fault result)
      (entering_calls v dir 2 (widened result)) before.counts after.counts → LeavesMounted creation (widened result)
      (λ left. entering_calls v dir 2 (widened result)) v dir before new after
  create_leaves (Ok n) v dir on it counts =
      let room = has_room v dir file_asked 0 refl it.allowed in
      let made : ChangeIsMade creation v dir it.after n = record { allowed = refl; enough = room.0; list = room.1; makes = it.enters } in
      record {
        left = it.after;
        answers = made;
        on = on-left it.after (record { image = it.now; is = it.is; vol = it.vol });
        counts = counts;
        refused = λ h. absurd (made-anyway creation v dir it.after n made h);
        disk = (found.by.execute, it);
      }
  create_leaves (Err (Device number)) v dir on it counts = by it.1
    where
      by : EnteringStops v dir file_asked before.media after.media → LeavesMounted creation
          (Err (File (Device number))) (λ left. entering_calls v dir 2 (Err (File (Device number)))) v dir before
          new after
      by (unchanged same) = record {
        left = v;
        answers = record { may_be = ends.before refl; refused = λ _. refl };
        on = stayed-on v same on;
        counts = counts;
        refused = λ _. same;
        disk = (found.by.execute, it);
      }
      by (took some) = record {
        left = some.left;
        answers = record {
          may_be = ends.taken some.ends;
          refused = λ h. let room = has_room v dir file_asked 0 refl some.allowed in absurd (not-refused _ _ room.0 room.1 h);
        };
        on = on-left some.left (record { image = some.now; is = some.is; vol = some.vol });
        counts = counts;
        refused = λ h. elim h [
          | inl never ↦ absurd never
          | inr full ↦ let room = has_room v dir file_asked 0 refl some.allowed in absurd (not-refused _ _ room.0 room.1 full)
        ];
        disk = (found.by.execute, it);
      }
  create_leaves (Err NoCluster) v dir on it counts = record {
    left = v;
    answers = record { allowed = refl; few = is_full v dir file_asked 0 refl it.because; same = refl };
    on = stayed-on v it.media_kept on;
    counts = counts;
    refused = λ _. it.media_kept;
    disk = (found.by.execute, it);
  }
  create_leaves (Err TooManyRuns) v dir on it counts =
      let long = is_long v dir file_asked 0 refl it.because in
      record {
        left = v;
        answers = record { allowed = refl; enough = long.0; full = inl long.1; same = refl };
        on = stayed-on v it.media_kept on;
        counts = counts;
        refused = λ _. it.media_kept;
        disk = (found.by.execute, it);
      }

  -- the directory is the one of this number
  pub creates-at : (n : ℕ) → found.dir.number ≡ n → (result : Result ℕ FileFault) → OnVolumeFile before.media
      found.dir.number (λ v dir. AnswersEntering v dir file_asked before.media after.media (widened result))
      → OnVolumeFile before.media found.dir.number (λ v dir. MovesCounts (file_fault result)
      (entering_calls v dir 2 (widened result)) before.counts after.counts) → (v : DiskVolume) (dir : DiskFile)
      → RepresentsVolume before.media v → v.files n ≡ Some dir → LeavesMounted
      (record { change = creates n name attributes; user = found.by.user; now = now }) (widened result)
      (λ left. entering_calls v dir 2 (widened result)) v dir before new after
  creates-at n at result answer counts v dir on there =
      let found_there = subst (λ m. v.files m ≡ Some dir) (sym at) there in
      subst (λ m. LeavesMounted (record { change = creates m name attributes; user = found.by.user; now = now })
      (widened result) (λ left. entering_calls v dir 2 (widened result)) v dir before new after) at
      (create_leaves result v dir on (answer v dir on found_there) (counts v dir on found_there))

  -- ---- a directory

  abbrev making : Asked
  making = record { change = makes_directory found.dir.number name attributes; user = found.by.user; now = now }

  abbrev folder_asked : Entering
  folder_asked = folder_request found.dir.number name attributes found.by.user now

  folder_size : length (folder_asked.plan 0).contents ≡ new_directory_size
  folder_size = listing_size 0 found.dir.number

  -- the clusters of the new directory are those that its descriptor shows
  same_calls : (v left : DiskVolume) (n : ℕ) (file : DiskFile) (image : List ℕ) → after.media ≡ Some image
      → RepresentsVolume after.media left → left.files n ≡ Some file → let answer : Result ℕ FileFault = Ok n in
      folder_calls v after.media answer ≡ directory_calls (Ok n) v left
  same_calls v left n file image is_image on there =
      let shown : file ≡ file_at (sector_at after.media) n = on.vol.sound.shows.shown n file there ∙ ap (λ m. file_at (sector_at m) n) (sym on.is) in
      ap (λ (f : DiskFile). min (file_clusters (cluster_size v) 64) (marking_sectors (shape v) (has_cluster (shape v) n f)) + 2) (sym shown)
      ∙ ap (λ o. min (file_clusters (cluster_size v) 64) (marking_sectors (shape v) (in_file (shape v) n o)) + 2) (sym there)

  make_leaves : (result : Result ℕ FileFault) (v : DiskVolume) (dir : DiskFile) → RepresentsVolume before.media v
      → AnswersEntering v dir folder_asked before.media after.media (widened result) → MovesCounts (file_fault result)
      (entering_calls v dir (folder_calls v after.media result) (widened result)) before.counts after.counts
      → LeavesMounted making (widened result) (making_calls (widened result) v dir) v dir before new after
  make_leaves (Ok n) v dir on it counts =
      let room = has_room v dir folder_asked new_directory_size folder_size it.allowed in
      let here : RepresentsVolume after.media it.after = record { image = it.now; is = it.is; vol = it.vol } in
      let there : it.after.files n ≡ Some it.enters.both.file = ap (λ (u : DiskVolume). u.files n) it.enters.volume ∙
      put-there (replaced v found.dir.number (Some it.enters.both.new)).files n (Some it.enters.both.file) in
      let made : ChangeIsMade making v dir it.after n = record { allowed = refl; enough = room.0; list = room.1; makes = it.enters } in
      record {
        left = it.after;
        answers = made;
        on = on-left it.after here;
        counts = subst (λ made. MovesCounts None (entering_calls v dir made (Ok n)) before.counts after.counts) (same_calls v it.after n it.enters.both.file it.now it.is here there) counts;
        refused = λ h. absurd (made-anyway making v dir it.after n made h);
        disk = it;
      }
    where
      put-there : (files : ℕ → Option DiskFile) (n : ℕ) (file : Option DiskFile) → put_file files n file n ≡ file
      put-there files n file = ap (λ t. if t then file else files n) (eq-eqb n n refl)
  make_leaves (Err (Device number)) v dir on it counts = by it.1
    where
      by : EnteringStops v dir folder_asked before.media after.media → LeavesMounted making (Err (File (Device number))) (making_calls (Err (File (Device number))) v dir) v dir before new after
      by (unchanged same) = record {
        left = v;
        answers = record { may_be = ends.before refl; refused = λ _. refl };
        on = stayed-on v same on;
        counts = counts;
        refused = λ _. same;
        disk = it;
      }
      by (took some) = record {
        left = some.left;
        answers = record {
          may_be = ends.taken some.ends;
          refused = λ h. let room = has_room v dir folder_asked new_directory_size folder_size some.allowed in absurd (not-refused _ _ room.0 room.1 h);
        };
        on = on-left some.left (record { image = some.now; is = some.is; vol = some.vol });
        counts = counts;
        refused = λ h. elim h [
          | inl never ↦ absurd never
          | inr full ↦ let room = has_room v dir folder_asked new_directory_size folder_size some.allowed in absurd (not-refused _ _ room.0 room.1 full)
        ];
        disk = it;
      }
  make_leaves (Err NoCluster) v dir on it counts = record {
    left = v;
    answers = record { allowed = refl; few = is_full v dir folder_asked new_directory_size folder_size it.because; same = refl };
    on = stayed-on v it.media_kept on;
    counts = counts;
    refused = λ _. it.media_kept;
    disk = it;
  }
  make_leaves (Err TooManyRuns) v dir on it counts =
      let long = is_long v dir folder_asked new_directory_size folder_size it.because in
      record {
        left = v;
        answers = record { allowed = refl; enough = long.0; full = inl long.1; same = refl };
        on = stayed-on v it.media_kept on;
        counts = counts;
        refused = λ _. it.media_kept;
        disk = it;
      }

  pub makes-at : (n : ℕ) → found.dir.number ≡ n → (result : Result ℕ FileFault) → OnVolumeFile before.media
      found.dir.number (λ v dir. AnswersEntering v dir folder_asked before.media after.media (widened result))
      → OnVolumeFile before.media found.dir.number (λ v dir. MovesCounts (file_fault result)
      (entering_calls v dir (folder_calls v after.media result) (widened result)) before.counts after.counts)
      → (v : DiskVolume) (dir : DiskFile) → RepresentsVolume before.media v → v.files n ≡ Some dir → LeavesMounted
      (record { change = makes_directory n name attributes; user = found.by.user; now = now }) (widened result)
      (making_calls (widened result) v dir) v dir before new after
  makes-at n at result answer counts v dir on there =
      let found_there = subst (λ m. v.files m ≡ Some dir) (sym at) there in
      subst (λ m. LeavesMounted (record { change = makes_directory m name attributes; user = found.by.user; now = now })
      (widened result) (making_calls (widened result) v dir) v dir before new after) at
      (make_leaves result v dir on (answer v dir on found_there) (counts v dir on found_there))
