-- A write to a file, and a change of its size, on a volume that is mounted.
use Rattle.std.proofs.Common.{◌≡◌, ℕ, ◌+◌, ◌-◌, ◌/◌, ◌<◌, ◌≤◌, ◌∙◌, Bool, true, false, nat_lt, not, ◌||◌, Option, Some, None, OnErr, List, [], length, Result, Ok, Err, refl, ap, sym, subst, inl, inr, IsNone, eq-eqb, arith, le-ltb, lt-ltb}
use Rattle.std.specs.Prelude.{if◌then◌else◌}
use Rattle.std.proofs.Math.Nat.{div-eq_of_lt}
use Rattle.std.proofs.lemmas.Bool.{both_ways}
use Rattle.std.proofs.lemmas.Option.{same_Some}
use Rattle.os9_base.specs.declared.registers.TimePacket.{TimePacket}
use Rattle.rbf_model.specs.File.{DiskFile}
use Rattle.rbf_model.specs.Geometry.{map_sectors}
use Rattle.rbf_model.specs.Segments.{sectors_of}
use Rattle.rbf_model.specs.Volume.{DiskVolume, Vol}
use Rattle.rbf_model.specs.Writes.{put_file}
use Rattle.rbf_change.specs.Calls.{Changes, replaced, shape, cluster_size, free_total}
use Rattle.rbf_change.specs.Contents.{sector_count, written}
use Rattle.rbf_change.specs.Faults.{WriteEnds, SizeEnds, with_front}
use Rattle.rbf_change.specs.Faults as ends
use Rattle.rbf_change.specs.Growth.{clusters_needed}
use Rattle.rbf_access.proofs.ReadFile.{room_for}
use Rattle.rbf_access.specs.Drive.{DriveCounts, MovesCounts}
use Rattle.rbf_access.specs.Faults.{file_fault}
use Rattle.rbf_access.specs.MapMarks.{marking_sectors}
use Rattle.rbf_access.specs.Mounted.{IsMounted, RepresentsVolume}
use Rattle.rbf_access.specs.declared.faults.FileFault.{FileFault}
use Rattle.rbf_access.specs.declared.faults.FileFault.TheVariants.{Device, NoCluster, TooManyRuns}
use Rattle.rbf_access.specs.declared.volume.Volume.{Volume}
use Rattle.rbf_write.proofs.FilledFile.{put_same_file}
use Rattle.rbf_alloc.specs.Grown.{is_gained}
use Rattle.rbf_walk.specs.declared.error.DirError.TheVariants.{File}
use Rattle.rbf_write.proofs.Contents.{put_none}
use Rattle.rbf_write.specs.Files.{OnVolumeFile}
use Rattle.rbf_write.specs.Outcomes.{AnswersWrite, IsRefusal, OnMarked, write_calls, WriteIsEnded, WriteStops, unchanged, stopped}
use Rattle.rbf_write.specs.Sizes.{Sizing, AnswersSize, IsTidyEnd, giving_up, size_calls}
use Rattle.file_rules.specs.Change.{writes, sizes}
use Rattle.file_drives.proofs.FreeLemmas.{chosen-free, some-cluster}
use Rattle.file_drives.proofs.IdentLemmas.{made-anyway}
use Rattle.file_drives.proofs.SlotLemmas.{LeavesMounted, mounted-left}
use Rattle.file_drives.specs.Calls.{marks_made, sizing_calls, writing_calls}
use Rattle.file_drives.specs.Changed.{Asked, ChangeIsMade, file_answer, is_refused}
use Rattle.file_drives.specs.Drives.{DriveView}
use Rattle.file_drives.specs.Mounted.{IsMountedAs}

-- a file of a volume is as its media shows it
pub shown-once : (media : Option (List ℕ)) (v w : DiskVolume) (n : ℕ) (file new : DiskFile) → RepresentsVolume media v
    → RepresentsVolume media w → v.files n ≡ Some file → w.files n ≡ Some new → file ≡ new
shown-once media v w n file new on other is there =
    let both : Some on.image ≡ Some other.image = sym on.is ∙ other.is in
    let image_same : on.image ≡ other.image = cc in
    let same : Vol on.image w = subst (λ i. Vol i w) (sym image_same) other.vol in
    on.vol.sound.shows.shown n file is ∙ sym (same.sound.shows.shown n new there)

-- the file that was changed, where it is
changed-there : (change : DiskFile → DiskFile → Type 0) (v w : DiskVolume) (n : ℕ) (it : Changes change v w n) → w.files n ≡ Some it.new
changed-there change v w n it = ap (λ (u : DiskVolume). u.files n) it.volume ∙ put-there v.files n (Some it.new)
  where
    put-there : (files : ℕ → Option DiskFile) (n : ℕ) (file : Option DiskFile) → put_file files n file n ≡ file
    put-there files n file = ap (λ t. if t then file else files n) (eq-eqb n n refl)

-- a refusal makes one call at most
pub refusal_counts : (most : ℕ) (before after : DriveCounts) → after.calls ≤ before.calls + 1 → MovesCounts None most before after → MovesCounts None 1 before after
refusal_counts most before after few counts = record {
  calls_made = few;
  never_falls = counts.never_falls;
  rose = counts.rose;
  number = counts.number;
  kept = counts.kept;
  last_kept = counts.last_kept;
}

-- a change that is allowed and has no list to be full is refused where too few clusters are free
only_full : (t : Bool) → (not true || (t || false)) ≡ true → t ≡ true
only_full true h = refl
only_full false h = h

-- a file has room for its size, so that it needs no cluster for a smaller one
none-for-shorter : (media : Option (List ℕ)) (v : DiskVolume) (n : ℕ) (file : DiskFile) (size : ℕ)
    → RepresentsVolume media v → v.files n ≡ Some file → size < length file.contents → clusters_needed (cluster_size v)
    file.segments size ≤ free_total v
none-for-shorter media v n file size on there shorter =
    let k = cluster_size v in
    let positive = some-cluster media v on in
    let room = room_for media v on n file there in
    let none : sector_count size - length (sectors_of file.segments) + (k - 1) ≡ k - 1 = omega (arith, room, shorter) in
    let low : k - 1 < k = omega (arith, positive) in
    let needed : clusters_needed k file.segments size ≡ 0 = ap (λ m. m / k) none ∙ div-eq_of_lt low in
    omega (arith, needed)

-- ---- a write

-- nothing was written
pub write-stays : (n at : ℕ) (bytes : List ℕ) (v : DiskVolume) (file : DiskFile) → v.files n ≡ Some file → 0 < length bytes → WriteEnds v v n at bytes
write-stays n at bytes v file there some = record {
  some = some;
  old = file;
  is = there;
  count = 0;
  front = ends.none;
  taken = [];
  planned = inl refl;
  volume = record { same = sym same_volume; still = λ c h. subst (λ (w : DiskVolume). w.lost c ≡ true) same_volume h; only = λ c h. or_left_is (v.lost c) h };
  order = inl refl;
}
  where
    same_volume : replaced v n (Some (with_front file at bytes 0)) ≡ v
    same_volume =
        ap (λ c. replaced v n (Some (record file { contents = c }))) (put_none file.contents at)
        ∙ ap (λ fs. record { ident = v.ident; files = fs; lost = v.lost; rest = v.rest }) (put_same_file v.files n file there)

    or_left_is : (a : Bool) → a ≡ true → (a || false) ≡ true
    or_left_is true h = refl
    or_left_is false h = h

module _ (new : Volume) (before after : DriveView) (n at : ℕ) (bytes : List ℕ) (now : TimePacket) (mounted : IsMounted new after.media) where
  abbrev asks : ℕ → Asked
  asks user = record { change = writes n at bytes; user = user; now = now }

  stayed_on : (v : DiskVolume) → after.media ≡ before.media → RepresentsVolume before.media v → IsMountedAs new after.media v
  stayed_on v same on = mounted-left new after.media v mounted (record { image = on.image; is = same ∙ on.is; vol = on.vol })

  pub write-leaves : (user : ℕ) (result : Result (Unit {0}) FileFault) → OnVolumeFile before.media n
      (λ v file. AnswersWrite v file (record { number = n; at = at; bytes = bytes; now = now }) before.media
      after.media result) → OnErr result (IsRefusal result → after.counts.calls ≤ before.counts.calls + 1)
      → OnMarked before.media after.media n result (λ v file marks. MovesCounts (file_fault result)
      (write_calls v file marks at (length bytes)) before.counts after.counts) → (v : DiskVolume) (file : DiskFile)
      → RepresentsVolume before.media v → v.files n ≡ Some file → LeavesMounted (asks user) (file_answer result)
      (writing_calls n at (length bytes) result v file) v file before new after
  write-leaves user (Ok done) answer few counts v file on there =
      let it = answer v file on there in
      let here : it.volume.files n ≡ Some it.writes.new = changed-there _ v it.volume n it.writes in
      let made : ChangeIsMade (asks user) v file it.volume 0 =
      record {
        allowed = refl;
        enough = le-ltb (free_total v) (clusters_needed (cluster_size v) file.segments (length (written file.contents at bytes))) it.enough;
        list = refl;
        makes = it.writes;
      }
      in
      record {
        left = it.volume;
        answers = made;
        on = mounted-left new after.media it.volume mounted it.on;
        counts =
            subst (λ f. MovesCounts None (write_calls v file (marks_made (Ok done) v file f) at (length bytes)) before.counts after.counts) (sym here)
            (counts v file on there (marking_sectors (shape v) (is_gained (cluster_size v) file.segments it.writes.new.segments))
            (λ w shown other is_there. ap (λ (f : DiskFile). marking_sectors (shape v) (is_gained (cluster_size v)
            file.segments f.segments)) (shown-once after.media it.volume w n it.writes.new shown it.on other here
            is_there)));
        refused = λ h. absurd (made-anyway (asks user) v file it.volume 0 made h);
        disk = (Ok done, refl, it);
      }
  write-leaves user (Err (Device number)) answer few counts v file on there = by (answer v file on there)
    where
      moved : MovesCounts (Some number) (write_calls v file (map_sectors (shape v)) at (length bytes)) before.counts after.counts
      moved = counts v file on there (map_sectors (shape v)) refl

      -- the clusters had been chosen, and so it was not to be refused
      chosen : WriteStops v (record { number = n; at = at; bytes = bytes; now = now }) before.media after.media → is_refused (asks user) v file ≡ true → ⊥
      chosen it full =
          let same : it.ends.old ≡ file = same_Some it.ends.old file (sym it.ends.is ∙ there) in
          let enough = chosen-free before.media v on it.ends.old.segments (length (written it.ends.old.contents at bytes)) it.ends.taken it.choice in
          let fits = subst (λ (f : DiskFile). clusters_needed (cluster_size v) f.segments (length (written f.contents at bytes)) ≤ free_total v) same enough in
          both_ways (nat_lt (free_total v) (clusters_needed (cluster_size v) file.segments
          (length (written file.contents at bytes)))) (le-ltb (free_total v) (clusters_needed (cluster_size v)
          file.segments (length (written file.contents at bytes))) fits) (only_full _ full)

      by : WriteIsEnded v (record { number = n; at = at; bytes = bytes; now = now }) before.media after.media
          → LeavesMounted (asks user) (Err (File (Device number))) (writing_calls n at (length bytes)
          (Err (Device number)) v file) v file before new after
      by (unchanged some same) = record {
        left = v;
        answers = record { may_be = write-stays n at bytes v file there some; refused = λ _. refl };
        on = stayed_on v same on;
        counts = moved;
        refused = λ _. same;
        disk = (Err (Device number), refl, answer v file on there);
      }
      by (stopped it) = record {
        left = it.volume;
        answers = record { may_be = it.ends; refused = λ full. absurd (chosen it full) };
        on = mounted-left new after.media it.volume mounted it.on;
        counts = moved;
        refused = λ h. elim h [
          | inl never ↦ absurd never
          | inr full ↦ absurd (chosen it full)
        ];
        disk = (Err (Device number), refl, answer v file on there);
      }
  write-leaves user (Err NoCluster) answer few counts v file on there =
      let it = answer v file on there in
      record {
        left = v;
        answers = record { allowed = refl; few = lt-ltb (free_total v) (clusters_needed (cluster_size v) file.segments (length (written file.contents at bytes))) it.few; same = refl };
        on = stayed_on v it.media_kept on;
        counts = refusal_counts _ before.counts after.counts (few refl) (counts v file on there (map_sectors (shape v)) refl);
        refused = λ _. it.media_kept;
        disk = (Err NoCluster, refl, it);
      }
  write-leaves user (Err TooManyRuns) answer few counts v file on there =
      let it = answer v file on there in
      record {
        left = v;
        answers = record {
          allowed = refl;
          enough = le-ltb (free_total v) (clusters_needed (cluster_size v) file.segments (length (written file.contents at bytes))) it.enough;
          full = inr (record { file = file; is = there; gained = it.chosen; full = it.full });
          same = refl;
        };
        on = stayed_on v it.media_kept on;
        counts = refusal_counts _ before.counts after.counts (few refl) (counts v file on there (map_sectors (shape v)) refl);
        refused = λ _. it.media_kept;
        disk = (Err TooManyRuns, refl, it);
      }

-- ---- a change of size

module _ (new : Volume) (before after : DriveView) (n size : ℕ) (now : TimePacket) (mounted : IsMounted new after.media) where
  abbrev sizing : Sizing
  sizing = record { number = n; size = size; now = now }

  abbrev asks_size : ℕ → Asked
  asks_size user = record { change = sizes n size; user = user; now = now }

  size_stayed : (v : DiskVolume) → after.media ≡ before.media → RepresentsVolume before.media v → IsMountedAs new after.media v
  size_stayed v same on = mounted-left new after.media v mounted (record { image = on.image; is = same ∙ on.is; vol = on.vol })

  -- a fault after which the size was to be refused has changed nothing
  ends-refused : (v w : DiskVolume) (file : DiskFile) (image : List ℕ) → RepresentsVolume before.media v
      → v.files n ≡ Some file → nat_lt (free_total v) (clusters_needed (cluster_size v) file.segments size) ≡ true
      → (it : SizeEnds image v w n size now) → IsTidyEnd image v w sizing (giving_up v file sizing) before.media
      after.media it → (w ≡ v) × (after.media ≡ before.media)
  ends-refused v w file image on there full (ends.before same) tidy = (same, tidy)
  ends-refused v w file image on there full (ends.longer it) tidy =
      let same : it.old ≡ file = same_Some it.old file (sym it.is ∙ there) in
      let enough = chosen-free before.media v on it.old.segments size it.taken tidy.0 in
      let fits = subst (λ (f : DiskFile). clusters_needed (cluster_size v) f.segments size ≤ free_total v) same enough in
      absurd (both_ways (nat_lt (free_total v) (clusters_needed (cluster_size v) file.segments size)) (le-ltb (free_total v) (clusters_needed (cluster_size v) file.segments size) fits) full)
  ends-refused v w file image on there full (ends.cut it) tidy =
      let same : it.old ≡ file = same_Some it.old file (sym it.is ∙ there) in
      absurd (both_ways (nat_lt (free_total v) (clusters_needed (cluster_size v) file.segments size))
      (le-ltb (free_total v) (clusters_needed (cluster_size v) file.segments size) (none-for-shorter before.media
      v n file size on there (subst (λ (f : DiskFile). size < length f.contents) same it.shorter))) full)

  pub size-leaves : (user : ℕ) (result : Result (Unit {0}) FileFault) → OnVolumeFile before.media n
      (λ v file. AnswersSize v file sizing before.media after.media result) → OnErr result (IsNone (file_fault result)
      → after.counts.calls ≤ before.counts.calls + 1) → OnMarked before.media after.media n result
      (λ v file marks. MovesCounts (file_fault result) (size_calls v file marks sizing) before.counts after.counts)
      → (v : DiskVolume) (file : DiskFile) → RepresentsVolume before.media v → v.files n ≡ Some file
      → LeavesMounted (asks_size user) (file_answer result) (sizing_calls sizing result v file) v file before
      new after
  size-leaves user (Ok done) answer few counts v file on there =
      let it = answer v file on there in
      let here : it.volume.files n ≡ Some it.sets.new = changed-there _ v it.volume n it.sets in
      let made : ChangeIsMade (asks_size user) v file it.volume 0 =
      record {
        allowed = refl;
        enough = le-ltb (free_total v) (clusters_needed (cluster_size v) file.segments size) it.enough;
        list = refl;
        makes = it.sets;
      }
      in
      record {
        left = it.volume;
        answers = made;
        on = mounted-left new after.media it.volume mounted it.on;
        counts =
            subst (λ f. MovesCounts None (size_calls v file (marks_made (Ok done) v file f) sizing) before.counts after.counts) (sym here)
            (counts v file on there (marking_sectors (shape v) (is_gained (cluster_size v) file.segments it.sets.new.segments))
            (λ w shown other is_there. ap (λ (f : DiskFile). marking_sectors (shape v) (is_gained (cluster_size v)
            file.segments f.segments)) (shown-once after.media it.volume w n it.sets.new shown it.on other here
            is_there)));
        refused = λ h. absurd (made-anyway (asks_size user) v file it.volume 0 made h);
        disk = (Ok done, refl, it);
      }
  size-leaves user (Err (Device number)) answer few counts v file on there =
      let it = answer v file on there in
      record {
        left = it.volume;
        answers = record {
          may_be = (it.on.image, it.on.vol, it.ends);
          refused = λ full. (ends-refused v it.volume file it.on.image on there (only_full _ full) it.ends it.tidy).0;
        };
        on = mounted-left new after.media it.volume mounted it.on;
        counts = counts v file on there (map_sectors (shape v)) refl;
        refused = λ h. elim h [
          | inl never ↦ absurd never
          | inr full ↦ (ends-refused v it.volume file it.on.image on there (only_full _ full) it.ends it.tidy).1
        ];
        disk = (Err (Device number), refl, it);
      }
  size-leaves user (Err NoCluster) answer few counts v file on there =
      let it = answer v file on there in
      record {
        left = v;
        answers = record { allowed = refl; few = lt-ltb (free_total v) (clusters_needed (cluster_size v) file.segments size) it.few; same = refl };
        on = size_stayed v it.media_kept on;
        counts = refusal_counts _ before.counts after.counts (few refl) (counts v file on there (map_sectors (shape v)) refl);
        refused = λ _. it.media_kept;
        disk = (Err NoCluster, refl, it);
      }
  size-leaves user (Err TooManyRuns) answer few counts v file on there =
      let it = answer v file on there in
      record {
        left = v;
        answers = record {
          allowed = refl;
          enough = le-ltb (free_total v) (clusters_needed (cluster_size v) file.segments size) it.enough;
          full = inr (record { file = file; is = there; gained = it.chosen; full = it.full });
          same = refl;
        };
        on = size_stayed v it.media_kept on;
        counts = refusal_counts _ before.counts after.counts (few refl) (counts v file on there (map_sectors (shape v)) refl);
        refused = λ _. it.media_kept;
        disk = (Err TooManyRuns, refl, it);
      }
