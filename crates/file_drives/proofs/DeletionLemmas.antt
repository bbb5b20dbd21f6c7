-- A deletion on a volume that is mounted.
use Rattle.std.proofs.Common.{◌≡◌, ℕ, ◌∙◌, Some, List, slice_get, Result, Ok, Err, refl, sym, subst, inl, inr}
use Rattle.std.proofs.lemmas.Option.{same_Some}
use Rattle.os9_base.specs.declared.registers.TimePacket.{TimePacket}
use Rattle.rbf_model.specs.File.{DiskFile}
use Rattle.rbf_model.specs.Volume.{DiskVolume}
use Rattle.rbf_change.specs.Calls.{free_total}
use Rattle.rbf_change.specs.Faults as ends
use Rattle.rbf_access.specs.Drive.{MovesCounts}
use Rattle.rbf_access.specs.Faults.{file_fault}
use Rattle.rbf_access.specs.Mounted.{IsMounted, RepresentsVolume}
use Rattle.rbf_access.specs.Reading.{OnVolumeFile}
use Rattle.rbf_access.specs.declared.faults.FileFault.{FileFault}
use Rattle.rbf_access.specs.declared.faults.FileFault.TheVariants.{Device, NoCluster, TooManyRuns}
use Rattle.rbf_access.specs.declared.volume.Volume.{Volume}
use Rattle.rbf_entries.specs.Deletions.{IsDeletable}
use Rattle.rbf_entries.specs.declared.deletion.Deletable.{Deletable}
use Rattle.rbf_entries.proofs.Ends.{file_found, file_marks}
use Rattle.rbf_entries.specs.Deleted.{AnswersDeletionOf, MayBeDeleted, file_deletion_calls}
use Rattle.file_rules.specs.Change.{deletes}
use Rattle.lock_model.specs.declared.place.FilePlace.{FilePlace}
use Rattle.file_drives.proofs.AttributeLemmas.{none-needed}
use Rattle.file_drives.proofs.EntryLemmas.{not-refused}
use Rattle.file_drives.proofs.IdentLemmas.{made-anyway}
use Rattle.file_drives.proofs.SlotLemmas.{LeavesMounted, mounted-left}
use Rattle.file_drives.specs.Calls.{deleting_calls}
use Rattle.file_drives.specs.Changed.{Asked, ChangeIsMade, file_answer}
use Rattle.file_drives.specs.Drives.{DriveView}
use Rattle.file_drives.specs.Entries.{IsDeletableOn, MayBeDeletedOn}

module _ (new : Volume) (before after : DriveView) (found : Deletable) (mounted : IsMounted new after.media) where
  abbrev deletion : ℕ → List ℕ → ℕ → TimePacket → Asked
  deletion n name user now = record { change = deletes n found.descriptor name; user = user; now = now }

  deletion_leaves : (n : ℕ) (name : List ℕ) (user : ℕ) (now : TimePacket) (result : Result (Unit {0}) FileFault)
      (v : DiskVolume) (dir : DiskFile) → RepresentsVolume before.media v → AnswersDeletionOf v n found.descriptor name
      before.media after.media result → MovesCounts (file_fault result) (deleting_calls found.descriptor v dir v)
      before.counts after.counts → LeavesMounted (deletion n name user now) (file_answer result)
      (deleting_calls found.descriptor v dir) v dir before new after
  deletion_leaves n name user now (Ok done) v dir on it counts =
      let made : ChangeIsMade (deletion n name user now) v dir it.after 0 =
      record {
        allowed = refl;
        enough = none-needed (free_total v);
        list = refl;
        makes = it.deletes;
      }
      in
      record {
        left = it.after;
        answers = made;
        on = mounted-left new after.media it.after mounted (record { image = it.now; is = it.is; vol = it.vol });
        counts = counts;
        refused = λ h. absurd (made-anyway (deletion n name user now) v dir it.after 0 made h);
        disk = (Ok done, refl, it);
      }
  deletion_leaves n name user now (Err (Device number)) v dir on (inl same) counts = record {
    left = v;
    answers = record { may_be = (on.image, on.vol, ends.before refl); refused = λ _. refl };
    on = mounted-left new after.media v mounted (record { image = on.image; is = same ∙ on.is; vol = on.vol });
    counts = counts;
    refused = λ _. same;
    disk = (Err (Device number), refl, inl same);
  }
  deletion_leaves n name user now (Err (Device number)) v dir on (inr half) counts = record {
    left = half.left;
    answers = record {
      may_be = (half.now, half.vol, ends.gone half.deletes half.there half.lose half.unfinished);
      refused = λ h. absurd (not-refused _ _ (none-needed (free_total v)) refl h);
    };
    on = mounted-left new after.media half.left mounted (record { image = half.now; is = half.is; vol = half.vol });
    counts = counts;
    refused = λ h. elim h [
      | inl never ↦ absurd never
      | inr full ↦ absurd (not-refused _ _ (none-needed (free_total v)) refl full)
    ];
    disk = (Err (Device number), refl, inr half);
  }
  deletion_leaves n name user now (Err NoCluster) v dir on it counts = absurd it
  deletion_leaves n name user now (Err TooManyRuns) v dir on it counts = absurd it

  -- the deletion by its name in a directory
  pub deletes-at : (result : Result (Unit {0}) FileFault) → ((dir : ℕ) (name : List ℕ) (v : DiskVolume)
      → IsDeletable before.media dir name found → RepresentsVolume before.media v → AnswersDeletionOf v dir found.descriptor
      name before.media after.media result) → OnVolumeFile before.media found.descriptor
      (λ v file. MovesCounts (file_fault result) (file_deletion_calls v found.descriptor file) before.counts
      after.counts) → (n : ℕ) (name : List ℕ) (asked : Asked) → IsDeletable before.media n name found
      → asked.change ≡ deletes n found.descriptor name → (v : DiskVolume) (dir : DiskFile) → RepresentsVolume before.media v
      → LeavesMounted asked (file_answer result) (deleting_calls found.descriptor v dir) v dir before new after
  deletes-at result answer counts n name asked is change_is v dir on =
      let gone = file_found before.media n name found is v on in
      let few = subst (λ most. MovesCounts (file_fault result) most before.counts after.counts) (file_marks v found.descriptor is.free.file gone) (counts v is.free.file on gone) in
      subst (λ ch. LeavesMounted (record { change = ch; user = asked.user; now = asked.now }) (file_answer result)
      (deleting_calls found.descriptor v dir) v dir before new after) (sym change_is)
      (deletion_leaves n name asked.user asked.now result v dir on (answer n name v is on) few)

-- what was found on the drives of a machine is there on its drive
pub entry-here : (views : List DriveView) (view : DriveView) (dir : FilePlace) (name : List ℕ) (found : Deletable)
    → IsDeletableOn views dir name found → slice_get views dir.drive ≡ Some view → IsDeletable view.media dir.number
    name found
entry-here views view dir name found at is =
    subst (λ (w : DriveView). IsDeletable w.media dir.number name found) (same_Some at.view view (sym at.is ∙ is)) at.entry

pub deletable-here : (views : List DriveView) (view : DriveView) (dir : FilePlace) (found : Deletable)
    → MayBeDeletedOn views dir found → slice_get views dir.drive ≡ Some view → MayBeDeleted view.media found
deletable-here views view dir found may is = record { directory = dir.number; name = may.name; is = entry-here views view dir may.name found may.is is }
