-- A change of the attributes of a file on a volume that is mounted.
use Rattle.std.proofs.Common.{◌≡◌, ℕ, false, nat_lt, Some, OnOk, OnErr, Result, Ok, Err, refl, arith}
use Rattle.os9_base.specs.declared.registers.TimePacket.{TimePacket}
use Rattle.rbf_model.specs.File.{DiskFile}
use Rattle.rbf_model.specs.Volume.{DiskVolume}
use Rattle.rbf_change.specs.Calls.{SetsAttributes, free_total}
use Rattle.rbf_access.specs.Drive.{MovesCounts}
use Rattle.rbf_access.specs.Mounted.{IsMounted}
use Rattle.rbf_access.specs.Mounted as access
use Rattle.rbf_access.specs.Reading.{OnFile}
use Rattle.rbf_access.specs.declared.faults.FileFault.TheVariants.{Device, NoCluster, TooManyRuns}
use Rattle.rbf_access.specs.declared.volume.Volume.{Volume}
use Rattle.rbf_walk.specs.Walk.{directory_fault}
use Rattle.rbf_walk.specs.declared.error.DirError.{DirError}
use Rattle.rbf_walk.specs.declared.error.DirError.TheVariants.{NotAllowed, BadPath, NotFound, Exists, File}
use Rattle.rbf_entries.specs.Attributes.{AnswersOwner, attribute_calls, with_new_attributes}
use Rattle.rbf_entries.specs.Becomes.{Becomes}
use Rattle.file_rules.specs.Change.{sets_attributes}
use Rattle.file_drives.proofs.IdentLemmas.{made-anyway}
use Rattle.file_drives.proofs.SlotLemmas.{LeavesMounted, mounted-left, mounted-still}
use Rattle.file_drives.specs.Changed.{Asked, ChangeIsMade, numbered}
use Rattle.file_drives.specs.Drives.{DriveView}
use Rattle.file_drives.specs.Mounted.{IsMountedAs}

-- no volume is too full for nothing
pub none-needed : (free : ℕ) → nat_lt free 0 ≡ false
none-needed free = grind arith

module _ (volume new : Volume) (before after : DriveView) (n attributes user : ℕ)
    (now : TimePacket) (mounted : IsMounted new after.media) (kept_same : access.mounted_part new ≡
    access.mounted_part volume) where
  abbrev request : Asked
  request = record { change = sets_attributes n attributes; user = user; now = now }

  pub attributes-leave : (result : Result (Unit {0}) DirError) → OnOk result (Becomes before.media after.media
      (λ old new. SetsAttributes old new n attributes now)) → OnOk result (after.media ≡ with_new_attributes
      before.media n attributes now) → OnFile before.media n (λ file. AnswersOwner file user result)
      → OnErr result (after.media ≡ before.media) → OnFile before.media n
      (λ file. MovesCounts (directory_fault result) (attribute_calls file user) before.counts after.counts)
      → (v : DiskVolume) (file : DiskFile) → IsMountedAs volume before.media v → v.files n ≡ Some file
      → LeavesMounted request (numbered result) (λ left. attribute_calls file user) v file before new after
  attributes-leave (Ok done) ok written answer stayed counts v file was there =
      let it = ok v was.on in
      let made : ChangeIsMade request v file it.volume 0 =
      record {
        allowed = answer v file was.on there;
        enough = none-needed (free_total v);
        list = refl;
        makes = it.changed;
      }
      in
      record {
        left = it.volume;
        answers = made;
        on = mounted-left new after.media it.volume mounted it.on;
        counts = counts v file was.on there;
        refused = λ h. absurd (made-anyway request v file it.volume 0 made h);
        disk = (written, tt);
      }
  attributes-leave (Err NotAllowed) ok written answer stayed counts v file was there = record {
    left = v;
    answers = record { forbidden = answer v file was.on there; same = refl };
    on = mounted-still volume new before.media after.media v kept_same stayed mounted.cached was;
    counts = counts v file was.on there;
    refused = λ _. stayed;
    disk = (tt, stayed);
  }
  attributes-leave (Err BadPath) ok written answer stayed counts v file was there = absurd (answer v file was.on there)
  attributes-leave (Err NotFound) ok written answer stayed counts v file was there = absurd (answer v file was.on there)
  attributes-leave (Err Exists) ok written answer stayed counts v file was there = absurd (answer v file was.on there)
  attributes-leave (Err (File (Device number))) ok written answer stayed counts v file was there = record {
    left = v;
    answers = record { may_be = refl; refused = λ _. refl };
    on = mounted-still volume new before.media after.media v kept_same stayed mounted.cached was;
    counts = counts v file was.on there;
    refused = λ _. stayed;
    disk = (tt, stayed);
  }
  attributes-leave (Err (File NoCluster)) ok written answer stayed counts v file was there = absurd (answer v file was.on there)
  attributes-leave (Err (File TooManyRuns)) ok written answer stayed counts v file was there = absurd (answer v file was.on there)
