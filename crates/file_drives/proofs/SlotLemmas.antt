-- One drive and the volume that is kept for it, before and after a call.
use Rattle.std.proofs.Common.{◌≡◌, ◌⊎◌, ℕ, ◌∙◌, true, Option, List, Result, sym, subst}
use Rattle.std.proofs.lemmas.Option.{same_Some}
use Rattle.rbf_model.specs.File.{DiskFile}
use Rattle.rbf_model.specs.Volume.{DiskVolume}
use Rattle.rbf_change.specs.Agrees.{Agrees}
use Rattle.rbf_access.specs.Cached.{IsCacheOf}
use Rattle.rbf_access.specs.Drive.{MovesCounts}
use Rattle.rbf_access.specs.Mounted.{IsMounted, IsVolumeOf, RepresentsVolume}
use Rattle.rbf_access.specs.Mounted as access
use Rattle.rbf_access.specs.declared.volume.Volume.{Volume}
use Rattle.rbf_walk.specs.Walk.{directory_fault}
use Rattle.rbf_walk.specs.declared.error.DirError.{DirError}
use Rattle.file_drives.specs.Changed.{AnswersChange, AnswersOnDisk, Asked, IsRefusedChange, is_refused}
use Rattle.file_drives.specs.Drives.{DriveView}
use Rattle.file_drives.specs.Mounted.{IsMountedAs}

-- a volume that is kept as it was on media that stayed
pub mounted-still : (volume new : Volume) (media after : Option (List ℕ)) (v : DiskVolume) → access.mounted_part new ≡
    access.mounted_part volume → after ≡ media → IsCacheOf after new.cache → IsMountedAs volume media v
    → IsMountedAs new after v
mounted-still volume new media after v kept_same media_same cached it = record {
  on = record { image = it.on.image; is = media_same ∙ it.on.is; vol = it.on.vol };
  agrees = subst (λ k. Agrees k it.on.image) (sym kept_same) it.agrees;
  cached = cached;
}

-- what is kept of the volume that a mount found
pub mounts-as : (volume : Volume) (media after : Option (List ℕ)) (v : DiskVolume) → after ≡ media → IsVolumeOf after volume → RepresentsVolume media v → IsMountedAs volume after v
mounts-as volume media after v same it on =
    let image_same : it.holds.image ≡ on.image = same_Some it.holds.image on.image (sym it.holds.is ∙ same ∙ on.is) in
    record {
      on = record { image = on.image; is = same ∙ on.is; vol = on.vol };
      agrees = subst (λ i. Agrees (access.mounted_part volume) i) image_same it.agrees;
      cached = it.cached;
    }

-- a volume that is mounted and that the media represents
pub mounted-left : (volume : Volume) (media : Option (List ℕ)) (v : DiskVolume) → IsMounted volume media → RepresentsVolume media v → IsMountedAs volume media v
mounted-left volume media v it on =
    let image_same : it.on.image ≡ on.image = same_Some it.on.image on.image (sym it.on.is ∙ on.is) in
    record { on = on; agrees = subst (λ i. Agrees (access.mounted_part volume) i) image_same it.agrees; cached = it.cached }

-- a volume on a drive has been changed or not, by the result
pub record LeavesMounted (asked : Asked) (answer : Result ℕ DirError) (most : DiskVolume → ℕ) (v : DiskVolume)
    (file : DiskFile) (before : DriveView) (new : Volume) (after : DriveView) : Type 0 where
  pub left : DiskVolume
  pub answers : AnswersChange asked v file left answer
  pub on : IsMountedAs new after.media left
  pub counts : MovesCounts (directory_fault answer) (most left) before.counts after.counts
  pub refused : IsRefusedChange answer ⊎ (is_refused asked v file ≡ true) → after.media ≡ before.media
  pub disk : AnswersOnDisk asked.change asked.user asked.now v file answer before.media after.media
