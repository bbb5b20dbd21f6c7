-- Each lawful write leaves an image that represents the volume that it says.
use Rattle.std.proofs.Common.{◌≡◌, ℕ, List, length, Some, None, ap, sym, subst}
use Rattle.rbf_model.specs.Disk.{disk_of}
use Rattle.rbf_model.specs.Geometry.{geometry, image_geometry, sector}
use Rattle.rbf_model.specs.File.{file_from, file_at}
use Rattle.rbf_model.specs.Volume.{DiskVolume, Vol}
use Rattle.rbf_model.specs.Writes.{put_sector, with_file, with_file_in_place}
use Rattle.rbf_model.specs.Laws.{MarksFreeClusters, FreesClusters, IsUnseen, Redescribes, AddsEntry, AppendsEntry, with_directory_entry}
use Rattle.rbf_model.proofs.ImageLaws.{takes_image, frees_image, unseen_image, overwrite_image, describe_image, enter_image, append_image, leave_image}
use Rattle.rbf_change.specs.Calls.{shape}
use Rattle.rbf_change.specs.Lawful.{IsLawful, AreLawful, takes, frees, unseen, overwrites, redescribes, enters, appends, leaves, done, «then»}

-- the sizes of a volume are those of its image
pub shape-image : (image : List ℕ) (v : DiskVolume) → Vol image v → shape v ≡ image_geometry image
shape-image image v vol = ap geometry vol.sound.shows.ident

pub lawful_step : (image : List ℕ) (v : DiskVolume) (s : ℕ) (bytes : List ℕ) (w : DiskVolume) → Vol image v → length bytes ≡ 256 → IsLawful (sector image) v s bytes w
    → Vol (put_sector image s bytes) w
lawful_step image v s bytes _ vol whole (takes {taken = taken} law) =
    takes_image image v vol s bytes taken whole (subst (λ g. MarksFreeClusters (disk_of g (sector image)) v s bytes taken) (shape-image image v vol) law)
lawful_step image v s bytes _ vol whole (frees {freed = freed} law) =
    frees_image image v vol s bytes freed whole (subst (λ g. FreesClusters (disk_of g (sector image)) v s bytes freed) (shape-image image v vol) law)
lawful_step image v s bytes _ vol whole (unseen law) =
    unseen_image image v vol s bytes whole (subst (λ g. IsUnseen (disk_of g (sector image)) v s bytes) (shape-image image v vol) law)
lawful_step image v s bytes _ vol whole (overwrites {n = n} {j = j} {file = file} law) = overwrite_image image v vol n j s file bytes whole law
lawful_step image v s bytes _ vol whole (redescribes {old = old} law) =
    subst (λ g. Vol (put_sector image s bytes) (with_file g v s (Some (file_from (sector image) bytes)))) (sym (shape-image image v vol))
    (describe_image image v vol s old bytes whole (subst (λ g. Redescribes (disk_of g (sector image)) v s old bytes) (shape-image image v vol) law))
lawful_step image v s bytes _ vol whole (enters {d = d} {j = j} {i = i} {n = n} {dir = dir} {entry = entry} law) =
    subst (λ g. Vol (put_sector image s bytes) (with_file g (with_file_in_place v d (with_directory_entry dir i entry)) n (Some (file_at (sector image) n)))) (sym (shape-image image v vol))
    (enter_image image v vol d dir j s bytes i entry n whole
    (subst (λ g. AddsEntry (disk_of g (sector image)) v (record {
      directory = d;
      file = dir;
      place = i;
      bytes =
          entry;
    }) (record { place = j; lsn = s; bytes = bytes }) n) (shape-image image v vol) law))
lawful_step image v s bytes _ vol whole (appends {i = i} {n = n} {dir = dir} {entry = entry} law) =
    subst (λ g. Vol (put_sector image s bytes) (with_file g (with_file g v s (Some (file_from (sector image) bytes))) n (Some (file_at (sector image) n)))) (sym (shape-image image v vol))
    (append_image image v vol s dir bytes i entry n whole
    (subst (λ g. AppendsEntry (disk_of g (sector image)) v (record {
      directory = s;
      file = dir;
      place = i;
      bytes =
          entry;
    }) bytes n) (shape-image image v vol) law))
lawful_step image v s bytes _ vol whole (leaves {d = d} {j = j} {i = i} {n = n} {dir = dir} {file = file} {entry = entry} law) =
    subst (λ g. Vol (put_sector image s bytes) (with_file g (with_file_in_place v d (with_directory_entry dir i entry)) n None)) (sym (shape-image image v vol))
    (leave_image image v vol d dir j s bytes i entry n file whole law)

pub lawful_steps : (image : List ℕ) (v : DiskVolume) (now : List ℕ) (w : DiskVolume) → Vol image v → AreLawful image v now w → Vol now w
lawful_steps image v now w vol done = vol
lawful_steps image v _ w vol («then» {now = now} {u = u} {s = s} {bytes = bytes} before whole law) =
    lawful_step now u s bytes w (lawful_steps image v now u vol before) whole law
