-- The volume of a well formed image is in order.
use Rattle.std.proofs.Common.{◌≡◌, ℕ, ◌-◌, ◌*◌, ◌≤◌, true, Some, List, length, map, sym, ap, ◌∙◌, subst, arith, length-take, leb-true, le-leb}
use Rattle.std.specs.List.{AllZip, range_with_len}
use Rattle.std.proofs.lemmas.List.Folds.{length-prefix_len}
use Rattle.std.proofs.lemmas.List.FromFn.{length-map-range_with_len}
use Rattle.std.proofs.lemmas.List.Sums.{prefix_len-le-length}
use Rattle.rbf_model.specs.Fields.{has_sectors, segment_field, segments_field, size_field}
use Rattle.rbf_model.specs.File.{DiskFile, file_at, has_room, segment_bytes}
use Rattle.rbf_model.specs.Geometry.{Geometry, image_geometry, sector}
use Rattle.rbf_model.specs.Segments.{sectors_of}
use Rattle.rbf_model.specs.Volume.{DiskVolume, Vol}
use Rattle.rbf_model.proofs.Owners.{root_file}
use Rattle.rbf_change.proofs.LawfulWrites.{shape-image}
use Rattle.file_rules.specs.Files.{DriveState}
use Rattle.file_rules.specs.Processes.{first_files}
use Rattle.file_laws.proofs.Starts.{image-of}
use Rattle.machine_model.specs.Start.{Boot, Starts}
use Rattle.machine_model.specs.State.{State}
use Rattle.run_laws.specs.InOrder.{AreInOrder, IsDescribable, IsInOrder}

-- a descriptor has 48 pairs
few-segments : (descriptor : List ℕ) → length (segments_field descriptor) ≤ 48
unfolding segments_field
few-segments descriptor =
    let pairs = map (segment_field descriptor) (range_with_len 0 48) in
    omega (arith, length-prefix_len has_sectors pairs, prefix_len-le-length has_sectors pairs, length-map-range_with_len (segment_field descriptor) 0 48)

-- a descriptor can describe what it does describe, if its segments have room for its size
described : (disk : ℕ → List ℕ) (n : ℕ) → has_room (segments_field (disk n)) (size_field (disk n)) ≡ true → IsDescribable (file_at disk n)
described disk n room =
    let size : length (file_at disk n).contents ≤ size_field (disk n) = omega (arith, length-take (size_field (disk n)) (segment_bytes disk (segments_field (disk n)))) in
    let most : size_field (disk n) ≤ 256 * length (sectors_of (segments_field (disk n))) = leb-true (size_field (disk n)) (256 * length (sectors_of (segments_field (disk n)))) room in
    record {
      room =
          le-leb (length (file_at disk n).contents) (256 * length (sectors_of (segments_field (disk n)))) (omega (arith, size, most));
      few = few-segments (disk n);
    }

pub image-order : (image : List ℕ) (v : DiskVolume) → Vol image v → IsInOrder v
image-order image v vol =
    let root = root_file (image_geometry image) (sector image) v vol.sound in
    record {
      files = held;
      root = root.0;
      there = ap (λ (g : Geometry). v.files g.root) (shape-image image v vol) ∙ root.1;
      directory = vol.sound.tree.root root.0 root.1;
    }
  where
    held : (n : ℕ) (file : DiskFile) → v.files n ≡ Some file → IsDescribable file
    held n file is =
        let shown : file ≡ file_at (sector image) n = vol.sound.shows.shown n file is in
        subst IsDescribable (sym shown)
        (described (sector image) n (subst (λ (file : DiskFile). has_room file.segments (size_field (sector image n)) ≡ true) shown (vol.sound.shows.room n file is)))

-- so are those with which a machine starts
pub first-order : (images : List (List ℕ)) (volumes : List DiskVolume) (drives : List DriveState) → AllZip Vol images volumes → AreInOrder (first_files volumes drives)
first-order images volumes drives mounted drive v is =
    let of = image-of images volumes (length drives - length volumes) drive v mounted is in image-order of.0 v of.1

pub start-order : (boot : Boot) (s : State) → Starts boot s → AreInOrder s.files
start-order boot s starts =
    subst (λ (s : State). AreInOrder s.files) (sym starts.is)
    (subst AreInOrder (sym starts.mounted.is) (first-order boot.images starts.mounted.volumes boot.drives starts.mounted.mounted))
