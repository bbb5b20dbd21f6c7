-- What the descriptors and LSN 0 say.
use Rattle.std.proofs.Common.{◌≡◌, ℕ, ltb, ◌^◌, ◌+◌, ◌*◌, ◌<◌, ◌≤◌, ◌==◌, Bool, true, false, not, List, [], ◌∷◌, ◌++◌, length, take, map, refl, ap, ◌∙◌, arith}
use Rattle.std.specs.Prelude.{flat_map, take_while}
use Rattle.std.specs.List.{range_with_len}
use Rattle.std.proofs.lemmas.Bool.{ne_eqb}
use Rattle.std.proofs.lemmas.List.{append-nil, take_at}
use Rattle.rbf_change.specs.Contents.{sector_count}
use Rattle.rbf_model.specs.Fields.{segment_field, segments_field, has_sectors, size_field, directory_entry, is_used, boot_field, boot_size_field}
use Rattle.rbf_model.specs.File.{file_at, file_from, segment_bytes}
use Rattle.rbf_model.specs.Space.{is_marked}
use Rattle.rbf_model.specs.Geometry.{Geometry, geometry, sector, image_geometry}
use Rattle.rbf_model.specs.Tree.{dot, dot_dot, IsEntry}
use Rattle.guest_mods.specs.BootDisk.{sector_with, used_sectors, ident_front, root_front, root_entries, file_front, boot_image, root_directory, boot_entry}
use Rattle.guest_mods.proofs.Marks.{marked-are}
use Rattle.guest_mods.proofs.Parts.{sector-0, sector-3, sector-4, sector-5, file-joined, length-root_entries}

-- ---- a list of one segment
stop : (p : ℕ × ℕ → Bool) (x y : ℕ × ℕ) (rest : List (ℕ × ℕ)) → p x ≡ true → p y ≡ false → take_while p (x ∷ y ∷ rest) ≡ x ∷ []
stop p x y rest passes fails = simp (passes, fails)

one-segment : (d : List ℕ) (segment : ℕ × ℕ) → segment_field d 0 ≡ segment → has_sectors (segment_field d 0) ≡ true → has_sectors (segment_field d 1) ≡ false → segments_field d ≡ segment ∷ []
unfolding segments_field
one-segment d segment is some none =
    stop has_sectors (segment_field d 0) (segment_field d 1) (map (segment_field d) (range_with_len 2 46)) some none ∙ ap (λ s. s ∷ []) is

some-sectors : (count : ℕ) → 1 ≤ count → not (count == 0) ≡ true
some-sectors count some = ap not (ne_eqb count 0 (λ same. omega arith))

-- ---- LSN 0
abbrev pub boot_geometry : Geometry
boot_geometry = record { total = 4096; map_bytes = 512; cluster = 1; root = 3 }

ident-geometry : (size : ℕ) → geometry (sector_with (ident_front size)) ≡ boot_geometry
unfolding sector_with
ident-geometry size = refl

ident-boot : (size : ℕ) → boot_field (sector_with (ident_front size)) ≡ 6
unfolding sector_with
ident-boot size = refl

ident-boot_size : (size : ℕ) → boot_size_field (sector_with (ident_front size)) ≡ size
unfolding sector_with
ident-boot_size size = omega arith

-- ---- the root
root-segments : segments_field (sector_with root_front) ≡ (4, 1) ∷ []
unfolding sector_with
root-segments = one-segment (sector_with root_front) (4, 1) refl refl refl

pub root-size-field : size_field (sector_with root_front) ≡ 96
unfolding sector_with
root-size-field = refl

entries-there : take 96 (sector_with root_entries ++ []) ≡ root_entries
unfolding sector_with
entries-there = ap (take 96) (append-nil (sector_with root_entries)) ∙ take_at root_entries _ 96 length-root_entries

root-from : (disk : ℕ → List ℕ) → disk 4 ≡ sector_with root_entries → file_from disk (sector_with root_front) ≡ root_directory
unfolding sector_with
root-from disk entries =
    let contents : take 96 (segment_bytes disk (segments_field (sector_with root_front))) ≡ root_entries =
    ap (λ segments. take 96 (segment_bytes disk segments)) root-segments ∙ ap (λ d. take 96 (d ++ [])) entries ∙ entries-there in
    λ i. record {
      attributes = 191;
      owner = 0;
      modified = root_directory.modified;
      links = 1;
      created = root_directory.created;
      segments = root-segments i;
      contents = contents i;
    }

-- ---- the file
file-segments : (size : ℕ) → 1 ≤ size → segments_field (sector_with (file_front size)) ≡ (6, sector_count size) ∷ []
unfolding sector_with
file-segments size some =
    let count : 0 * 256 ^ 1 + (sector_count size * 256 ^ 0 + 0) ≡ sector_count size = omega arith in
    one-segment (sector_with (file_front size)) (6, sector_count size) (λ i. (6, count i))
    (ap (λ n. not (n == 0)) count ∙ some-sectors (sector_count size) (omega arith)) refl

pub file-size-field : (size : ℕ) → size_field (sector_with (file_front size)) ≡ size
unfolding sector_with
file-size-field size = omega arith

file-from : (disk : ℕ → List ℕ) (file : List ℕ) → 1 ≤ length file → take (length file) (flat_map disk (range_with_len 6 (sector_count (length file)))) ≡ file
    → file_from disk (sector_with (file_front (length file))) ≡ boot_entry file
unfolding sector_with
file-from disk file some there =
    let segments = file-segments (length file) some in
    let contents : take (size_field (sector_with (file_front (length file)))) (segment_bytes disk (segments_field (sector_with (file_front (length file))))) ≡ file =
    ap (λ n. take n (segment_bytes disk (segments_field (sector_with (file_front (length file)))))) (file-size-field (length file))
    ∙ ap (λ s. take (length file) (segment_bytes disk s)) segments
    ∙ ap (λ sectors. take (length file) (flat_map disk sectors)) (append-nil (range_with_len 6 (sector_count (length file))))
    ∙ there in
    λ i. record {
      attributes = 3;
      owner = 0;
      modified = (boot_entry file).modified;
      links = 1;
      created = (boot_entry file).created;
      segments = segments i;
      contents = contents i;
    }

-- ---- the entries
pub first-entry : IsEntry (directory_entry root_entries 0) dot_dot 3
unfolding root_entries
first-entry = record { name_is = refl; descriptor = refl }

pub second-entry : IsEntry (directory_entry root_entries 1) dot 3
unfolding root_entries
second-entry = record { name_is = refl; descriptor = refl }

-- the name `OS9Boot`
abbrev pub boot_name : List ℕ
boot_name = 79 ∷ 83 ∷ 57 ∷ 66 ∷ 111 ∷ 111 ∷ 116 ∷ []

pub third-entry : IsEntry (directory_entry root_entries 2) boot_name 5
unfolding root_entries
third-entry = record { name_is = refl; descriptor = refl }

pub third-used : is_used (directory_entry root_entries 2) ≡ true
unfolding root_entries
third-used = refl

-- ---- on the image
-- what the rules read of a disk with a boot file
pub record HasParts (disk : ℕ → List ℕ) (file : List ℕ) : Type 0 where
  pub root : file_at disk 3 ≡ root_directory
  pub root_size : size_field (disk 3) ≡ 96
  pub entry : file_at disk 5 ≡ boot_entry file
  pub size : size_field (disk 5) ≡ length file
  pub some : 1 ≤ length file
  pub short : length file ≤ 57344
  pub marks : (c : ℕ) → c < 4096 → is_marked disk c ≡ ltb c (used_sectors (length file))

module _ (file : List ℕ) (some : 1 ≤ length file) (short : length file ≤ 57344) where
  abbrev image : List ℕ
  image = boot_image file

  pub image-geometry : image_geometry image ≡ boot_geometry
  image-geometry = ap geometry (sector-0 file short) ∙ ident-geometry (length file)

  pub image-boot : boot_field (sector image 0) ≡ 6
  image-boot = ap boot_field (sector-0 file short) ∙ ident-boot (length file)

  pub image-boot_size : boot_size_field (sector image 0) ≡ length file
  image-boot_size = ap boot_size_field (sector-0 file short) ∙ ident-boot_size (length file)

  pub has-parts : HasParts (sector image) file
  has-parts = record {
    root = ap (file_from (sector image)) (sector-3 file short) ∙ root-from (sector image) (sector-4 file short);
    root_size = ap size_field (sector-3 file short) ∙ root-size-field;
    entry = ap (file_from (sector image)) (sector-5 file short) ∙ file-from (sector image) file some (file-joined file short);
    size = ap size_field (sector-5 file short) ∙ file-size-field (length file);
    some = some;
    short = short;
    marks = marked-are file short;
  }
