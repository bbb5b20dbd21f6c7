-- The entries of a directory that can be searched.
use Rattle.std.proofs.Common.{◌≡◌, ℕ, ◌+◌, ◌*◌, ◌/◌, ◌%◌, ◌<◌, ◌≤◌, Bool, true, false, List, [], length, take, drop, get_or, Some, refl, sym, ap, ◌∙◌, ⊎_elim, arith, leb, eqb, leb-true, ◌==◌, ◌&&◌, if◌then◌else◌}
use Rattle.std.specs.List.{list_all, slice_get}
use Rattle.std.specs.Int.{bit_at}
use Rattle.std.proofs.lemmas.Bool.Decides.{nat_tests}
use Rattle.std.proofs.lemmas.Bool.{and_parts, cond-true, cond-false, cases_Bool, false≢true}
use Rattle.std.proofs.lemmas.List.Sums.{AllPass-from_list_all}
use Rattle.std.proofs.lemmas.Option.{slice_get-get_or}
use Rattle.rbf_model.specs.Disk.{disk_of, IsDisk}
use Rattle.rbf_model.specs.Fields.{attributes_field, directory_entry, size_field, segments_field}
use Rattle.rbf_model.specs.Geometry.{Geometry, geometry, sector, LieWithin, is_within}
use Rattle.rbf_model.specs.File.{file_at, segment_bytes, is_directory, is_directory_size, has_room}
use Rattle.rbf_model.specs.Search.{is_searchable, searchable_bytes}
use Rattle.rbf_model.specs.Segments.{sectors_of, has}
use Rattle.rbf_sector_rules.specs.declared.directory.Directory.{Directory}
use Rattle.rbf_sector.specs.Ident.{geometry_of}
use Rattle.rbf_sector_rules.specs.declared.image.IdentifiedImage.{IdentifiedImage}
use Rattle.rbf_sector_rules.specs.Reading.{IsDirectory}
use Rattle.rbf_sector_rules.proofs.Headers.{is_disk_of}
use Rattle.rbf_model.proofs.Segments.{sectors_within, length-contents}
use Rattle.rbf_model.proofs.SectorBytes.{entry_in_take, piece_of_piece, sector_of_joined}
use Rattle.rbf_model.proofs.Bytes.{has_place}

pub four_parts : (a b c d : Bool) → (a && b && c && d) ≡ true → (a ≡ true) × (b ≡ true) × (c ≡ true) × (d ≡ true)
four_parts true true true true h = (refl, refl, refl, refl)
four_parts true true true false h = absurd (false≢true h)
four_parts true true false d h = absurd (false≢true h)
four_parts true false c d h = absurd (false≢true h)
four_parts false b c d h = absurd (false≢true h)

-- what a search of descriptor n finds
module _ (g : Geometry) (disk : ℕ → List ℕ) (n : ℕ) (sectors : IsDisk (disk_of g disk)) where
  segments : List (ℕ × ℕ)
  segments = segments_field (disk n)

  parts : is_searchable (disk_of g disk) n ≡ true → (is_directory (file_at disk n) ≡ true) ×
      (list_all (is_within g) (segments_field (disk n)) ≡ true) × (has_room (segments_field (disk n))
      (size_field (disk n)) ≡ true) × (is_directory_size (size_field (disk n)) ≡ true)
  parts searches = four_parts _ _ _ _ searches

  listing_is : is_searchable (disk_of g disk) n ≡ true → searchable_bytes (disk_of g disk) n ≡ (file_at disk n).contents
  listing_is searches = cond-true (is_searchable (disk_of g disk) n) (file_at disk n).contents [] searches

  none_is : is_searchable (disk_of g disk) n ≡ false → searchable_bytes (disk_of g disk) n ≡ []
  none_is fails = cond-false (is_searchable (disk_of g disk) n) (file_at disk n).contents [] fails

  length_is : is_searchable (disk_of g disk) n ≡ true → length (searchable_bytes (disk_of g disk) n) ≡ size_field (disk n)
  length_is searches =
      let p = parts searches in
      ap length (listing_is searches) ∙ length-contents g disk (segments_field (disk n)) (size_field (disk n)) sectors (AllPass-from_list_all (is_within g) (segments_field (disk n)) p.1) p.2

  pub length-searched : length (searchable_bytes (disk_of g disk) n) ≡ (if is_searchable (disk_of g disk) n then size_field (disk n) else 0)
  length-searched = ⊎_elim
      (λ searches. length_is searches ∙ sym (cond-true (is_searchable (disk_of g disk) n) (size_field (disk n)) 0 searches))
      (λ fails. ap length (none_is fails) ∙ sym (cond-false (is_searchable (disk_of g disk) n) (size_field (disk n)) 0 fails))
      (cases_Bool (is_searchable (disk_of g disk) n))

  module _ (i : ℕ) (within : 32 * (i + 1) ≤ length (searchable_bytes (disk_of g disk) n)) where
    searches : is_searchable (disk_of g disk) n ≡ true
    searches =
        ⊎_elim (λ t. t) (λ fails. absurd (omega (arith, ap length (none_is fails)))) (cases_Bool (is_searchable (disk_of g disk) n))

    lie : LieWithin g (segments_field (disk n))
    lie = AllPass-from_list_all (is_within g) (segments_field (disk n)) (parts searches).1

    below : 32 * (i + 1) ≤ size_field (disk n)
    below = omega (arith, length_is searches)

    pub in_sectors : i / 8 < length (sectors_of (segments_field (disk n)))
    in_sectors =
        omega (arith, below, leb-true (size_field (disk n)) (256 * length (sectors_of (segments_field (disk n)))) (parts searches).2)

    pub in_volume : get_or (sectors_of (segments_field (disk n))) (i / 8) 0 < g.total
    in_volume =
        let s = get_or (sectors_of (segments_field (disk n))) (i / 8) 0 in
        (sectors_within g (segments_field (disk n)) lie s (has_place (sectors_of (segments_field (disk n))) (i / 8) in_sectors)).1

    full : (x : ℕ) → has (sectors_of (segments_field (disk n))) x ≡ true → length (disk x) ≡ 256
    full x h = sectors x (sectors_within g (segments_field (disk n)) lie x h).1

    pub entry_in_sector : directory_entry (searchable_bytes (disk_of g disk) n) i ≡ directory_entry (disk (get_or (sectors_of (segments_field (disk n))) (i / 8) 0)) (i % 8)
    entry_in_sector =
        let bytes = segment_bytes disk (segments_field (disk n)) in
        let place : 256 * (i / 8) + 32 * (i % 8) ≡ 32 * i = omega arith in
        ap (λ c. directory_entry c i) (listing_is searches) ∙ entry_in_take bytes (size_field (disk n)) i below
        ∙ ap (λ k. take 32 (drop k bytes)) (sym place)
        ∙ sym (piece_of_piece bytes 256 32 (i / 8) (i % 8) (omega arith))
        ∙ ap (λ b. directory_entry b (i % 8)) (sector_of_joined disk (sectors_of (segments_field (disk n))) (i / 8) full in_sectors)

-- an entry of a sector of an image
pub entry_in_image : (image : List ℕ) (s q : ℕ) → q < 8 → directory_entry (sector image s) q ≡ take 32 (drop (256 * s + 32 * q) image)
entry_in_image image s q low = piece_of_piece image 256 32 s q (omega arith)

-- a descriptor can be searched as its fields say
pub searched_by_fields : (g : Geometry) (disk : ℕ → List ℕ) (n attr size : ℕ) (segs : List (ℕ × ℕ))
    → attr ≡ attributes_field (disk n) → segs ≡ segments_field (disk n) → size ≡ size_field (disk n)
    → ((bit_at attr 7 == 1) && list_all (is_within g) segs && has_room segs size && is_directory_size size) ≡
    is_searchable (disk_of g disk) n
searched_by_fields g disk n attr size segs attributes segments sized =
    ap (λ a. (bit_at a 7 == 1) && list_all (is_within g) segs && has_room segs size && is_directory_size size) attributes
    ∙ ap (λ s. (bit_at (attributes_field (disk n)) 7 == 1) && list_all (is_within g) s && has_room s size && is_directory_size size) segments
    ∙ ap (λ z. (bit_at (attributes_field (disk n)) 7 == 1) && list_all (is_within g) (segments_field (disk n)) && has_room (segments_field (disk n)) z && is_directory_size z) sized

eqb-zero : (m : ℕ) → eqb m 0 ≡ true → m ≡ 0
eqb-zero m h = grind (arith, nat_tests)

-- a directory's size is that of its entries
pub whole_entries : (size : ℕ) → is_directory_size size ≡ true → 32 * (size / 32) ≡ size
whole_entries size fits = omega (arith, eqb-zero (size % 32) (and_parts (leb 64 size) (eqb (size % 32) 0) fits).1)

-- where an entry of a directory stands in the image
module _ (image : IdentifiedImage) (dir : Directory) (i : ℕ) (is : IsDirectory image dir) (below : i < dir.entries) where
  sectors_whole : IsDisk (disk_of (geometry_of image.ident) (sector image.bytes.now))
  sectors_whole = is_disk_of image

  has_entry : 32 * (i + 1) ≤ length (searchable_bytes (disk_of (geometry_of image.ident) (sector image.bytes.now)) dir.number)
  has_entry = omega (arith, is.entries)

  at_sectors : i / 8 < length (sectors_of (segments_field (sector image.bytes.now dir.number)))
  at_sectors = in_sectors (geometry_of image.ident) (sector image.bytes.now) dir.number sectors_whole i has_entry

  pub lsn_found : slice_get (sectors_of dir.segs) (i / 8) ≡ Some (get_or (sectors_of (segments_field (sector image.bytes.now dir.number))) (i / 8) 0)
  lsn_found =
      ap (λ s. slice_get (sectors_of s) (i / 8)) is.segments ∙ slice_get-get_or (sectors_of (segments_field (sector image.bytes.now dir.number))) (i / 8) 0 at_sectors

  pub entry_fits : 256 * get_or (sectors_of (segments_field (sector image.bytes.now dir.number))) (i / 8) 0 + 32 * (i % 8) + 32 ≤ length image.bytes.now
  entry_fits =
      let total : (geometry (sector image.bytes.now 0)).total ≡ image.ident.total = ap (λ (g : Geometry). g.total) image.identified.geometry in
      omega (arith, in_volume (geometry_of image.ident) (sector image.bytes.now) dir.number sectors_whole i has_entry, image.identified.header.fits, total)

  pub entry_found : directory_entry (searchable_bytes (disk_of (geometry_of image.ident) (sector image.bytes.now))
      dir.number) i ≡ take 32 (drop (256 * get_or (sectors_of (segments_field (sector image.bytes.now dir.number)))
      (i / 8) 0 + 32 * (i % 8)) image.bytes.now)
  entry_found =
      entry_in_sector (geometry_of image.ident) (sector image.bytes.now) dir.number sectors_whole i has_entry ∙
      entry_in_image image.bytes.now (get_or (sectors_of (segments_field (sector image.bytes.now dir.number)))
      (i / 8) 0) (i % 8) (omega arith)

-- a descriptor that is read is a directory of as many entries as its fields say
pub directory_read : (image : IdentifiedImage) (n attr size entries : ℕ) (segs : List (ℕ × ℕ)) → n < image.ident.total
    → attr ≡ attributes_field (sector image.bytes.now n) → segs ≡ segments_field (sector image.bytes.now n)
    → size ≡ size_field (sector image.bytes.now n) → 32 * entries ≡ (if (bit_at attr 7 == 1) && list_all
    (is_within (geometry_of image.ident)) segs && has_room segs size && is_directory_size size then size else 0)
    → IsDirectory image (record { number = n; segs = segs; entries = entries })
directory_read image n attr size entries segs low attributes segments sized counted =
    let test = searched_by_fields (geometry_of image.ident) (sector image.bytes.now) n attr size segs attributes segments sized in
    record {
      number = low;
      segments = segments;
      entries = counted ∙ ap (λ t. if t then size else 0) test ∙ ap
          (λ z. if is_searchable (disk_of (geometry_of image.ident) (sector image.bytes.now)) n then z else 0) sized ∙
          sym (length-searched (geometry_of image.ident) (sector image.bytes.now) n (is_disk_of image));
    }
