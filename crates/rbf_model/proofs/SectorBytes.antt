-- Where the bytes and entries of a file stand in its sectors.
use Rattle.std.proofs.Common.{◌≡◌, ℕ, zero, suc, ◌+◌, ◌-◌, ◌*◌, ◌/◌, ◌%◌, ◌<◌, ◌≤◌, true, ◌==◌, List, [], ◌∷◌, ◌++◌, length, take, drop, get_or, Some, refl, sym, ap, ◌∙◌, arith, eq-eqb, length-take, take-take, drop-drop}
use Rattle.std.specs.Prelude.{flat_map}
use Rattle.std.proofs.lemmas.Bool.{or_left, or_right}
use Rattle.std.proofs.lemmas.List.{take_at, get_or-take, get_or-drop, drop-take}
use Rattle.std.proofs.Math.Seq.{drop-append-add}
use Rattle.rbf_model.specs.Disk.{disk_of}
use Rattle.rbf_model.specs.Fields.{directory_entry, size_field, segments_field}
use Rattle.rbf_model.specs.Geometry.{Geometry, sector}
use Rattle.rbf_model.specs.Segments.{has, sectors_of}
use Rattle.rbf_model.specs.File.{DiskFile, file_at, segment_bytes}
use Rattle.rbf_model.specs.Space.{map_byte}
use Rattle.rbf_model.specs.Volume.{DiskVolume, Sound}
use Rattle.rbf_model.proofs.Segments.{sectors_within, length-joined}
use Rattle.rbf_model.proofs.Keeps.{segments_are, size_is}
use Rattle.rbf_model.proofs.Pieces.{piece_at}

-- byte i of an image's map
pub map_byte_is : (image : List ℕ) (i : ℕ) → map_byte (sector image) i ≡ get_or image (256 + i) 0
map_byte_is image i =
    let low : i % 256 < 256 = omega arith in
    let place : 256 * (1 + i / 256) + i % 256 ≡ 256 + i = omega arith in
    get_or-take 256 (drop (256 * (1 + i / 256)) image) (i % 256) 0 low ∙ get_or-drop (256 * (1 + i / 256)) image (i % 256) 0 ∙ ap (λ k. get_or image k 0) place

-- a piece of a piece
pub piece_of_piece : (contents : List ℕ) (w small j q : ℕ) → small * q + small ≤ w → take small (drop (small * q) (piece_at w contents j)) ≡ take small (drop (w * j + small * q) contents)
piece_of_piece contents w small j q fits =
    let split : small * q + (w - small * q) ≡ w = omega arith in
    ap (λ k. take small (drop (small * q) (take k (drop (w * j) contents)))) (sym split)
    ∙ ap (take small) (drop-take (small * q) (w - small * q) (drop (w * j) contents))
    ∙ take-take small (w - small * q) (drop (small * q) (drop (w * j) contents)) (omega arith)
    ∙ ap (take small) (drop-drop (small * q) (w * j) contents)

-- an entry within the front of a list
pub entry_in_take : (contents : List ℕ) (size i : ℕ) → 32 * (i + 1) ≤ size → directory_entry (take size contents) i ≡ directory_entry contents i
entry_in_take contents size i fits =
    let split : 32 * i + (size - 32 * i) ≡ size = omega arith in
    ap (λ k. directory_entry (take k contents) i) (sym split) ∙ ap (take 32) (drop-take (32 * i) (size - 32 * i) contents)
    ∙ take-take 32 (size - 32 * i) (drop (32 * i) contents) (omega arith)

-- the sector in place j of sectors that are joined
pub sector_of_joined : (disk : ℕ → List ℕ) (xs : List ℕ) (j : ℕ) → ((x : ℕ) → has xs x ≡ true → length (disk x) ≡ 256) → j < length xs
    → piece_at 256 (flat_map disk xs) j ≡ disk (get_or xs j 0)
sector_of_joined disk [] j full low = absurd (omega arith)
sector_of_joined disk (x ∷ xs) zero full low = take_at (disk x) (flat_map disk xs) 256 (full x (or_left (x == x) (has xs x) (eq-eqb x x refl)))
sector_of_joined disk (x ∷ xs) (suc j) full low =
    let first = full x (or_left (x == x) (has xs x) (eq-eqb x x refl)) in
    let there : 256 * suc j ≡ length (disk x) + 256 * j = omega arith in
    ap (λ k. take 256 (drop k (disk x ++ flat_map disk xs))) there ∙ ap (take 256) (drop-append-add (disk x) (flat_map disk xs) (256 * j))
    ∙ sector_of_joined disk xs j (λ y h. full y (or_right (x == y) (has xs y) h)) (omega arith)

module _ (g : Geometry) (disk : ℕ → List ℕ) (v : DiskVolume) (sound : Sound (disk_of g disk) v) (n : ℕ) (file : DiskFile) (is : v.files n ≡ Some file) where
  is_at : file ≡ file_at disk n
  is_at = sound.shows.shown n file is

  full : (x : ℕ) → has (sectors_of (segments_field (disk n))) x ≡ true → length (disk x) ≡ 256
  full x h = sound.sectors x (sectors_within g (segments_field (disk n)) (segments_are g disk v sound n file is) x h).1

  sectors_are : sectors_of (segments_field (disk n)) ≡ sectors_of file.segments
  sectors_are = ap (λ f. sectors_of f.segments) (sym is_at)

  contents_are : file.contents ≡ take (size_field (disk n)) (segment_bytes disk (segments_field (disk n)))
  contents_are = ap (λ f. f.contents) is_at

  size_are : length file.contents ≡ size_field (disk n)
  size_are = ap length contents_are ∙ size_is g disk v sound n file is

  -- the size is the descriptor's
  pub length_of_file : length file.contents ≡ size_field (disk n)
  length_of_file = size_are

  within_sectors : (k : ℕ) → k < length file.contents → k / 256 < length (sectors_of (segments_field (disk n)))
  within_sectors k low =
      let shorter : length file.contents ≤ 256 * length (sectors_of (segments_field (disk n))) =
      omega (arith, ap length contents_are, length-take (size_field (disk n)) (segment_bytes disk (segments_field (disk n))), length-joined disk (sectors_of (segments_field (disk n))) full) in
      omega arith

  -- a byte of the file
  pub byte_of_file : (k : ℕ) → k < length file.contents → get_or file.contents k 0 ≡ get_or (disk (get_or (sectors_of file.segments) (k / 256) 0)) (k % 256) 0
  byte_of_file k low =
      let place : 256 * (k / 256) + k % 256 ≡ k = omega arith in
      let small : k % 256 < 256 = omega arith in
      let below : k < size_field (disk n) = let size = size_are in omega arith in
      ap (λ c. get_or c k 0) contents_are ∙ get_or-take (size_field (disk n)) (segment_bytes disk (segments_field (disk n))) k 0 below
      ∙ ap (λ i. get_or (segment_bytes disk (segments_field (disk n))) i 0) (sym place)
      ∙ sym (get_or-take 256 (drop (256 * (k / 256)) (segment_bytes disk (segments_field (disk n)))) (k % 256) 0 small
      ∙ get_or-drop (256 * (k / 256)) (segment_bytes disk (segments_field (disk n))) (k % 256) 0)
      ∙ ap (λ b. get_or b (k % 256) 0) (sector_of_joined disk (sectors_of (segments_field (disk n))) (k / 256) full (within_sectors k low))
      ∙ ap (λ xs. get_or (disk (get_or xs (k / 256) 0)) (k % 256) 0) sectors_are

  -- an entry of a directory
  pub entry_of_file : (i : ℕ) → 32 * (i + 1) ≤ length file.contents → directory_entry file.contents i ≡ directory_entry (disk (get_or (sectors_of file.segments) (i / 8) 0)) (i % 8)
  entry_of_file i fits =
      let place : 256 * (i / 8) + 32 * (i % 8) ≡ 32 * i = omega arith in
      let below : 32 * (i + 1) ≤ size_field (disk n) = let size = size_are in omega arith in
      let low : i / 8 < length (sectors_of (segments_field (disk n))) = let w = within_sectors (32 * i) (omega arith) in omega arith in
      ap (λ c. directory_entry c i) contents_are ∙ entry_in_take (segment_bytes disk (segments_field (disk n))) (size_field (disk n)) i below
      ∙ ap (λ k. take 32 (drop k (segment_bytes disk (segments_field (disk n))))) (sym place)
      ∙ sym (piece_of_piece (segment_bytes disk (segments_field (disk n))) 256 32 (i / 8) (i % 8) (omega arith))
      ∙ ap (λ b. directory_entry b (i % 8)) (sector_of_joined disk (sectors_of (segments_field (disk n))) (i / 8) full low)
      ∙ ap (λ xs. directory_entry (disk (get_or xs (i / 8) 0)) (i % 8)) sectors_are
