-- The positions of a directory's entries.
use Rattle.std.proofs.Common.{◌≡◌, ℕ, zero, suc, ◌+◌, ◌-◌, ◌*◌, ◌/◌, ◌%◌, ◌<◌, ◌≤◌, true, List, [], ◌∷◌, ◌++◌, All, length, take, drop, get_or, min, sym, ap, ◌∙◌, subst, refl, ⊎_elim, arith, length-append}
use Rattle.std.specs.List.{range_with_len}
use Rattle.std.proofs.lemmas.Bool.{cases_lt}
use Rattle.std.proofs.lemmas.List.{get_or_append_left, get_or-append_right, get_or-take, get_or_default, length-take-le, take_more, take-append-drop, take-append-le, append-nil, get_or_push, length_push}
use Rattle.std.proofs.lemmas.List.FromFn.{length-range_with_len, get_or-range_with_len}
use Rattle.std.proofs.lemmas.Grind.{flat_map-append}
use Rattle.rbf_model.specs.Fields.{directory_entry, segments_field}
use Rattle.rbf_model.specs.Geometry.{Geometry, sector}
use Rattle.rbf_model.specs.Segments.{segment_sectors, sectors_of, has}
use Rattle.rbf_model.proofs.Bytes.{place_of}
use Rattle.rbf_model.proofs.Pieces.{take_append}
use Rattle.rbf_sector_rules.specs.declared.directory.Directory.{Directory}
use Rattle.rbf_sector.specs.Ident.{geometry_of}
use Rattle.rbf_sector_rules.specs.declared.image.IdentifiedImage.{IdentifiedImage}
use Rattle.rbf_sector_rules.specs.Reading.{IsDirectory, listed}
use Rattle.rbf_sector_rules.specs.Positions.{entry_at_position, positions_in, segment_positions}
use Rattle.rbf_sector_rules.proofs.Runs.{runs_within}
use Rattle.rbf_sector_rules.proofs.Headers.{is_disk_of}
use Rattle.rbf_sector_rules.proofs.Searched.{in_sectors, in_volume, entry_in_sector}

-- the positions of sectors: how many they are, and which
length-segment_positions : (segments : List (ℕ × ℕ)) → length (segment_positions segments) ≡ 8 * length (sectors_of segments)
length-segment_positions [] = refl
length-segment_positions (s ∷ segments) =
    let positions = range_with_len (8 * s.0) (8 * s.1) in
    omega (
      arith,
      length-append positions (segment_positions segments),
      length-range_with_len (8 * s.0) (8 * s.1),
      length-append (segment_sectors s) (sectors_of segments),
      length-range_with_len s.0 s.1,
      length-segment_positions segments,
    )

position_at : (segments : List (ℕ × ℕ)) (i : ℕ) → i < 8 * length (sectors_of segments) → get_or (segment_positions segments) i 0 ≡ 8 * get_or (sectors_of segments) (i / 8) 0 + i % 8
position_at [] i low = absurd (omega arith)
position_at (s ∷ segments) i low =
    let positions = range_with_len (8 * s.0) (8 * s.1) in
    let count = length-range_with_len (8 * s.0) (8 * s.1) in
    let sectors = length-range_with_len s.0 s.1 in
    ⊎_elim
    (λ here.
    let sector_here : i / 8 < s.1 = omega arith in
    let left = get_or_append_left positions (segment_positions segments) 0 i (omega arith) in
    let right = get_or_append_left (segment_sectors s) (sectors_of segments) 0 (i / 8) (omega arith) in
    let one = get_or-range_with_len (8 * s.0) (8 * s.1) i 0 here in
    let other = get_or-range_with_len s.0 s.1 (i / 8) 0 sector_here in
    left ∙ one ∙ (let same : 8 * s.0 + i ≡ 8 * (s.0 + i / 8) + i % 8 = omega arith in same) ∙ ap (λ x. 8 * x + i % 8) (sym (right ∙ other)))
    (λ later.
    let left = get_or-append_right positions (segment_positions segments) (8 * s.1) i 0 count later in
    let right = get_or-append_right (segment_sectors s) (sectors_of segments) s.1 (i / 8) 0 sectors (omega arith) in
    let low_there : i - 8 * s.1 < 8 * length (sectors_of segments) = omega (arith, length-append (segment_sectors s) (sectors_of segments)) in
    let quotient : (i - 8 * s.1) / 8 ≡ i / 8 - s.1 = omega arith in
    let rest : (i - 8 * s.1) % 8 ≡ i % 8 = omega arith in
    left ∙ position_at segments (i - 8 * s.1) low_there ∙ ap (λ q. 8 * get_or (sectors_of segments) q 0 + (i - 8 * s.1) % 8) quotient
    ∙ ap (λ r. 8 * get_or (sectors_of segments) (i / 8 - s.1) 0 + r) rest ∙ ap (λ x. 8 * x + i % 8) (sym right))
    (cases_lt i (8 * s.1))

-- the first numbers of a range
take_range : (a n k : ℕ) → take k (range_with_len a n) ≡ range_with_len a (min k n)
take_range a n zero = let none : min 0 n ≡ 0 = omega arith in ap (range_with_len a) (sym none)
take_range a zero (suc k) = let none : min (suc k) 0 ≡ 0 = omega arith in ap (range_with_len a) (sym none)
take_range a (suc n) (suc k) =
    let count : suc (min k n) ≡ min (suc k) (suc n) = omega arith in
    ap (λ xs. a ∷ xs) (take_range (a + 1) n k) ∙ ap (range_with_len a) count

take_none : (n : ℕ) → take {A = ℕ} n [] ≡ []
take_none zero = refl
take_none (suc n) = refl

-- what is listed when the first i segments have been gone over
pub record AreListed (entries : ℕ) (segments runs : List (ℕ × ℕ)) (i left : ℕ) : Type 0 where
  pub positions : positions_in runs ≡ take entries (segment_positions (take i segments))
  pub rest : left ≡ entries - length (segment_positions (take i segments))
  pub some : All (λ r. 1 ≤ r.1) runs

module _ (entries : ℕ) (segments : List (ℕ × ℕ)) where
  pub listed_none : (runs : List (ℕ × ℕ)) → runs ≡ [] → AreListed entries segments runs 0 entries
  listed_none runs none =
      let P : List (ℕ × ℕ) → Type 0 = λ rs. AreListed entries segments rs 0 entries in
      subst P (sym none) (record { positions = sym (take_none entries); rest = omega arith; some = λ k d low. absurd (omega arith) })

  module _ (runs : List (ℕ × ℕ)) (i left : ℕ) (before : AreListed entries segments runs i left) where
    pub listed_more : (new : List (ℕ × ℕ)) (pair : ℕ × ℕ) (count : ℕ) → i < length segments → 1 ≤ left → 1 ≤ pair.1
        → get_or segments i (0, 0) ≡ pair → count ≡ min left (8 * pair.1) → new ≡ runs ++ (8 * pair.0, count) ∷ []
        → AreListed entries segments new (i + 1) (left - count)
    listed_more new pair count low some_left some_sectors at counted is =
        let done = segment_positions (take i segments) in
        let positions = range_with_len (8 * pair.0) (8 * pair.1) in
        let front : take (i + 1) segments ≡ take i segments ++ pair ∷ [] = take_more segments i (0, 0) low ∙ ap (λ r. take i segments ++ r ∷ []) at in
        let all : segment_positions (take (i + 1) segments) ≡ done ++ positions =
        ap segment_positions front ∙ flat_map-append (λ (segment : ℕ × ℕ). range_with_len (8 * segment.0)
        (8 * segment.1)) (take i segments) (pair ∷ []) ∙ ap (λ xs. done ++ xs) (append-nil positions) in
        let rest = before.rest in
        let last : positions_in ((8 * pair.0, count) ∷ []) ≡ take (entries - length done) positions =
        append-nil (range_with_len (8 * pair.0) count) ∙ ap (range_with_len (8 * pair.0)) counted ∙ sym (take_range (8 * pair.0) (8 * pair.1) left) ∙ ap (λ n. take n positions) rest in
        record {
          positions = ap positions_in is ∙ flat_map-append segment_sectors runs ((8 * pair.0, count) ∷ []) ∙ ap (λ xs. xs ++ positions_in ((8 * pair.0, count) ∷ [])) before.positions
              ∙ ap (λ xs. take entries done ++ xs) last ∙ sym (take_append entries done positions) ∙ ap (take entries) (sym all);
          rest = omega (arith, ap length all, length-append done positions, length-range_with_len (8 * pair.0) (8 * pair.1));
          some = λ k d place. ⊎_elim
              (λ earlier. let same : get_or new k d ≡ get_or runs k d = ap (λ rs. get_or rs k d) is ∙
              get_or_append_left runs ((8 * pair.0, count) ∷ []) d k earlier in let kept = before.some k d earlier
              in let P : ℕ × ℕ → Type 0 = λ r. 1 ≤ r.1 in subst P (sym same) kept)
              (λ here.
              let size : k < length runs + 1 = omega (arith, ap length is, length_push runs (8 * pair.0, count)) in
              let end : length runs ≡ k = omega arith in
              let same : get_or new k d ≡ (8 * pair.0, count) = ap (λ rs. get_or rs k d) is ∙ get_or_push runs (8 * pair.0, count) d k end in
              let P : ℕ × ℕ → Type 0 = λ r. 1 ≤ r.1 in
              subst P (sym same) (let one : 1 ≤ count = omega arith in one))
              (cases_lt k (length runs));
        }

    -- no entry is left
    pub listed_full : left ≡ 0 → positions_in runs ≡ take entries (segment_positions segments)
    listed_full none =
        let done = segment_positions (take i segments) in
        let rest = before.rest in
        let split : segment_positions segments ≡ done ++ segment_positions (drop i segments) =
        ap segment_positions (sym (take-append-drop i segments)) ∙ flat_map-append (λ (segment : ℕ × ℕ). range_with_len (8 * segment.0) (8 * segment.1)) (take i segments) (drop i segments) in
        before.positions ∙ sym (take-append-le entries done (segment_positions (drop i segments)) (omega arith)) ∙ ap (take entries) (sym split)

-- the positions of the entries of a directory, in order
pub record ArePositions (g : Geometry) (disk : ℕ → List ℕ) (contents : List ℕ) (runs : List (ℕ × ℕ)) : Type 0 where
  pub count : 32 * length (positions_in runs) ≡ length contents
  pub each : (i : ℕ) → i < length (positions_in runs) → directory_entry contents i ≡ entry_at_position disk (get_or (positions_in runs) i 0)
  pub some : All (λ r. 1 ≤ r.1) runs
  pub within : All (λ r. r.0 + r.1 ≤ 8 * g.total) runs

-- such are those that are listed
module _ (image : IdentifiedImage) (dir : Directory) (is : IsDirectory image dir) (runs : List (ℕ × ℕ))
    (listed_are : positions_in runs ≡ take dir.entries (segment_positions dir.segs)) (some : All (λ r. 1 ≤ r.1) runs)
  where
    segments : List (ℕ × ℕ)
    segments = segments_field (sector image.bytes.now dir.number)

    has_entry : (i : ℕ) → i < dir.entries → 32 * (i + 1) ≤ length (listed image dir.number)
    has_entry i low = omega (arith, is.entries)

    entries_fit : dir.entries ≤ 8 * length (sectors_of (segments_field (sector image.bytes.now dir.number)))
    entries_fit = ⊎_elim
        (λ some_entry. omega (arith, in_sectors (geometry_of image.ident) (sector image.bytes.now) dir.number (is_disk_of image) (dir.entries - 1) (has_entry (dir.entries - 1) (omega arith))))
        (λ none. omega arith)
        (cases_lt 0 dir.entries)

    listed_is : positions_in runs ≡ take dir.entries (segment_positions (segments_field (sector image.bytes.now dir.number)))
    listed_is = listed_are ∙ ap (λ s. take dir.entries (segment_positions s)) is.segments

    count : length (positions_in runs) ≡ dir.entries
    count =
        let all = segment_positions (segments_field (sector image.bytes.now dir.number)) in
        ap length listed_is ∙ length-take-le dir.entries all (omega (arith, length-segment_positions (segments_field (sector image.bytes.now dir.number)), entries_fit))

    position_is : (i : ℕ) → i < dir.entries → get_or (positions_in runs) i 0 ≡ 8 * get_or (sectors_of (segments_field (sector image.bytes.now dir.number))) (i / 8) 0 + i % 8
    position_is i low =
        let parts = segments_field (sector image.bytes.now dir.number) in
        ap (λ xs. get_or xs i 0) listed_is ∙ get_or-take dir.entries (segment_positions parts) i 0 low ∙ position_at parts i (omega (arith, entries_fit))

    at_position : (i : ℕ) → i < dir.entries → directory_entry (listed image dir.number) i ≡ entry_at_position (sector image.bytes.now) (get_or (positions_in runs) i 0)
    at_position i low =
        let x = get_or (sectors_of (segments_field (sector image.bytes.now dir.number))) (i / 8) 0 in
        let quotient : (8 * x + i % 8) / 8 ≡ x = omega arith in
        let rest : (8 * x + i % 8) % 8 ≡ i % 8 = omega arith in
        entry_in_sector (geometry_of image.ident) (sector image.bytes.now) dir.number (is_disk_of image) i (has_entry i low)
        ∙ sym (ap (λ e. entry_at_position (sector image.bytes.now) e) (position_is i low) ∙ ap
        (λ q. directory_entry (sector image.bytes.now q) ((8 * x + i % 8) % 8)) quotient ∙ ap
        (λ r. directory_entry (sector image.bytes.now x) r) rest)

    in_image : (t : ℕ) → has (positions_in runs) t ≡ true → t < 8 * image.ident.total
    in_image t h =
        let place = place_of (positions_in runs) t h in
        let low : place.0 < dir.entries = omega (arith, place.1, count) in
        let at : get_or (positions_in runs) place.0 0 ≡ t = get_or_default (positions_in runs) place.0 0 t place.1 ∙ place.2 in
        omega (arith, position_is place.0 low, in_volume (geometry_of image.ident) (sector image.bytes.now) dir.number (is_disk_of image) place.0 (has_entry place.0 low))

    pub positions_are : (same : List (ℕ × ℕ)) → same ≡ runs → ArePositions (geometry_of image.ident) (sector image.bytes.now) (listed image dir.number) same
    positions_are same equal =
        let P : List (ℕ × ℕ) → Type 0 = λ rs. ArePositions (geometry_of image.ident) (sector image.bytes.now) (listed image dir.number) rs in
        subst P (sym equal) (record {
          count = omega (arith, count, is.entries);
          each = λ i low. at_position i (omega (arith, count));
          some = some;
          within = runs_within runs (8 * image.ident.total) some in_image;
        })
