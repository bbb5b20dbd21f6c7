-- A sector of a file that is laid over, by the laws.
use Rattle.std.proofs.Common.{◌≡◌, ℕ, ◌+◌, ◌-◌, ◌*◌, ◌/◌, ◌<◌, ◌≤◌, Bool, true, false, ◌==◌, Option, Some, List, ◌++◌, length, take, drop, get_or, refl, sym, ap, ◌∙◌, subst, inr, ⊎_elim, arith, eq-eqb, eqb-true, length-append, length-take}
use Rattle.std.specs.Prelude.{if◌then◌else◌, flat_map}
use mathlib.Core.Path.{fun_ext}
use Rattle.std.proofs.Math.Nat.{mul-le-mul_left}
use Rattle.std.proofs.lemmas.Bool.{both_ways, false_from_ne_true, cases_lt, cases_eq}
use Rattle.std.proofs.lemmas.Grind.{flat_map-append}
use Rattle.std.proofs.lemmas.List.{get_or_append_left, get_or-append_right, take-append-le, take-take, get_or-take, get_or-drop}
use Rattle.os9_outer.specs.Drive.{sector_count, sector_at, with_sector}
use Rattle.rbf_model.specs.Geometry.{image_geometry, sector}
use Rattle.rbf_model.specs.Segments.{sectors_of, has}
use Rattle.rbf_model.specs.File.{DiskFile, segment_bytes}
use Rattle.rbf_model.specs.Volume.{DiskVolume, Vol}
use Rattle.rbf_model.specs.Writes.{put, put_at, put_sector, put_file, with_file_in_place}
use Rattle.rbf_model.specs.Laws.{IsFileSector, Overwrites, past_size, idle}
use Rattle.rbf_model.proofs.Bytes.{put_beside, joined_put, has_place}
use Rattle.rbf_model.proofs.ImageLaws.{unseen_image, overwrite_image}
use Rattle.rbf_model.proofs.Images.{length-sector}
use Rattle.rbf_model.proofs.Lifted.{sector_put}
use Rattle.rbf_model.proofs.Pieces.{take_put_at}
use Rattle.rbf_model.proofs.Segments.{length-joined, has_left}
use Rattle.rbf_model.proofs.SectorBytes.{sector_of_joined}
use Rattle.rbf_change.specs.Calls.{shape}
use Rattle.rbf_change.proofs.LawfulWrites.{shape-image}
use Rattle.rbf_access.specs.Mounted.{RepresentsVolume}
use Rattle.rbf_access.proofs.Reading.{below_total}
use Rattle.rbf_access.proofs.ReadFile.{contents_are}
use Rattle.rbf_access.proofs.ReadPieces.{full_sector}
use Rattle.rbf_write.specs.Laid.{IsDataOf, IsLaid}

abbrev pub with_contents : DiskFile → List ℕ → DiskFile
with_contents file contents = record file { contents = contents }

-- files of which one has been put in place
pub put_here : (files : ℕ → Option DiskFile) (n : ℕ) (o : Option DiskFile) → put_file files n o n ≡ o
put_here files n o = ap (λ t. if t then o else files n) (eq-eqb n n refl)

pub put_twice : (files : ℕ → Option DiskFile) (n : ℕ) (one other : Option DiskFile) → put_file (put_file files n one) n other ≡ put_file files n other
put_twice files n one other = fun_ext (λ m. twice (m == n) (files m))
  where
    twice : (t : Bool) (o : Option DiskFile) → (if t then other else (if t then one else o)) ≡ (if t then other else o)
    twice true o = refl
    twice false o = refl

pub put_same_file : (files : ℕ → Option DiskFile) (n : ℕ) (file : DiskFile) → files n ≡ Some file → put_file files n (Some file) ≡ files
put_same_file files n file is = fun_ext (λ m. ⊎_elim
    (λ same. ap (put_file files n (Some file)) same ∙ put_here files n (Some file) ∙ sym is ∙ ap files (sym same))
    (λ differ. ap (λ t. if t then Some file else files m) (false_from_ne_true (m == n) (λ h. differ (eqb-true m n h))))
    (cases_eq m n))

module _ (u : DiskVolume) (n : ℕ) (file : DiskFile) (segments : List (ℕ × ℕ)) (size : ℕ) (known : IsDataOf u n file segments size) where
  abbrev xs : List ℕ
  xs = sectors_of segments

  abbrev own : List ℕ
  own = sectors_of file.segments

  pub count : length xs ≡ length own + length known.more
  count = ap length known.sectors_are ∙ length-append own known.more

  -- one sector of the file is written
  module _ (old mid after : Option (List ℕ)) (bytes : List ℕ) (laid : IsLaid u n file segments old mid bytes) (j : ℕ) (low : j < length xs) (piece : List ℕ) (whole : length piece ≡ 256)
      (written : after ≡ with_sector mid (get_or xs j 0) piece) where
    abbrev s : ℕ
    s = get_or xs j 0

    abbrev now : List ℕ
    now = laid.now

    abbrev w : DiskVolume
    w = with_file_in_place u n (with_contents file (take (length file.contents) bytes))

    same_shape : shape u ≡ image_geometry now
    same_shape = shape-image now w laid.vol

    has_s : has xs s ≡ true
    has_s = has_place xs j low

    below : s < (image_geometry now).total
    below = subst (λ g. s < g.total) same_shape (known.below s has_s)

    fits : 256 * (s + 1) ≤ length now
    fits = let b = below in let all = laid.vol.header.fits in let more : 256 * (s + 1) ≤ 256 * (image_geometry now).total = mul-le-mul_left 256 (omega arith) in omega arith

    full : (x : ℕ) → has xs x ≡ true → length (sector now x) ≡ 256
    full x h =
        let b : x < (image_geometry now).total = subst (λ g. x < g.total) same_shape (known.below x h) in
        let all = laid.vol.header.fits in
        let more : 256 * (x + 1) ≤ 256 * (image_geometry now).total = mul-le-mul_left 256 (omega arith) in
        length-sector now x (omega arith)

    all_bytes : length bytes ≡ 256 * length xs
    all_bytes = ap length (sym laid.bytes_are) ∙ length-joined (sector now) xs full

    is_now : w.files n ≡ Some (with_contents file (take (length file.contents) bytes))
    is_now = put_here u.files n (Some (with_contents file (take (length file.contents) bytes)))

    size_all : length (take (length file.contents) bytes) ≡ length file.contents
    size_all =
        let all = all_bytes in
        let own_room = known.room in
        let is = known.size_is in
        let more = count in
        length-take (length file.contents) bytes ∙ omega arith

    at_own : j < length own → IsFileSector w n (with_contents file (take (length file.contents) bytes)) j s
    at_own in_own = record {
      is = is_now;
      within = in_own;
      at = sym (ap (λ ys. get_or ys j 0) known.sectors_are ∙ get_or_append_left own known.more 0 j in_own);
    }

    abbrev put_bytes : List ℕ
    put_bytes = put_at bytes (256 * j) piece

    abbrev volume_of : List ℕ → DiskVolume
    volume_of contents = with_file_in_place u n (with_contents file contents)

    -- below its size the contents change
    seen : 256 * j < length file.contents → Vol (put_sector now s piece) (volume_of (take (length file.contents) put_bytes))
    seen small =
        let all = all_bytes in
        let own_room = known.room in
        let is = known.size_is in
        let more = count in
        let size_is_all = size_all in
        let in_own : j < length own = omega arith in
        let over : Overwrites w n (with_contents file (take (length file.contents) bytes)) j s =
        record { sector = at_own in_own; not_directory = known.not_directory; below = omega arith } in
        let contents : put_at (take (length file.contents) bytes) (256 * j) (take (length (take (length file.contents) bytes) - 256 * j) piece) ≡ take (length file.contents) put_bytes =
        ap (λ k. put_at (take (length file.contents) bytes) (256 * j) (take (k - 256 * j) piece)) size_all
        ∙ sym (take_put_at bytes piece (256 * j) (length file.contents) (omega arith) (omega arith) (omega arith)) in
        subst (λ fs. Vol (put_sector now s piece) (record { ident = u.ident; files = fs; lost = u.lost; rest = u.rest }))
        (put_twice u.files n (Some (with_contents file (take (length file.contents) bytes)))
        (Some (with_contents file (put_at (take (length file.contents) bytes) (256 * j)
        (take (length (take (length file.contents) bytes) - 256 * j) piece))))
        ∙ ap (λ c. put_file u.files n (Some (with_contents file c))) contents)
        (overwrite_image now w laid.vol n j s (with_contents file (take (length file.contents) bytes)) piece whole over)

    -- past it they stay
    unseen_there : length file.contents ≤ 256 * j → Vol (put_sector now s piece) w
    unseen_there past = ⊎_elim
        (λ in_own.
        let size_is_all = size_all in
        let none : length (take (length file.contents) bytes) - 256 * j ≡ 0 = omega arith in
        unseen_image now w laid.vol s piece whole (past_size {n = n} {j = j} {file = with_contents file (take (length file.contents) bytes)} (at_own in_own)
        (ap (λ k. take k piece) none ∙ sym (ap (λ k. take k (sector now s)) none))))
        (λ behind.
        let all = count in
        let there : s ≡ get_or known.more (j - length own) 0 = ap (λ ys. get_or ys j 0) known.sectors_are ∙ get_or-append_right own known.more (length own) j 0 refl behind in
        let has_it : has known.more s ≡ true = subst (λ x. has known.more x ≡ true) (sym there) (has_place known.more (j - length own) (omega arith)) in
        unseen_image now w laid.vol s piece whole (idle (inr (subst (λ g. u.lost (s / g.cluster) ≡ true) same_shape (known.behind s has_it)))))
        (cases_lt j (length own))

    stays : length file.contents ≤ 256 * j → take (length file.contents) put_bytes ≡ take (length file.contents) bytes
    stays past =
        let all = all_bytes in
        let first : length (take (256 * j) bytes) ≡ 256 * j = length-take (256 * j) bytes ∙ omega arith in
        let both = length-append (take (256 * j) bytes) piece in
        take-append-le (length file.contents) (take (256 * j) bytes ++ piece) (drop (256 * j + length piece) bytes) (omega arith)
        ∙ take-append-le (length file.contents) (take (256 * j) bytes) piece (omega arith) ∙ take-take (length file.contents) (256 * j) bytes past

    sectors_then : sector (put_sector now s piece) ≡ put (sector now) s piece
    sectors_then = sector_put now s piece whole fits

    pub laid_then : IsLaid u n file segments old after put_bytes
    laid_then = record {
      image = laid.image;
      now = put_sector now s piece;
      was = laid.was;
      is = written ∙ ap (λ m. with_sector m s piece) laid.is;
      vol = ⊎_elim seen
          (λ past. subst (λ c. Vol (put_sector now s piece) (volume_of c)) (sym (stays past)) (unseen_there past))
          (cases_lt (256 * j) (length file.contents));
      bytes_are = ap (λ (d : ℕ → List ℕ). flat_map d xs) sectors_then ∙ joined_put (sector now) piece xs j known.distinct full whole low ∙ ap (λ b. put_at b (256 * j) piece) laid.bytes_are;
      others = λ t none.
          ap (λ (d : ℕ → List ℕ). d t) sectors_then
          ∙ put_beside (sector now) s piece t (λ same. both_ways (has xs t) none (subst (λ x. has xs x ≡ true) (sym same) has_s)) ∙ laid.others t none;
    }

    -- its bytes before
    pub byte_there : (q : ℕ) → q < 256 → get_or (sector_at mid s) q 0 ≡ get_or bytes (256 * j + q) 0
    byte_there q small =
        ap (λ m. get_or (sector_at m s) q 0) laid.is
        ∙ ap (λ b. get_or b q 0) (sym (sector_of_joined (sector now) xs j full low)) ∙ get_or-take 256 (drop (256 * j) (flat_map (sector now) xs)) q 0 small
        ∙ get_or-drop (256 * j) (flat_map (sector now) xs) q 0 ∙ ap (λ b. get_or b (256 * j + q) 0) laid.bytes_are

    pub length_bytes : length bytes ≡ 256 * length xs
    length_bytes = all_bytes

    pub on_drive : s < sector_count mid
    on_drive = below_total mid w (record { image = now; is = laid.is; vol = laid.vol }) s below

  -- before anything has been written
  pub laid_none : (media : Option (List ℕ)) → RepresentsVolume media u → IsLaid u n file segments media media (segment_bytes (sector_at media) segments)
  laid_none media on =
      let same : segment_bytes (sector_at media) segments ≡ segment_bytes (sector on.image) segments = ap (λ m. segment_bytes (sector_at m) segments) on.is in
      let contents : take (length file.contents) (segment_bytes (sector_at media) segments) ≡ file.contents =
      ap (λ ys. take (length file.contents) (flat_map (sector_at media) ys)) known.sectors_are
      ∙ ap (take (length file.contents)) (flat_map-append (sector_at media) own known.more)
      ∙ take-append-le (length file.contents) (flat_map (sector_at media) own) (flat_map (sector_at media) known.more)
      (let size = length-joined (sector_at media) own (own_full media on) in let room = known.room in let is = known.size_is in omega arith)
      ∙ sym (contents_are media u on n file known.is) in
      record {
        image = on.image;
        now = on.image;
        was = on.is;
        is = on.is;
        vol = subst (λ fs. Vol on.image (record { ident = u.ident; files = fs; lost = u.lost; rest = u.rest }))
            (sym (ap (λ c. put_file u.files n (Some (with_contents file c))) contents ∙ put_same_file u.files n file known.is)) on.vol;
        bytes_are = sym same;
        others = λ s none. refl;
      }
    where
      own_full : (media : Option (List ℕ)) → (on : RepresentsVolume media u) → (x : ℕ) → has own x ≡ true → length (sector_at media x) ≡ 256
      own_full media on x h =
          let there : has xs x ≡ true = subst (λ ys. has ys x ≡ true) (sym known.sectors_are) (has_left own known.more x h) in
          full_sector media x (below_total media u on x (subst (λ g. x < g.total) (shape-image on.image u on.vol) (known.below x there)))

  -- all of the sectors are whole
  pub all_of_none : (media : Option (List ℕ)) → RepresentsVolume media u → length (segment_bytes (sector_at media) segments) ≡ 256 * length xs
  all_of_none media on = length-joined (sector_at media) xs (λ x h. full_sector media x (below_total media u on x (subst (λ g. x < g.total) (shape-image on.image u on.vol) (known.below x h))))

  -- and on the drive, whatever has been written
  pub on_drive_at : (old mid : Option (List ℕ)) (bytes : List ℕ) → IsLaid u n file segments old mid bytes → (j : ℕ) → j < length xs → get_or xs j 0 < sector_count mid
  on_drive_at old mid bytes laid j low =
      let w = with_file_in_place u n (with_contents file (take (length file.contents) bytes)) in
      below_total mid w (record { image = laid.now; is = laid.is; vol = laid.vol }) (get_or xs j 0)
      (subst (λ g. get_or xs j 0 < g.total) (shape-image laid.now w laid.vol) (known.below (get_or xs j 0) (has_place xs j low)))
