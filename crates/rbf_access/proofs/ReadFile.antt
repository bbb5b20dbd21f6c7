-- What a file's sectors hold of its bytes, and how many of them a read takes.
use Rattle.std.proofs.Common.{◌≡◌, ℕ, ◌+◌, ◌-◌, ◌*◌, ◌/◌, ◌≤◌, min, Option, Some, None, List, [], ◌++◌, length, take, drop, ap, sym, subst, ◌∙◌, arith, length-take, length-drop, take-take, ⊎_elim, le-leb}
use Rattle.std.specs.Prelude.{if◌then◌else◌}
use Rattle.std.proofs.lemmas.Bool.{cases_lt}
use Rattle.std.proofs.lemmas.List.{drop-take, drop_all, take_all}
use Rattle.os9_outer.specs.Drive.{sector_at}
use Rattle.rbf_model.specs.Fields.{segments_field}
use Rattle.rbf_model.specs.Geometry.{image_geometry, sector}
use Rattle.rbf_model.specs.Segments.{sectors_of}
use Rattle.rbf_model.specs.File.{DiskFile, segment_bytes}
use Rattle.rbf_model.specs.Volume.{DiskVolume}
use Rattle.rbf_model.proofs.Segments.{sectors_within}
use Rattle.rbf_model.proofs.SectorBytes.{length_of_file}
use Rattle.rbf_change.specs.Contents.{bytes_from, sector_span}
use Rattle.rbf_access.specs.Mounted.{RepresentsVolume}
use Rattle.rbf_access.specs.Reading.{AreOnDrive, IsFdOf, filled_buffer}
use Rattle.rbf_sector.specs.declared.fd.Fd.{Fd}
use Rattle.rbf_access.specs.Drive.{DriveCounts, MovesCounts}
use Rattle.rbf_access.proofs.Counting.{counts_then}
use Rattle.rbf_access.proofs.Reading.{below_total}
use Rattle.rbf_access.proofs.ReadPieces.{whole_length}

-- the lesser of two fronts
take_lesser : (one other : ℕ) (xs : List ℕ) → take one (take other xs) ≡ take (min one other) xs
take_lesser one other xs = ⊎_elim
    (λ less. take-take one other xs (omega arith) ∙ ap (λ n. take n xs) (omega arith))
    (λ more. take_all one (take other xs) (omega (arith, length-take other xs)) ∙ ap (λ n. take n xs) (omega arith))
    (cases_lt one other)

-- the bytes from a place on of the first ones
pub bytes_from_front : (whole : List ℕ) (size at room : ℕ) → bytes_from (take size whole) at room ≡ bytes_from whole at (min room (size - at))
bytes_from_front whole size at room = ⊎_elim
    (λ within.
    let split : at + (size - at) ≡ size = omega arith in
    ap (λ n. take room (drop at (take n whole))) (sym split) ∙ ap (take room) (drop-take at (size - at) whole) ∙ take_lesser room (size - at) (drop at whole))
    (λ past.
    let none : min room (size - at) ≡ 0 = omega arith in
    ap (take room) (drop_all at (take size whole) (omega (arith, length-take size whole))) ∙ take_all room [] (omega arith) ∙ ap (λ n. take n (drop at whole)) (sym none))
    (cases_lt at size)

-- a read of as many bytes as there are reaches the same sectors
pub same_span : (at room size : ℕ) → sector_span at (at + min room (size - at)) ≡ sector_span at (min (at + room) size)
same_span at room size = ⊎_elim
    (λ within. ap (sector_span at) (omega arith))
    (λ past.
    let none : at + min room (size - at) ≡ at = omega arith in
    ap (sector_span at) none ∙ empty_span at at (omega arith) ∙ sym (empty_span at (min (at + room) size) (omega arith)))
    (cases_lt at size)
  where
    empty_span : (from end : ℕ) → end ≤ from → sector_span from end ≡ 0
    empty_span from end low = ap (λ t. if t then 0 else ((end + 255) / 256 - from / 256)) (le-leb end from low)

module _ (media : Option (List ℕ)) (v : DiskVolume) (on : RepresentsVolume media v) (n : ℕ) (file : DiskFile) (is : v.files n ≡ Some file) where
  -- the file's sectors are on the drive
  pub on_drive : AreOnDrive media (sectors_of file.segments)
  on_drive s there =
      below_total media v on s (sectors_within (image_geometry on.image) file.segments (on.vol.sound.mapped.within n file is) s there).1

  -- its contents are the first of their bytes
  pub contents_are : file.contents ≡ take (length file.contents) (segment_bytes (sector_at media) file.segments)
  contents_are =
      let disk = sector on.image in
      let shown = on.vol.sound.shows.shown n file is in
      let size = length_of_file (image_geometry on.image) disk v on.vol.sound n file is in
      let here : file.contents ≡ take (length file.contents) (segment_bytes disk file.segments) =
      ap (λ (f : DiskFile). f.contents) shown ∙ ap (λ k. take k (segment_bytes disk (segments_field (disk n))))
      (sym size) ∙ ap (λ (f : DiskFile). take (length file.contents) (segment_bytes disk f.segments)) (sym shown) in
      here ∙ ap (λ m. take (length file.contents) (segment_bytes (sector_at m) file.segments)) (sym on.is)

  -- so they have room for its size
  pub room_for : length file.contents ≤ 256 * length (sectors_of file.segments)
  room_for =
      let all = whole_length media file.segments on_drive in
      omega (arith, ap length contents_are, length-take (length file.contents) (segment_bytes (sector_at media) file.segments))

  -- the same for a list of these segments, also when the media has been read
  pub segments_on_drive : (segs : List (ℕ × ℕ)) → segs ≡ file.segments → (now : Option (List ℕ)) → now ≡ media → AreOnDrive now (sectors_of segs)
  segments_on_drive segs segs_are now same =
      let P : List (ℕ × ℕ) → Type 0 = λ segments. AreOnDrive media (sectors_of segments) in
      subst (λ m. AreOnDrive m (sectors_of segs)) (sym same) (subst P (sym segs_are) on_drive)

  pub listed_on : (fd : Fd) → IsFdOf file fd → (now : Option (List ℕ)) → now ≡ media → AreOnDrive now (sectors_of fd.segs)
  listed_on fd known now same = segments_on_drive fd.segs known.segments_are now same

  module _ (size : ℕ) (size_is : size ≡ length file.contents) (segs : List (ℕ × ℕ)) (segs_are : segs ≡ file.segments) where
    -- the sectors of the list have room for what is read
    pub room_within : (buffer : List ℕ) (at count : ℕ) → count ≡ min (length buffer) (size - at) → length (take count buffer) ≤ 256 * length (sectors_of segs) - at
    room_within buffer at count is =
        let room = room_for in
        let same : length (sectors_of segs) ≡ length (sectors_of file.segments) = ap (λ segs. length (sectors_of segs)) segs_are in
        omega (arith, length-take count buffer)

    -- how many bytes are read
    pub count_is : (buffer : List ℕ) (at count : ℕ) → count ≡ min (length buffer) (size - at) → count ≡ length (bytes_from file.contents at (length buffer))
    count_is buffer at count is =
        omega (arith, length-take (length buffer) (drop at file.contents), length-drop at file.contents)

    -- and which
    pub bytes_are : (buffer news : List ℕ) (at count : ℕ) (now : Option (List ℕ)) → now ≡ media → count ≡ min (length buffer) (size - at)
        → news ≡ bytes_from (segment_bytes (sector_at now) segs) at (length (take count buffer))
        → news ++ drop count buffer ≡ filled_buffer (bytes_from file.contents at (length buffer)) buffer
    bytes_are buffer news at count now same is read =
        let taken : length (take count buffer) ≡ count = omega (arith, length-take count buffer) in
        let few : count ≡ min (length buffer) (length file.contents - at) = is ∙ ap (λ s. min (length buffer) (s - at)) size_is in
        let listed : news ≡ bytes_from (segment_bytes (sector_at media) file.segments) at count =
        read ∙ ap (λ m. bytes_from (segment_bytes (sector_at m) segs) at (length (take count buffer))) same
        ∙ ap (λ segs. bytes_from (segment_bytes (sector_at media) segs) at (length (take count buffer))) segs_are
        ∙ ap (bytes_from (segment_bytes (sector_at media) file.segments) at) taken in
        let front : news ≡ bytes_from file.contents at (length buffer) =
        listed ∙ ap (bytes_from (segment_bytes (sector_at media) file.segments) at) few
        ∙ sym (bytes_from_front (segment_bytes (sector_at media) file.segments) (length file.contents) at (length buffer))
        ∙ ap (λ b. bytes_from b at (length buffer)) (sym contents_are) in
        ap (λ b. b ++ drop count buffer) front ∙ ap (λ n. bytes_from file.contents at (length buffer) ++ drop n buffer) (count_is buffer at count is)

    -- of how many sectors
    pub span_read : (buffer : List ℕ) (at count : ℕ) → count ≡ min (length buffer) (size - at)
        → sector_span at (at + length (take count buffer)) ≡ sector_span at (min (at + length buffer) (length file.contents))
    span_read buffer at count is =
        let taken : length (take count buffer) ≡ count = omega (arith, length-take count buffer) in
        let few : count ≡ min (length buffer) (length file.contents - at) = is ∙ ap (λ s. min (length buffer) (s - at)) size_is in
        ap (λ n. sector_span at (at + n)) (taken ∙ few) ∙ same_span at (length buffer) (length file.contents)

    -- and how many calls that takes
    pub calls_are : (buffer : List ℕ) (at count : ℕ) (f : Option ℕ) (s t u : DriveCounts) → count ≡ min (length buffer) (size - at) → MovesCounts None 1 s t
        → MovesCounts f (sector_span at (at + length (take count buffer))) t u → MovesCounts f (1 + sector_span at (min (at + length buffer) (length file.contents))) s u
    calls_are buffer at count f s t u is one other =
        let taken : length (take count buffer) ≡ count = omega (arith, length-take count buffer) in
        let few : count ≡ min (length buffer) (length file.contents - at) = is ∙ ap (λ s. min (length buffer) (s - at)) size_is in
        let span : sector_span at (at + length (take count buffer)) ≡ sector_span at (min (at + length buffer) (length file.contents)) =
        ap (λ n. sector_span at (at + n)) (taken ∙ few) ∙ same_span at (length buffer) (length file.contents) in
        counts_then f 1 (sector_span at (min (at + length buffer) (length file.contents))) s t u one (subst (λ n. MovesCounts f n t u) span other)
