-- A file's bytes that are read sector by sector.
use Rattle.std.proofs.Common.{◌≡◌, ℕ, ◌+◌, ◌-◌, ◌*◌, ◌/◌, ◌<◌, ◌≤◌, min, max, true, Option, Some, None, List, ◌++◌, length, take, drop, get_or, refl, ap, sym, ◌∙◌, arith, length-take, length-drop, drop-drop, take-take, leb, leb-true, slice_get, Bool, false, ◌==◌, ⊎_elim, eq-eqb}
use Rattle.std.specs.Prelude.{if◌then◌else◌}
use Rattle.std.proofs.Math.Seq.{take-add}
use Rattle.std.proofs.lemmas.Bool.{false_from_ne_true, cases_lt, both_ways}
use Rattle.std.proofs.lemmas.List.{append-nil, drop-take, drop_all, take_at}
use Rattle.std.proofs.lemmas.Option.{get_or_from_slice_get}
use Rattle.os9_outer.specs.Drive.{sector_count as drive_sectors, sector_at}
use Rattle.rbf_model.specs.Segments.{sectors_of, has}
use Rattle.rbf_model.specs.File.{segment_bytes}
use Rattle.rbf_model.proofs.Segments.{length-joined}
use Rattle.rbf_model.proofs.SectorBytes.{sector_of_joined}
use Rattle.rbf_model.proofs.Bytes.{has_place}
use Rattle.rbf_model.proofs.Pieces.{drop_append}
use Rattle.rbf_change.specs.Agrees.{MountedPart}
use Rattle.rbf_change.specs.Contents.{bytes_from, sector_span}
use Rattle.sector_cache.specs.declared.sector.Sector.{Sector}
use Rattle.rbf_access.specs.Cached.{SectorsAreHeld, IsCacheOf, StayFirst}
use Rattle.rbf_access.proofs.Using.{none_used}
use Rattle.rbf_access.specs.Drive.{DriveCounts, MovesCounts}
use Rattle.rbf_access.specs.Reading.{AreOnDrive}
use Rattle.rbf_access.proofs.Counting.{no_calls, counts_then, counts_most}

-- a buffer that is not empty
pub some_room : (buffer : List ℕ) (test : Bool) → test ≡ false → test ≡ (length buffer == 0) → 1 ≤ length buffer
some_room buffer test not is = ⊎_elim
    (λ some. some)
    (λ none. let empty : (length buffer == 0) ≡ true = eq-eqb (length buffer) 0 (omega arith) in absurd (both_ways (length buffer == 0) (sym is ∙ not) empty))
    (cases_lt 0 (length buffer))

-- a sector of the drive is whole
pub full_sector : (media : Option (List ℕ)) (s : ℕ) → s < drive_sectors media → length (sector_at media s) ≡ 256
full_sector None s low = absurd (omega arith)
full_sector (Some image) s low =
    let counted : s < min (length image / 256) 4294967295 = low in
    let behind = length-drop (256 * s) image in
    length-take 256 (drop (256 * s) image) ∙ omega arith

-- how far a buffer for so many bytes from a place of a file on is filled when the sectors before one have been read
abbrev pub filled : ℕ → ℕ → ℕ → ℕ
filled at len place = min (256 * place) (at + len) - at

-- the buffer then
abbrev pub buffer_at : List ℕ → List ℕ → ℕ → ℕ → List ℕ
buffer_at whole old at place = take (filled at (length old) place) (drop at whole) ++ drop (filled at (length old) place) old

-- the sectors before a place have been read
pub record IsReadTo (whole old : List ℕ) (at place : ℕ) (into : List ℕ) (media media_now : Option (List ℕ))
    (volume volume_now : MountedPart) (segments : List (ℕ × ℕ)) (start held : List Sector) (before now : DriveCounts) : Type
    0 where
  pub bytes_are : into ≡ buffer_at whole old at place
  pub same_media : media_now ≡ media
  pub same_volume : volume_now ≡ volume
  pub cached : IsCacheOf media_now held
  pub hits : (end : ℕ) → place ≤ end → SectorsAreHeld start segments (at / 256) end → (now.calls ≡ before.calls) × SectorsAreHeld held segments (at / 256) end
  pub stay : StayFirst segments (at / 256) (place - at / 256) start held
  pub moved : MovesCounts None (place - at / 256) before now

pub none_read : (whole old : List ℕ) (at : ℕ) (media : Option (List ℕ)) (volume : MountedPart) (segments : List (ℕ × ℕ)) (held : List Sector) (before : DriveCounts) → IsCacheOf media held
    → IsReadTo whole old at (at / 256) old media media volume volume segments held held before before
none_read whole old at media volume segments held before cached =
    let none : filled at (length old) (at / 256) ≡ 0 = omega arith in
    record {
      bytes_are = sym (ap (λ n. take n (drop at whole) ++ drop n old) none);
      same_media = refl;
      same_volume = refl;
      cached = cached;
      hits = λ end low held_all. (refl, held_all);
      stay = none_used segments (at / 256) (at / 256 - at / 256) held (omega arith);
      moved = counts_most None 0 (at / 256 - at / 256) before before (omega arith) (no_calls before);
    }

-- how many sectors have a byte of some
pub span_is : (at len : ℕ) → 1 ≤ len → sector_span at (at + len) ≡ (at + len + 255) / 256 - at / 256
span_is at len some = ap (λ t. if t then 0 else ((at + len + 255) / 256 - at / 256)) (false_from_ne_true (leb (at + len) at) (λ h. let below = leb-true (at + len) at h in absurd (omega arith)))

-- the error that a read of one more sector meets
pub span_most : (at len place : ℕ) (f : Option ℕ) (s t u : DriveCounts) → 1 ≤ len → at / 256 ≤ place → place < (at + len + 255) / 256 → MovesCounts None (place - at / 256) s t → MovesCounts f 1 t u
    → MovesCounts f (sector_span at (at + len)) s u
span_most at len place f s t u some low high one other =
    let is = span_is at len some in
    counts_most f (place - at / 256 + 1) (sector_span at (at + len)) s u (omega arith) (counts_then f (place - at / 256) 1 s t u one other)

module _ (whole old : List ℕ) (at : ℕ) (within : at + length old ≤ length whole) where
  front_length : (place : ℕ) → length (take (filled at (length old) place) (drop at whole)) ≡ filled at (length old) place
  front_length place =
      let behind = length-drop at whole in
      length-take (filled at (length old) place) (drop at whole) ∙ omega arith

  module _ (place : ℕ) (begins : at < 256 * place + 256) (ends : 256 * place < at + length old) (sector : List ℕ) (is : sector ≡ take 256 (drop (256 * place) whole)) where
    abbrev start : ℕ
    start = max at (256 * place)

    abbrev end : ℕ
    end = min (at + length old) (256 * place + 256)

    front : take (start - at) (buffer_at whole old at place) ≡ take (start - at) (drop at whole)
    front =
        let d : start - at ≡ filled at (length old) place = omega arith in
        ap (λ n. take n (buffer_at whole old at place)) d ∙ take_at
        (take (filled at (length old) place) (drop at whole)) (drop (filled at (length old) place) old)
        (filled at (length old) place) (front_length place)
        ∙ ap (λ n. take n (drop at whole)) (sym d)

    behind : drop (end - at) (buffer_at whole old at place) ≡ drop (filled at (length old) (place + 1)) old
    behind =
        let d : end - at ≡ filled at (length old) (place + 1) = omega arith in
        let more : filled at (length old) place + (end - at - filled at (length old) place) ≡ end - at = omega arith in
        drop_append (end - at) (take (filled at (length old) place) (drop at whole)) (drop (filled at (length old) place) old) (omega (arith, front_length place))
        ∙ ap (λ n. drop (end - at - n) (drop (filled at (length old) place) old)) (front_length place)
        ∙ drop-drop (end - at - filled at (length old) place) (filled at (length old) place) old ∙ ap (λ n. drop n old) (more ∙ d)

    middle : take (end - start) (drop (start - 256 * place) sector) ≡ take (end - start) (drop start whole)
    middle =
        let inner = start - 256 * place in
        let split : inner + (256 - inner) ≡ 256 = omega arith in
        let there : 256 * place + inner ≡ start = omega arith in
        ap (λ b. take (end - start) (drop inner b)) (is ∙ ap (λ n. take n (drop (256 * place) whole)) (sym split))
        ∙ ap (take (end - start)) (drop-take inner (256 - inner) (drop (256 * place) whole) ∙ ap (take (256 - inner)) (drop-drop inner (256 * place) whole))
        ∙ take-take (end - start) (256 - inner) (drop (256 * place + inner) whole) (omega arith) ∙ ap (λ n. take (end - start) (drop n whole)) there

    pub piece_more : take (start - at) (buffer_at whole old at place) ++ take (end - start)
        (drop (start - 256 * place) sector) ++ drop (end - at) (buffer_at whole old at place) ≡ buffer_at whole old at
        (place + 1)
    piece_more =
        let both : start - at + (end - start) ≡ filled at (length old) (place + 1) = omega arith in
        let there : at + (start - at) ≡ start = omega arith in
        ap (λ b. b ++ take (end - start) (drop (start - 256 * place) sector) ++ drop (end - at) (buffer_at whole old at place)) front
        ∙ ap (λ b. take (start - at) (drop at whole) ++ b ++ drop (end - at) (buffer_at whole old at place))
        (middle ∙ ap (λ n. take (end - start) (drop n whole)) (sym there) ∙ ap (take (end - start))
        (sym (drop-drop (start - at) at whole)))
        ∙ ap (λ b. b ++ drop (end - at) (buffer_at whole old at place)) (sym (take-add (start - at) (end - start) (drop at whole)) ∙ ap (λ n. take n (drop at whole)) both)
        ∙ ap (λ b. take (filled at (length old) (place + 1)) (drop at whole) ++ b) behind

-- a buffer into which the part of a sector has been copied
abbrev pub copied : List ℕ → List ℕ → ℕ → ℕ → ℕ → List ℕ
copied sector into at len first =
    take (max at first - at) into ++ take (min (at + len) (first + 256) - max at first) (drop (max at first - first) sector) ++ drop (min (at + len) (first + 256) - at) into

-- the buffer with one sector more
pub copied_more : (whole old into sector news : List ℕ) (at place : ℕ) → at + length old ≤ length whole → at < 256 * place + 256 → 256 * place < at + length old
    → sector ≡ take 256 (drop (256 * place) whole) → into ≡ buffer_at whole old at place → length into ≡ length old → news ≡ copied sector into at (length into) (256 * place)
    → news ≡ buffer_at whole old at (place + 1)
copied_more whole old into sector news at place within begins ends is before sized now =
    now ∙ ap (λ n. copied sector into at n (256 * place)) sized ∙ ap (λ b. copied sector b at (length old) (256 * place)) before
    ∙ piece_more whole old at within place begins ends sector is

-- all have been read
pub all_read : (whole old : List ℕ) (at place : ℕ) → at + length old ≤ 256 * place → buffer_at whole old at place ≡ bytes_from whole at (length old)
all_read whole old at place past =
    let all : filled at (length old) place ≡ length old = omega arith in
    ap (λ n. take n (drop at whole) ++ drop n old) all ∙ ap (λ b. take (length old) (drop at whole) ++ b) (drop_all (length old) old (omega arith)) ∙ append-nil (take (length old) (drop at whole))

-- the sector that is read next
module _ (media : Option (List ℕ)) (segments : List (ℕ × ℕ)) (on_drive : AreOnDrive media (sectors_of segments)) where
  full : (x : ℕ) → has (sectors_of segments) x ≡ true → length (sector_at media x) ≡ 256
  full x h = full_sector media x (on_drive x h)

  pub whole_length : length (segment_bytes (sector_at media) segments) ≡ 256 * length (sectors_of segments)
  whole_length = length-joined (sector_at media) (sectors_of segments) full

  pub sector_is : (place : ℕ) → place < length (sectors_of segments)
      → sector_at media (get_or (sectors_of segments) place 0) ≡ take 256 (drop (256 * place) (segment_bytes (sector_at media) segments))
  sector_is place low = sym (sector_of_joined (sector_at media) (sectors_of segments) place full low)

  pub sector_on : (place : ℕ) → place < length (sectors_of segments) → get_or (sectors_of segments) place 0 < drive_sectors media
  sector_on place low = on_drive (get_or (sectors_of segments) place 0) (has_place (sectors_of segments) place low)

  -- the number in this place of the list is that of the sector
  pub sector_at_place : (place lsn : ℕ) → slice_get (sectors_of segments) place ≡ Some lsn → place < length (sectors_of segments)
      → sector_at media lsn ≡ take 256 (drop (256 * place) (segment_bytes (sector_at media) segments))
  sector_at_place place lsn there low =
      ap (sector_at media) (sym (get_or_from_slice_get (sectors_of segments) place lsn 0 there)) ∙ sector_is place low

  pub place_on : (place lsn : ℕ) (now : Option (List ℕ)) → slice_get (sectors_of segments) place ≡ Some lsn → place < length (sectors_of segments) → now ≡ media
      → lsn < drive_sectors now
  place_on place lsn now there low same =
      let is = get_or_from_slice_get (sectors_of segments) place lsn 0 there in
      let on = sector_on place low in
      let moved : drive_sectors now ≡ drive_sectors media = ap drive_sectors same in
      omega arith
