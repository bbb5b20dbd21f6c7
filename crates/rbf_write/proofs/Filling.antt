-- The sectors of a file that are laid over one after the other.
use Rattle.std.proofs.Common.{◌≡◌, ℕ, ◌+◌, ◌-◌, ◌*◌, ◌/◌, ◌<◌, ◌≤◌, min, Option, Some, None, List, take, length, get_or, refl, sym, ap, ◌∙◌, subst, arith}
use Rattle.std.specs.Prelude.{slice_get}
use Rattle.std.proofs.lemmas.Option.{get_or_from_slice_get}
use Rattle.os9_outer.specs.Drive.{sector_count, sector_at, with_sector}
use Rattle.std.proofs.lemmas.Bool.{false_from_ne_true}
use Rattle.rbf_model.specs.Geometry.{image_geometry, map_sectors}
use Rattle.rbf_model.specs.Writes.{with_file_in_place}
use Rattle.rbf_model.specs.Segments.{sectors_of, has}
use Rattle.rbf_model.specs.File.{DiskFile, segment_bytes}
use Rattle.rbf_model.specs.Volume.{DiskVolume}
use Rattle.rbf_change.specs.Agrees.{MountedPart, Agrees}
use Rattle.rbf_change.specs.Calls.{shape}
use Rattle.rbf_change.proofs.LawfulWrites.{shape-image}
use Rattle.rbf_access.specs.declared.volume.Volume.{Volume}
use Rattle.rbf_alloc.proofs.Growing.{agrees_on}
use Rattle.rbf_write.proofs.Described.{agrees_beside}
use Rattle.rbf_change.specs.Contents.{sector_span}
use Rattle.rbf_access.specs.Drive.{DriveCounts, MovesCounts}
use Rattle.sector_cache.specs.declared.sector.Sector.{Sector}
use Rattle.rbf_access.specs.Cached.{IsCacheOf}
use Rattle.rbf_access.specs.Mounted.{mounted_part, RepresentsVolume, IsMounted, IsSoundMedia}
use Rattle.rbf_access.proofs.Counting.{no_calls, counts_then, counts_most}
use Rattle.rbf_access.proofs.ReadPieces.{span_is}
use Rattle.rbf_write.specs.Laid.{HasData, IsDataOf, IsLaid, IsPartLaid, LaysSector, laid_byte, laid_bytes, laid_front}
use Rattle.rbf_write.proofs.FilledFile.{with_contents, laid_then, byte_there, laid_none, all_of_none, count, on_drive_at}
use Rattle.rbf_write.proofs.LaidBytes.{front_first, front_all, front_more, rest_byte}

-- the bytes of the file's sectors at first
abbrev pub first_bytes : Option (List ℕ) → List (ℕ × ℕ) → List ℕ
first_bytes media segments = segment_bytes (sector_at media) segments

-- the sectors before this one have been laid over
pub record IsFillSoFar (segments : List (ℕ × ℕ)) (size at : ℕ) (from : List ℕ) (first place : ℕ)
    (kept kept_now : MountedPart) (old mid : Option (List ℕ)) (held : List Sector) (before half : DriveCounts) : Type 0 where
  pub laid : (u : DiskVolume) (n : ℕ) (file : DiskFile) → RepresentsVolume old u → IsDataOf u n file segments size
      → IsLaid u n file segments old mid (laid_front (laid_bytes (first_bytes old segments) size at from) (first_bytes old segments) place)
  pub same : kept_now ≡ kept
  pub cached : IsCacheOf mid held
  pub moved : MovesCounts None (2 * (place - first)) before half

module _ (segments : List (ℕ × ℕ)) (size at : ℕ) (from : List ℕ) (room : at + length from ≤ 256 * length (sectors_of segments)) (old : Option (List ℕ)) where
  abbrev whole : List ℕ
  whole = first_bytes old segments

  -- the file's sectors have all those bytes
  module _ (u : DiskVolume) (n : ℕ) (file : DiskFile) (on : RepresentsVolume old u) (known : IsDataOf u n file segments size) where
    enough : (size ≤ length whole) × (length whole ≡ 256 * length (sectors_of segments))
    enough =
        let all = all_of_none u n file segments size known old on in
        let more = count u n file segments size known in
        let fits = known.room in
        (omega arith, all)

    first_laid : (first : ℕ) → first ≡ min size at / 256 → IsLaid u n file segments old old (laid_front (laid_bytes whole size at from) whole first)
    first_laid first is =
        let e = enough in
        let a = e.0 in
        let b = e.1 in
        subst (IsLaid u n file segments old old) (sym (front_first whole size at from e.0 (omega arith) first (omega arith) (omega arith))) (laid_none u n file segments size known old on)

    all_laid : (mid : Option (List ℕ)) (place : ℕ) → 256 * place ≤ 256 * length (sectors_of segments)
        → at + length from ≤ 256 * place → IsLaid u n file segments old mid (laid_front (laid_bytes whole size at from) whole place)
        → IsLaid u n file segments old mid (laid_bytes whole size at from)
    all_laid mid place within end laid =
        let e = enough in
        let b = e.1 in
        subst (IsLaid u n file segments old mid) (front_all whole size at from e.0 (omega arith) place (omega arith) end) laid

    next_laid : (mid after : Option (List ℕ)) (place lsn : ℕ) → place < length (sectors_of segments)
        → slice_get (sectors_of segments) place ≡ Some lsn → LaysSector size at from (256 * place) lsn mid after
        → IsLaid u n file segments old mid (laid_front (laid_bytes whole size at from) whole place) → IsLaid u n file segments old after (laid_front (laid_bytes whole size at from) whole (place + 1))
    next_laid mid after place lsn low there lays laid =
        let e = enough in
        let b = e.1 in
        let s : get_or (sectors_of segments) place 0 ≡ lsn = get_or_from_slice_get (sectors_of segments) place lsn 0 there in
        let bytes = laid_front (laid_bytes whole size at from) whole place in
        let written : after ≡ with_sector mid (get_or (sectors_of segments) place 0) lays.bytes = lays.media ∙ ap (λ x. with_sector mid x lays.bytes) (sym s) in
        let each = λ (q : ℕ) (small : q < 256). lays.each q small
        ∙ ap (laid_byte size at from (256 * place + q)) (ap (λ x. get_or (sector_at mid x) q 0) (sym s)
        ∙ byte_there u n file segments size known old mid after bytes laid place low lays.bytes lays.whole written q small
        ∙ rest_byte whole size at from e.0 (omega arith) place (omega arith) (256 * place + q) (omega arith)) in
        subst (IsLaid u n file segments old after) (front_more whole size at from e.0 (omega arith) place lays.bytes (omega arith) lays.whole each)
        (laid_then u n file segments size known old mid after bytes laid place low lays.bytes lays.whole written)

  pub none_filled : (first : ℕ) (kept : MountedPart) (held : List Sector) (before : DriveCounts) → IsCacheOf old held
      → first ≡ min size at / 256 → IsFillSoFar segments size at from first first kept kept old old held before before
  none_filled first kept held before cached is = record {
    laid = λ u n file on known. first_laid u n file on known first is;
    same = refl;
    cached = cached;
    moved = counts_most None 0 (2 * (first - first)) before before (omega arith) (no_calls before);
  }

  module _ (first place : ℕ) (kept kept_now : MountedPart) (mid : Option (List ℕ)) (held : List Sector)
      (before half : DriveCounts) (far : IsFillSoFar segments size at from first place kept kept_now old mid held before
      half) where
    -- the next sector is on the drive
    pub place_on : (lsn : ℕ) → place < length (sectors_of segments) → slice_get (sectors_of segments) place ≡ Some lsn → HasData old segments size → lsn < sector_count mid
    place_on lsn low there has =
        let s : get_or (sectors_of segments) place 0 ≡ lsn = get_or_from_slice_get (sectors_of segments) place lsn 0 there in
        subst (λ x. x < sector_count mid) s
        (on_drive_at has.volume has.number has.file segments size has.is old mid _ (far.laid has.volume has.number has.file has.on has.is) place low)

    -- and the media is sound once it has been laid over
    pub place_sound : (lsn : ℕ) → place < length (sectors_of segments) → slice_get (sectors_of segments) place ≡ Some lsn → HasData old segments size → (after : Option (List ℕ))
        → LaysSector size at from (256 * place) lsn mid after → IsSoundMedia after
    place_sound lsn low there has after lays =
        let laid = next_laid has.volume has.number has.file has.on has.is mid after place lsn low there lays (far.laid has.volume has.number has.file has.on has.is) in
        (_, record { image = laid.now; is = laid.is; vol = laid.vol })

    pub more_filled : (lsn : ℕ) (now_kept : MountedPart) (after : Option (List ℕ)) (news : List Sector) (then_counts : DriveCounts)
        → first ≤ place → place < length (sectors_of segments) → slice_get (sectors_of segments) place ≡ Some lsn
        → LaysSector size at from (256 * place) lsn mid after → now_kept ≡ kept_now → IsCacheOf after news → MovesCounts None 2 half then_counts
        → IsFillSoFar segments size at from first (place + 1) kept now_kept old after news before then_counts
    more_filled lsn now_kept after news then_counts begun low there lays same cached counts = record {
      laid = λ u n file on known. next_laid u n file on known mid after place lsn low there lays (far.laid u n file on known);
      same = same ∙ far.same;
      cached = cached;
      moved = counts_most None (2 * (place - first) + 2) (2 * (place + 1 - first)) before then_counts (omega arith) (counts_then None (2 * (place - first)) 2 before half then_counts far.moved counts);
    }

    -- a fault
    pub part_filled : (after : Option (List ℕ)) → first ≡ min size at / 256 → first ≤ place
        → 256 * place < at + length from → after ≡ mid → (u : DiskVolume) (n : ℕ) (file : DiskFile) → RepresentsVolume old u
        → IsDataOf u n file segments size
        → IsPartLaid u n file segments old after size at from
    part_filled after is begun end same u n file on known = record {
      place = place;
      first = omega arith;
      unfinished = end;
      laid = subst (λ m. IsLaid u n file segments old m (laid_front (laid_bytes whole size at from) whole place)) (sym same) (far.laid u n file on known);
    }

    pub fill_fault : (f : Option ℕ) (then_counts : DriveCounts) → first ≡ min size at / 256 → first ≤ place
        → 256 * place < at + length from → min size at < at + length from → MovesCounts f 2 half then_counts
        → MovesCounts f (2 * sector_span (min size at) (at + length from)) before then_counts
    fill_fault f then_counts is begun end some counts =
        let span = spans in
        counts_most f (2 * (place - first) + 2) (2 * sector_span (min size at) (at + length from)) before then_counts
        (omega arith) (counts_then f (2 * (place - first)) 2 before half then_counts far.moved counts)
      where
        spans : sector_span (min size at) (at + length from) ≡ (at + length from + 255) / 256 - min size at / 256
        spans =
            let split : min size at + (at + length from - min size at) ≡ at + length from = omega arith in
            ap (sector_span (min size at)) (sym split) ∙ span_is (min size at) (at + length from - min size at) (omega arith) ∙ ap (λ e. (e + 255) / 256 - min size at / 256) split

    pub fill_done : (u : DiskVolume) (n : ℕ) (file : DiskFile) → RepresentsVolume old u → IsDataOf u n file segments size → place ≤ length (sectors_of segments) → at + length from ≤ 256 * place
        → IsLaid u n file segments old mid (laid_bytes whole size at from)
    fill_done u n file on known within end = all_laid u n file on known mid place (omega arith) end (far.laid u n file on known)

    pub fill_counts : first ≡ min size at / 256 → place ≡ (at + length from + 255) / 256
        → min size at < at + length from → MovesCounts None (2 * sector_span (min size at) (at + length from)) before half
    fill_counts is end some =
        let span = spans in
        counts_most None (2 * (place - first)) (2 * sector_span (min size at) (at + length from)) before half (omega arith) far.moved
      where
        spans : sector_span (min size at) (at + length from) ≡ (at + length from + 255) / 256 - min size at / 256
        spans =
            let split : min size at + (at + length from - min size at) ≡ at + length from = omega arith in
            ap (sector_span (min size at)) (sym split) ∙ span_is (min size at) (at + length from - min size at) (omega arith) ∙ ap (λ e. (e + 255) / 256 - min size at / 256) split

-- the same with the first place as it is computed
pub first_as : (segments : List (ℕ × ℕ)) (size at : ℕ) (from : List ℕ)
    → at + length from ≤ 256 * length (sectors_of segments)
    → (old : Option (List ℕ)) (first place : ℕ) (kept : MountedPart) (held : List Sector) (before : DriveCounts)
    → IsCacheOf old held
    → first ≡ min size at / 256 → place ≡ first → IsFillSoFar segments size at from first place kept kept old old held before before
first_as segments size at from room old first place kept held before cached is same =
    subst (λ p. IsFillSoFar segments size at from first p kept kept old old held before before)
    (sym same) (none_filled segments size at from room old first kept held before cached is)

-- a volume stays mounted where a file has been laid over
pub laid_mounted : (old volume : Volume) (before after : Option (List ℕ)) (u : DiskVolume) (n : ℕ) (file : DiskFile) (segments : List (ℕ × ℕ)) (size : ℕ) (bytes : List ℕ)
    → IsMounted old before → RepresentsVolume before u
    → IsDataOf u n file segments size → IsLaid u n file segments before after bytes → mounted_part volume ≡ mounted_part old → IsCacheOf after volume.cache → IsMounted volume after
laid_mounted old volume before after u n file segments size bytes mounted on known laid same cached =
    let both : Some on.image ≡ Some laid.image = sym on.is ∙ laid.was in
    let image : on.image ≡ laid.image = cc in
    let agrees : Agrees (mounted_part old) laid.image = subst (λ i. Agrees (mounted_part old) i) image (agrees_on old before u mounted on) in
    let shaped : map_sectors (shape u) ≡ map_sectors (image_geometry laid.image) = ap map_sectors (shape-image on.image u on.vol ∙ ap image_geometry image) in
    record {
      content = with_file_in_place u n (with_contents file (take (length file.contents) bytes));
      on = record { image = laid.now; is = laid.is; vol = laid.vol };
      agrees = subst (λ kv. Agrees kv laid.now) (sym same)
          (agrees_beside (mounted_part old) laid.image laid.now agrees
          (λ s low. laid.others s (false_from_ne_true (has (sectors_of segments) s) (λ h. let past = known.past_map s h in absurd (omega arith)))));
      cached = cached;
    }
