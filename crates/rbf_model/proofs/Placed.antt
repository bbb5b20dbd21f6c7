-- The contents of a file of which bytes in one sector are changed.
use Rattle.std.proofs.Common.{◌≡◌, ℕ, true, ◌==◌, ◌+◌, ◌-◌, ◌*◌, ◌<◌, ◌≤◌, List, ◌++◌, length, take, drop, sym, ap, ◌∙◌, subst, arith, append_assoc, leb-true}
use Rattle.std.proofs.lemmas.List.{take-take, take-append-drop, drop-append-le, drop-drop, take_all}
use Rattle.std.proofs.lemmas.Bool.{or_right}
use Rattle.std.proofs.Math.Seq.{take-add}
use Rattle.rbf_model.specs.Disk.{disk_of}
use Rattle.rbf_model.specs.Fields.{size_field, segments_field}
use Rattle.rbf_model.specs.Geometry.{Geometry}
use Rattle.rbf_model.specs.Segments.{has, sectors_of}
use Rattle.rbf_model.specs.File.{DiskFile, file_from, segment_bytes}
use Rattle.rbf_model.specs.Space.{own_sectors}
use Rattle.rbf_model.specs.Volume.{DiskVolume, Sound}
use Rattle.rbf_model.specs.Writes.{put, put_at}
use Rattle.rbf_model.specs.Laws.{IsFileSector, with_sector_bytes}
use Rattle.rbf_model.proofs.Segments.{length-joined}
use Rattle.rbf_model.proofs.Keeps.{room_is}
use Rattle.rbf_model.proofs.Pieces.{piece_at, length-put_at, take_put_at}
use Rattle.rbf_model.proofs.Bytes.{put_beside, has_place}
use Rattle.rbf_model.proofs.Owners.{own_below}
use Rattle.rbf_model.proofs.Data.{full, fits, place, there, contents_are, size_are, bytes_written, not_descriptor, with_bytes_written}
use Rattle.rbf_model.proofs.SectorBytes.{sector_of_joined}

-- bytes put into a part of a list, and that part into the list
pub put_at_part : (whole part bytes : List ℕ) (at inner w : ℕ) → part ≡ take w (drop at whole) → length part ≡ w → inner + length bytes ≤ w → at + w ≤ length whole
    → put_at whole at (put_at part inner bytes) ≡ put_at whole (at + inner) bytes
put_at_part whole part bytes at inner w is fills low fits =
    ap (λ k. (take at whole ++ put_at part inner bytes) ++ drop (at + k) whole) (length-put_at part bytes inner (omega arith) ∙ fills)
    ∙ regroup (take at whole) (take inner part) bytes (drop (inner + length bytes) part) (drop (at + w) whole)
    ∙ ap (λ f. (f ++ bytes) ++ (drop (inner + length bytes) part ++ drop (at + w) whole)) (sym front)
    ∙ ap (λ r. (take (at + inner) whole ++ bytes) ++ r) (sym behind)
  where
    regroup : (a b c d e : List ℕ) → (a ++ ((b ++ c) ++ d)) ++ e ≡ ((a ++ b) ++ c) ++ (d ++ e)
    regroup a b c d e = simp append_assoc

    front : take (at + inner) whole ≡ take at whole ++ take inner part
    front =
        take-add at inner whole
        ∙ ap (λ f. take at whole ++ f) (sym (ap (take inner) is ∙ take-take inner w (drop at whole) (omega arith)))

    rest : drop at whole ≡ part ++ drop (at + w) whole
    rest = sym (take-append-drop w (drop at whole)) ∙ ap (λ f. f ++ drop w (drop at whole)) (sym is) ∙ ap (λ r. part ++ r) (drop-drop w at whole)

    behind : drop (at + inner + length bytes) whole ≡ drop (inner + length bytes) part ++ drop (at + w) whole
    behind =
        let place : at + (inner + length bytes) ≡ at + inner + length bytes = omega arith in
        sym (drop-drop (inner + length bytes) at whole ∙ ap (λ k. drop k whole) place)
        ∙ ap (drop (inner + length bytes)) rest
        ∙ drop-append-le (inner + length bytes) part (drop (at + w) whole) (omega arith)

module _ (g : Geometry) (disk : ℕ → List ℕ) (v : DiskVolume) (sound : Sound (disk_of g disk) v) (n j s : ℕ) (file : DiskFile) (sector : IsFileSector v n file j s)
    (inner : ℕ) (piece : List ℕ) (low : inner + length piece ≤ 256) where
  abbrev news : List ℕ
  news = put_at (disk s) inner piece

  own : has (own_sectors n file) s ≡ true
  own = or_right (n == s) (has (sectors_of file.segments) s) (subst (λ x. has (sectors_of file.segments) x ≡ true) sector.at (has_place (sectors_of file.segments) j sector.within))

  sector_full : length (disk s) ≡ 256
  sector_full = sound.sectors s (own_below g disk v sound n file s sector.is own)

  pub news_full : length (put_at (disk s) inner piece) ≡ 256
  news_full = length-put_at (disk s) piece inner (let size = sector_full in omega arith) ∙ sector_full

  -- the sector is a part of the file's bytes
  part : disk s ≡ piece_at 256 (segment_bytes disk (segments_field (disk n))) j
  part =
      sym (sector_of_joined disk (sectors_of (segments_field (disk n))) j (full g disk v sound n j s file news news_full sector) (place g disk v sound n j s file news news_full sector)
      ∙ ap disk (there g disk v sound n j s file news news_full sector))

  -- the contents with a piece put into one of the file's sectors, as far as the size goes
  pub contents_of_piece : 256 * j + inner ≤ length file.contents
      → (file_from (put disk s (put_at (disk s) inner piece)) (disk n)).contents ≡ put_at file.contents (256 * j + inner) (take (length file.contents - (256 * j + inner)) piece)
  contents_of_piece below =
      let size = size_are g disk v sound n j s file news news_full sector in
      let room = fits g disk v sound n j s file news news_full sector in
      ap (take (size_field (disk n))) (bytes_written g disk v sound n j s file news news_full sector news news_full
      ∙ put_at_part (segment_bytes disk (segments_field (disk n))) (disk s) piece (256 * j) inner 256 part sector_full low room)
      ∙ take_put_at (segment_bytes disk (segments_field (disk n))) piece (256 * j + inner) (size_field (disk n)) (omega arith) size_fits (omega arith)
      ∙ ap (λ k. put_at (take (size_field (disk n)) (segment_bytes disk (segments_field (disk n)))) (256 * j + inner) (take (k - (256 * j + inner)) piece)) (sym size)
      ∙ ap (λ c. put_at c (256 * j + inner) (take (length file.contents - (256 * j + inner)) piece)) (sym (contents_are g disk v sound n j s file news news_full sector))
    where
      size_fits : size_field (disk n) ≤ length (segment_bytes disk (segments_field (disk n)))
      size_fits =
          omega (
            arith,
            length-joined disk (sectors_of (segments_field (disk n))) (full g disk v sound n j s file news news_full sector),
            leb-true (size_field (disk n)) (256 * length (sectors_of (segments_field (disk n)))) (room_is g disk v sound n file sector.is),
          )

  -- so they are where a law speaks of the whole sector
  pub with_bytes_of_piece : 256 * j + inner ≤ length file.contents → 256 * j < length file.contents
      → (with_sector_bytes file j (put_at (disk s) inner piece)).contents ≡ put_at file.contents (256 * j + inner) (take (length file.contents - (256 * j + inner)) piece)
  with_bytes_of_piece below some =
      ap (λ f. f.contents) (sym (with_bytes_written g disk v sound n j s file news news_full sector some))
      ∙ ap (λ b. (file_from (put disk s (put_at (disk s) inner piece)) b).contents) (put_beside disk s news n (not_descriptor g disk v sound n j s file news news_full sector))
      ∙ contents_of_piece below

-- the contents of a directory with an entry put into one of its sectors
pub contents_of_entry : (g : Geometry) (disk : ℕ → List ℕ) (v : DiskVolume) → Sound (disk_of g disk) v → (d j s q i : ℕ) (dir : DiskFile) (entry : List ℕ) → IsFileSector v d dir j s
    → i ≡ 8 * j + q → q < 8 → length entry ≡ 32 → 32 * (i + 1) ≤ length dir.contents
    → (file_from (put disk s (put_at (disk s) (32 * q) entry)) (disk d)).contents ≡ put_at dir.contents (32 * i) entry
contents_of_entry g disk v sound d j s q i dir entry sector place low whole fits =
    let at : 256 * j + 32 * q ≡ 32 * i = omega arith in
    contents_of_piece g disk v sound d j s dir sector (32 * q) entry (omega arith) (omega arith)
    ∙ ap (λ k. put_at dir.contents k (take (length dir.contents - k) entry)) at
    ∙ ap (put_at dir.contents (32 * i)) (take_all (length dir.contents - 32 * i) entry (omega arith))
