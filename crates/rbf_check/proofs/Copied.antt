-- The contents of a file, copied run by run.
use Rattle.std.proofs.Common.{◌≡◌, ℕ, zero, suc, ◌+◌, ◌-◌, ◌*◌, ◌<◌, min, List, [], ◌∷◌, ◌++◌, length, get_or, take, drop, refl, sym, ap, ◌∙◌, ⊎_elim, arith, length-take, take-take, drop-drop}
use Rattle.std.specs.Prelude.{flat_map}
use Rattle.std.specs.List.{range_with_len}
use Rattle.std.proofs.Math.Seq.{take-add}
use Rattle.std.proofs.lemmas.Bool.{cases_lt}
use Rattle.std.proofs.lemmas.Grind.{flat_map-append}
use Rattle.std.proofs.lemmas.List.{append-nil, take_all, take_more}
use Rattle.rbf_model.specs.Geometry.{sector}
use Rattle.rbf_model.specs.Segments.{segment_sectors, sectors_of}
use Rattle.rbf_model.specs.File.{segment_bytes}
use Rattle.rbf_model.proofs.Pieces.{take_append}

-- the bytes of a run of an image's sectors
run_bytes : (image : List ℕ) (first count : ℕ) → flat_map (sector image) (range_with_len first count) ≡ take (256 * count) (drop (256 * first) image)
run_bytes image first zero = refl
run_bytes image first (suc count) =
    let rest = drop (256 * first) image in
    let next : 256 * first + 256 ≡ 256 * (first + 1) = omega arith in
    let more : 256 + 256 * count ≡ 256 * suc count = omega arith in
    ap (λ b. take 256 rest ++ b) (run_bytes image (first + 1) count ∙ ap (λ k. take (256 * count) (drop k image)) (sym next) ∙ ap (take (256 * count)) (sym (drop-drop 256 (256 * first) image)))
    ∙ sym (take-add 256 (256 * count) rest) ∙ ap (λ n. take n rest) more

-- the lesser of two fronts
take_lesser : (left held part : ℕ) (xs : List ℕ) → part ≡ min left held → take left (take held xs) ≡ take part xs
take_lesser left held part xs is = ⊎_elim
    (λ less. take-take left held xs (omega arith) ∙ ap (λ n. take n xs) (omega arith))
    (λ more. take_all left (take held xs) (omega (arith, length-take held xs)) ∙ ap (λ n. take n xs) (omega arith))
    (cases_lt left held)

module _ (image : List ℕ) (segments : List (ℕ × ℕ)) (i : ℕ) (segment : ℕ × ℕ) (low : i < length segments) (at : get_or segments i (0, 0) ≡ segment) where
  bytes_more : segment_bytes (sector image) (take (i + 1) segments) ≡ segment_bytes (sector image) (take i segments) ++ take (256 * segment.1) (drop (256 * segment.0) image)
  bytes_more =
      let front : take (i + 1) segments ≡ take i segments ++ segment ∷ [] = take_more segments i (0, 0) low ∙ ap (λ s. take i segments ++ s ∷ []) at in
      ap (segment_bytes (sector image)) front ∙ ap (flat_map (sector image)) (flat_map-append segment_sectors (take i segments) (segment ∷ []))
      ∙ flat_map-append (sector image) (sectors_of (take i segments)) (sectors_of (segment ∷ []))
      ∙ ap (λ xs. segment_bytes (sector image) (take i segments) ++ flat_map (sector image) xs) (append-nil (segment_sectors segment))
      ∙ ap (λ b. segment_bytes (sector image) (take i segments) ++ b) (run_bytes image segment.0 segment.1)

  -- a run more of the contents
  pub contents_more : (size part : ℕ) (bytes : List ℕ) → bytes ≡ take size (segment_bytes (sector image) (take i segments)) → part ≡ min (size - length bytes) (256 * segment.1)
      → bytes ++ take part (drop (256 * segment.0) image) ≡ take size (segment_bytes (sector image) (take (i + 1) segments))
  contents_more size part bytes is lesser =
      let before = segment_bytes (sector image) (take i segments) in
      let piece = take (256 * segment.1) (drop (256 * segment.0) image) in
      let left : part ≡ min (size - length before) (256 * segment.1) = omega (arith, ap length is, length-take size before) in
      sym (ap (take size) bytes_more ∙ take_append size before piece ∙ ap (λ b. b ++ take (size - length before) piece) (sym is)
      ∙ ap (λ b. bytes ++ b) (take_lesser (size - length before) (256 * segment.1) part (drop (256 * segment.0) image) left))
