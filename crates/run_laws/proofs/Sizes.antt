-- Sizes of lists of segments, of contents and of what they need.
use Rattle.std.proofs.Common.{◌≡◌, ◌⊎◌, ℕ, ◌+◌, ◌-◌, ◌*◌, ◌/◌, ◌<◌, ◌≤◌, Bool, true, false, List, [], ◌∷◌, ◌++◌, length, take, drop, replicate, min, max, ap, ◌∙◌, inl, inr, arith, length-append, length-take, length-drop}
use Rattle.std.specs.Prelude.{if◌then◌else◌}
use Rattle.std.specs.List.{range_with_len}
use Rattle.std.proofs.Math.Nat.{div-le_of_le-mul, lt-div-mul-add}
use Rattle.std.proofs.lemmas.Bool.{cases_lt}
use Rattle.std.proofs.lemmas.List.{length-replicate}
use Rattle.std.proofs.lemmas.List.FromFn.{length-range_with_len}
use Rattle.rbf_model.specs.Segments.{appended_segments, joins, sectors_of}
use Rattle.rbf_model.specs.Writes.{put_at}
use Rattle.rbf_segs.proofs.Runs.{sectors_of-appended}
use Rattle.rbf_change.specs.Contents.{extended, resized, sector_count, written}
use Rattle.rbf_change.specs.Growth.{IsChoice, IsOneTooMany, clusters_needed, free_beside, with_clusters}
use Rattle.run_laws.proofs.Gaining.{ChoiceOrNot, count_of, some-choice}

-- ---- segments

-- a list that gains sectors has one segment more at most
length-appended : (segments : List (ℕ × ℕ)) (lsn count : ℕ) → length (appended_segments segments lsn count) ≤ length segments + 1
length-appended [] lsn count = omega arith
length-appended (segment ∷ []) lsn count = either (joins segment lsn count)
  where
    either : (t : Bool) → length (if t then (segment.0, segment.1 + count) ∷ [] else segment ∷ (lsn, count) ∷ []) ≤ length (segment ∷ []) + 1
    either true = omega arith
    either false = omega arith
length-appended (segment ∷ next ∷ segments) lsn count =
    let rest = length-appended (next ∷ segments) lsn count in omega (arith, rest)

-- and one more for each cluster at most
length-with : (k : ℕ) (segments : List (ℕ × ℕ)) (clusters : List ℕ) → length (with_clusters k segments clusters) ≤ length segments + length clusters
length-with k segments [] = omega arith
length-with k segments (c ∷ clusters) =
    let rest = length-with k (appended_segments segments (c * k) k) clusters in
    let one = length-appended segments (c * k) k in
    omega (arith, rest, one)

-- with each cluster it has its sectors besides
pub sectors-with : (k : ℕ) (segments : List (ℕ × ℕ)) (clusters : List ℕ) → length (sectors_of (with_clusters k segments clusters)) ≡ length (sectors_of segments) + length clusters * k
sectors-with k segments [] = omega arith
sectors-with k segments (c ∷ clusters) =
    let rest = sectors-with k (appended_segments segments (c * k) k) clusters in
    let one : length (sectors_of (appended_segments segments (c * k) k)) ≡ length (sectors_of segments) + k = ap length (sectors_of-appended segments (c * k) k)
    ∙ length-append (sectors_of segments) (range_with_len (c * k) k) ∙ ap (λ n. length (sectors_of segments) + n) (length-range_with_len (c * k) k) in
    let more : length (c ∷ clusters) * k ≡ k + length clusters * k = omega arith in
    omega (arith, rest, one, more)

-- ---- what a size needs

pub few-needed : (k t : ℕ) → 0 < k → t ≤ 1 → (t + (k - 1)) / k ≤ 1
few-needed k t some few = div-le_of_le-mul k {m = t + (k - 1)} {n = 1} (omega (arith, some, few))

-- the clusters that are needed have the sectors that are missing
pub enough-needed : (k t : ℕ) → 0 < k → t ≤ (t + (k - 1)) / k * k
enough-needed k t some = let low = lt-div-mul-add {a = t + (k - 1)} {b = k} some in omega (arith, low, some)

-- so a file with a choice of clusters holds its size
pub choice-holds : (k : ℕ) (free : ℕ → Bool) (segments : List (ℕ × ℕ)) (size : ℕ) (gained : List ℕ) → 0 < k → IsChoice k free segments size gained
    → size ≤ 256 * length (sectors_of (with_clusters k segments gained))
choice-holds k free segments size gained some choice =
    let missing : ℕ = sector_count size - length (sectors_of segments) in
    let low : missing ≤ clusters_needed k segments size * k = enough-needed k missing some in
    let count : length gained * k ≡ clusters_needed k segments size * k = ap (λ n. n * k) choice.enough in
    let long = sectors-with k segments gained in
    omega (arith, low, count, long)

-- a choice of one cluster or none, where a list has a place for it
pub sure-choice : (k : ℕ) (free : ℕ → Bool) (segments : List (ℕ × ℕ)) (size bound : ℕ) → 0 < k → clusters_needed k segments size ≤ 1 → length segments ≤ 48
    → (1 ≤ clusters_needed k segments size → length segments < 48) → clusters_needed k segments size ≤ count_of (free_beside k free segments) 0 bound
    → (gained : List ℕ) × IsChoice k free segments size gained
sure-choice k free segments size bound some few most place enough = by_choice (some-choice k free segments size bound some enough)
  where
    -- a list with a place has no cluster too many
    never : (gained : List ℕ) → IsOneTooMany k free segments size gained → (0 < clusters_needed k segments size) ⊎ (clusters_needed k segments size ≤ 0) → ⊥
    never gained many (inl one) =
        let long = length-with k segments gained in
        let low = place (omega (arith, one)) in
        absurd (omega (arith, long, low, many.needed, many.full, few))
    never gained many (inr none) =
        let long = length-with k segments gained in
        absurd (omega (arith, long, none, many.needed, many.full, most))

    by_choice : ChoiceOrNot k free segments size → (gained : List ℕ) × IsChoice k free segments size gained
    by_choice (inl choice) = choice
    by_choice (inr (gained, many)) = absurd (never gained many (cases_lt 0 (clusters_needed k segments size)))

-- ---- contents

pub length-put : (contents bytes : List ℕ) (at : ℕ) → at ≤ length contents → length (put_at contents at bytes) ≡ max (length contents) (at + length bytes)
length-put contents bytes at fits =
    let front : length (take at contents) ≡ min at (length contents) = length-take at contents in
    let rest : length (drop (at + length bytes) contents) ≡ length contents - (at + length bytes) = length-drop (at + length bytes) contents in
    let both : length (take at contents ++ bytes) ≡ length (take at contents) + length bytes = length-append (take at contents) bytes in
    length-append (take at contents ++ bytes) (drop (at + length bytes) contents) ∙ omega (arith, front, rest, both, fits)

length-extended : (contents : List ℕ) (size : ℕ) → length (extended contents size) ≡ max (length contents) size
length-extended contents size =
    let zeros : length (replicate (size - length contents) (let none : ℕ = 0 in none)) ≡ size - length contents = length-replicate (size - length contents) 0 in
    length-append contents (replicate (size - length contents) 0) ∙ omega (arith, zeros)

pub length-resized : (contents : List ℕ) (size : ℕ) → length (resized contents size) ≡ size
length-resized contents size =
    let long = length-extended contents size in
    length-take size (extended contents size) ∙ omega (arith, long)

pub length-written : (contents bytes : List ℕ) (at : ℕ) → 0 < length bytes → length (written contents at bytes) ≡ max (length contents) (at + length bytes)
length-written contents [] at some = absurd (omega (arith, some))
length-written contents (byte ∷ bytes) at some =
    let long = length-extended contents at in
    length-put (extended contents at) (byte ∷ bytes) at (omega (arith, long)) ∙ omega (arith, long)
