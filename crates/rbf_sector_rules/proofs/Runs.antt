-- Runs of numbers, as sectors and positions are listed.
use Rattle.std.proofs.Common.{◌≡◌, ℕ, ◌+◌, ◌-◌, ◌<◌, ◌≤◌, zero, suc, true, List, [], ◌∷◌, ◌++◌, All, length, take, get_or, sym, ap, ◌∙◌, subst, arith}
use Rattle.std.proofs.lemmas.Grind.{flat_map-append}
use Rattle.std.proofs.lemmas.List.{append-nil, get_or_default, take_more}
use Rattle.rbf_model.specs.Segments.{segment_sectors, sectors_of, has}
use Rattle.rbf_model.proofs.Segments.{has_left, has_right, has_range}

-- the sectors of one run more
pub sectors_more : (runs : List (ℕ × ℕ)) (i : ℕ) → i < length runs → sectors_of (take i runs) ++ segment_sectors (get_or runs i (0, 0)) ≡ sectors_of (take (i + 1) runs)
sectors_more runs i low =
    let r = get_or runs i (0, 0) in
    ap (λ xs. sectors_of (take i runs) ++ xs) (sym (append-nil (segment_sectors r))) ∙ sym (flat_map-append segment_sectors (take i runs) (r ∷ [])) ∙ ap sectors_of (sym (take_more runs i (0, 0) low))

-- a run of a list: its sectors are of those of the list
pub run_has : (runs : List (ℕ × ℕ)) (i s : ℕ) → i < length runs → has (segment_sectors (get_or runs i (0, 0))) s ≡ true → has (sectors_of runs) s ≡ true
run_has [] i s low here = absurd (omega arith)
run_has (r ∷ runs) zero s low here = has_left (segment_sectors r) (sectors_of runs) s here
run_has (r ∷ runs) (suc i) s low here = has_right (segment_sectors r) (sectors_of runs) s (run_has runs i s (omega arith) here)

-- so that each ends within what these are below
pub runs_within : (runs : List (ℕ × ℕ)) (total : ℕ) → All (λ r. 1 ≤ r.1) runs → ((s : ℕ) → has (sectors_of runs) s ≡ true → s < total) → All (λ r. r.0 + r.1 ≤ total) runs
runs_within runs total nonempty below = λ i d low.
    let r = get_or runs i (0, 0) in
    let same : get_or runs i d ≡ r = get_or_default runs i d (0, 0) low in
    let some : 1 ≤ r.1 = nonempty i (0, 0) low in
    let last = below (r.0 + r.1 - 1) (run_has runs i (r.0 + r.1 - 1) low (has_range r.0 r.1 (r.0 + r.1 - 1) (omega arith) (omega arith))) in
    let P : ℕ × ℕ → Type 0 = λ q. q.0 + q.1 ≤ total in
    subst P (sym same) (let here : r.0 + r.1 ≤ total = omega (arith, last) in here)
