-- Runs of sectors of an owner that are noted.
use Rattle.std.proofs.Common.{◌≡◌, ℕ, zero, suc, ◌+◌, ◌-◌, ◌/◌, ◌<◌, ◌≤◌, ◌==◌, true, List, [], ◌∷◌, ◌++◌, length, take, get_or, ap, ◌∙◌, subst, refl, arith, eq-eqb}
use Rattle.std.specs.List.{range_with_len}
use Rattle.std.proofs.Math.Nat.{div-mul-le_self, mul-le-mul_right}
use Rattle.std.proofs.lemmas.Nat.{le-div}
use Rattle.std.proofs.lemmas.Bool.{or_left}
use Rattle.rbf_model.specs.Segments.{has, segment_sectors, sectors_of}
use Rattle.rbf_model.proofs.Segments.{range_has}
use Rattle.rbf_sector_rules.specs.declared.uses.Owner.{Owner}
use Rattle.rbf_sector_rules.specs.declared.uses.Uses.{Uses}
use Rattle.rbf_sector_rules.specs.Noted.{HasOwner, cluster_begin, IsNoted}
use Rattle.rbf_sector_rules.proofs.Noted.{noted_past, noted_then}
use Rattle.rbf_sector_rules.proofs.Runs.{sectors_more}

-- two runs of which one begins where the other ends
range_then : (a m n : ℕ) → range_with_len a m ++ range_with_len (a + m) n ≡ range_with_len a (m + n)
range_then a zero n =
    let begin : a + 0 ≡ a = omega arith in
    let count : n ≡ 0 + n = omega arith in
    ap (λ b. range_with_len b n) begin ∙ ap (range_with_len a) count
range_then a (suc m) n =
    let begin : a + suc m ≡ a + 1 + m = omega arith in
    let count : suc (m + n) ≡ suc m + n = omega arith in
    ap (λ b. range_with_len a (suc m) ++ range_with_len b n) begin ∙ ap (λ xs. a ∷ xs) (range_then (a + 1) m n) ∙ ap (range_with_len a) count

-- the sectors of a run from its first up to one of them, and the others
run_parts : (first s count : ℕ) → first ≤ s → s ≤ first + count → range_with_len first (s - first) ++ range_with_len s (first + count - s) ≡ range_with_len first count
run_parts first s count after within =
    let begin : s ≡ first + (s - first) = omega arith in
    let all : s - first + (first + count - s) ≡ count = omega arith in
    ap (λ b. range_with_len first (s - first) ++ range_with_len b (first + count - s)) begin ∙ range_then first (s - first) (first + count - s) ∙ ap (range_with_len first) all

run_more : (first s : ℕ) → first ≤ s → range_with_len first (s - first) ++ s ∷ [] ≡ range_with_len first (s + 1 - first)
run_more first s after =
    let begin : s ≡ first + (s - first) = omega arith in
    let count : s - first + 1 ≡ s + 1 - first = omega arith in
    ap (λ b. range_with_len first (s - first) ++ b ∷ []) begin ∙ range_then first (s - first) 1 ∙ ap (range_with_len first) count

-- the clusters of later sectors begin no earlier
begins_after : (k s t : ℕ) → 0 < k → s ≤ t → (s / k ≤ t / k) × (cluster_begin k s ≤ cluster_begin k t)
begins_after k s t positive after =
    let quotient : s / k ≤ t / k = le-div (s / k) t k positive (omega (arith, div-mul-le_self s k)) in
    (quotient, mul-le-mul_right k quotient)

module _ (k : ℕ) (positive : 0 < k) (owner : Owner) (old : Uses) where
  module _ (first s : ℕ) (after : first ≤ s) (cur : Uses) (noted : IsNoted k owner (range_with_len first (s - first)) old cur) where
    -- behind a sector whose cluster begins no lower than the least breach
    pub run_left : (count : ℕ) → s < first + count → cur.least ≤ cluster_begin k s → IsNoted k owner (range_with_len first count) old cur
    run_left count within begins =
        let rest = range_with_len s (first + count - s) in
        let later : (t : ℕ) → has rest t ≡ true → cur.least ≤ cluster_begin k t = λ t h. omega (arith, (begins_after k s t positive (range_has s (first + count - s) t h).0).1) in
        let P : List ℕ → Type 0 = λ xs. IsNoted k owner xs old cur in
        subst P (run_parts first s count after (omega arith))
        (noted_then k owner (range_with_len first (s - first)) rest old cur cur noted
        (noted_past k owner rest cur (λ t h. omega (arith, later t h, div-mul-le_self t k)) (λ t h low. absurd (omega (arith, later t h)))))

    -- one sector more
    module _ (new : Uses) (here : IsNoted k owner (s ∷ []) cur new) where
      pub run_grown : IsNoted k owner (range_with_len first (s + 1 - first)) old new
      run_grown =
          let P : List ℕ → Type 0 = λ xs. IsNoted k owner xs old new in
          subst P (run_more first s after) (noted_then k owner (range_with_len first (s - first)) (s ∷ []) old cur new noted here)

      -- which shows a breach
      pub run_ended : (count : ℕ) → s < first + count → new.least ≤ s → IsNoted k owner (range_with_len first count) old new
      run_ended count within less =
          let rest = range_with_len (s + 1) (first + count - (s + 1)) in
          let behind : (t : ℕ) → has rest t ≡ true → s < t = λ t h. let low = (range_has (s + 1) (first + count - (s + 1)) t h).0 in omega arith in
          let owned : (t : ℕ) → has rest t ≡ true → cluster_begin k t < new.least → HasOwner new (t / k) owner.descriptor = λ t h low.
          let order = begins_after k s t positive (let low = behind t h in omega arith) in
          let back : t / k ≤ s / k = le-div (t / k) s k positive (omega arith) in
          let same : s / k ≡ t / k = omega arith in
          let begins : cluster_begin k s < new.least = omega arith in
          let Q : ℕ → Type 0 = λ c. HasOwner new c owner.descriptor in
          subst Q same (here.owned s (or_left (s == s) (has [] s) (eq-eqb s s refl)) begins) in
          let P : List ℕ → Type 0 = λ xs. IsNoted k owner xs old new in
          subst P (run_parts first (s + 1) count (omega arith) (omega arith))
          (noted_then k owner (range_with_len first (s + 1 - first)) rest old new new run_grown (noted_past k owner rest new (λ t h. let low = behind t h in omega arith) owned))

  -- one run more
  pub runs_more : (runs : List (ℕ × ℕ)) (i : ℕ) (cur new : Uses) → i < length runs
      → IsNoted k owner (sectors_of (take i runs)) old cur → IsNoted k owner (segment_sectors (get_or runs i (0, 0)))
      cur new → IsNoted k owner (sectors_of (take (i + 1) runs)) old new
  runs_more runs i cur new low noted here =
      let P : List ℕ → Type 0 = λ xs. IsNoted k owner xs old new in
      subst P (sectors_more runs i low) (noted_then k owner (sectors_of (take i runs)) (segment_sectors (get_or runs i (0, 0))) old cur new noted here)
