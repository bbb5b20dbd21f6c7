-- A file gains the clusters that it needs where so many are free, or one of them finds no place in its segments.
use Rattle.std.proofs.Common.{◌≡◌, ◌≢◌, ◌⊎◌, ℕ, zero, suc, ◌+◌, ◌-◌, ◌*◌, ◌/◌, ◌<◌, ◌≤◌, ◌==◌, not, Bool, true, false, Some, List, [], ◌∷◌, length, get_or, refl, sym, ap, ◌∙◌, subst, inl, inr, arith}
use Rattle.std.specs.Prelude.{filter, if◌then◌else◌, ◌&&◌, ◌||◌}
use Rattle.std.specs.List.{range_with_len}
use Rattle.std.proofs.lemmas.Bool.{both_ways, cases_eq, cases_lt, eqb-true, false_from_ne_true, false≢true, or_right}
use Rattle.std.proofs.lemmas.List.Elements.{filter_agree}
use Rattle.rbf_model.specs.File.{DiskFile}
use Rattle.rbf_model.specs.Segments.{appended_segments, has, sectors_of}
use Rattle.rbf_model.specs.Space.{cluster_count, has_cluster}
use Rattle.rbf_model.specs.Volume.{DiskVolume}
use Rattle.rbf_model.proofs.Lists.{any_witness}
use Rattle.rbf_model.proofs.Owners.{owns_own}
use Rattle.rbf_model.proofs.Space.{cluster_from_owns}
use Rattle.rbf_change.specs.Calls.{cluster_size, free_total, is_free_in, shape}
use Rattle.rbf_change.specs.Growth.{Gains, IsChoice, IsOneTooMany, MayGain, begins_run, clusters_needed, free_beside, uses, with_clusters}
use Rattle.run_laws.proofs.Clusters.{uses_more}
use Rattle.file_laws.proofs.Volumes.{unused}

-- ---- how many are free

abbrev pub count_of : (ℕ → Bool) → ℕ → ℕ → ℕ
count_of free from n = length (filter free (range_with_len from n))

pub some-free : (free : ℕ → Bool) (from n : ℕ) → 0 < count_of free from n → (x : ℕ) × (free x ≡ true)
some-free free from zero some = absurd (omega arith)
some-free free from (suc n) some = by_first (some-free free (from + 1) n) (free from) refl some
  where
    by_first : (0 < count_of free (from + 1) n → (x : ℕ) × (free x ≡ true)) → (first : Bool) → free from ≡ first
        → 0 < length (if first then from ∷ filter free (range_with_len (from + 1) n) else filter free
        (range_with_len (from + 1) n)) → (x : ℕ) × (free x ≡ true)
    by_first later true is some = (from, is)
    by_first later false is some = later some

-- one more, or none
abbrev more : Bool → ℕ → ℕ
more b k = if b then suc k else k

length-if : (b : Bool) (x : ℕ) (xs : List ℕ) → length (if b then x ∷ xs else xs) ≡ more b (length xs)
length-if true x xs = refl
length-if false x xs = refl

more-bounds : (b : Bool) (k : ℕ) → (k ≤ more b k) × (more b k ≤ suc k)
more-bounds true k = (omega arith, omega arith)
more-bounds false k = (omega arith, omega arith)

more-both : (b : Bool) (k l : ℕ) → k ≤ suc l → more b k ≤ suc (more b l)
more-both true k l below = omega (arith, below)
more-both false k l below = below

-- two tests that agree on all numbers but one
module _ (f g : ℕ → Bool) (x : ℕ) (same : (c : ℕ) → c ≢ x → g c ≡ f c) where
  same-count : (from n : ℕ) → x < from → count_of f from n ≡ count_of g from n
  same-count from zero below = refl
  same-count from (suc n) below =
      let rest = same-count (from + 1) n (omega (arith, below)) in
      let here : g from ≡ f from = same from (λ is. (let equal : from ≡ x = is in omega (arith, below, equal))) in
      length-if (f from) from (filter f (range_with_len (from + 1) n))
      ∙ ap (more (f from)) rest
      ∙ ap (λ (b : Bool). more b (count_of g (from + 1) n)) (sym here)
      ∙ sym (length-if (g from) from (filter g (range_with_len (from + 1) n)))

  pub drop-one : (from n : ℕ) → count_of f from n ≤ suc (count_of g from n)
  drop-one from zero = omega arith
  drop-one from (suc n) =
      subst (λ (k : ℕ). k ≤ suc (count_of g from (suc n))) (sym (length-if (f from) from (filter f (range_with_len (from + 1) n))))
      (subst (λ (k : ℕ). more (f from) (count_of f (from + 1) n) ≤ suc k) (sym (length-if (g from) from (filter g (range_with_len (from + 1) n)))) (by_place (drop-one (from + 1) n)))
    where
      by_place : count_of f (from + 1) n ≤ suc (count_of g (from + 1) n) → more (f from) (count_of f (from + 1) n) ≤ suc (more (g from) (count_of g (from + 1) n))
      by_place later =
          elim (cases_eq from x) [
            | inl is ↦
                (let rest : count_of f (from + 1) n ≡ count_of g (from + 1) n = same-count (from + 1) n (omega (arith, is)) in
                let one = more-bounds (f from) (count_of f (from + 1) n) in
                let two = more-bounds (g from) (count_of g (from + 1) n) in
                omega (arith, rest, one.1, two.0))
            | inr differ ↦
                subst (λ (b : Bool). more (f from) (count_of f (from + 1) n) ≤ suc (more b (count_of g (from + 1) n))) (sym (same from differ))
                (more-both (f from) (count_of f (from + 1) n) (count_of g (from + 1) n) later)
          ]

-- ---- one cluster

-- the first of a row of free clusters
record IsRunStart (free : ℕ → Bool) (c : ℕ) : Type 0 where
  pub is_free : free c ≡ true
  pub begins : begins_run free c ≡ true

run-start : (free : ℕ → Bool) (x : ℕ) → free x ≡ true → (c : ℕ) × IsRunStart free c
run-start free zero is = (0, record { is_free = is; begins = ap (λ (b : Bool). b && true) is })
run-start free (suc x) is = by_before (run-start free x) (free x) refl
  where
    by_before : (free x ≡ true → (c : ℕ) × IsRunStart free c) → (before : Bool) → free x ≡ before → (c : ℕ) × IsRunStart free c
    by_before earlier true there = earlier there
    by_before earlier false there =
        let one : suc x - 1 ≡ x = omega arith in (
          suc x,
          record {
            is_free = is;
            begins = (λ i. is i && ((suc x == 0) || not (free (one i)))) ∙ or_right (suc x == 0) (not (free x)) (ap (λ (b : Bool). not b) there);
          },
        )

some-gain : (k : ℕ) (free : ℕ → Bool) (segments : List (ℕ × ℕ)) (x : ℕ) → free x ≡ true → (c : ℕ) × MayGain k free segments c
some-gain k free segments x is = by_some (cases_lt 0 (length (sectors_of segments)))
  where
    -- the cluster after the last sector
    next : ℕ
    next = get_or (sectors_of segments) (length (sectors_of segments) - 1) 0 / k + 1

    by_next : 0 < length (sectors_of segments) → (there : Bool) → free next ≡ there → (c : ℕ) × MayGain k free segments c
    by_next some true there = (
      next,
      record {
        is_free = there;
        next = λ d after free_d. sym after.next;
        run = inl (record { some = omega (arith, some); next = refl });
      },
    )
    by_next some false there =
        let (c, start) = run-start free x is in (
          c,
          record {
            is_free = start.is_free;
            next = λ d after free_d. absurd (false≢true (sym there ∙ ap free (sym after.next) ∙ free_d));
            run = inr start.begins;
          },
        )

    by_some : (0 < length (sectors_of segments)) ⊎ (length (sectors_of segments) ≤ 0) → (c : ℕ) × MayGain k free segments c
    by_some (inl some) = by_next some (free next) refl
    by_some (inr none) =
        let (c, start) = run-start free x is in (
          c,
          record {
            is_free = start.is_free;
            next = λ d after free_d. absurd (omega (arith, after.some, none));
            run = inr start.begins;
          },
        )

-- ---- as many as are needed

-- the others stay free when one has been gained
still-free : (k : ℕ) (free : ℕ → Bool) (segments : List (ℕ × ℕ)) (c : ℕ) → 1 ≤ k → (d : ℕ) → d ≢ c → free_beside k free (appended_segments segments (c * k) k) d ≡ free_beside k free segments d
still-free k free segments c some d differ =
    ap (λ (used : Bool). free d && not used) (uses_more k segments c d some)
    ∙ ap (λ (same : Bool). free d && not (uses k segments d || same)) (false_from_ne_true (c == d) (λ same. differ (sym (eqb-true c d same))))
    ∙ ap (λ (used : Bool). free d && not used) (or-false (uses k segments d))
  where
    or-false : (b : Bool) → (b || false) ≡ b
    or-false true = refl
    or-false false = refl

-- clusters that are gained one after the other
record SomeGains (count k : ℕ) (free : ℕ → Bool) (segments : List (ℕ × ℕ)) : Type 0 where
  pub clusters : List ℕ
  pub long : length clusters ≡ count
  pub gained : Gains k free segments clusters

-- after a first one
gains-then : (count k : ℕ) (free : ℕ → Bool) (segments : List (ℕ × ℕ)) (c : ℕ)
    → MayGain k (free_beside k free segments) segments c → SomeGains count k free (appended_segments segments (c * k)
    k) → SomeGains (suc count) k free segments
gains-then count k free segments c may rest =
    record { clusters = c ∷ rest.clusters; long = ap suc rest.long; gained = (may, rest.gained) }

some-gains : (count k : ℕ) (free : ℕ → Bool) (segments : List (ℕ × ℕ)) (bound : ℕ) → 1 ≤ k → count ≤ count_of (free_beside k free segments) 0 bound → SomeGains count k free segments
some-gains zero k free segments bound some enough = record { clusters = []; long = refl; gained = tt }
some-gains (suc count) k free segments bound some enough =
    let there = some-free (free_beside k free segments) 0 bound (omega (arith, enough)) in
    let gain = some-gain k (free_beside k free segments) segments there.0 there.1 in
    let after = appended_segments segments (gain.0 * k) k in
    let drop : count_of (free_beside k free segments) 0 bound ≤ suc (count_of (free_beside k free after) 0 bound) =
    drop-one (free_beside k free segments) (free_beside k free after) gain.0 (still-free k free segments gain.0
    some) 0 bound in
    gains-then count k free segments gain.0 gain.1 (some-gains count k free after bound some (omega (arith, enough, drop)))

-- a choice, or clusters of which one finds no place
abbrev pub ChoiceOrNot : ℕ → (ℕ → Bool) → List (ℕ × ℕ) → ℕ → Type 0
ChoiceOrNot k free segments size =
    ((clusters : List ℕ) × IsChoice k free segments size clusters) ⊎ ((clusters : List ℕ) × IsOneTooMany k free segments size clusters)

pub some-choice : (k : ℕ) (free : ℕ → Bool) (segments : List (ℕ × ℕ)) (size bound : ℕ) → 1 ≤ k → clusters_needed k
    segments size ≤ count_of (free_beside k free segments) 0 bound → ChoiceOrNot k free segments size
some-choice k free segments size bound some enough = by_gains (some-gains (clusters_needed k segments size) k free segments bound some enough)
  where
    by_gains : SomeGains (clusters_needed k segments size) k free segments → ChoiceOrNot k free segments size
    by_gains it =
        elim (cases_lt 48 (length (with_clusters k segments it.clusters))) [
          | inl full ↦
              inr (
                it.clusters,
                record { needed = subst (λ (n : ℕ). length it.clusters ≤ n) it.long (omega arith); gained = it.gained; full = full },
              )
          | inr fits ↦ inl (it.clusters, record { enough = it.long; gained = it.gained; fits = fits })
        ]

-- ---- a file of a volume

module _ (v : DiskVolume) (n : ℕ) (file : DiskFile) (is : v.files n ≡ Some file) (below : n < (shape v).total) (some : 0 < cluster_size v) where
  -- it has no free cluster
  not-used : (c : ℕ) → is_free_in v c ≡ true → uses (cluster_size v) file.segments c ≡ false
  not-used c free =
      false_from_ne_true (uses (cluster_size v) file.segments c)
      (λ used. (
      let w = any_witness (λ s. s / cluster_size v == c) (sectors_of file.segments) used in
      let owned : has_cluster (shape v) n file (w.0 / cluster_size v) ≡ true = cluster_from_owns (shape v) n file w.0
      (owns_own (shape v) n file w.0 (or_right (n == w.0) (has (sectors_of file.segments) w.0) w.1)) in
      both_ways (has_cluster (shape v) n file c) (unused (shape v) v c n file free below is)
      (subst (λ (c : ℕ). has_cluster (shape v) n file c ≡ true) (eqb-true (w.0 / cluster_size v) c w.2) owned)))

  beside-same : (c : ℕ) → free_beside (cluster_size v) (is_free_in v) file.segments c ≡ is_free_in v c
  beside-same c = by_free (is_free_in v c) (uses (cluster_size v) file.segments c) (not-used c)
    where
      by_free : (free used : Bool) → (free ≡ true → used ≡ false) → (free && not used) ≡ free
      by_free true used none = ap not (none refl)
      by_free false used none = refl

  pub file-choice : (size : ℕ) → clusters_needed (cluster_size v) file.segments size ≤ free_total v → ChoiceOrNot (cluster_size v) (is_free_in v) file.segments size
  file-choice size enough =
      some-choice (cluster_size v) (is_free_in v) file.segments size (cluster_count (shape v)) (omega (arith, some))
      (subst (λ (xs : List ℕ). clusters_needed (cluster_size v) file.segments size ≤ length xs)
      (sym (filter_agree (free_beside (cluster_size v) (is_free_in v) file.segments) (is_free_in v) beside-same
      (range_with_len 0 (cluster_count (shape v))))) enough)
