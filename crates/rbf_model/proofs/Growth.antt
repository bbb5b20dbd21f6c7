-- A file whose sectors become more or fewer.
use Rattle.std.proofs.Common.{◌≡◌, ◌⊎◌, ℕ, ◌+◌, ◌-◌, ◌*◌, ◌/◌, ◌%◌, ◌<◌, ◌≤◌, ◌==◌, true, false, List, [], ◌∷◌, ◌++◌, length, take, drop, get_or, refl, sym, ap, ◌∙◌, subst, inl, inr, ⊎_elim, arith, append_assoc, length-append, eqb-true}
use Rattle.std.specs.Prelude.{flat_map, if◌then◌else◌}
use Rattle.std.specs.List.{list_any, range_with_len}
use Rattle.std.proofs.Math.Nat.{div-lt_iff_lt-mul, le-div_iff_mul-le}
use Rattle.std.proofs.lemmas.Bool.{or_cases, or_left, or_right, both_ways, cases_lt}
use Rattle.std.proofs.lemmas.List.{get_or_append_left, get_or-append_right, get_or_default, get_or-take, length-take-le, take-append-le, take-take}
use Rattle.std.proofs.lemmas.List.FromFn.{length-range_with_len, get_or-range_with_len}
use Rattle.std.proofs.lemmas.List.Folds.{list_any-append}
use Rattle.std.proofs.lemmas.Grind.{flat_map-append}
use Rattle.std.proofs.Math.Seq.{take-add}
use Rattle.rbf_model.specs.Fields.{directory_entry}
use Rattle.rbf_model.specs.Geometry.{Geometry}
use Rattle.rbf_model.specs.Segments.{AreDistinct, has, sectors_of}
use Rattle.rbf_model.specs.File.{DiskFile}
use Rattle.rbf_model.specs.Space.{system_sectors, own_sectors, owned, owns, has_cluster}
use Rattle.rbf_model.proofs.Lists.{any_witness}
use Rattle.rbf_model.proofs.Segments.{has_left, has_right, has_cases, range_has}
use Rattle.rbf_model.proofs.Space.{cluster_from_owns, owns_from_cluster}
use Rattle.rbf_model.proofs.SectorBytes.{piece_of_piece, sector_of_joined}
use Rattle.rbf_model.proofs.Bytes.{has_place}

-- a list without repeats, and one more that has no number of it
pub distinct_join : (xs ys : List ℕ) → AreDistinct xs → AreDistinct ys → ((s : ℕ) → has xs s ≡ true → has ys s ≡ true → ⊥) → AreDistinct (xs ++ ys)
distinct_join xs ys one other apart i j d low high same =
    ⊎_elim
    (λ in_first. one i j d low in_first (sym (get_or_append_left xs ys d i (omega arith)) ∙ same ∙ get_or_append_left xs ys d j in_first))
    (λ in_second. ⊎_elim
    (λ before.
    let x = has_at xs i d before in
    let y = has_at ys (j - length xs) d (let total = length-append xs ys in omega arith) in
    apart (get_or xs i d) x
    (subst (λ k. has ys k ≡ true)
    (sym (get_or-append_right xs ys (length xs) j d refl in_second) ∙ sym same ∙ get_or_append_left xs ys d i before) y))
    (λ after. other (i - length xs) (j - length xs) d (omega arith) (let total = length-append xs ys in omega arith)
    (sym (get_or-append_right xs ys (length xs) i d refl after) ∙ same ∙ get_or-append_right xs ys (length xs) j d refl in_second))
    (cases_lt i (length xs)))
    (cases_lt j (length xs))
  where
    has_at : (zs : List ℕ) (k e : ℕ) → k < length zs → has zs (get_or zs k e) ≡ true
    has_at zs k e within = subst (λ x. has zs x ≡ true) (get_or_default zs k 0 e within) (has_place zs k within)

-- a range has no repeats
pub distinct_range : (a n : ℕ) → AreDistinct (range_with_len a n)
distinct_range a n i j d low high same =
    let within : j < n = subst (λ k. j < k) (length-range_with_len a n) high in
    let one = get_or-range_with_len a n i d (omega arith) in
    let other = get_or-range_with_len a n j d within in
    absurd (omega arith)

-- a front of a list without repeats has none
pub distinct_front : (xs : List ℕ) (m : ℕ) → m ≤ length xs → AreDistinct xs → AreDistinct (take m xs)
distinct_front xs m fits h i j d low high same =
    let within : j < m = subst (λ k. j < k) (length-take-le m xs fits) high in
    h i j d low (omega arith) (sym (get_or-take m xs i d (omega arith)) ∙ same ∙ get_or-take m xs j d within)

-- the sectors of a cluster
pub cluster_of_range : (k c t : ℕ) → 1 ≤ k → has (range_with_len (c * k) k) t ≡ true → t / k ≡ c
cluster_of_range k c t positive h =
    let r = range_has (c * k) k t h in
    let low : c ≤ t / k = (le-div_iff_mul-le positive).1 r.0 in
    let below : t < (c + 1) * k = let high = r.1 in omega arith in
    let high : t / k < c + 1 = (div-lt_iff_lt-mul positive).1 below in
    omega arith

-- what an owner has with more sectors
pub owned_more : (g : Geometry) (n : ℕ) (old new : DiskFile) (more : List ℕ) → sectors_of new.segments ≡ sectors_of old.segments ++ more → owned g n new ≡ owned g n old ++ more
unfolding owned
owned_more g n old new more same =
    ap (λ xs. (if n == g.root then system_sectors g else []) ++ (n ∷ xs)) same ∙ sym (append_assoc (if n == g.root then system_sectors g else []) (own_sectors n old) more)

-- a file that gains the sectors of one cluster has that cluster besides its own
pub cluster_gained : (g : Geometry) (n : ℕ) (old new : DiskFile) (c d : ℕ) → 1 ≤ g.cluster → sectors_of new.segments ≡ sectors_of old.segments ++ range_with_len (c * g.cluster) g.cluster
    → has_cluster g n new d ≡ true → (has_cluster g n old d ≡ true) ⊎ (d ≡ c)
unfolding has_cluster
cluster_gained g n old new c d positive same h =
    let all = subst (λ xs. list_any (λ t. t / g.cluster == d) xs ≡ true) (owned_more g n old new (range_with_len (c * g.cluster) g.cluster) same) h in
    ⊎_elim
    (λ was. inl was)
    (λ is_new.
    let w = any_witness (λ t. t / g.cluster == d) (range_with_len (c * g.cluster) g.cluster) is_new in
    inr (sym (eqb-true (w.0 / g.cluster) d w.2) ∙ cluster_of_range g.cluster c w.0 positive w.1))
    (or_cases (list_any (λ t. t / g.cluster == d) (owned g n old)) (list_any (λ t. t / g.cluster == d) (range_with_len (c * g.cluster) g.cluster))
    (sym (list_any-append (λ t. t / g.cluster == d) (owned g n old) (range_with_len (c * g.cluster) g.cluster)) ∙ all))

-- what is owned
owns_is : (g : Geometry) (n : ℕ) (file : DiskFile) (s : ℕ) → has (owned g n file) s ≡ true → owns g n file s ≡ true
unfolding owns
owns_is g n file s h = h

-- and no sector twice, where it had not that cluster
pub distinct_gained : (g : Geometry) (n : ℕ) (old new : DiskFile) (c : ℕ) → 1 ≤ g.cluster → sectors_of new.segments ≡ sectors_of old.segments ++ range_with_len (c * g.cluster) g.cluster
    → has_cluster g n old c ≡ false → AreDistinct (owned g n old) → AreDistinct (owned g n new)
distinct_gained g n old new c positive same none distinct =
    subst AreDistinct (sym (owned_more g n old new (range_with_len (c * g.cluster) g.cluster) same))
    (distinct_join (owned g n old) (range_with_len (c * g.cluster) g.cluster) distinct (distinct_range (c * g.cluster) g.cluster)
    (λ s one other. both_ways (has_cluster g n old c) none
    (subst (λ d. has_cluster g n old d ≡ true) (cluster_of_range g.cluster c s positive other) (cluster_from_owns g n old s (owns_is g n old s one)))))

owns_fewer : (g : Geometry) (n : ℕ) (old new : DiskFile) (s : ℕ) → ((t : ℕ) → has (sectors_of new.segments) t ≡ true → has (sectors_of old.segments) t ≡ true)
    → owns g n new s ≡ true → owns g n old s ≡ true
unfolding owns owned
owns_fewer g n old new s fewer k =
    ⊎_elim
    (λ system. has_left (if n == g.root then system_sectors g else []) (own_sectors n old) s system)
    (λ own. has_right (if n == g.root then system_sectors g else []) (own_sectors n old) s
    (⊎_elim (λ here. or_left (n == s) (has (sectors_of old.segments) s) here) (λ later. or_right (n == s) (has (sectors_of old.segments) s) (fewer s later))
    (or_cases (n == s) (has (sectors_of new.segments) s) own)))
    (has_cases (if n == g.root then system_sectors g else []) (own_sectors n new) s k)

-- a file whose sectors are a front of what they were has no other cluster
pub cluster_kept : (g : Geometry) (n : ℕ) (old new : DiskFile) (c : ℕ) → ((s : ℕ) → has (sectors_of new.segments) s ≡ true → has (sectors_of old.segments) s ≡ true)
    → has_cluster g n new c ≡ true → has_cluster g n old c ≡ true
cluster_kept g n old new c fewer h =
    let w = owns_from_cluster g n new c h in
    subst (λ d. has_cluster g n old d ≡ true) w.2 (cluster_from_owns g n old w.0 (owns_fewer g n old new w.0 fewer w.1))

-- a larger size over more sectors has the old contents in front
pub longer_contents : (disk : ℕ → List ℕ) (xs more : List ℕ) (size longer : ℕ) → size ≤ longer → size ≤ length (flat_map disk xs)
    → take longer (flat_map disk (xs ++ more)) ≡ take size (flat_map disk xs) ++ take (longer - size) (drop size (flat_map disk (xs ++ more)))
longer_contents disk xs more size longer grows fits =
    let whole : size + (longer - size) ≡ longer = omega arith in
    ap (λ k. take k (flat_map disk (xs ++ more))) (sym whole)
    ∙ take-add size (longer - size) (flat_map disk (xs ++ more))
    ∙ ap (λ f. f ++ take (longer - size) (drop size (flat_map disk (xs ++ more))))
    (ap (take size) (flat_map-append disk xs more) ∙ take-append-le size (flat_map disk xs) (flat_map disk more) fits)

-- a smaller size over the sectors that it needs has a front of them
pub shorter_contents : (disk : ℕ → List ℕ) (xs rest : List ℕ) (size shorter : ℕ) → shorter ≤ size → shorter ≤ length (flat_map disk xs)
    → take shorter (flat_map disk xs) ≡ take shorter (take size (flat_map disk (xs ++ rest)))
shorter_contents disk xs rest size shorter falls fits =
    sym (take-take shorter size (flat_map disk (xs ++ rest)) falls ∙ ap (take shorter) (flat_map-append disk xs rest)
    ∙ take-append-le shorter (flat_map disk xs) (flat_map disk rest) fits)

-- the contents of a directory whose new descriptor has one entry more, which stands in its place in the sectors
pub contents_of_added : (disk : ℕ → List ℕ) (xs more : List ℕ) (i : ℕ) (entry : List ℕ) → ((x : ℕ) → has (xs ++ more) x ≡ true → length (disk x) ≡ 256) → 32 * i ≤ length (flat_map disk xs)
    → i / 8 < length (xs ++ more) → directory_entry (disk (get_or (xs ++ more) (i / 8) 0)) (i % 8) ≡ entry
    → take (32 * (i + 1)) (flat_map disk (xs ++ more)) ≡ take (32 * i) (flat_map disk xs) ++ entry
contents_of_added disk xs more i entry full fits low there =
    let place : 256 * (i / 8) + 32 * (i % 8) ≡ 32 * i = omega arith in
    let one : 32 * (i + 1) - 32 * i ≡ 32 = omega arith in
    longer_contents disk xs more (32 * i) (32 * (i + 1)) (omega arith) fits
    ∙ ap (λ b. take (32 * i) (flat_map disk xs) ++ b)
    (ap (λ k. take k (drop (32 * i) (flat_map disk (xs ++ more)))) one
    ∙ ap (λ k. take 32 (drop k (flat_map disk (xs ++ more)))) (sym place)
    ∙ sym (piece_of_piece (flat_map disk (xs ++ more)) 256 32 (i / 8) (i % 8) (omega arith))
    ∙ ap (λ b. directory_entry b (i % 8)) (sector_of_joined disk (xs ++ more) (i / 8) full low)
    ∙ there)
