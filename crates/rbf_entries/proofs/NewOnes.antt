-- A new file without contents: its clusters, and those that are still free then.
use Rattle.std.proofs.Common.{◌≡◌, ◌≢◌, ℕ, zero, suc, ◌+◌, ◌-◌, ◌*◌, ◌/◌, ◌<◌, ◌≤◌, Bool, true, false, not, ◌==◌, ◌&&◌, ◌||◌, Option, Some, List, [], ◌∷◌, length, refl, sym, ap, ◌∙◌, subst, ⊎_elim, arith, eq-eqb, eqb-true}
use Rattle.std.specs.Prelude.{filter, if◌then◌else◌}
use Rattle.std.specs.List.{range_with_len, list_all}
use Rattle.std.proofs.Math.Nat.{mul-div_cancel, div-eq_of_lt}
use Rattle.std.proofs.lemmas.Bool.{or_left, or_cases, both_ways, false≢true, cases_Bool}
use Rattle.std.proofs.lemmas.List.{nil_from_length}
use Rattle.rbf_model.specs.File.{DiskFile}
use Rattle.rbf_model.specs.Geometry.{Geometry, image_geometry, sector}
use Rattle.rbf_model.specs.Segments.{has, sectors_of}
use Rattle.rbf_model.specs.Space.{is_whole, own_sectors, has_cluster, Unused, cluster_count}
use Rattle.rbf_model.specs.Volume.{DiskVolume, in_file, is_free}
use Rattle.rbf_model.specs.Writes.{with_lost}
use Rattle.rbf_model.proofs.Free.{free_parts}
use Rattle.rbf_model.proofs.Growth.{cluster_of_range}
use Rattle.rbf_model.proofs.Owners.{cluster_positive, clusters_of_own, owns_own, root_file}
use Rattle.rbf_model.proofs.Segments.{has_range, range_has, has_cases}
use Rattle.rbf_model.proofs.Space.{cluster_from_owns}
use Rattle.rbf_change.specs.Calls.{shape, cluster_size, is_free_in, free_total}
use Rattle.rbf_change.specs.Contents.{sector_count}
use Rattle.rbf_change.specs.Growth.{with_clusters, clusters_needed}
use Rattle.rbf_change.specs.NewFiles.{Plan, IsNewFile, first_segments, free_without}
use Rattle.rbf_change.proofs.LawfulWrites.{shape-image}
use Rattle.rbf_access.specs.Mounted.{RepresentsVolume}
use Rattle.rbf_entries.proofs.NewDescriptor.{first_more, first_none}

-- how many of a range pass, where one is left out
module _ (free h : ℕ → Bool) (x : ℕ) (one : (c : ℕ) → h c ≡ true → c ≡ x) where
  abbrev both : ℕ → Bool
  both c = free c && not (h c)

  all_past : (a m : ℕ) → x < a → length (filter free (range_with_len a m)) ≤ length (filter both (range_with_len a m))
  all_past a zero past = omega arith
  all_past a (suc m) past =
      let rest = all_past (a + 1) m (omega arith) in
      by (free a) (h a) refl refl (filter free (range_with_len (a + 1) m)) (filter both (range_with_len (a + 1) m)) rest
    where
      by : (t u : Bool) → free a ≡ t → h a ≡ u → (xs ys : List ℕ) → length xs ≤ length ys → length (if t then a ∷ xs else xs) ≤ length (if t && not u then a ∷ ys else ys)
      by t true et eu xs ys low = let same = one a eu in absurd (omega arith)
      by true false et eu xs ys low = omega arith
      by false false et eu xs ys low = low

  pub one_fewer : (a m : ℕ) → length (filter free (range_with_len a m)) ≤ length (filter both (range_with_len a m)) + 1
  one_fewer a zero = omega arith
  one_fewer a (suc m) =
      by (free a) (h a) refl (filter free (range_with_len (a + 1) m)) (filter both (range_with_len (a + 1) m))
      (λ here. all_past (a + 1) m (let same = one a here in omega arith)) (one_fewer (a + 1) m)
    where
      by : (t u : Bool) → h a ≡ u → (xs ys : List ℕ) → (h a ≡ true → length xs ≤ length ys) → length xs ≤ length ys + 1
          → length (if t then a ∷ xs else xs) ≤ length (if t && not u then a ∷ ys else ys) + 1
      by true true eu xs ys past low = let p = past eu in omega arith
      by true false eu xs ys past low = omega arith
      by false true eu xs ys past low = low
      by false false eu xs ys past low = low

-- what is free where clusters are lost besides
but_lost : (w l h a : Bool) → (w && not (l || h) && a) ≡ ((w && not l && a) && not h)
but_lost true true h true = sym (none h)
  where
    none : (t : Bool) → (false && not t) ≡ false
    none true = refl
    none false = refl
but_lost true true true false = refl
but_lost true true false false = refl
but_lost true false true true = refl
but_lost true false true false = refl
but_lost true false false true = refl
but_lost true false false false = refl
but_lost false l true a = refl
but_lost false l false a = refl

pub free_in_lost : (g : Geometry) (v : DiskVolume) (h : ℕ → Bool) (c : ℕ) → is_free g (with_lost v (λ x. v.lost x || h x)) c ≡ (is_free g v c && not (h c))
unfolding is_free
free_in_lost g v h c = but_lost (is_whole g c) (v.lost c) (h c) (list_all (λ n. not (in_file g n (v.files n) c)) (range_with_len 0 g.total))

-- a new file needs one cluster
pub one_cluster : (k : ℕ) (segments : List (ℕ × ℕ)) → 1 ≤ k → clusters_needed k segments 0 ≡ 0
one_cluster k segments some =
    let none : sector_count 0 - length (sectors_of segments) + (k - 1) ≡ k - 1 = omega arith in
    let low : k - 1 < k = omega arith in
    ap (λ n. n / k) none ∙ div-eq_of_lt low

module _ (media : Option (List ℕ)) (v : DiskVolume) (on : RepresentsVolume media v) (n : ℕ) (plan : Plan)
    (bare : length plan.contents ≡ 0) (file : DiskFile) (new : IsNewFile (cluster_size v) (is_free_in v) n plan file) where
  abbrev k : ℕ
  k = cluster_size v

  abbrev g : Geometry
  g = image_geometry on.image

  volume_shape : shape v ≡ g
  volume_shape = shape-image on.image v on.vol

  pub positive : 1 ≤ k
  positive = subst (λ (s : Geometry). 1 ≤ s.cluster) (sym volume_shape) (cluster_positive g.cluster on.vol.sound.shape.header.clusters)

  in_cluster : n / k ≡ new.cluster
  in_cluster = ap (λ m. m / k) new.first ∙ mul-div_cancel new.cluster positive

  pub first_free : is_free_in v (n / k) ≡ true
  first_free = ap (is_free_in v) in_cluster ∙ new.taken

  pub free_facts : (c : ℕ) → is_free_in v c ≡ true → (v.lost c ≡ false) × Unused (shape v) v.files c
  free_facts c h =
      let parts = free_parts g (sector on.image) v on.vol.sound c (subst (λ s. is_free s v c ≡ true) volume_shape h) in
      (parts.1, subst (λ s. Unused s v.files c) (sym volume_shape) parts.2)

  not_root : n ≢ (shape v).root
  not_root same =
      let r = root_file g (sector on.image) v on.vol.sound in
      let there : v.files (shape v).root ≡ Some r.0 = ap (λ (s : Geometry). v.files s.root) volume_shape ∙ r.1 in
      both_ways (has_cluster (shape v) (shape v).root r.0 (n / k)) ((free_facts (n / k) first_free).1 (shape v).root r.0 there)
      (subst (λ m. has_cluster (shape v) (shape v).root r.0 (m / k) ≡ true) (sym same)
      (cluster_from_owns (shape v) (shape v).root r.0 (shape v).root
      (owns_own (shape v) (shape v).root r.0 (shape v).root
      (or_left ((shape v).root == (shape v).root) (has (sectors_of r.0.segments) (shape v).root)
      (eq-eqb (shape v).root (shape v).root refl)))))

  none_gained : new.gained ≡ []
  none_gained = nil_from_length new.gained (new.choice.enough ∙ ap (clusters_needed k (first_segments k n)) bare ∙ one_cluster k (first_segments k n) positive)

  segments_are : file.segments ≡ first_segments k n
  segments_are = ap (λ (f : DiskFile). f.segments) new.is ∙ ap (with_clusters k (first_segments k n)) none_gained

  pub contents_are : file.contents ≡ plan.contents
  contents_are = ap (λ (f : DiskFile). f.contents) new.is

  own_in : (s : ℕ) → has (own_sectors n file) s ≡ true → s / k ≡ n / k
  own_in s h = ⊎_elim
      (λ at. let e : n ≡ s = eqb-true n s at in ap (λ x. x / k) (sym e))
      (λ later.
      let more : has (sectors_of (first_segments k n)) s ≡ true = subst (λ xs. has (sectors_of xs) s ≡ true) segments_are later in
      ⊎_elim
      (λ one. absurd (false≢true (sym (ap (λ xs. has (sectors_of xs) s) (first_none k n (let e : k ≡ 1 = eqb-true k 1 one in omega arith) positive)) ∙ more)))
      (λ many.
      let big : 1 < k = (let some = positive in let ne : k ≢ 1 = λ e. both_ways (k == 1) many (eq-eqb k 1 e) in omega arith) in
      let r = range_has_one (n + 1) (k - 1) s (sym (ap (λ xs. has (sectors_of xs) s) (first_more k n big)) ∙ more) in
      let low = r.0 in
      let high = r.1 in
      let first = new.first in
      cluster_of_range k new.cluster s positive (has_range (new.cluster * k) k s (omega arith) (omega arith)) ∙ sym in_cluster)
      (cases_Bool (k == 1)))
      (or_cases (n == s) (has (sectors_of file.segments) s) h)
    where
      range_has_one : (a m t : ℕ) → has (sectors_of ((a, m) ∷ [])) t ≡ true → (a ≤ t) × (t < a + m)
      range_has_one a m t there = range_has a m t (⊎_elim (λ x. x) (λ none. absurd (false≢true none)) (has_cases (range_with_len a m) [] t there))

  -- it has one cluster
  pub its_cluster : (c : ℕ) → has_cluster (shape v) n file c ≡ true → c ≡ n / k
  its_cluster = clusters_of_own (shape v) n file (λ c. c ≡ n / k) not_root own_in

  -- so all others stay free
  pub still_free : free_total v ≤ length (filter (free_without (shape v) (is_free_in v) n file) (range_with_len 0 (cluster_count (shape v)))) + 1
  still_free = one_fewer (is_free_in v) (has_cluster (shape v) n file) (n / k) its_cluster 0 (cluster_count (shape v))
