-- The sectors and clusters of a volume's files, within it and apart.
use Rattle.std.proofs.Common.{not, ◌&&◌, false, ◌≡◌, ◌≢◌, ◌⊎◌, ℕ, zero, suc, ◌+◌, ◌*◌, ◌/◌, ◌<◌, ◌≤◌, ◌==◌, Bool, true, List, [], ◌++◌, Option, Some, refl, sym, ap, ◌∙◌, subst, inl, inr, ⊎_elim, arith, eqb-true, eq-eqb, leb-true}
use Rattle.std.specs.Prelude.{if◌then◌else◌}
use Rattle.std.proofs.Math.Nat.{lt-div-mul-add, lt_of_mul-lt-mul_right}
use Rattle.std.proofs.lemmas.Bool.{both_ways, false_from_ne_true, cond-true, cond-false, cases_Bool, false≢true, or_cases}
use Rattle.rbf_model.specs.Disk.{disk_of}
use Rattle.rbf_model.specs.Geometry.{Geometry, IsGeometry, LieWithin, is_cluster_size, map_sectors}
use Rattle.rbf_model.specs.Segments.{AreDistinct, sectors_of, has}
use Rattle.rbf_model.specs.File.{DiskFile}
use Rattle.rbf_model.specs.Space.{Unused, is_whole, is_marked, system_sectors, own_sectors, owned, owns, has_cluster, IsMapped}
use Rattle.rbf_model.specs.Tree.{root}
use Rattle.rbf_model.specs.Volume.{DiskVolume, Sound, is_free}
use Rattle.rbf_model.specs.Writes.{put}
use Rattle.rbf_model.proofs.Lists.{some_of}
use Rattle.rbf_model.proofs.Segments.{has_cases, has_left, has_right, range_has, has_range, sectors_within}
use Rattle.rbf_model.proofs.Space.{cluster_from_owns, owns_from_cluster}
use Rattle.rbf_model.proofs.Bytes.{distinct_parts, marked_beside}
use Rattle.rbf_model.proofs.Free.{number_below, is_free_is}

-- a cluster has a sector
pub cluster_positive : (k : ℕ) → is_cluster_size k ≡ true → 1 ≤ k
cluster_positive zero h = absurd (false≢true h)
cluster_positive (suc k) h = omega arith

-- the cluster of a sector begins at it or before
pub cluster_begins : (s k : ℕ) → 1 ≤ k → (s / k) * k ≤ s
cluster_begins s k positive = omega arith

-- a file's own sectors are its owner's
pub owns_own : (g : Geometry) (n : ℕ) (file : DiskFile) (s : ℕ) → has (own_sectors n file) s ≡ true → owns g n file s ≡ true
unfolding owns owned
owns_own g n file s h = has_right (if n == g.root then system_sectors g else []) (own_sectors n file) s h

-- and the root's file owns those of the system
pub owns_system : (g : Geometry) (file : DiskFile) (s : ℕ) → has (system_sectors g) s ≡ true → owns g g.root file s ≡ true
unfolding owns owned
owns_system g file s h =
    let first : (if g.root == g.root then system_sectors g else []) ≡ system_sectors g = cond-true (g.root == g.root) (system_sectors g) [] (eq-eqb g.root g.root refl) in
    subst (λ xs. has (xs ++ own_sectors g.root file) s ≡ true) (sym first) (has_left (system_sectors g) (own_sectors g.root file) s h)

-- what is owned is one or the other
pub owned_cases : (g : Geometry) (n : ℕ) (file : DiskFile) (s : ℕ) → owns g n file s ≡ true
    → ((n ≡ g.root) × (has (system_sectors g) s ≡ true)) ⊎ (has (own_sectors n file) s ≡ true)
unfolding owns owned
owned_cases g n file s h =
    ⊎_elim
    (λ system. ⊎_elim
    (λ at_root. inl (eqb-true n g.root at_root, subst (λ xs. has xs s ≡ true) (cond-true (n == g.root) (system_sectors g) [] at_root) system))
    (λ other. absurd (false≢true (subst (λ xs. has xs s ≡ true) (cond-false (n == g.root) (system_sectors g) [] other) system)))
    (cases_Bool (n == g.root)))
    (λ own. inr own)
    (has_cases (if n == g.root then system_sectors g else []) (own_sectors n file) s h)

-- in the root's file they are apart
pub system_apart : (g : Geometry) (file : DiskFile) (s : ℕ) → AreDistinct (owned g g.root file) → has (system_sectors g) s ≡ true → has (own_sectors g.root file) s ≡ true → ⊥
unfolding owned
system_apart g file s distinct one other =
    let first : (if g.root == g.root then system_sectors g else []) ≡ system_sectors g = cond-true (g.root == g.root) (system_sectors g) [] (eq-eqb g.root g.root refl) in
    distinct_parts (system_sectors g) (own_sectors g.root file) s (subst (λ xs. AreDistinct (xs ++ own_sectors g.root file)) first distinct) one other

module _ (g : Geometry) (shape : IsGeometry g) where
  -- the sectors of a file that lies within the volume
  pub owned_below : (n : ℕ) (file : DiskFile) (s : ℕ) → n < g.total → LieWithin g file.segments → owns g n file s ≡ true → s < g.total
  owned_below n file s low within h =
      let fits = shape.map.fits in
      ⊎_elim
      (λ system. let r = range_has 0 (1 + map_sectors g) s system.1 in let q = r.1 in omega arith)
      (λ own. ⊎_elim
      (λ here. let e : n ≡ s = eqb-true n s here in omega arith)
      (λ later. (sectors_within g file.segments within s later).1)
      (or_cases (n == s) (has (sectors_of file.segments) s) own))
      (owned_cases g n file s h)

  -- so its clusters begin there
  pub cluster_below : (n : ℕ) (file : DiskFile) (c : ℕ) → n < g.total → LieWithin g file.segments → has_cluster g n file c ≡ true → c * g.cluster < g.total
  cluster_below n file c low within h =
      let w = owns_from_cluster g n file c h in
      let below = owned_below n file w.0 low within w.1 in
      let begins = cluster_begins w.0 g.cluster (cluster_positive g.cluster shape.header.clusters) in
      let same : (w.0 / g.cluster) * g.cluster ≡ c * g.cluster = ap (λ x. x * g.cluster) w.2 in
      omega arith

  -- and so does a whole cluster
  pub whole_below : (c : ℕ) → is_whole g c ≡ true → c * g.cluster < g.total
  whole_below c h =
      let end : (c + 1) * g.cluster ≤ g.total = leb-true ((c + 1) * g.cluster) g.total h in
      let positive = cluster_positive g.cluster shape.header.clusters in
      omega arith

  -- the mark of a cluster of the volume is in the map
  pub mark_sector : (c : ℕ) → c * g.cluster < g.total → 1 + c / 8 / 256 ≤ map_sectors g
  mark_sector c low =
      let bits = shape.map.bits in
      let enough : c * g.cluster < (8 * g.map_bytes) * g.cluster = omega arith in
      let place : c < 8 * g.map_bytes = lt_of_mul-lt-mul_right g.cluster enough in
      omega arith

module _ (g : Geometry) (disk : ℕ → List ℕ) (v : DiskVolume) (sound : Sound (disk_of g disk) v) where
  pub root_file : (file : DiskFile) × (v.files g.root ≡ Some file)
  root_file = some_of (v.files g.root) ((sound.tree.reached g.root).1 root)

  pub file_cluster_below : (n : ℕ) (file : DiskFile) (c : ℕ) → v.files n ≡ Some file → has_cluster g n file c ≡ true → c * g.cluster < g.total
  file_cluster_below n file c is h = cluster_below g sound.shape n file c (number_below g disk v sound n file is) (sound.mapped.within n file is) h

  -- no file has a sector of the system for its own
  pub own_not_system : (n : ℕ) (file : DiskFile) (s : ℕ) → v.files n ≡ Some file → has (own_sectors n file) s ≡ true → has (system_sectors g) s ≡ true → ⊥
  own_not_system n file s is own system =
      let r = root_file in
      let at_root : n ≡ g.root =
      sound.mapped.apart n g.root file r.0 (s / g.cluster) is r.1 (cluster_from_owns g n file s (owns_own g n file s own))
      (cluster_from_owns g g.root r.0 s (owns_system g r.0 s system)) in
      let is_root : v.files g.root ≡ Some file = ap v.files (sym at_root) ∙ is in
      system_apart g file s (sound.mapped.once g.root file is_root) system (subst (λ k. has (own_sectors k file) s ≡ true) at_root own)

  -- each comes after them
  pub own_after : (n : ℕ) (file : DiskFile) (s : ℕ) → v.files n ≡ Some file → has (own_sectors n file) s ≡ true → map_sectors g < s
  own_after n file s is own =
      ⊎_elim
      (λ system. absurd (own_not_system n file s is own (has_range 0 (1 + map_sectors g) s (omega arith) (omega arith))))
      (λ after. after)
      (cases_within s)
    where
      cases_within : (m : ℕ) → (m < 1 + map_sectors g) ⊎ (map_sectors g < m)
      cases_within m = grind arith

  pub own_below : (n : ℕ) (file : DiskFile) (s : ℕ) → v.files n ≡ Some file → has (own_sectors n file) s ≡ true → s < g.total
  own_below n file s is own =
      owned_below g sound.shape n file s (number_below g disk v sound n file is) (sound.mapped.within n file is) (owns_own g n file s own)

  -- and is of no other file
  pub own_apart : (n m : ℕ) (one other : DiskFile) (s : ℕ) → v.files n ≡ Some one → v.files m ≡ Some other → has (own_sectors n one) s ≡ true
      → has (own_sectors m other) s ≡ true → n ≡ m
  own_apart n m one other s is at own_one own_other =
      sound.mapped.apart n m one other (s / g.cluster) is at (cluster_from_owns g n one s (owns_own g n one s own_one))
      (cluster_from_owns g m other s (owns_own g m other s own_other))

  -- a write past the map leaves the marks of the volume's clusters
  pub marks_stay : (s : ℕ) (bytes : List ℕ) (c : ℕ) → map_sectors g < s → c * g.cluster < g.total → is_marked (put disk s bytes) c ≡ is_marked disk c
  marks_stay s bytes c past low =
      let place = mark_sector g sound.shape c low in
      let differ : 1 + c / 8 / 256 ≢ s = λ same. absurd (omega arith) in
      marked_beside disk s bytes c differ

-- a sector of a cluster that no file has is in no file
pub unowned_of_unused : (g : Geometry) (files : ℕ → Option DiskFile) (s : ℕ) → Unused g files (s / g.cluster) → (n : ℕ) (file : DiskFile) → files n ≡ Some file → owns g n file s ≡ false
unowned_of_unused g files s unused n file is =
    false_from_ne_true (owns g n file s) (λ owned_too. both_ways (has_cluster g n file (s / g.cluster)) (unused n file is) (cluster_from_owns g n file s owned_too))

-- and of a whole one is within the volume
pub whole_sector_below : (g : Geometry) (s : ℕ) → 1 ≤ g.cluster → is_whole g (s / g.cluster) ≡ true → s < g.total
whole_sector_below g s positive h =
    let end : (s / g.cluster + 1) * g.cluster ≤ g.total = leb-true ((s / g.cluster + 1) * g.cluster) g.total h in
    let below : s < s / g.cluster * g.cluster + g.cluster = lt-div-mul-add positive in
    omega arith

-- the space of files rests on the marks of clusters that begin in the volume
pub mapped_by_marks : (g : Geometry) (marked news : ℕ → Bool) (files : ℕ → Option DiskFile) (lost : ℕ → Bool) → IsGeometry g
    → ((n : ℕ) (file : DiskFile) → files n ≡ Some file → n < g.total) → ((c : ℕ) → c * g.cluster < g.total → news c ≡ marked c)
    → IsMapped g marked files lost → IsMapped g news files lost
mapped_by_marks g marked news files lost shape below same mapped = record {
  within = mapped.within;
  marks = λ n file c is h. same c (cluster_below g shape n file c (below n file is) (mapped.within n file is) h) ∙ mapped.marks n file c is h;
  once = mapped.once;
  apart = mapped.apart;
  lost_are = λ c. (
    λ l. let w = (mapped.lost_are c).0 l in record { whole = w.whole; marked_in = same c (whole_below g shape c w.whole) ∙ w.marked_in; unused = w.unused },
    λ w. (mapped.lost_are c).1 (record { whole = w.whole; marked_in = sym (same c (whole_below g shape c w.whole)) ∙ w.marked_in; unused = w.unused }),
  );
}

-- the clusters of a file other than the root's are those of its own sectors
pub clusters_of_own : (g : Geometry) (n : ℕ) (file : DiskFile) (P : ℕ → Type 0) → n ≢ g.root → ((s : ℕ) → has (own_sectors n file) s ≡ true → P (s / g.cluster)) → (c : ℕ)
    → has_cluster g n file c ≡ true → P c
clusters_of_own g n file P other each c h =
    let w = owns_from_cluster g n file c h in
    subst P w.2 (⊎_elim (λ system. absurd (other system.0)) (λ own. each w.0 own) (owned_cases g n file w.0 w.1))

-- the free clusters rest on the marks alone
pub free_by_marks : (g : Geometry) (disk news : ℕ → List ℕ) (v w : DiskVolume) → Sound (disk_of g disk) v
    → Sound (disk_of g news) w → ((c : ℕ) → c * g.cluster < g.total → is_marked news c ≡ is_marked disk c) → (c : ℕ)
    → is_free g w c ≡ is_free g v c
free_by_marks g disk news v w before after same c =
    is_free_is g news w after c
    ∙ ⊎_elim
    (λ whole. ap (λ b. is_whole g c && not b) (same c (whole_below g before.shape c whole)))
    (λ part. ap (λ b. b && not (is_marked news c)) part ∙ sym (ap (λ b. b && not (is_marked disk c)) part))
    (cases_Bool (is_whole g c))
    ∙ sym (is_free_is g disk v before c)
