-- The space of a file that gains clusters which are lost in the volume.
use Rattle.std.proofs.Common.{◌≡◌, ◌⊎◌, ℕ, ◌+◌, ◌*◌, ◌/◌, ◌≤◌, Bool, true, false, not, ◌==◌, ◌||◌, Some, List, [], ◌∷◌, refl, sym, ap, ◌∙◌, subst, inl, inr, ⊎_elim, arith, eq-eqb, eqb-true, leb-true, le-leb}
use Rattle.std.specs.Prelude.{if◌then◌else◌}
use Rattle.std.proofs.Math.Nat.{mul-le-mul_right}
use Rattle.std.proofs.lemmas.Bool.{and_parts, and_from, or_left, or_right, or_cases, both_ways, false_from_ne_true, not-true, cases_Bool, cases_eq}
use Rattle.std.proofs.lemmas.List.Elements.{All-head, All-tail, All-cons}
use Rattle.rbf_model.specs.Disk.{disk_of}
use Rattle.rbf_model.specs.Geometry.{Geometry, is_within, LieWithin, map_sectors}
use Rattle.rbf_model.specs.Segments.{sectors_of, appended_segments, joins, has, AreDistinct}
use Rattle.rbf_model.specs.File.{DiskFile}
use Rattle.rbf_model.specs.Space.{owned, owns, has_cluster}
use Rattle.rbf_model.specs.Volume.{DiskVolume, Sound}
use Rattle.rbf_model.proofs.Lists.{any_witness, any_from}
use Rattle.rbf_model.proofs.Segments.{has_range}
use Rattle.rbf_model.proofs.Space.{cluster_from_owns, owns_from_cluster}
use Rattle.rbf_model.proofs.Owners.{cluster_positive, owns_own, owns_system, owned_cases, root_file}
use Rattle.rbf_model.proofs.Growth.{cluster_gained, distinct_gained}
use Rattle.rbf_segs.proofs.Runs.{sectors_of-appended}
use Rattle.rbf_change.specs.Growth.{uses, with_clusters, Gains}
use Rattle.rbf_alloc.proofs.Chosen.{uses_more}

-- a file with other segments
abbrev pub with_segments : DiskFile → List (ℕ × ℕ) → DiskFile
with_segments file segments = record file { segments = segments }

-- sectors behind a list that lies within a volume
pub appended_within : (g : Geometry) (segments : List (ℕ × ℕ)) (lsn count : ℕ) → LieWithin g segments → is_within g (lsn, count) ≡ true → LieWithin g (appended_segments segments lsn count)
appended_within g [] lsn count all one = All-cons (λ s. is_within g s ≡ true) (lsn, count) [] one all
appended_within g (segment ∷ []) lsn count all one = ⊎_elim
    (λ join.
    let begins : segment.0 + segment.1 ≡ lsn = eqb-true (segment.0 + segment.1) lsn (and_parts (segment.0 + segment.1 == lsn) _ join).0 in
    let first = and_parts _ _ (All-head (λ s. is_within g s ≡ true) segment [] all) in
    let second = and_parts _ _ one in
    let low : 1 ≤ segment.0 = leb-true 1 segment.0 first.0 in
    let high : lsn + count ≤ g.total = leb-true (lsn + count) g.total second.1 in
    let longer : is_within g (segment.0, segment.1 + count) ≡ true = and_from _ _ (le-leb 1 segment.0 low) (le-leb (segment.0 + (segment.1 + count)) g.total (omega arith)) in
    subst (λ t. LieWithin g (if t then (segment.0, segment.1 + count) ∷ [] else segment ∷ (lsn, count) ∷ [])) (sym join)
    (All-cons (λ s. is_within g s ≡ true) (segment.0, segment.1 + count) [] longer (All-tail (λ s. is_within g s ≡ true) segment [] all)))
    (λ apart.
    subst (λ t. LieWithin g (if t then (segment.0, segment.1 + count) ∷ [] else segment ∷ (lsn, count) ∷ [])) (sym apart)
    (All-cons (λ s. is_within g s ≡ true) segment ((lsn, count) ∷ []) (All-head (λ s. is_within g s ≡ true) segment [] all)
    (All-cons (λ s. is_within g s ≡ true) (lsn, count) [] one (All-tail (λ s. is_within g s ≡ true) segment [] all))))
    (cases_Bool (joins segment lsn count))
appended_within g (segment ∷ next ∷ segments) lsn count all one =
    All-cons (λ s. is_within g s ≡ true) segment (appended_segments (next ∷ segments) lsn count) (All-head (λ s. is_within g s ≡ true) segment (next ∷ segments) all)
    (appended_within g (next ∷ segments) lsn count (All-tail (λ s. is_within g s ≡ true) segment (next ∷ segments) all) one)

-- the clusters of segments that have gained some
pub uses_with : (k : ℕ) (segments : List (ℕ × ℕ)) (taken : List ℕ) (c : ℕ) → 1 ≤ k → uses k (with_clusters k segments taken) c ≡ (uses k segments c || has taken c)
uses_with k segments [] c positive = sym (or_false (uses k segments c))
  where
    or_false : (t : Bool) → (t || false) ≡ t
    or_false true = refl
    or_false false = refl
uses_with k segments (b ∷ taken) c positive =
    uses_with k (appended_segments segments (b * k) k) taken c positive ∙ ap (λ t. t || has taken c) (uses_more k segments b c positive) ∙ or_assoc (uses k segments c) (b == c) (has taken c)
  where
    or_assoc : (x y z : Bool) → ((x || y) || z) ≡ (x || (y || z))
    or_assoc true y z = refl
    or_assoc false y z = refl

module _ (g : Geometry) (disk : ℕ → List ℕ) (u : DiskVolume) (sound : Sound (disk_of g disk) u) (n : ℕ) (old : DiskFile) (is : u.files n ≡ Some old) where
  positive : 1 ≤ g.cluster
  positive = cluster_positive g.cluster sound.shape.header.clusters

  -- a lost cluster is not the file's
  pub lost_apart : (c : ℕ) → u.lost c ≡ true → has_cluster g n old c ≡ false
  lost_apart c lost = ((sound.mapped.lost_are c).0 lost).unused n old is

  -- it is a segment of its own within the volume
  lost_within : (c : ℕ) → u.lost c ≡ true → is_within g (c * g.cluster, g.cluster) ≡ true
  lost_within c lost =
      let known = (sound.mapped.lost_are c).0 lost in
      let whole : (c + 1) * g.cluster ≤ g.total = leb-true ((c + 1) * g.cluster) g.total known.whole in
      let r = root_file g disk u sound in
      let first : has_cluster g g.root r.0 (0 / g.cluster) ≡ true = cluster_from_owns g g.root r.0 0 (owns_system g r.0 0 (has_range 0 (1 + map_sectors g) 0 (omega arith) (omega arith))) in
      let some : 1 ≤ c = ⊎_elim
      (λ zero_is.
      let least = positive in
      let place : 0 / g.cluster ≡ c = omega arith in
      absurd (both_ways (has_cluster g g.root r.0 c) (known.unused g.root r.0 r.1) (subst (λ d. has_cluster g g.root r.0 d ≡ true) place first)))
      (λ differ. omega arith)
      (cases_eq c 0) in
      let least = positive in
      let begins : 1 * g.cluster ≤ c * g.cluster = mul-le-mul_right g.cluster some in
      and_from _ _ (le-leb 1 (c * g.cluster) (omega arith)) (le-leb (c * g.cluster + g.cluster) g.total (omega arith))

  -- what holds of the segments so far
  pub record IsSpace (segments : List (ℕ × ℕ)) : Type 0 where
    pub within : LieWithin g segments
    pub distinct : AreDistinct (owned g n (with_segments old segments))
    pub clusters : (c : ℕ) → has_cluster g n (with_segments old segments) c ≡ true → (u.lost c ≡ true) ⊎ (has_cluster g n old c ≡ true)

  -- a cluster of the file is one of its old ones, or its segments use it
  pub used_or_old : (segments : List (ℕ × ℕ)) (c : ℕ) → has_cluster g n (with_segments old segments) c ≡ true → (has_cluster g n old c ≡ true) ⊎ (uses g.cluster segments c ≡ true)
  used_or_old segments c h =
      let w = owns_from_cluster g n (with_segments old segments) c h in
      let to_old : owns g n old w.0 ≡ true → has_cluster g n old c ≡ true = λ own. subst (λ d. has_cluster g n old d ≡ true) w.2 (cluster_from_owns g n old w.0 own) in
      ⊎_elim
      (λ system. inl (to_old (subst (λ m. owns g m old w.0 ≡ true) (sym system.0) (owns_system g old w.0 system.1))))
      (λ own. ⊎_elim
      (λ here. inl (to_old (owns_own g n old w.0 (or_left (n == w.0) (has (sectors_of old.segments) w.0) here))))
      (λ later. inr (any_from (λ s. s / g.cluster == c) (sectors_of segments) w.0 later (eq-eqb (w.0 / g.cluster) c w.2)))
      (or_cases (n == w.0) (has (sectors_of segments) w.0) own))
      (owned_cases g n (with_segments old segments) w.0 w.1)

  -- one cluster more
  space_more : (segments : List (ℕ × ℕ)) (c : ℕ) → IsSpace segments → u.lost c ≡ true → uses g.cluster segments c ≡ false → IsSpace (appended_segments segments (c * g.cluster) g.cluster)
  space_more segments c space lost none =
      let more = sectors_of-appended segments (c * g.cluster) g.cluster in
      let apart : has_cluster g n (with_segments old segments) c ≡ false = false_from_ne_true (has_cluster g n (with_segments old segments) c) (λ h. ⊎_elim
      (λ was. both_ways (has_cluster g n old c) (lost_apart c lost) was)
      (λ used. both_ways (uses g.cluster segments c) none used)
      (used_or_old segments c h)) in
      record {
        within = appended_within g segments (c * g.cluster) g.cluster space.within (lost_within c lost);
        distinct = distinct_gained g n (with_segments old segments) (with_segments old (appended_segments segments (c * g.cluster) g.cluster)) c positive more apart space.distinct;
        clusters = λ d h. ⊎_elim
            (λ was. space.clusters d was)
            (λ same. inl (subst (λ e. u.lost e ≡ true) (sym same) lost))
            (cluster_gained g n (with_segments old segments) (with_segments old (appended_segments segments (c * g.cluster) g.cluster)) c d positive more h);
      }

  pub space_with : (free : ℕ → Bool) (segments : List (ℕ × ℕ)) (taken : List ℕ) → Gains g.cluster free segments taken
      → ((c : ℕ) → has taken c ≡ true → u.lost c ≡ true) → IsSpace segments
      → IsSpace (with_clusters g.cluster segments taken)
  space_with free segments [] gained lost space = space
  space_with free segments (c ∷ taken) gained lost space =
      space_with free (appended_segments segments (c * g.cluster) g.cluster) taken gained.1 (λ d h. lost d (or_right (c == d) (has taken d) h))
      (space_more segments c space (lost c (or_left (c == c) (has taken c) (eq-eqb c c refl)))
      (not-true (uses g.cluster segments c) (and_parts (free c) (not (uses g.cluster segments c)) gained.0.is_free).1))

  pub space_old : IsSpace old.segments
  space_old = record { within = sound.mapped.within n old is; distinct = sound.mapped.once n old is; clusters = λ c h. inr h }

  -- the segments use the clusters of the file
  pub used_is : (segments : List (ℕ × ℕ)) (c : ℕ) → uses g.cluster segments c ≡ true → has_cluster g n (with_segments old segments) c ≡ true
  used_is segments c h =
      let w = any_witness (λ s. s / g.cluster == c) (sectors_of segments) h in
      subst (λ d. has_cluster g n (with_segments old segments) d ≡ true) (eqb-true (w.0 / g.cluster) c w.2)
      (cluster_from_owns g n (with_segments old segments) w.0 (owns_own g n (with_segments old segments) w.0 (or_right (n == w.0) (has (sectors_of segments) w.0) w.1)))

  -- and the old ones of the file, where they are used still
  pub old_stays : (segments : List (ℕ × ℕ)) → ((c : ℕ) → uses g.cluster old.segments c ≡ true → uses g.cluster segments c ≡ true) → (c : ℕ) → has_cluster g n old c ≡ true
      → has_cluster g n (with_segments old segments) c ≡ true
  old_stays segments still c h =
      let w = owns_from_cluster g n old c h in
      let to_new : owns g n (with_segments old segments) w.0 ≡ true → has_cluster g n (with_segments old segments) c ≡ true =
      λ own. subst (λ d. has_cluster g n (with_segments old segments) d ≡ true) w.2 (cluster_from_owns g n (with_segments old segments) w.0 own) in
      ⊎_elim
      (λ system. to_new (subst (λ m. owns g m (with_segments old segments) w.0 ≡ true) (sym system.0) (owns_system g (with_segments old segments) w.0 system.1)))
      (λ own. ⊎_elim
      (λ here. to_new (owns_own g n (with_segments old segments) w.0 (or_left (n == w.0) (has (sectors_of segments) w.0) here)))
      (λ later. used_is segments c (still c (any_from (λ s. s / g.cluster == c) (sectors_of old.segments) w.0 later (eq-eqb (w.0 / g.cluster) c w.2))))
      (or_cases (n == w.0) (has (sectors_of old.segments) w.0) own))
      (owned_cases g n old w.0 w.1)
