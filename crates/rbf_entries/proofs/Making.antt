-- A new file: its cluster is taken, and its descriptor written.
use Rattle.std.proofs.Common.{◌≡◌, ◌≢◌, ℕ, zero, suc, ◌+◌, ◌-◌, ◌*◌, ◌/◌, ◌<◌, ◌≤◌, Bool, true, false, not, ◌==◌, ◌&&◌, ◌||◌, Option, Some, IsSome, Result, Ok, Err, List, [], ◌∷◌, length, take, inr, refl, sym, ap, ◌∙◌, subst, ⊎_elim, arith, eq-eqb, eqb-true, leb-true, le-leb}
use Rattle.std.specs.Prelude.{OnErr, IsNone, nat_le, slice_get, if◌then◌else◌}
use Rattle.std.specs.Int.{bit_at}
use Rattle.std.proofs.lemmas.List.{append-nil}
use Rattle.std.proofs.lemmas.List.Elements.{All-nil, All-cons}
use Rattle.std.proofs.Math.Nat.{mul-div_cancel, mul-le-mul_left, div-eq_of_lt}
use Rattle.std.proofs.lemmas.Bool.{and_parts, and_from, or_left, or_right, or_cases, both_ways, false≢true, cases_Bool}
use Rattle.std.proofs.lemmas.Option.{same_Some}
use Rattle.std.specs.List.{range_with_len}
use Rattle.rbf_model.specs.Disk.{disk_of, image_disk}
use mathlib.Core.Path.{fun_ext}
use Rattle.os9_base.specs.declared.registers.TimePacket.{TimePacket}
use Rattle.os9_outer.specs.Drive.{sector_count, with_sector}
use Rattle.rbf_model.specs.Fields.{segments_field, size_field}
use Rattle.rbf_model.specs.File.{DiskFile, file_at, file_from, is_directory, segment_bytes}
use Rattle.rbf_model.specs.Geometry.{Geometry, LieWithin, geometry, image_geometry, is_within, sector, map_sectors}
use Rattle.rbf_model.specs.Laws.{IsUnseen, idle, IsReady}
use Rattle.rbf_model.specs.Segments.{AreDistinct, has, sectors_of}
use Rattle.rbf_model.specs.Space.{is_marked, is_whole, own_sectors, has_cluster}
use Rattle.rbf_model.specs.Volume.{DiskVolume, Vol, is_free}
use Rattle.rbf_model.specs.Writes.{put, put_sector, with_lost}
use Rattle.rbf_model.proofs.Bytes.{put_here, put_beside, marked_beside}
use Rattle.rbf_model.proofs.Data.{unseen_within}
use Rattle.rbf_model.proofs.Free.{free_parts}
use Rattle.rbf_model.proofs.Growth.{cluster_of_range, distinct_range}
use Rattle.rbf_model.proofs.ImageLaws.{unseen_image}
use Rattle.rbf_model.proofs.Lifted.{sector_put}
use Rattle.rbf_model.proofs.Owners.{cluster_positive, clusters_of_own, owns_own, root_file}
use Rattle.rbf_model.proofs.Segments.{has_range, range_has, has_cases}
use Rattle.rbf_model.proofs.Space.{cluster_from_owns}
use Rattle.rbf_change.specs.Calls.{shape, cluster_size, free_total, is_free_in, minute_of, day_of}
use Rattle.rbf_change.specs.Faults.{MayLose}
use Rattle.rbf_change.specs.Growth.{Gains, with_clusters, uses}
use Rattle.rbf_change.specs.NewFiles.{file_plan, first_segments, IsNewFile, file_clusters}
use Rattle.rbf_change.specs.Tidy.{IsNewList}
use Rattle.rbf_change.proofs.LawfulWrites.{shape-image}
use Rattle.rbf_access.specs.Faults.{file_fault}
use Rattle.rbf_access.specs.Mounted.{RepresentsVolume, IsMounted}
use Rattle.rbf_access.specs.declared.faults.FileFault.{FileFault}
use Rattle.rbf_access.specs.declared.faults.FileFault.TheVariants.{Device, NoCluster, TooManyRuns}
use Rattle.rbf_access.proofs.Reading.{below_total}
use Rattle.rbf_alloc.specs.Gained.{IsTooMany}
use Rattle.rbf_alloc.proofs.Growing.{agrees_on}
use Rattle.rbf_access.specs.declared.volume.Volume.{Volume}
use Rattle.rbf_alloc.specs.Grown.{IsChosenGrowth, IsGrown, GrowthEnds, Grows}
use Rattle.rbf_sector.specs.declared.fd.Fd.{Fd}
use Rattle.rbf_entries.proofs.Stored.{IsStored}
use Rattle.rbf_entries.specs.Described.{IsReadAs}
use Rattle.rbf_entries.specs.Made.{IsMade, FileMakingEnds, MakesNewFile}
use Rattle.rbf_entries.proofs.NewDescriptor.{first_more, first_none, same_file}

-- a list of one number
pub one_of : (taken : List ℕ) → length taken ≡ 1 → (c : ℕ) × (taken ≡ c ∷ [])
one_of [] counted = absurd (omega arith)
one_of (c ∷ []) counted = (c, refl)
one_of (c ∷ d ∷ more) counted = absurd (omega arith)

or_false : (t : Bool) → (t || false) ≡ t
or_false true = refl
or_false false = refl

and_not_false : (t : Bool) → (t && not false) ≡ t
and_not_false true = refl
and_not_false false = refl

first_of : (a k : ℕ) → 1 ≤ k → slice_get (sectors_of ((a, k) ∷ [])) 0 ≡ Some a
first_of a zero positive = absurd (omega arith)
first_of a (suc k) positive = refl

-- few clusters find their place
fits_two : (k : ℕ) (taken : List ℕ) → length taken ≤ 1 → length (with_clusters k [] taken) ≤ 48
fits_two k [] few = omega arith
fits_two k (c ∷ []) few = omega arith
fits_two k (c ∷ d ∷ more) few = absurd (omega arith)

pub never_full : (k : ℕ) (free : ℕ → Bool) → IsTooMany k 1 free [] → ⊥
never_full k free many = let fits = fits_two k many.taken many.needed in let full = many.full in absurd (omega arith)

-- the sectors of a new file are those of one cluster
first_sectors : (k n : ℕ) → 1 ≤ k → n ∷ sectors_of (first_segments k n) ≡ range_with_len n k
first_sectors k n positive = ⊎_elim
    (λ one.
    let is : k ≡ 1 = eqb-true k 1 one in
    ap (λ xs. n ∷ sectors_of xs) (first_none k n (omega arith) positive) ∙ ap (range_with_len n) (sym is))
    (λ many.
    let big : 1 < k = (let ne : k ≢ 1 = λ e. both_ways (k == 1) many (eq-eqb k 1 e) in omega arith) in
    let next : suc (k - 1) ≡ k = omega arith in
    ap (λ xs. n ∷ sectors_of xs) (first_more k n big) ∙ ap (λ xs. n ∷ xs) (append-nil (range_with_len (n + 1) (k - 1))) ∙ ap (range_with_len n) next)
    (cases_Bool (k == 1))

none_within : (g : Geometry) → LieWithin g []
none_within g = All-nil (λ s. is_within g s ≡ true)

first_within : (g : Geometry) (k n : ℕ) → 1 ≤ k → n + k ≤ g.total → LieWithin g (first_segments k n)
first_within g k n positive fits = ⊎_elim
    (λ one. subst (LieWithin g) (sym (first_none k n (let is : k ≡ 1 = eqb-true k 1 one in omega arith) positive)) (none_within g))
    (λ many.
    let big : 1 < k = (let ne : k ≢ 1 = λ e. both_ways (k == 1) many (eq-eqb k 1 e) in omega arith) in
    subst (LieWithin g) (sym (first_more k n big))
    (All-cons (λ s. is_within g s ≡ true) (n + 1, k - 1) []
    (and_from (nat_le 1 (n + 1)) (nat_le (n + 1 + (k - 1)) g.total) (le-leb 1 (n + 1) (omega arith))
    (le-leb (n + 1 + (k - 1)) g.total (omega arith))) (none_within g)))
    (cases_Bool (k == 1))

plain : (attributes : ℕ) → attributes < 128 → (bit_at attributes 7 == 1) ≡ true → ⊥
plain attributes low h =
    let bit : bit_at attributes 7 ≡ 1 = eqb-true (bit_at attributes 7) 1 h in
    let none : attributes / 128 ≡ 0 = omega arith in
    absurd (omega arith)

-- a new file without contents needs the cluster of its descriptor alone
none_needed : (k : ℕ) (segments : List (ℕ × ℕ)) → 1 ≤ k → 0 ≡ ((0 + 255) / 256 - length (sectors_of segments) + (k - 1)) / k
none_needed k segments positive =
    let none : (0 + 255) / 256 - length (sectors_of segments) + (k - 1) ≡ k - 1 = omega arith in
    let low : k - 1 < k = omega arith in
    sym (ap (λ n. n / k) none ∙ div-eq_of_lt low)

few_either : (t : Bool) (one other : List (ℕ × ℕ)) → length one ≤ 48 → length other ≤ 48 → length (if t then one else other) ≤ 48
few_either true one other a b = a
few_either false one other a b = b

first_few : (k n : ℕ) → length (first_segments k n) ≤ 48
first_few k n = few_either (k == 1) [] ((n + 1, k - 1) ∷ []) (omega arith) (omega arith)

abbrev pub empty_file : ℕ → ℕ → TimePacket → ℕ → ℕ → DiskFile
empty_file attr owner now k n = record {
  attributes = attr;
  owner = owner;
  modified = minute_of now;
  links = 1;
  created = day_of now;
  segments = first_segments k n;
  contents = [];
}

-- the cluster that has been chosen for it
module _ (media : Option (List ℕ)) (v : DiskVolume) (on : RepresentsVolume media v) (attr owner : ℕ)
    (now : TimePacket) (taken : List ℕ) (chosen : IsChosenGrowth (cluster_size v) 1 (is_free_in v) [] taken) where
  abbrev g : Geometry
  g = image_geometry on.image

  abbrev k : ℕ
  k = cluster_size v

  volume_shape : shape v ≡ g
  volume_shape = shape-image on.image v on.vol

  pub positive : 1 ≤ k
  positive = subst (λ (h : Geometry). 1 ≤ h.cluster) (sym volume_shape) (cluster_positive g.cluster on.vol.sound.shape.header.clusters)

  abbrev c : ℕ
  c = (one_of taken chosen.counted).0

  taken_is : taken ≡ c ∷ []
  taken_is = (one_of taken chosen.counted).1

  abbrev n : ℕ
  n = c * k

  gains : Gains k (is_free_in v) [] (c ∷ [])
  gains = subst (Gains k (is_free_in v) []) taken_is chosen.gained

  free : is_free_in v c ≡ true
  free = (and_parts (is_free_in v c) (not (uses k [] c)) gains.0.is_free).0

  in_cluster : n / k ≡ c
  in_cluster = mul-div_cancel c positive

  free_facts : (is_whole g c ≡ true) × (v.lost c ≡ false) × ((m : ℕ) (file : DiskFile) → v.files m ≡ Some file → has_cluster g m file c ≡ false)
  free_facts = free_parts g (sector on.image) v on.vol.sound c (subst (λ h. is_free h v c ≡ true) volume_shape free)

  same_k : k ≡ g.cluster
  same_k = ap (λ (h : Geometry). h.cluster) volume_shape

  pub number_low : n < g.total
  number_low =
      let end : (c + 1) * g.cluster ≤ g.total = leb-true ((c + 1) * g.cluster) g.total free_facts.0 in
      let some = positive in
      let same = same_k in
      let all : (c + 1) * k ≡ (c + 1) * g.cluster = ap (λ x. (c + 1) * x) same_k in
      omega arith

  cluster_within : n + k ≤ g.total
  cluster_within =
      let end : (c + 1) * g.cluster ≤ g.total = leb-true ((c + 1) * g.cluster) g.total free_facts.0 in
      let all : (c + 1) * k ≡ (c + 1) * g.cluster = ap (λ x. (c + 1) * x) same_k in
      omega arith

  abbrev file : DiskFile
  file = empty_file attr owner now k n

  new_file : IsNewFile k (is_free_in v) n (file_plan attr owner now) file
  new_file = record {
    cluster = c;
    first = refl;
    taken = free;
    gained = [];
    choice = record { enough = none_needed k (first_segments k n) positive; gained = tt; fits = first_few k n };
    is = refl;
  }

  not_root : n ≢ g.root
  not_root same =
      let r = root_file g (sector on.image) v on.vol.sound in
      let used : has_cluster g g.root r.0 (g.root / g.cluster) ≡ true =
      cluster_from_owns g g.root r.0 g.root (owns_own g g.root r.0 g.root
      (or_left (g.root == g.root) (has (sectors_of r.0.segments) g.root) (eq-eqb g.root g.root refl))) in
      let there : g.root / g.cluster ≡ c = ap (λ s. s / g.cluster) (sym same) ∙ ap (λ x. n / x) (sym same_k) ∙ in_cluster in
      both_ways (has_cluster g g.root r.0 c) (free_facts.2 g.root r.0 r.1) (subst (λ d. has_cluster g g.root r.0 d ≡ true) there used)

  -- its sectors are those of that cluster
  own_in : (s : ℕ) → has (own_sectors n file) s ≡ true → s / g.cluster ≡ c
  own_in s h =
      let here : has (n ∷ sectors_of (first_segments k n)) s ≡ true = h in
      let in_range : s / k ≡ c = ⊎_elim
      (λ at. let e : n ≡ s = eqb-true n s at in ap (λ x. x / k) (sym e) ∙ in_cluster)
      (λ more. ⊎_elim
      (λ one. absurd (false≢true (sym (ap (λ xs. has (sectors_of xs) s) (first_none k n (let e : k ≡ 1 = eqb-true k 1 one in omega arith) positive)) ∙ more)))
      (λ many.
      let big : 1 < k = (let some = positive in let ne : k ≢ 1 = λ e. both_ways (k == 1) many (eq-eqb k 1 e) in omega arith) in
      let r = range_has_one (n + 1) (k - 1) s (sym (ap (λ xs. has (sectors_of xs) s) (first_more k n big)) ∙ more) in
      let low = r.0 in
      let high = r.1 in
      cluster_of_range k c s positive (has_range n k s (omega arith) (omega arith)))
      (cases_Bool (k == 1)))
      (or_cases (n == s) (has (sectors_of (first_segments k n)) s) here) in
      ap (λ x. s / x) (sym same_k) ∙ in_range
    where
      range_has_one : (a m t : ℕ) → has (sectors_of ((a, m) ∷ [])) t ≡ true → (a ≤ t) × (t < a + m)
      range_has_one a m t there = range_has a m t (⊎_elim (λ x. x) (λ none. absurd (false≢true none)) (has_cases (range_with_len a m) [] t there))

  cluster_is : (d : ℕ) → has taken d ≡ has_cluster (shape v) n file d
  cluster_is d =
      ap (λ xs. has xs d) taken_is
      ∙ same_tests (has (c ∷ []) d) (has_cluster (shape v) n file d)
      (λ h.
      let here : c ≡ d = ⊎_elim (λ e. eqb-true c d e) (λ none. absurd (false≢true none)) (or_cases (c == d) false h) in
      let used : has_cluster g n file (n / g.cluster) ≡ true = cluster_from_owns g n file n (owns_own g n file n (or_left (n == n) (has (sectors_of file.segments) n) (eq-eqb n n refl))) in
      ap (λ s. has_cluster s n file d) volume_shape ∙ subst (λ x. has_cluster g n file x ≡ true) (ap (λ x. n / x) (sym same_k) ∙ in_cluster ∙ here) used)
      (λ h.
      let is : d ≡ c = clusters_of_own g n file (λ x. x ≡ c) not_root own_in d (subst (λ s. has_cluster s n file d ≡ true) volume_shape h) in
      or_left (c == d) false (eq-eqb c d (sym is)))
    where
      same_tests : (a b : Bool) → (a ≡ true → b ≡ true) → (b ≡ true → a ≡ true) → a ≡ b
      same_tests true b one other = sym (one refl)
      same_tests false true one other = other refl
      same_tests false false one other = refl

  lost_is : (d : ℕ) → (v.lost d || has taken d) ≡ (v.lost d || has_cluster (shape v) n file d)
  lost_is d = ap (λ t. v.lost d || t) (cluster_is d)

  -- which was free
  pub cluster_free : (d : ℕ) → has_cluster (shape v) n file d ≡ true → is_free_in v d ≡ true
  cluster_free d h =
      let there : has (c ∷ []) d ≡ true = ap (λ xs. has xs d) (sym taken_is) ∙ cluster_is d ∙ h in
      let here : c ≡ d = ⊎_elim (λ e. eqb-true c d e) (λ none. absurd (false≢true none)) (or_cases (c == d) false there) in
      subst (λ x. is_free_in v x ≡ true) here free

  -- the first sector of the list that has been gained is that of the descriptor
  pub number_is : (after : List (ℕ × ℕ)) (m : ℕ) → after ≡ with_clusters k [] taken → slice_get (sectors_of after) 0 ≡ Some m → m ≡ n
  number_is after m is there =
      let list : after ≡ (c * k, k) ∷ [] = is ∙ ap (with_clusters k []) taken_is in
      sym (same_Some n m (sym (first_of (c * k) k positive) ∙ ap (λ xs. slice_get (sectors_of xs) 0) (sym list) ∙ there))

  -- clusters that were taken may be lost
  pub lose_as : (left : DiskVolume) → MayLose v left (has taken) → MayLose v left (has_cluster (shape v) n file)
  lose_as left lose = record { same = lose.same; still = lose.still; only = λ d h. sym (lost_is d) ∙ lose.only d h }

-- the descriptor is written into the cluster that has been taken
module _ (media mid : Option (List ℕ)) (v : DiskVolume) (on : RepresentsVolume media v) (attr owner : ℕ) (now : TimePacket) (after : List (ℕ × ℕ)) (grown : IsGrown v 1 media mid [] after)
    (m : ℕ) (m_is : m ≡ n media v on attr owner now grown.taken grown.chosen) where
  abbrev sectors : ℕ
  sectors = cluster_size v

  abbrev old : List ℕ
  old = grown.now

  abbrev u : DiskVolume
  u = with_lost v (λ d. v.lost d || has grown.taken d)

  abbrev h : Geometry
  h = image_geometry old

  shape_old : h ≡ image_geometry grown.image
  shape_old = ap geometry (grown.changes.others 0 (λ is. let low = is.after in absurd (omega arith)))

  in_u : shape v ≡ h
  in_u = shape-image old u grown.vol

  lost_there : u.lost (m / h.cluster) ≡ true
  lost_there =
      let there : m / h.cluster ≡ c media v on attr owner now grown.taken grown.chosen =
      ap (λ x. x / h.cluster) m_is ∙ ap (λ x. n media v on attr owner now grown.taken grown.chosen / x)
      (sym (ap (λ (s : Geometry). s.cluster) in_u)) ∙ in_cluster media v on attr owner now grown.taken grown.chosen in
      let his : has grown.taken (c media v on attr owner now grown.taken grown.chosen) ≡ true =
      ap (λ xs. has xs (c media v on attr owner now grown.taken grown.chosen)) (taken_is media v on attr owner now grown.taken grown.chosen)
      ∙ or_left (c media v on attr owner now grown.taken grown.chosen == c media v on attr owner now grown.taken
      grown.chosen) false (eq-eqb (c media v on attr owner now grown.taken grown.chosen)
      (c media v on attr owner now grown.taken grown.chosen) refl) in
      ap u.lost there ∙ or_right (v.lost (c media v on attr owner now grown.taken grown.chosen)) (has grown.taken (c media v on attr owner now grown.taken grown.chosen)) his

  pub on_mid : RepresentsVolume mid u
  on_mid = record { image = old; is = grown.is; vol = grown.vol }

  module _ (bytes : List ℕ) (whole : length bytes ≡ 256) where
    unseen : IsUnseen (disk_of h (sector old)) u m bytes
    unseen = idle (inr lost_there)

    placed : (map_sectors h < m) × (m < h.total)
    placed = unseen_within h (sector old) u grown.vol.sound m bytes whole unseen

    pub number_on_drive : m < sector_count mid
    unfolding on_mid
    number_on_drive = below_total mid u on_mid m placed.1

    fits : 256 * (m + 1) ≤ length old
    fits =
        let low = placed.1 in
        let more : 256 * (m + 1) ≤ 256 * h.total = mul-le-mul_left 256 (omega arith) in
        let room = grown.vol.header.fits in
        omega arith

    abbrev image1 : List ℕ
    image1 = put_sector old m bytes

    sectors_then : sector image1 ≡ put (sector old) m bytes
    sectors_then = sector_put old m bytes whole fits

    vol_then : Vol image1 u
    vol_then = unseen_image old u grown.vol m bytes whole unseen

    pub stored : (new : Option (List ℕ)) → new ≡ with_sector mid m bytes → IsStored mid new u u
    unfolding on_mid
    stored new written = record { on = on_mid; lsn = m; bytes = bytes; whole = whole; past = placed.0; below = placed.1; is = written; vol = vol_then }

    module _ (fd : Fd) (read : IsReadAs fd bytes) (rest : IsNewList bytes)
        (fd_is : fd ≡ record { attr = attr; owner = owner; modified = minute_of now; links = 1; size = 0; created = day_of now; segs = first_segments sectors m }) where
      abbrev made_file : DiskFile
      made_file = file media v on attr owner now grown.taken grown.chosen

      here : sector image1 m ≡ bytes
      here = ap (λ (x : ℕ → List ℕ). x m) sectors_then ∙ put_here (sector old) m bytes

      no_bytes : (size : ℕ) (xs : List ℕ) → size ≡ 0 → take size xs ≡ []
      no_bytes size xs none = ap (λ s. take s xs) none

      shown : file_at (sector image1) m ≡ made_file
      shown =
          ap (file_from (sector image1)) here
          ∙ same_file (file_from (sector image1) bytes) made_file
          (read.attributes_are ∙ ap (λ (f : Fd). f.attr) fd_is) (read.owner_is ∙ ap (λ (f : Fd). f.owner) fd_is) (read.modified_is ∙ ap (λ (f : Fd). f.modified) fd_is)
          (read.links_are ∙ ap (λ (f : Fd). f.links) fd_is) (read.created_is ∙ ap (λ (f : Fd). f.created) fd_is)
          (read.segments_are ∙ ap (λ (f : Fd). f.segs) fd_is ∙ ap (first_segments sectors) m_is)
          (no_bytes (size_field bytes) (segment_bytes (sector image1) (segments_field bytes)) (read.size_is ∙ ap (λ (f : Fd). f.size) fd_is))

      shape_then : image_geometry image1 ≡ h
      shape_then = ap geometry (ap (λ (x : ℕ → List ℕ). x 0) sectors_then ∙ put_beside (sector old) m bytes 0 (λ same. let past = placed.0 in absurd (omega arith)))

      total_then : (image_geometry image1).total ≡ (image_geometry on.image).total
      total_then = ap (λ (s : Geometry). s.total) (shape_then ∙ sym in_u ∙ volume_shape media v on attr owner now grown.taken grown.chosen)

      list_then : segments_field (sector image1 m) ≡ first_segments sectors m
      list_then = ap segments_field here ∙ read.segments_are ∙ ap (λ (f : Fd). f.segs) fd_is

      -- the file may be given an entry
      ready_then : attr < 128 → (d : ℕ) → IsReady (image_disk image1) (with_lost v (λ x. v.lost x || has_cluster (shape v) m made_file x)) d m
      ready_then low d = record {
        number = record {
          after = let past = placed.0 in omega arith;
          below = subst (λ s. m < s.total) (sym shape_then) placed.1;
        };
        within = subst (LieWithin (image_geometry image1)) (sym list_then)
            (first_within (image_geometry image1) sectors m (positive media v on attr owner now grown.taken grown.chosen)
            (let fits_in = cluster_within media v on attr owner now grown.taken grown.chosen in let same = m_is in let total = total_then in omega arith));
        distinct = subst (λ f. AreDistinct (own_sectors m f)) (sym shown)
            (subst (λ x. AreDistinct (x ∷ sectors_of (first_segments sectors (n media v on attr owner now grown.taken grown.chosen)))) (sym m_is)
            (subst AreDistinct (sym (first_sectors sectors (n media v on attr owner now grown.taken grown.chosen) (positive media v on attr owner now grown.taken grown.chosen)))
            (distinct_range (n media v on attr owner now grown.taken grown.chosen) sectors)));
        room =
            let none : size_field (sector image1 m) ≡ 0 = ap size_field here ∙ read.size_is ∙ ap (λ (f : Fd). f.size) fd_is in
            ap (λ s. nat_le s (256 * length (sectors_of (segments_field (sector image1 m))))) none ∙ le-leb 0 (256 * length (sectors_of (segments_field (sector image1 m)))) (omega arith);
        clusters = λ x has_it.
            or_right (v.lost x) (has_cluster (shape v) m made_file x)
            (subst (λ s. has_cluster s m made_file x ≡ true) (shape_then ∙ sym in_u) (subst (λ f. has_cluster (image_geometry image1) m f x ≡ true) shown has_it));
        made = λ directory. absurd (plain attr low (sym (ap is_directory shown) ∙ directory));
      }

      pub is_made : attr < 128 → (new : Option (List ℕ)) → new ≡ with_sector mid m bytes → IsMade v m (file_plan attr owner now) media new
      is_made plain_file new written = record {
        image = grown.image;
        now = image1;
        was = grown.was;
        is = written ∙ ap (λ x. with_sector x m bytes) grown.is;
        left = with_lost v (λ d. v.lost d || has_cluster (shape v) m made_file d);
        vol =
            subst (λ lost. Vol image1 (with_lost v lost)) (fun_ext
            (λ d. lost_is media v on attr owner now grown.taken grown.chosen d ∙ ap
            (λ x. v.lost d || has_cluster (shape v) x made_file d) (sym m_is))) vol_then;
        made = record {
          file = made_file;
          made = subst (λ x. IsNewFile sectors (is_free_in v) x (file_plan attr owner now) made_file) (sym m_is) (new_file media v on attr owner now grown.taken grown.chosen);
          shown = shown;
          rest = subst IsNewList (sym here) rest;
          volume = refl;
        };
        fresh = λ d h. cluster_free media v on attr owner now grown.taken grown.chosen d (subst (λ x. has_cluster (shape v) x made_file d ≡ true) m_is h);
        ready = ready_then plain_file;
        writes = record {
          others = λ s none differ. ap (λ (x : ℕ → List ℕ). x s) sectors_then ∙ put_beside (sector old) m bytes s differ ∙ grown.changes.others s none;
          end = λ d behind.
              let in_map : d < 2048 * map_sectors h = subst (λ x. d < 2048 * map_sectors x) (sym shape_old) behind.in_map in
              let past = placed.0 in
              ap (λ x. is_marked x d) sectors_then ∙ marked_beside (sector old) m bytes d (λ same. absurd (omega arith)) ∙ grown.changes.end d behind;
        };
      }

  -- a fault came before it was written
  pub unwritten : (new : Option (List ℕ)) → new ≡ mid → FileMakingEnds v (file_plan attr owner now) media new
  unwritten new same = record {
    image = grown.image;
    now = old;
    was = grown.was;
    is = same ∙ grown.is;
    number = n media v on attr owner now grown.taken grown.chosen;
    file = file media v on attr owner now grown.taken grown.chosen;
    chosen = new_file media v on attr owner now grown.taken grown.chosen;
    left = u;
    vol = grown.vol;
    lose = lose_as media v on attr owner now grown.taken grown.chosen u (record {
      same = refl;
      still = λ d was. or_left (v.lost d) (has grown.taken d) was;
      only = λ d is. is;
    });
    others = grown.changes.others;
    end = grown.changes.end;
  }

-- the cluster could not be taken
pub untaken : (media mid : Option (List ℕ)) (v : DiskVolume) (on : RepresentsVolume media v) (attr owner : ℕ) (now : TimePacket)
    → GrowthEnds v 1 media mid [] → FileMakingEnds v (file_plan attr owner now) media mid
untaken media mid v on attr owner now ends = record {
  image = ends.image;
  now = ends.now;
  was = ends.was;
  is = ends.is;
  number = n media v on attr owner now ends.taken ends.chosen;
  file = file media v on attr owner now ends.taken ends.chosen;
  chosen = new_file media v on attr owner now ends.taken ends.chosen;
  left = ends.left;
  vol = ends.vol;
  lose = lose_as media v on attr owner now ends.taken ends.chosen ends.left ends.lose;
  others = ends.changes.others;
  end = ends.changes.end;
}

-- What the call answers.

needs_one : (k : ℕ) → 1 ≤ k → file_clusters k 0 ≡ 1
needs_one k positive = sym (ap (λ x. 1 + x) (none_needed k (first_segments k 0) positive))

positive_of : (media : Option (List ℕ)) (v : DiskVolume) → RepresentsVolume media v → 1 ≤ cluster_size v
positive_of media v on = subst (λ (s : Geometry). 1 ≤ s.cluster) (sym (shape-image on.image v on.vol)) (cluster_positive (image_geometry on.image).cluster on.vol.sound.shape.header.clusters)

pub makes_ok : (media mid new : Option (List ℕ)) (v : DiskVolume) (on : RepresentsVolume media v) (attr owner : ℕ) (now : TimePacket) (after : List (ℕ × ℕ)) (m : ℕ) → Grows v 1 [] media mid (Ok after)
    → IsMade v m (file_plan attr owner now) media new → MakesNewFile v (file_plan attr owner now) media new (Ok m)
makes_ok media mid new v on attr owner now after m grows made = record {
  made = made;
  full = (λ is. absurd (cc is), λ low. let is = grows.full.1 (subst (λ x. free_total v < x) (needs_one (cluster_size v) (positive_of media v on)) low) in absurd (cc is));
  runs = λ is. absurd (cc is);
  ends = tt;
}

pub makes_fault : (media mid new : Option (List ℕ)) (v : DiskVolume) (on : RepresentsVolume media v) (attr owner : ℕ) (now : TimePacket) (after : List (ℕ × ℕ)) (e : FileFault) (r : Result ℕ FileFault)
    → r ≡ Err e → IsSome (file_fault {A = Unit {0}} (Err e))
    → Grows v 1 [] media mid (Ok after) → FileMakingEnds v (file_plan attr owner now) media new → MakesNewFile v (file_plan attr owner now) media new r
makes_fault media mid new v on attr owner now after e r is device grows ends = subst (MakesNewFile v (file_plan attr owner now) media new) (sym is) (by_fault e device)
  where
    by_fault : (f : FileFault) → IsSome (file_fault {A = Unit {0}} (Err f)) → MakesNewFile v (file_plan attr owner now) media new (Err f)
    by_fault (Device x) some = record {
      made = tt;
      full = (λ eq. absurd (cc eq), λ low. let eq = grows.full.1 (subst (λ y. free_total v < y) (needs_one (cluster_size v) (positive_of media v on)) low) in absurd (cc eq));
      runs = λ eq. absurd (cc eq);
      ends = ends;
    }
    by_fault NoCluster some = absurd (false≢true some)
    by_fault TooManyRuns some = absurd (false≢true some)

pub makes_refused : (media mid : Option (List ℕ)) (v : DiskVolume) (on : RepresentsVolume media v) (attr owner : ℕ) (now : TimePacket) (e : FileFault) (r : Result ℕ FileFault) → r ≡ Err e
    → Grows v 1 [] media mid (Err e) → MakesNewFile v (file_plan attr owner now) media mid r
makes_refused media mid v on attr owner now e r is grows = subst (MakesNewFile v (file_plan attr owner now) media mid) (sym is) (by_fault e grows)
  where
    by_fault : (f : FileFault) → Grows v 1 [] media mid (Err f) → MakesNewFile v (file_plan attr owner now) media mid (Err f)
    by_fault (Device x) grows = record {
      made = tt;
      full = (λ eq. absurd (cc eq), λ low. let eq = grows.full.1 (subst (λ y. free_total v < y) (needs_one (cluster_size v) (positive_of media v on)) low) in absurd (cc eq));
      runs = λ eq. absurd (cc eq);
      ends = untaken media mid v on attr owner now grows.ends;
    }
    by_fault NoCluster grows = record {
      made = tt;
      full = (λ eq. subst (λ y. free_total v < y) (sym (needs_one (cluster_size v) (positive_of media v on))) (grows.full.0 refl), λ low. refl);
      runs = λ eq. absurd (cc eq);
      ends = tt;
    }
    by_fault TooManyRuns grows = absurd (never_full (cluster_size v) (is_free_in v) (grows.runs refl))

-- As the code has it.

pub empty_grows : (v : DiskVolume) (media mid : Option (List ℕ)) (segments : List (ℕ × ℕ)) (r : Result (List (ℕ × ℕ)) FileFault)
    → segments ≡ [] → Grows v 1 segments media mid r → Grows v 1 [] media mid r
empty_grows v media mid segments r none grows = subst (λ xs. Grows v 1 xs media mid r) none grows

pub first_there : (media mid : Option (List ℕ)) (v : DiskVolume) (on : RepresentsVolume media v) (attr owner : ℕ) (now : TimePacket) (after : List (ℕ × ℕ)) (grown : IsGrown v 1 media mid [] after)
    → IsSome (slice_get (sectors_of after) 0)
first_there media mid v on attr owner now after grown =
    let list : after ≡ with_clusters (cluster_size v) [] (c media v on attr owner now grown.taken grown.chosen ∷ []) =
    grown.segments ∙ ap (with_clusters (cluster_size v) [])
    (taken_is media v on attr owner now grown.taken grown.chosen) in
    let is : slice_get (sectors_of after) 0 ≡ Some (c media v on attr owner now grown.taken grown.chosen * cluster_size v) =
    ap (λ xs. slice_get (sectors_of xs) 0) list ∙ first_of
    (c media v on attr owner now grown.taken grown.chosen * cluster_size v) (cluster_size v)
    (positive media v on attr owner now grown.taken grown.chosen) in
    subst IsSome (sym is) refl

pub number_few : (media mid : Option (List ℕ)) (v : DiskVolume) (on : RepresentsVolume media v) (attr owner : ℕ)
    (now : TimePacket) (after : List (ℕ × ℕ)) (grown : IsGrown v 1 media mid [] after) (m : ℕ)
    → m ≡ n media v on attr owner now grown.taken grown.chosen → m < 524288
number_few media mid v on attr owner now after grown m is =
    let low = number_low media v on attr owner now grown.taken grown.chosen in
    let most = on.vol.header.header.most in
    omega arith

-- sectors of a cluster, as they are kept
pub kept_cluster : (volume : Volume) (media mid : Option (List ℕ)) (v : DiskVolume) (after : List (ℕ × ℕ)) (grown : IsGrown v 1 media mid [] after)
    → IsMounted volume mid → volume.ident.cluster ≡ cluster_size v
kept_cluster volume media mid v after grown mounted =
    let u : DiskVolume = with_lost v (λ d. v.lost d || has grown.taken d) in
    let on : RepresentsVolume mid u = record { image = grown.now; is = grown.is; vol = grown.vol } in
    let agrees = agrees_on volume mid u mounted on in
    ap (λ (s : Geometry). s.cluster) (agrees.sizes_are ∙ sym (shape-image grown.now u grown.vol))

pub fd_as : (fd : Fd) (attr owner : ℕ) (now : TimePacket) (k size m : ℕ) (segs : List (ℕ × ℕ))
    → fd ≡ record { attr = attr; owner = owner; modified = minute_of now; links = 1; size = 0; created = day_of now; segs = segs }
    → segs ≡ first_segments k m → k ≡ size
    → fd ≡ record { attr = attr; owner = owner; modified = minute_of now; links = 1; size = 0; created = day_of now; segs = first_segments size m }
fd_as fd attr owner now k size m segs is list same =
    is ∙ ap (λ xs. record { attr = attr; owner = owner; modified = minute_of now; links = 1; size = 0; created = day_of now; segs = xs }) (list ∙ ap (λ x. first_segments x m) same)

pub refused_as : (e : FileFault) (r : Result ℕ FileFault) (media mid : Option (List ℕ)) → r ≡ Err e
    → (IsNone (file_fault {A = Unit {0}} (Err e)) → mid ≡ media) → OnErr r (IsNone (file_fault r) → mid ≡ media)
refused_as e r media mid is same = subst (λ x. OnErr x (IsNone (file_fault x) → mid ≡ media)) (sym is) (by_fault e same)
  where
    by_fault : (f : FileFault) → (IsNone (file_fault {A = Unit {0}} (Err f)) → mid ≡ media) → IsNone (file_fault {A = ℕ} (Err f)) → mid ≡ media
    by_fault (Device x) s none = s none
    by_fault NoCluster s none = s none
    by_fault TooManyRuns s none = s none
