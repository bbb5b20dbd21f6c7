-- A new directory: its clusters are taken, its first sector is written, and then its descriptor.
use Rattle.std.proofs.Common.{◌≡◌, ◌≢◌, ℕ, zero, suc, ◌+◌, ◌-◌, ◌*◌, ◌/◌, ◌%◌, ◌<◌, ◌≤◌, Bool, true, false, not, ◌==◌, ◌&&◌, ◌||◌, Option, Some, IsSome, Result, Ok, Err, List, [], ◌∷◌, ◌++◌, length, inl, inr, take, get_or, refl, sym, ap, ap₂, ◌∙◌, subst, ⊎_elim, arith, eq-eqb, leb-true, le-leb}
use Rattle.std.specs.Prelude.{nat_le, slice_get, flat_map, if◌then◌else◌}
use Rattle.std.specs.List.{range_with_len}
use Rattle.std.proofs.lemmas.List.{append-nil}
use Rattle.std.proofs.lemmas.List.Elements.{All-nil, All-cons}
use mathlib.Core.Path.{fun_ext}
use Rattle.std.proofs.lemmas.Bool.{and_from, or_left, or_right, both_ways, false≢true, cases_lt}
use Rattle.std.proofs.lemmas.Option.{same_Some}
use Rattle.os9_base.specs.declared.registers.TimePacket.{TimePacket}
use Rattle.os9_outer.specs.Drive.{sector_at, sector_count, with_sector}
use Rattle.rbf_model.specs.Disk.{image_disk}
use Rattle.rbf_model.specs.Fields.{segments_field, size_field}
use Rattle.rbf_model.specs.File.{DiskFile, file_at, file_from, segment_bytes}
use Rattle.rbf_model.specs.Geometry.{Geometry, LieWithin, geometry, image_geometry, is_within, sector, map_sectors}
use Rattle.rbf_model.specs.Laws.{IsMapSector, IsReady}
use Rattle.rbf_model.specs.Segments.{AreDistinct, appended_segments, has, joins, sectors_of}
use Rattle.rbf_model.specs.Space.{is_whole, own_sectors as owned_sectors, has_cluster}
use Rattle.rbf_model.specs.Volume.{DiskVolume, Vol, is_free}
use Rattle.rbf_model.specs.Writes.{with_lost, IsNewDirectory}
use Rattle.rbf_model.proofs.Free.{free_parts}
use Rattle.rbf_model.proofs.Owners.{cluster_positive, clusters_of_own, owns_own, owns_system, root_file}
use Rattle.rbf_model.proofs.Segments.{has_range}
use Rattle.rbf_model.proofs.Space.{cluster_from_owns}
use Rattle.rbf_change.specs.Calls.{shape, cluster_size, is_free_in, minute_of, day_of}
use Rattle.rbf_change.specs.Contents.{extended}
use Rattle.rbf_change.specs.Faults.{MayLose}
use Rattle.rbf_change.specs.Growth.{uses, with_clusters}
use Rattle.rbf_change.specs.Names.{new_listing}
use Rattle.rbf_change.specs.NewFiles.{Plan, directory_plan, IsNewFile, file_clusters}
use Rattle.rbf_change.specs.Tidy.{IsNewList, KeepsMapEnd}
use Rattle.rbf_change.proofs.LawfulWrites.{shape-image}
use Rattle.rbf_access.specs.Faults.{file_fault}
use Rattle.rbf_access.specs.MapMarks.{marking_sectors}
use Rattle.rbf_access.specs.Mounted.{RepresentsVolume, IsMounted}
use Rattle.rbf_access.specs.declared.faults.FileFault.{FileFault}
use Rattle.rbf_access.specs.declared.faults.FileFault.TheVariants.{Device, NoCluster, TooManyRuns}
use Rattle.rbf_access.specs.declared.volume.Volume.{Volume}
use Rattle.rbf_alloc.specs.Gained.{IsTooMany}
use Rattle.rbf_alloc.specs.Grown.{IsChosenGrowth, IsGrown, GrowthEnds, Grows, is_gained}
use Rattle.rbf_alloc.proofs.Chosen.{has_free, uses_more}
use Rattle.rbf_alloc.proofs.Growing.{agrees_on}
use Rattle.rbf_sector.specs.declared.fd.Fd.{Fd}
use Rattle.rbf_entries.proofs.Stored.{IsStored}
use Rattle.rbf_entries.specs.Described.{IsReadAs}
use Rattle.rbf_entries.proofs.NewDescriptor.{same_file}
use Rattle.rbf_entries.specs.FolderMade.{new_sectors, first_sector, ClustersTaken, IsFolderMade, FolderEnds, MakesFolder}
use Rattle.rbf_entries.proofs.Entries.{new_directory_is, sector_front, sector_whole}
use Rattle.rbf_entries.proofs.Space.{IsSpace, space_of, run_of, some_sector, few_needed}
use Rattle.rbf_entries.proofs.Stores.{placed, on_drive, image_then, here, beside, shape_then, marks_then, vol_then, now_is, on_then, stored}

abbrev pub folder_of : ℕ → ℕ → TimePacket → ℕ → ℕ → ℕ → ℕ → DiskFile
folder_of attr owner now parent k n first = record {
  attributes = 128 + attr % 128;
  owner = owner;
  modified = minute_of now;
  links = 1;
  created = day_of now;
  segments = run_of k first;
  contents = new_listing n parent;
}

-- the first sector is the first of its segment
range_starts : (a m : ℕ) → 1 ≤ m → (rest : List ℕ) × (sectors_of ((a, m) ∷ []) ≡ a ∷ rest)
range_starts a zero some = absurd (omega arith)
range_starts a (suc m) some = (range_with_len (a + 1) m ++ [], refl)

pub starts : (k first : ℕ) → 1 ≤ k → (rest : List ℕ) × (sectors_of (run_of k first) ≡ first ∷ rest)
starts k first positive = range_starts first (new_sectors k) (some_sector k positive)

pub first_is : (k first : ℕ) → 1 ≤ k → get_or (sectors_of (run_of k first)) 0 0 ≡ first
first_is k first positive = let s = starts k first positive in ap (λ xs. get_or xs 0 0) s.1

-- the clusters of segments that have gained some
uses_with : (k : ℕ) (segments : List (ℕ × ℕ)) (taken : List ℕ) (c : ℕ) → 1 ≤ k → uses k (with_clusters k segments taken) c ≡ (uses k segments c || has taken c)
uses_with k segments [] c positive = or_none (uses k segments c)
  where
    or_none : (t : Bool) → t ≡ (t || false)
    or_none true = refl
    or_none false = refl
uses_with k segments (d ∷ taken) c positive =
    uses_with k (appended_segments segments (d * k) k) taken c positive ∙ ap (λ t. t || has taken c) (uses_more k segments d c positive) ∙ or_either (uses k segments c) (d == c) (has taken c)
  where
    or_either : (x y z : Bool) → ((x || y) || z) ≡ (x || (y || z))
    or_either true y z = refl
    or_either false y z = refl

same_tests : (a b : Bool) → (a ≡ true → b ≡ true) → (b ≡ true → a ≡ true) → a ≡ b
same_tests true b one other = sym (one refl)
same_tests false true one other = other refl
same_tests false false one other = refl

pub positive_of : (media : Option (List ℕ)) (v : DiskVolume) → RepresentsVolume media v → 1 ≤ cluster_size v
positive_of media v on = subst (λ (s : Geometry). 1 ≤ s.cluster) (sym (shape-image on.image v on.vol)) (cluster_positive (image_geometry on.image).cluster on.vol.sound.shape.header.clusters)

-- a sector of a free cluster lies behind the map
pub past_system : (media : Option (List ℕ)) (v : DiskVolume) (on : RepresentsVolume media v) (s : ℕ) → is_free_in v (s / cluster_size v) ≡ true → map_sectors (image_geometry on.image) < s
past_system media v on s free = ⊎_elim
    (λ low.
    let g : Geometry = image_geometry on.image in
    let r = root_file g (sector on.image) v on.vol.sound in
    let facts = free_parts g (sector on.image) v on.vol.sound (s / g.cluster) (subst (λ h. is_free h v (s / h.cluster) ≡ true) (shape-image on.image v on.vol) free) in
    absurd (both_ways (has_cluster g g.root r.0 (s / g.cluster)) (facts.2 g.root r.0 r.1)
    (cluster_from_owns g g.root r.0 s (owns_system g r.0 s (has_range 0 (1 + map_sectors g) s (omega arith) (omega arith))))))
    (λ high. let h : 1 + map_sectors (image_geometry on.image) ≤ s = high in omega arith)
    (cases_lt s (1 + map_sectors (image_geometry on.image)))

no_map : (media : Option (List ℕ)) (v : DiskVolume) (on : RepresentsVolume media v) (image : List ℕ) (s : ℕ)
    → media ≡ Some image → is_free_in v (s / cluster_size v) ≡ true → IsMapSector (image_geometry image) s → ⊥
no_map media v on image s was free map =
    let same : on.image ≡ image = same_Some on.image image (sym on.is ∙ was) in
    let past = past_system media v on s free in
    let within = map.within in
    let sectors : map_sectors (image_geometry on.image) ≡ map_sectors (image_geometry image) = ap (λ x. map_sectors (image_geometry x)) same in
    absurd (omega arith)

-- the clusters that have been chosen for it
module _ (media : Option (List ℕ)) (v : DiskVolume) (on : RepresentsVolume media v) (parent attr owner : ℕ) (now : TimePacket) (taken : List ℕ)
    (chosen : IsChosenGrowth (cluster_size v) (file_clusters (cluster_size v) 64) (is_free_in v) [] taken) where
  abbrev g : Geometry
  g = image_geometry on.image

  abbrev k : ℕ
  k = cluster_size v

  volume_shape : shape v ≡ g
  volume_shape = shape-image on.image v on.vol

  same_k : k ≡ g.cluster
  same_k = ap (λ (h : Geometry). h.cluster) volume_shape

  pub space : IsSpace k (is_free_in v) taken
  space = space_of k (is_free_in v) taken (positive_of media v on) chosen

  abbrev n : ℕ
  n = space.number

  abbrev first : ℕ
  first = space.first

  abbrev file : DiskFile
  file = folder_of attr owner now parent k n first

  abbrev plan : ℕ → Plan
  plan = directory_plan attr owner now parent

  pub new_file : IsNewFile k (is_free_in v) n (plan n) file
  new_file = record {
    cluster = space.cluster;
    first = space.begins;
    taken = space.cluster_free;
    gained = space.gained;
    choice = space.choice;
    is = ap (λ xs. record {
      attributes = 128 + attr % 128;
      owner = owner;
      modified = minute_of now;
      links = 1;
      created = day_of now;
      segments = xs;
      contents = new_listing n parent;
    }) (sym space.segments);
  }

  taken_free : (c : ℕ) → has taken c ≡ true → is_free_in v c ≡ true
  taken_free c h = has_free k (is_free_in v) [] taken c chosen.gained h

  free_facts : (c : ℕ) → is_free_in v c ≡ true → (is_whole g c ≡ true) × (v.lost c ≡ false) × ((m : ℕ) (f : DiskFile) → v.files m ≡ Some f → has_cluster g m f c ≡ false)
  free_facts c h = free_parts g (sector on.image) v on.vol.sound c (subst (λ x. is_free x v c ≡ true) volume_shape h)

  number_own : has (n ∷ sectors_of (run_of k first)) n ≡ true
  number_own = or_left (n == n) (has (sectors_of (run_of k first)) n) (eq-eqb n n refl)

  first_in : has (sectors_of (run_of k first)) first ≡ true
  first_in = let s = starts k first (positive_of media v on) in ap (λ xs. has xs first) s.1 ∙ or_left (first == first) (has s.0 first) (eq-eqb first first refl)

  first_own : has (n ∷ sectors_of (run_of k first)) first ≡ true
  first_own = or_right (n == first) (has (sectors_of (run_of k first)) first) first_in

  pub number_taken : has taken (n / k) ≡ true
  number_taken = space.inside n number_own

  pub first_taken : has taken (first / k) ≡ true
  first_taken = space.inside first first_own

  pub number_free : is_free_in v (n / k) ≡ true
  number_free = taken_free (n / k) number_taken

  pub first_free : is_free_in v (first / k) ≡ true
  first_free = taken_free (first / k) first_taken

  -- each of its sectors is on the volume
  pub sector_low : (s : ℕ) → has (n ∷ sectors_of (run_of k first)) s ≡ true → s < g.total
  sector_low s h =
      let c = s / k in
      let facts = free_facts c (taken_free c (space.inside s h)) in
      let end : (c + 1) * g.cluster ≤ g.total = leb-true ((c + 1) * g.cluster) g.total facts.0 in
      let same : (c + 1) * g.cluster ≡ (c + 1) * k = ap (λ x. (c + 1) * x) (sym same_k) in
      let positive = positive_of media v on in
      let less : s < (s / k + 1) * k = below_next s k positive in
      omega arith
    where
      below_next : (a b : ℕ) → 1 ≤ b → a < (a / b + 1) * b
      below_next a b some = omega arith

  run_end : first + new_sectors k ≤ g.total
  run_end =
      let some = some_sector k (positive_of media v on) in
      let last : ℕ = first + (new_sectors k - 1) in
      let there : has (sectors_of (run_of k first)) last ≡ true =
      ap (λ xs. has xs last) (append-nil (range_with_len first (new_sectors k))) ∙ has_range first (new_sectors k) last (omega arith) (omega arith) in
      let low = sector_low last (or_right (n == last) (has (sectors_of (run_of k first)) last) there) in
      omega arith

  not_root : n ≢ g.root
  not_root same =
      let r = root_file g (sector on.image) v on.vol.sound in
      let used : has_cluster g g.root r.0 (g.root / g.cluster) ≡ true =
      cluster_from_owns g g.root r.0 g.root (owns_own g g.root r.0 g.root
      (or_left (g.root == g.root) (has (sectors_of r.0.segments) g.root) (eq-eqb g.root g.root refl))) in
      let there : g.root / g.cluster ≡ n / k = ap (λ s. s / g.cluster) (sym same) ∙ ap (λ x. n / x) (sym same_k) in
      both_ways (has_cluster g g.root r.0 (n / k)) ((free_facts (n / k) number_free).2 g.root r.0 r.1) (subst (λ d. has_cluster g g.root r.0 d ≡ true) there used)

  own_in : (s : ℕ) → has (owned_sectors n file) s ≡ true → has taken (s / g.cluster) ≡ true
  own_in s h = subst (λ x. has taken (s / x) ≡ true) same_k (space.inside s h)

  pub cluster_is : (d : ℕ) → has taken d ≡ has_cluster (shape v) n file d
  cluster_is d = same_tests (has taken d) (has_cluster (shape v) n file d)
      (λ h.
      let w = space.hit d h in
      let used : has_cluster (shape v) n file (w.0 / k) ≡ true = cluster_from_owns (shape v) n file w.0 (owns_own (shape v) n file w.0 w.1) in
      subst (λ x. has_cluster (shape v) n file x ≡ true) w.2 used)
      (λ h. clusters_of_own g n file (λ x. has taken x ≡ true) not_root own_in d (subst (λ s. has_cluster s n file d ≡ true) volume_shape h))

  pub cluster_free : (d : ℕ) → has_cluster (shape v) n file d ≡ true → is_free_in v d ≡ true
  cluster_free d h = taken_free d (cluster_is d ∙ h)

  lost_is : (d : ℕ) → (v.lost d || has taken d) ≡ (v.lost d || has_cluster (shape v) n file d)
  lost_is d = ap (λ t. v.lost d || t) (cluster_is d)

  pub lost_same : with_lost v (λ d. v.lost d || has taken d) ≡ with_lost v (λ d. v.lost d || has_cluster (shape v) n file d)
  lost_same = ap (with_lost v) (fun_ext lost_is)

  -- clusters that were taken may be lost
  pub lose_as : (left : DiskVolume) → MayLose v left (has taken) → MayLose v left (has_cluster (shape v) n file)
  lose_as left lose = record { same = lose.same; still = lose.still; only = λ d h. sym (lost_is d) ∙ lose.only d h }

  -- the places of the list that has been gained
  pub number_is : (after : List (ℕ × ℕ)) (m : ℕ) → after ≡ with_clusters k [] taken → slice_get (sectors_of after) 0 ≡ Some m → m ≡ n
  number_is after m is there = sym (same_Some n m (sym space.number_at ∙ ap (λ xs. slice_get (sectors_of xs) 0) (sym is) ∙ there))

  pub first_at_is : (after : List (ℕ × ℕ)) (m : ℕ) → after ≡ with_clusters k [] taken → slice_get (sectors_of after) 1 ≡ Some m → m ≡ first
  first_at_is after m is there = sym (same_Some first m (sym space.first_at ∙ ap (λ xs. slice_get (sectors_of xs) 1) (sym is) ∙ there))

  pub number_there : (after : List (ℕ × ℕ)) → after ≡ with_clusters k [] taken → IsSome (slice_get (sectors_of after) 0)
  number_there after is = subst IsSome (sym (ap (λ xs. slice_get (sectors_of xs) 0) is ∙ space.number_at)) refl

  pub first_there : (after : List (ℕ × ℕ)) → after ≡ with_clusters k [] taken → IsSome (slice_get (sectors_of after) 1)
  first_there after is = subst IsSome (sym (ap (λ xs. slice_get (sectors_of xs) 1) is ∙ space.first_at)) refl

  pub number_few : n < 524288
  number_few =
      let low = sector_low n number_own in
      let most = on.vol.header.header.most in
      omega arith

  pub first_few : first < 524288
  first_few =
      let low = sector_low first first_own in
      let most = on.vol.header.header.most in
      omega arith

  pub takes_all : ClustersTaken v n file
  takes_all = record {
    clusters = taken;
    are = cluster_is;
    counted = chosen.counted;
    free = taken_free;
    some = ap (λ s. has (sectors_of (run_of k first)) s) (first_is k first (positive_of media v on)) ∙ first_in;
  }

  -- the clusters could not all be taken
  pub untaken : (mid : Option (List ℕ)) (ends : GrowthEnds v (file_clusters k 64) media mid []) → ends.taken ≡ taken → FolderEnds v plan media mid
  untaken mid ends same = record {
    image = ends.image;
    now = ends.now;
    was = ends.was;
    is = ends.is;
    number = n;
    file = file;
    chosen = new_file;
    takes = takes_all;
    left = ends.left;
    vol = ends.vol;
    lose = lose_as ends.left (subst (λ xs. MayLose v ends.left (has xs)) same ends.lose);
    order =
        inl (subst (λ s. sector ends.now s ≡ sector ends.image s) (sym (first_is k first (positive_of media v on)))
        (ends.changes.others first (no_map media v on ends.image first ends.was (taken_free (first / k) first_taken))));
    undescribed = ends.changes.others n (no_map media v on ends.image n ends.was number_free);
    others = λ s none _. ends.changes.others s none;
    end = ends.changes.end;
  }

-- the clusters have been taken
module _ (media mid : Option (List ℕ)) (v : DiskVolume) (on : RepresentsVolume media v) (parent attr owner : ℕ)
    (now : TimePacket) (after : List (ℕ × ℕ)) (grown : IsGrown v (file_clusters (cluster_size v) 64) media mid [] after)
  where
    abbrev sectors : ℕ
    sectors = cluster_size v

    abbrev old : List ℕ
    old = grown.now

    abbrev u : DiskVolume
    u = with_lost v (λ d. v.lost d || has grown.taken d)

    abbrev number : ℕ
    number = n media v on parent attr owner now grown.taken grown.chosen

    abbrev start : ℕ
    start = first media v on parent attr owner now grown.taken grown.chosen

    abbrev folder : DiskFile
    folder = file media v on parent attr owner now grown.taken grown.chosen

    abbrev planned : ℕ → Plan
    planned = directory_plan attr owner now parent

    abbrev pub on_mid : RepresentsVolume mid u
    on_mid = record { image = old; is = grown.is; vol = grown.vol }

    taken_lost : (c : ℕ) → has grown.taken c ≡ true → u.lost c ≡ true
    taken_lost c h = or_right (v.lost c) (has grown.taken c) h

    pub start_lost : u.lost (start / sectors) ≡ true
    start_lost = taken_lost (start / sectors) (first_taken media v on parent attr owner now grown.taken grown.chosen)

    pub number_lost : u.lost (number / sectors) ≡ true
    number_lost = taken_lost (number / sectors) (number_taken media v on parent attr owner now grown.taken grown.chosen)

    shape_old : image_geometry old ≡ image_geometry grown.image
    shape_old = ap geometry (grown.changes.others 0 (λ is. let low = is.after in absurd (omega arith)))

    grown_loses : MayLose v u (has grown.taken)
    grown_loses = record { same = refl; still = λ d was. or_left (v.lost d) (has grown.taken d) was; only = λ d is. is }

    all_lost : (c : ℕ) → has_cluster (shape v) number folder c ≡ true → u.lost c ≡ true
    all_lost c h = taken_lost c (cluster_is media v on parent attr owner now grown.taken grown.chosen c ∙ h)

    number_kept : sector old number ≡ sector grown.image number
    number_kept = grown.changes.others number (no_map media v on grown.image number grown.was (number_free media v on parent attr owner now grown.taken grown.chosen))

    apart : start ≢ number
    apart e =
        let s = starts sectors start (positive_of media v on) in
        let distinct : AreDistinct (number ∷ start ∷ s.0) = subst (λ xs. AreDistinct (number ∷ xs)) s.1 (space media v on parent attr owner now grown.taken grown.chosen).distinct in
        distinct 0 1 0 (omega arith) (omega arith) (sym e)

    -- a fault came before its first sector was written
    pub unlisted : (new : Option (List ℕ)) → new ≡ mid → FolderEnds v planned media new
    unlisted new same = record {
      image = grown.image;
      now = old;
      was = grown.was;
      is = same ∙ grown.is;
      number = number;
      file = folder;
      chosen = new_file media v on parent attr owner now grown.taken grown.chosen;
      takes = takes_all media v on parent attr owner now grown.taken grown.chosen;
      left = u;
      vol = grown.vol;
      lose = lose_as media v on parent attr owner now grown.taken grown.chosen u grown_loses;
      order = inr all_lost;
      undescribed = number_kept;
      others = λ s none _. grown.changes.others s none;
      end = grown.changes.end;
    }

    -- its first sector is written
    module _ (one : List ℕ) (one_whole : length one ≡ 256) (listed : Option (List ℕ)) (listed_is : listed ≡ with_sector mid start one) where
      abbrev image1 : List ℕ
      image1 = image_then mid u on_mid start start_lost one one_whole

      abbrev pub on_listed : RepresentsVolume listed u
      on_listed = on_then mid u on_mid start start_lost one one_whole listed listed_is

      first_name : first_sector folder ≡ start
      first_name = first_is sectors start (positive_of media v on)

      shape1 : image_geometry image1 ≡ image_geometry grown.image
      shape1 = shape_then mid u on_mid start start_lost one one_whole ∙ shape_old

      others1 : (s : ℕ) → ¬ IsMapSector (image_geometry grown.image) s → s ≢ start → sector image1 s ≡ sector grown.image s
      others1 s none differ = beside mid u on_mid start start_lost one one_whole s differ ∙ grown.changes.others s none

      end1 : KeepsMapEnd grown.image image1 (λ _. false)
      end1 c behind =
          let in_map : c < 2048 * map_sectors (image_geometry old) = subst (λ x. c < 2048 * map_sectors x) (sym shape_old) behind.in_map in
          marks_then mid u on_mid start start_lost one one_whole c in_map ∙ grown.changes.end c behind

      -- a fault came before its descriptor was written
      pub undescribed : (new : Option (List ℕ)) → new ≡ listed → FolderEnds v planned media new
      undescribed new same = record {
        image = grown.image;
        now = image1;
        was = grown.was;
        is = same ∙ now_is mid u on_mid start start_lost one one_whole listed listed_is;
        number = number;
        file = folder;
        chosen = new_file media v on parent attr owner now grown.taken grown.chosen;
        takes = takes_all media v on parent attr owner now grown.taken grown.chosen;
        left = u;
        vol = vol_then mid u on_mid start start_lost one one_whole;
        lose = lose_as media v on parent attr owner now grown.taken grown.chosen u grown_loses;
        order = inr all_lost;
        undescribed = beside mid u on_mid start start_lost one one_whole number (λ e. apart (sym e)) ∙ number_kept;
        others = λ s none differ. others1 s none (λ e. differ (e ∙ sym first_name));
        end = end1;
      }

      -- its descriptor is written
      module _ (bytes : List ℕ) (whole : length bytes ≡ 256) (fd : Fd) (read : IsReadAs fd bytes) (rest : IsNewList bytes)
          (fd_is : fd ≡ record { attr = 128 + attr % 128; owner = owner; modified = minute_of now; links = 1; size = 64; created = day_of now; segs = run_of sectors start })
          (one_is : one ≡ extended (new_listing number parent) 256) (parent_low : parent < 16777216) (new : Option (List ℕ)) (new_is : new ≡ with_sector listed number bytes) where
        abbrev image2 : List ℕ
        image2 = image_then listed u on_listed number number_lost bytes whole

        number_here : sector image2 number ≡ bytes
        number_here = here listed u on_listed number number_lost bytes whole

        start_here : sector image2 start ≡ extended (new_listing number parent) 256
        start_here = beside listed u on_listed number number_lost bytes whole start apart ∙ here mid u on_mid start start_lost one one_whole ∙ one_is

        contents_are : take 64 (segment_bytes (sector image2) (run_of sectors start)) ≡ new_listing number parent
        contents_are =
            let s = starts sectors start (positive_of media v on) in
            ap (λ xs. take 64 (flat_map (sector image2) xs)) s.1
            ∙ ap (λ b. take 64 (b ++ flat_map (sector image2) s.0)) start_here
            ∙ sector_front number parent (flat_map (sector image2) s.0)

        segments_are : segments_field bytes ≡ run_of sectors start
        segments_are = read.segments_are ∙ ap (λ (f : Fd). f.segs) fd_is

        size_is : size_field bytes ≡ 64
        size_is = read.size_is ∙ ap (λ (f : Fd). f.size) fd_is

        shown : file_at (sector image2) number ≡ folder
        shown =
            ap (file_from (sector image2)) number_here
            ∙ same_file (file_from (sector image2) bytes) folder
            (read.attributes_are ∙ ap (λ (f : Fd). f.attr) fd_is) (read.owner_is ∙ ap (λ (f : Fd). f.owner) fd_is) (read.modified_is ∙ ap (λ (f : Fd). f.modified) fd_is)
            (read.links_are ∙ ap (λ (f : Fd). f.links) fd_is) (read.created_is ∙ ap (λ (f : Fd). f.created) fd_is) segments_are
            (ap₂ (λ n xs. take n (segment_bytes (sector image2) xs)) size_is segments_are ∙ contents_are)

        shape2 : image_geometry image2 ≡ image_geometry grown.image
        shape2 = shape_then listed u on_listed number number_lost bytes whole ∙ shape1

        abbrev w : DiskVolume
        w = with_lost v (λ d. v.lost d || has_cluster (shape v) number folder d)

        w_is : u ≡ w
        w_is = lost_same media v on parent attr owner now grown.taken grown.chosen

        vol2 : Vol image2 w
        vol2 = subst (Vol image2) w_is (vol_then listed u on_listed number number_lost bytes whole)

        shape_v : shape v ≡ image_geometry image2
        shape_v = shape-image image2 w vol2

        total_is : (image_geometry image2).total ≡ (image_geometry on.image).total
        total_is = ap (λ (s : Geometry). s.total) (sym shape_v ∙ shape-image on.image v on.vol)

        list_then : segments_field (sector image2 number) ≡ run_of sectors start
        list_then = ap segments_field number_here ∙ segments_are

        ready : IsReady (image_disk image2) w parent number
        ready = record {
          number = record {
            after = let past = (placed listed u on_listed number number_lost bytes whole).0 in omega arith;
            below = subst (λ s. number < s.total) (sym (shape_then listed u on_listed number number_lost bytes whole)) (placed listed u on_listed number number_lost bytes whole).1;
          };
          within = subst (LieWithin (image_geometry image2)) (sym list_then)
              (All-cons (λ s. is_within (image_geometry image2) s ≡ true) (start, new_sectors sectors) []
              (and_from (nat_le 1 start) (nat_le (start + new_sectors sectors) (image_geometry image2).total)
              (le-leb 1 start (let past = (placed mid u on_mid start start_lost one one_whole).0 in omega arith))
              (le-leb (start + new_sectors sectors) (image_geometry image2).total (let end = run_end media v on parent attr owner now grown.taken grown.chosen in let total = total_is in omega arith)))
              (All-nil (λ s. is_within (image_geometry image2) s ≡ true)));
          distinct = subst (λ f. AreDistinct (owned_sectors number f)) (sym shown) (space media v on parent attr owner now grown.taken grown.chosen).distinct;
          room =
              let s = starts sectors start (positive_of media v on) in
              let counted : length (sectors_of (segments_field (sector image2 number))) ≡ suc (length s.0) = ap (λ xs. length (sectors_of xs)) list_then ∙ ap length s.1 in
              let sized : size_field (sector image2 number) ≡ 64 = ap size_field number_here ∙ size_is in
              le-leb (size_field (sector image2 number)) (256 * length (sectors_of (segments_field (sector image2 number)))) (omega arith);
          clusters = λ x has_it.
              or_right (v.lost x) (has_cluster (shape v) number folder x)
              (subst (λ s. has_cluster s number folder x ≡ true) (sym shape_v) (subst (λ f. has_cluster (image_geometry image2) number f x ≡ true) shown has_it));
          made = λ directory. subst (λ (f : DiskFile). IsNewDirectory f.contents number parent) (sym shown)
              (new_directory_is number parent (let few = number_few media v on parent attr owner now grown.taken grown.chosen in omega arith) parent_low);
        }

        -- the clusters that were gained are those of its descriptor on the media
        pub marks_made : marking_sectors (shape v) (is_gained sectors [] after) ≡ marking_sectors (shape v) (has_cluster (shape v) number (file_at (sector_at new) number))
        marks_made = ap (marking_sectors (shape v)) (fun_ext gained_is)
          where
            shown_new : file_at (sector_at new) number ≡ folder
            shown_new = ap (λ m. file_at (sector_at m) number) (now_is listed u on_listed number number_lost bytes whole new new_is) ∙ shown

            only_new : (t : Bool) → (t && not false) ≡ t
            only_new true = refl
            only_new false = refl

            gained_is : (c : ℕ) → is_gained sectors [] after c ≡ has_cluster (shape v) number (file_at (sector_at new) number) c
            gained_is c =
                only_new (uses sectors after c)
                ∙ ap (λ xs. uses sectors xs c) grown.segments
                ∙ uses_with sectors [] grown.taken c (positive_of media v on)
                ∙ cluster_is media v on parent attr owner now grown.taken grown.chosen c
                ∙ ap (λ f. has_cluster (shape v) number f c) (sym shown_new)

        pub is_made : IsFolderMade v parent number (planned number) media new
        is_made = record {
          image = grown.image;
          now = image2;
          was = grown.was;
          is = now_is listed u on_listed number number_lost bytes whole new new_is;
          left = w;
          vol = vol2;
          made = record {
            file = folder;
            made = new_file media v on parent attr owner now grown.taken grown.chosen;
            shown = shown;
            rest = subst IsNewList (sym number_here) rest;
            volume = refl;
          };
          takes = takes_all media v on parent attr owner now grown.taken grown.chosen;
          ready = ready;
          writes = record {
            first_is = ap (sector image2) first_name ∙ start_here;
            others = λ s none differ other. beside listed u on_listed number number_lost bytes whole s differ ∙ others1 s none (λ e. other (e ∙ sym first_name));
            end = λ c behind.
                let in_map : c < 2048 * map_sectors (image_geometry image1) = subst (λ x. c < 2048 * map_sectors x) (sym shape1) behind.in_map in
                marks_then listed u on_listed number number_lost bytes whole c in_map ∙ end1 c behind;
          };
        }

-- What the call answers.

abbrev pub need : DiskVolume → ℕ
need v = file_clusters (cluster_size v) 64

few_either : (t : Bool) (one other : List (ℕ × ℕ)) → length one ≤ 48 → length other ≤ 48 → length (if t then one else other) ≤ 48
few_either true one other a b = a
few_either false one other a b = b

pub never_full : (k : ℕ) (free : ℕ → Bool) → 1 ≤ k → IsTooMany k (file_clusters k 64) free [] → ⊥
never_full k free positive many =
    let few = few_needed k positive in
    let needed = many.needed in
    let fits = fits_three k many.taken (omega arith) in
    let full = many.full in
    absurd (omega arith)
  where
    fits_three : (m : ℕ) (taken : List ℕ) → length taken ≤ 2 → length (with_clusters m [] taken) ≤ 48
    fits_three m [] low = omega arith
    fits_three m (c ∷ []) low = omega arith
    fits_three m (c ∷ d ∷ []) low = few_either (joins (c * m, m) (d * m) m) ((c * m, m + m) ∷ []) ((c * m, m) ∷ (d * m, m) ∷ []) (omega arith) (omega arith)
    fits_three m (c ∷ d ∷ e ∷ more) low = absurd (omega arith)

-- the clusters were taken
pub taken_or : (media mid new : Option (List ℕ)) (v : DiskVolume) (parent : ℕ) (plan : ℕ → Plan) (after : List (ℕ × ℕ)) (m : ℕ) → Grows v (need v) [] media mid (Ok after)
    → IsFolderMade v parent m (plan m) media new → MakesFolder v parent plan media new (Ok m)
taken_or media mid new v parent plan after m grows made = record {
  made = made;
  full = (λ is. absurd (cc is), λ low. let is = grows.full.1 low in absurd (cc is));
  runs = λ is. absurd (cc is);
  ends = tt;
}

pub folder_fault : (media mid new : Option (List ℕ)) (v : DiskVolume) (parent : ℕ) (plan : ℕ
    → Plan) (after : List (ℕ × ℕ)) (e : FileFault) (r : Result ℕ FileFault) → r ≡ Err e
    → IsSome (file_fault {A = Unit {0}} (Err e))
    → Grows v (need v) [] media mid (Ok after) → FolderEnds v plan media new → MakesFolder v parent plan media new r
folder_fault media mid new v parent plan after e r is device grows ends = subst (MakesFolder v parent plan media new) (sym is) (by_fault e device)
  where
    by_fault : (f : FileFault) → IsSome (file_fault {A = Unit {0}} (Err f)) → MakesFolder v parent plan media new (Err f)
    by_fault (Device x) some = record {
      made = tt;
      full = (λ eq. absurd (cc eq), λ low. let eq = grows.full.1 low in absurd (cc eq));
      runs = λ eq. absurd (cc eq);
      ends = ends;
    }
    by_fault NoCluster some = absurd (false≢true some)
    by_fault TooManyRuns some = absurd (false≢true some)

pub folder_refused : (media mid : Option (List ℕ)) (v : DiskVolume) (on : RepresentsVolume media v) (parent attr owner : ℕ) (now : TimePacket) (e : FileFault) (r : Result ℕ FileFault) → r ≡ Err e
    → Grows v (need v) [] media mid (Err e) → MakesFolder v parent (directory_plan attr owner now parent) media mid r
folder_refused media mid v on parent attr owner now e r is grows = subst (MakesFolder v parent plan_of media mid) (sym is) (by_fault e grows)
  where
    plan_of : ℕ → Plan
    plan_of = directory_plan attr owner now parent

    by_fault : (f : FileFault) → Grows v (need v) [] media mid (Err f) → MakesFolder v parent plan_of media mid (Err f)
    by_fault (Device x) grows = record {
      made = tt;
      full = (λ eq. absurd (cc eq), λ low. let eq = grows.full.1 low in absurd (cc eq));
      runs = λ eq. absurd (cc eq);
      ends = untaken media v on parent attr owner now grows.ends.taken grows.ends.chosen mid grows.ends refl;
    }
    by_fault NoCluster grows = record {
      made = tt;
      full = (λ eq. grows.full.0 refl, λ low. refl);
      runs = λ eq. absurd (cc eq);
      ends = tt;
    }
    by_fault TooManyRuns grows = absurd (never_full (cluster_size v) (is_free_in v) (positive_of media v on) (grows.runs refl))

-- As the code has it.

-- sectors of a cluster, as they are kept
pub kept_size : (volume : Volume) (media : Option (List ℕ)) (v : DiskVolume) → IsMounted volume media → RepresentsVolume media v → volume.ident.cluster ≡ cluster_size v
kept_size volume media v mounted on =
    let agrees = agrees_on volume media v mounted on in
    ap (λ (s : Geometry). s.cluster) (agrees.sizes_are ∙ sym (shape-image on.image v on.vol))

pub empty_grows : (v : DiskVolume) (media mid : Option (List ℕ)) (segments : List (ℕ × ℕ)) (k count : ℕ) (r : Result (List (ℕ × ℕ)) FileFault)
    → segments ≡ [] → count ≡ file_clusters k 64 → k ≡ cluster_size v
    → Grows v count segments media mid r → Grows v (need v) [] media mid r
empty_grows v media mid segments k count r none counted same grows =
    subst (λ xs. Grows v (need v) xs media mid r) none (subst (λ c. Grows v c segments media mid r) (counted ∙ ap (λ x. file_clusters x 64) same) grows)

pub fd_as : (fd : Fd) (attr owner : ℕ) (now : TimePacket) (k size m begins : ℕ) (segs : List (ℕ × ℕ))
    → fd ≡ record { attr = 128 + attr % 128; owner = owner; modified = minute_of now; links = 1; size = 64; created = day_of now; segs = segs }
    → segs ≡ run_of k m → k ≡ size → m ≡ begins
    → fd ≡ record { attr = 128 + attr % 128; owner = owner; modified = minute_of now; links = 1; size = 64; created = day_of now; segs = run_of size begins }
fd_as fd attr owner now k size m begins segs is list same place =
    is ∙ ap (λ xs. record {
      attr = 128 + attr % 128;
      owner = owner;
      modified = minute_of now;
      links = 1;
      size = 64;
      created = day_of now;
      segs = xs;
    }) (list ∙ ap (λ x. run_of x m) same ∙ ap (run_of size) place)

-- the code stores at the places that it read from the list
module _ (media mid : Option (List ℕ)) (v : DiskVolume) (on : RepresentsVolume media v) (parent attr owner : ℕ)
    (now : TimePacket) (after : List (ℕ × ℕ)) (grown : IsGrown v (need v) media mid [] after)
    (m f : ℕ) (m_at : slice_get (sectors_of after) 0 ≡ Some m) (f_at : slice_get (sectors_of after) 1 ≡ Some f) where
  m_is : m ≡ n media v on parent attr owner now grown.taken grown.chosen
  m_is = number_is media v on parent attr owner now grown.taken grown.chosen after m grown.segments m_at

  f_is : f ≡ first media v on parent attr owner now grown.taken grown.chosen
  f_is = first_at_is media v on parent attr owner now grown.taken grown.chosen after f grown.segments f_at

  pub m_low : m < 524288
  m_low = subst (λ x. x < 524288) (sym m_is) (number_few media v on parent attr owner now grown.taken grown.chosen)

  pub f_low : f < 524288
  f_low = subst (λ x. x < 524288) (sym f_is) (first_few media v on parent attr owner now grown.taken grown.chosen)

  module _ (one : List ℕ) (one_is : one ≡ extended (new_listing m parent) 256) where
    one_whole : length one ≡ 256
    one_whole = ap length one_is ∙ sector_whole m parent

    abbrev w0 : DiskVolume
    w0 = with_lost v (λ d. v.lost d || has grown.taken d)

    pub f_on_drive : f < sector_count mid
    f_on_drive =
        subst (λ x. x < sector_count mid) (sym f_is) (on_drive mid w0
        (on_mid media mid v on parent attr owner now after grown)
        (first media v on parent attr owner now grown.taken grown.chosen)
        (start_lost media mid v on parent attr owner now after grown) one one_whole)

    module _ (listed : Option (List ℕ)) (written : listed ≡ with_sector mid f one) where
      listed_is : listed ≡ with_sector mid (first media v on parent attr owner now grown.taken grown.chosen) one
      listed_is = written ∙ ap (λ s. with_sector mid s one) f_is

      pub listed_stored : IsStored mid listed w0 w0
      listed_stored =
          stored mid w0 (on_mid media mid v on parent attr owner now after grown)
          (first media v on parent attr owner now grown.taken grown.chosen)
          (start_lost media mid v on parent attr owner now after grown) one one_whole listed listed_is

      pub ends_undescribed : (new : Option (List ℕ)) → new ≡ listed → FolderEnds v (directory_plan attr owner now parent) media new
      ends_undescribed new same = undescribed media mid v on parent attr owner now after grown one one_whole listed listed_is new same

      module _ (bytes : List ℕ) (whole : length bytes ≡ 256) where
        pub m_on_drive : m < sector_count listed
        m_on_drive =
            subst (λ x. x < sector_count listed) (sym m_is) (on_drive listed w0
            (on_listed media mid v on parent attr owner now after grown one one_whole listed listed_is)
            (n media v on parent attr owner now grown.taken grown.chosen)
            (number_lost media mid v on parent attr owner now after grown) bytes whole)

        module _ (new : Option (List ℕ)) (new_written : new ≡ with_sector listed m bytes) where
          new_is : new ≡ with_sector listed (n media v on parent attr owner now grown.taken grown.chosen) bytes
          new_is = new_written ∙ ap (λ s. with_sector listed s bytes) m_is

          pub described_stored : IsStored listed new w0 w0
          described_stored =
              stored listed w0 (on_listed media mid v on parent attr owner now after grown one one_whole listed
              listed_is) (n media v on parent attr owner now grown.taken grown.chosen)
              (number_lost media mid v on parent attr owner now after grown) bytes whole new new_is

          pub made_as : (fd : Fd) (read : IsReadAs fd bytes) (rest : IsNewList bytes) (k : ℕ) (segs : List (ℕ × ℕ))
              → fd ≡ record { attr = 128 + attr % 128; owner = owner; modified = minute_of now; links = 1; size = 64; created = day_of now; segs = segs }
              → segs ≡ run_of k f → k ≡ cluster_size v
              → parent < 16777216 → IsFolderMade v parent m (directory_plan attr owner now parent m) media new
          made_as fd read rest k segs fd_is list same low =
              subst (λ x. IsFolderMade v parent x (directory_plan attr owner now parent x) media new) (sym m_is)
              (is_made media mid v on parent attr owner now after grown one one_whole listed listed_is bytes whole fd read rest
              (fd_as fd attr owner now k (cluster_size v) f (first media v on parent attr owner now grown.taken grown.chosen) segs fd_is list same f_is)
              (one_is ∙ ap (λ x. extended (new_listing x parent) 256) m_is) low new new_is)

          pub marks_as : (fd : Fd) (read : IsReadAs fd bytes) (rest : IsNewList bytes) (k : ℕ) (segs : List (ℕ × ℕ))
              → fd ≡ record { attr = 128 + attr % 128; owner = owner; modified = minute_of now; links = 1; size = 64; created = day_of now; segs = segs }
              → segs ≡ run_of k f → k ≡ cluster_size v
              → parent < 16777216 → marking_sectors (shape v) (is_gained (cluster_size v) [] after) ≡ marking_sectors (shape v) (has_cluster (shape v) m (file_at (sector_at new) m))
          marks_as fd read rest k segs fd_is list same low =
              subst (λ x. marking_sectors (shape v) (is_gained (cluster_size v) [] after) ≡ marking_sectors (shape v) (has_cluster (shape v) x (file_at (sector_at new) x))) (sym m_is)
              (marks_made media mid v on parent attr owner now after grown one one_whole listed listed_is bytes whole fd read rest
              (fd_as fd attr owner now k (cluster_size v) f (first media v on parent attr owner now grown.taken grown.chosen) segs fd_is list same f_is)
              (one_is ∙ ap (λ x. extended (new_listing x parent) 256) m_is) low new new_is)
