-- Clusters that have been gained in the kept map, and what the media has of them.
use Rattle.std.proofs.Common.{◌≡◌, ◌↔◌, ℕ, ◌+◌, ◌-◌, ◌*◌, ◌/◌, ◌<◌, ◌≤◌, Bool, true, false, not, ◌==◌, ◌&&◌, ◌||◌, Option, Some, None, IfSome, Ok, List, length, get_or, min, eq-eqb, slice_index_or, refl, sym, ap, ◌∙◌, subst, ⊎_elim, arith}
use Rattle.std.specs.Prelude.{if◌then◌else◌, IsErrOf, replicate}
use mathlib.Core.Path.{fun_ext}
use Rattle.std.proofs.Math.Nat.{mul-le-mul_left, mul-le-mul_right, le-div_iff_mul-le}
use Rattle.std.proofs.lemmas.Bool.{both_ways, false_from_ne_true, cases_Bool, or_left, or_right, or_cases, and_parts, and_from, cases_lt}
use Rattle.std.proofs.lemmas.Bool.Decides.{same_from_decides}
use Rattle.std.proofs.lemmas.List.Folds.{list_any_at}
use Rattle.std.proofs.lemmas.List.FromFn.{get_or-map-range_with_len}
use Rattle.rbf_model.specs.Geometry.{Geometry, image_geometry, sector, map_sectors}
use Rattle.rbf_model.specs.Segments.{sectors_of, has}
use Rattle.rbf_model.specs.Space.{is_marked, cluster_count}
use Rattle.rbf_model.specs.Volume.{DiskVolume, Vol, is_free}
use Rattle.rbf_model.specs.Writes.{with_lost}
use Rattle.rbf_model.proofs.Owners.{cluster_positive, mark_sector}
use Rattle.rbf_model.specs.ClusterMap.{ClusterMap, mark}
use Rattle.rbf_map.proofs.Volume.{free_in_map, free_on_volume}
use Rattle.rbf_change.specs.Agrees.{MountedPart, Agrees}
use Rattle.rbf_change.specs.Calls.{shape, cluster_size, is_free_in}
use Rattle.rbf_change.specs.Growth.{uses, with_clusters}
use Rattle.rbf_change.proofs.LawfulWrites.{shape-image}
use Rattle.rbf_access.specs.declared.faults.FileFault.{FileFault}
use Rattle.rbf_access.specs.declared.volume.Volume.{Volume}
use Rattle.rbf_access.specs.Drive.{DriveCounts, MovesCounts}
use Rattle.rbf_access.specs.MapMarks.{has_mark_of}
use Rattle.rbf_access.specs.Cached.{IsCacheOf}
use Rattle.rbf_access.specs.Mounted.{mounted_part, RepresentsVolume, IsMounted}
use Rattle.rbf_access.proofs.Counting.{counts_most}
use Rattle.rbf_access.proofs.MapMarks.{below, below_of, below_all, mark_there}
use Rattle.rbf_map.specs.Runs.{is_clear}
use Rattle.rbf_alloc.specs.Gained.{AreSizes, AreApart, SameMap, IsGain, IsChosenGain, IsTooMany, AreMapped, cluster_at, clusters_from, is_written, IsGivenBack}
use Rattle.rbf_alloc.specs.Marked.{is_new_mark, IsAhead, IsMarkedTo, IsMarkedOn, AllWritten, AreWanted, unwritten}
use Rattle.rbf_alloc.specs.Grown.{ChangesMap, IsChosenGrowth, IsGrown, GrowthEnds, is_gained}
use Rattle.rbf_alloc.proofs.Clear.{clear_is, free_is}
use Rattle.rbf_alloc.proofs.Chosen.{has_free, gained_free}
use Rattle.rbf_alloc.proofs.Gaining.{none_written}
use Rattle.rbf_alloc.proofs.Marking.{shape_kept, mark_within}

-- a mounted volume is that of the media, whichever image is named
pub agrees_on : (volume : Volume) (media : Option (List ℕ)) (v : DiskVolume) → IsMounted volume media → (on : RepresentsVolume media v) → Agrees (mounted_part volume) on.image
agrees_on volume media v mounted on =
    let both : Some mounted.on.image ≡ Some on.image = sym mounted.on.is ∙ on.is in
    let same : mounted.on.image ≡ on.image = cc in
    subst (λ i. Agrees (mounted_part volume) i) same mounted.agrees

-- it stays mounted where the marks of its map are the same
pub mounted_same : (volume : Volume) (media : Option (List ℕ)) (new : ClusterMap) (other : Volume)
    → IsMounted volume media → SameMap volume.map new → mounted_part other ≡ record { sizes = (mounted_part volume).sizes; map = new }
    → IsCacheOf media other.cache → IsMounted other media
mounted_same volume media new other mounted same is cached =
    let agrees = mounted.agrees in
    let sizes = same.bytes in
    let there : Agrees (record { sizes = (mounted_part volume).sizes; map = new }) mounted.on.image = record {
      sizes_are = agrees.sizes_are;
      map = record {
        clusters_are = same.clusters ∙ agrees.map.clusters_are;
        whole_are = same.whole ∙ agrees.map.whole_are;
        sectors = same.bytes ∙ agrees.map.sectors;
        marks = λ c low. agrees.map.marks c (omega arith) ∙ ap (λ m. m == 1) (sym (same.marks c));
      };
    } in
    record { content = mounted.content; on = mounted.on; agrees = subst (λ kv. Agrees kv mounted.on.image) (sym is) there; cached = cached }

-- the sizes of a volume that is mounted
module _ (volume : Volume) (image : List ℕ) (v : DiskVolume) (vol : Vol image v) (agrees : Agrees (mounted_part volume) image) where
  abbrev g : Geometry
  g = image_geometry image

  abbrev k : ℕ
  k = volume.ident.cluster

  k_in_image : k ≡ g.cluster
  k_in_image = ap (λ (h : Geometry). h.cluster) agrees.sizes_are

  pub k_is : k ≡ cluster_size v
  k_is = k_in_image ∙ ap (λ (h : Geometry). h.cluster) (sym (shape-image image v vol))

  pub sizes_are : AreSizes k volume.map
  sizes_are =
      let positive = cluster_positive g.cluster vol.sound.shape.header.clusters in
      let most = vol.sound.shape.header.most in
      let same = k_in_image in
      let whole = agrees.map.whole_are in
      let begins : g.total / g.cluster * g.cluster ≤ g.total = omega arith in
      let each : volume.map.whole * k ≡ g.total / g.cluster * g.cluster = ap (λ w. w * k) whole ∙ ap (λ n. g.total / g.cluster * n) same in
      let more : volume.map.whole * 1 ≤ volume.map.whole * k = mul-le-mul_left volume.map.whole (omega arith) in
      let all = le-div_iff_mul-le {k = g.cluster} {x = g.total / g.cluster} {y = g.total + (g.cluster - 1)} positive in
      let enough : g.total / g.cluster ≤ (g.total + (g.cluster - 1)) / g.cluster = all.1 (omega arith) in
      let clusters = agrees.map.clusters_are in
      record { some = omega arith; few = omega arith; whole_ones = omega arith; sectors = omega arith }

  -- a whole cluster has its mark in the map
  whole_in_bits : (c : ℕ) → c < volume.map.whole → c < 8 * length volume.map.bytes
  whole_in_bits c low =
      let positive = cluster_positive g.cluster vol.sound.shape.header.clusters in
      let whole = agrees.map.whole_are in
      let most : (c + 1) * g.cluster ≤ g.total / g.cluster * g.cluster = mul-le-mul_right g.cluster (omega arith) in
      let begins : g.total / g.cluster * g.cluster ≤ g.total = omega arith in
      let there = mark_sector g vol.sound.shape c (omega arith) in
      let size = agrees.map.sectors in
      omega arith

  -- what is free in the map is free in the volume
  pub free_is_clear : is_clear volume.map ≡ is_free_in v
  free_is_clear = fun_ext (λ c.
      let marks = λ (d : ℕ) (low : d < volume.map.whole). agrees.map.marks d (whole_in_bits d low) in
      same_from_decides {P = is_free g v c ≡ true} (is_clear volume.map c) (is_free g v c) (
        λ h. free_on_volume g (sector image) v vol.sound volume.map agrees.map.whole_are marks c (free_is volume.map c h),
        λ h. clear_is volume.map c (free_in_map g (sector image) v vol.sound volume.map agrees.map.whole_are marks c h),
      )
      (λ h. h, λ h. h)
      ∙ ap (λ h. is_free h v c) (sym (shape-image image v vol)))

  pub apart_is : (segments : List (ℕ × ℕ)) → ((c : ℕ) → uses (cluster_size v) segments c ≡ true → is_free_in v c ≡ false) → AreApart k volume.map segments
  apart_is segments apart c used = ap (λ (free : ℕ → Bool). free c) free_is_clear ∙ apart c (subst (λ n. uses n segments c ≡ true) k_is used)

  pub too_many_is : (count : ℕ) (segments : List (ℕ × ℕ)) → IsTooMany k count (is_clear volume.map) segments → IsTooMany (cluster_size v) count (is_free_in v) segments
  too_many_is count segments many = subst (λ n. IsTooMany n count (is_free_in v) segments) k_is (subst (λ free. IsTooMany k count free segments) free_is_clear many)

  module _ (map1 : ClusterMap) (count : ℕ) (before after : List (ℕ × ℕ)) (best : IsChosenGain k count volume.map map1 before after) where
    abbrev taken : List ℕ
    taken = best.gain.taken

    abbrev kept1 : MountedPart
    kept1 = record { sizes = (mounted_part volume).sizes; map = map1 }

    taken_free : (c : ℕ) → has taken c ≡ true → is_free_in v c ≡ true
    taken_free c h = subst (λ (free : ℕ → Bool). free c ≡ true) free_is_clear (has_free k (is_clear volume.map) before taken c best.gain.gained h)

    -- a gained cluster has its mark in the kept map, and another one that of the media
    mark_taken : (c : ℕ) → has taken c ≡ true → (mark map1.bytes c == 1) ≡ true
    mark_taken c h = ap (λ m. m == 1) (best.gain.marks.marks c ∙ ap (λ t. if t then 1 else mark volume.map.bytes c) h)

    mark_other : (c : ℕ) → has taken c ≡ false → mark map1.bytes c ≡ mark volume.map.bytes c
    mark_other c h = best.gain.marks.marks c ∙ ap (λ t. if t then 1 else mark volume.map.bytes c) h

    free_unmarked : (c : ℕ) → is_free_in v c ≡ true → (mark volume.map.bytes c == 1) ≡ false
    free_unmarked c free =
        let clear = (free_is volume.map c (subst (λ (f : ℕ → Bool). f c ≡ true) (sym free_is_clear) free)).clear in
        ap (λ m. m == 1) clear

    new_is : (c : ℕ) → is_new_mark v map1 c ≡ has taken c
    new_is c = ⊎_elim
        (λ there. ap (λ t. t && (mark map1.bytes c == 1)) (taken_free c there) ∙ mark_taken c there ∙ sym there)
        (λ none. ⊎_elim
        (λ free. ap (λ t. is_free_in v c && t) (ap (λ m. m == 1) (mark_other c none) ∙ free_unmarked c free) ∙ and_none (is_free_in v c) ∙ sym none)
        (λ used. ap (λ t. t && (mark map1.bytes c == 1)) used ∙ sym none)
        (cases_Bool (is_free_in v c)))
        (cases_Bool (has taken c))
      where
        and_none : (t : Bool) → (t && false) ≡ false
        and_none true = refl
        and_none false = refl

    ahead : IsAhead v image kept1
    ahead = record {
      vol = vol;
      sizes_are = agrees.sizes_are;
      clusters_are = best.gain.marks.clusters ∙ agrees.map.clusters_are;
      whole_are = best.gain.marks.whole ∙ agrees.map.whole_are;
      sectors = best.gain.marks.bytes ∙ agrees.map.sectors;
      marks = λ c low. ⊎_elim
          (λ there. mark_taken c there ∙ sym (ap (λ t. is_marked (sector image) c || t) (new_is c ∙ there) ∙ or_true (is_marked (sector image) c)))
          (λ none.
          let size = best.gain.marks.bytes in
          ap (λ m. m == 1) (mark_other c none) ∙ sym (agrees.map.marks c (omega arith))
          ∙ sym (ap (λ t. is_marked (sector image) c || t) (new_is c ∙ none) ∙ or_none (is_marked (sector image) c)))
          (cases_Bool (has taken c));
    }
      where
        or_true : (t : Bool) → (t || true) ≡ true
        or_true true = refl
        or_true false = refl

        or_none : (t : Bool) → (t || false) ≡ t
        or_none true = refl
        or_none false = refl

    -- nothing has been written yet
    fresh : IsMarkedTo v image image map1 (replicate 256 false)
    fresh = record {
      vol = subst (λ lost. Vol image (with_lost v lost)) (fun_ext (λ c. sym (none_lost c))) vol;
      marks = λ c low. sym (ap (λ t. if t then mark map1.bytes c == 1 else is_marked (sector image) c) (none_written 256 c));
      others = λ s none. refl;
    }
      where
        lost_none : (a b : Bool) → (a || (b && false)) ≡ a
        lost_none true b = refl
        lost_none false true = refl
        lost_none false false = refl

        none_lost : (c : ℕ) → (v.lost c || (is_new_mark v map1 c && is_written (replicate 256 false) c)) ≡ v.lost c
        none_lost c = ap (λ t. v.lost c || (is_new_mark v map1 c && t)) (none_written 256 c) ∙ lost_none (v.lost c) (is_new_mark v map1 c)

    pub marked_fresh : (media : Option (List ℕ)) → media ≡ Some image → IsMarkedOn v image media kept1 (replicate 256 false)
    marked_fresh media is = record { ahead = ahead; now = image; is = is; marked = fresh }

    -- the clusters that have been chosen
    chosen : IsChosenGrowth (cluster_size v) count (is_free_in v) before taken
    chosen =
        let one : IsChosenGrowth k count (is_clear volume.map) before taken = record {
          counted = best.gain.counted;
          gained = best.gain.gained;
          best = best.chosen;
          fits = subst (λ xs. length xs ≤ 48) best.gain.segments best.gain.fits;
        } in
        subst (λ n. IsChosenGrowth n count (is_free_in v) before taken) k_is (subst (λ free. IsChosenGrowth k count free before taken) free_is_clear one)

    -- the marks of the clusters of these places are in the map, and the places are new ones
    module _ (first : ℕ) (places : AreMapped k map1 after first count) (those : clusters_from k after first count ≡ taken) where
      abbrev cluster_of_place : ℕ → ℕ
      cluster_of_place i = cluster_at k after (first + i * k)

      place_taken : (i : ℕ) → i < count → cluster_of_place i ≡ get_or taken i 0
      place_taken i low =
          sym (ap (λ xs. get_or xs i 0) (sym those) ∙ get_or-map-range_with_len (λ j. cluster_at k after (first + j * k)) 0 count i i 0 low (omega arith))

      place_free : (i : ℕ) → i < count → is_free_in v (cluster_of_place i) ≡ true
      place_free i low =
          let counted = best.gain.counted in
          let clear = gained_free k (is_clear volume.map) before taken i best.gain.gained (omega arith) in
          subst (λ (free : ℕ → Bool). free (cluster_of_place i) ≡ true) free_is_clear (ap (is_clear volume.map) (place_taken i low) ∙ clear)

      in_map_sectors : (i : ℕ) → i < count → cluster_of_place i / 2048 < map_sectors (shape v)
      in_map_sectors i low =
          let there = mark_within v image kept1 (cluster_of_place i) ahead (places.in_map i low) in
          let same : map_sectors (shape v) ≡ map_sectors g = ap map_sectors (shape-image image v vol) in
          omega arith

      pub wanted_all : AreWanted k after first count (λ p. true) (map_sectors (shape v))
      wanted_all i low = (in_map_sectors i low, refl)

      pub wanted_gained : ((c : ℕ) → uses (cluster_size v) before c ≡ true → is_free_in v c ≡ false)
          → AreWanted k after first count (has_mark_of (shape v) (is_gained (cluster_size v) before after)) (map_sectors (shape v))
      wanted_gained apart i low =
          let c = cluster_of_place i in
          let there = places.in_map i low in
          let sizes = sizes_are in
          let whole_ones = sizes.whole_ones in
          let whole = best.gain.marks.whole in
          let clusters = best.gain.marks.clusters in
          let ahead_clusters = ahead.clusters_are in
          let same : cluster_count (shape v) ≡ cluster_count g = ap cluster_count (shape-image image v vol) in
          let fits : (i + 1) * k ≤ count * k = mul-le-mul_right k (omega arith) in
          let within = places.within in
          let some = sizes.some in
          let used : uses k after c ≡ true = list_any_at (λ s. s / k == c) (sectors_of after) (first + i * k) 0 (omega arith) (eq-eqb c c refl) in
          let new : uses (cluster_size v) before c ≡ false = false_from_ne_true (uses (cluster_size v) before c) (λ h. both_ways (is_free_in v c) (apart c h) (place_free i low)) in (
            in_map_sectors i low,
            mark_there (shape v) (is_gained (cluster_size v) before after) c (c / 2048) (omega arith)
                (and_from (uses (cluster_size v) after c) (not (uses (cluster_size v) before c)) (subst (λ n. uses n after c ≡ true) k_is used) (ap not new)) refl,
          )

    module _ (media now_media : Option (List ℕ)) (is_image : media ≡ Some image) (written : List Bool) (on : IsMarkedOn v image now_media kept1 written) where
      abbrev now : List ℕ
      now = on.now

      changes : ChangesMap image now
      changes = record {
        others = on.marked.others;
        end = λ c past.
            let size = ahead.sectors in
            let bits : c < 8 * length map1.bytes = let in_map = past.in_map in omega arith in
            let not_taken : has taken c ≡ false = false_from_ne_true (has taken c) (λ h.
            let free = free_is volume.map c (subst (λ (f : ℕ → Bool). f c ≡ true) (sym free_is_clear) (taken_free c h)) in
            let whole = free.whole in let are = agrees.map.whole_are in let behind = past.not_whole in absurd (omega arith)) in
            on.marked.marks c bits
            ∙ ap (λ t. if is_written written c then t else is_marked (sector image) c)
            (ahead.marks c bits ∙ ap (λ t. is_marked (sector image) c || t) (new_is c ∙ not_taken) ∙ or_none
            (is_marked (sector image) c))
            ∙ either (is_written written c) (is_marked (sector image) c);
      }
        where
          or_none : (t : Bool) → (t || false) ≡ t
          or_none true = refl
          or_none false = refl

          either : (w t : Bool) → (if w then t else t) ≡ (t && true)
          either true true = refl
          either true false = refl
          either false true = refl
          either false false = refl

      same_shape : image_geometry now ≡ g
      same_shape = shape_kept v image now map1 written on.marked

      -- a map that has these marks is that of the media
      agrees_with : (map2 : ClusterMap) → map2.clusters ≡ map1.clusters → map2.whole ≡ map1.whole → length map2.bytes ≡ length map1.bytes
          → ((c : ℕ) → c < 8 * length map1.bytes → is_marked (sector now) c ≡ (mark map2.bytes c == 1)) → Agrees (record { sizes = (mounted_part volume).sizes; map = map2 }) now
      agrees_with map2 clusters whole bytes marks =
          let there : (clusters_are : map2.clusters ≡ cluster_count g) × (whole_are : map2.whole ≡ g.total / g.cluster) × (length map2.bytes ≡ 256 * map_sectors g) =
          (clusters ∙ ahead.clusters_are, whole ∙ ahead.whole_are, bytes ∙ ahead.sectors) in
          let moved =
          subst (λ h. (clusters_are : map2.clusters ≡ cluster_count h) × (whole_are : map2.whole ≡ h.total / h.cluster)
          × (length map2.bytes ≡ 256 * map_sectors h)) (sym same_shape) there in
          record {
            sizes_are = agrees.sizes_are ∙ sym same_shape;
            map = record { clusters_are = moved.0; whole_are = moved.1; sectors = moved.2; marks = λ c low. marks c (omega arith) };
          }

      -- all have been written
      module _ (all : AllWritten taken written) where
        lost_all : (c : ℕ) → (v.lost c || (is_new_mark v map1 c && is_written written c)) ≡ (v.lost c || has taken c)
        lost_all c = ap (λ t. v.lost c || (t && is_written written c)) (new_is c) ∙ ap (λ t. v.lost c || t)
            (⊎_elim (λ there. ap (λ t. has taken c && t) (all c there) ∙ and_all (has taken c)) (λ none. ap (λ t. t && is_written written c) none ∙ sym none) (cases_Bool (has taken c)))
          where
            and_all : (t : Bool) → (t && true) ≡ t
            and_all true = refl
            and_all false = refl

        pub grown : IsGrown v count media now_media before after
        grown = record {
          image = image;
          now = now;
          was = is_image;
          is = on.is;
          taken = taken;
          chosen = chosen;
          segments = best.gain.segments ∙ ap (λ n. with_clusters n before taken) k_is;
          vol = subst (λ lost. Vol now (with_lost v lost)) (fun_ext lost_all) on.marked.vol;
          changes = changes;
        }

        pub grown_agrees : Agrees kept1 now
        grown_agrees = agrees_with map1 refl refl refl (λ c low. on.marked.marks c low ∙ ⊎_elim
            (λ w. ap (λ t. if t then mark map1.bytes c == 1 else is_marked (sector image) c) w)
            (λ unwritten.
            let none : has taken c ≡ false = false_from_ne_true (has taken c) (λ h. both_ways (is_written written c) unwritten (all c h)) in
            let size = best.gain.marks.bytes in
            ap (λ t. if t then mark map1.bytes c == 1 else is_marked (sector image) c) unwritten ∙ agrees.map.marks c (omega arith) ∙ ap (λ m. m == 1) (sym (mark_other c none)))
            (cases_Bool (is_written written c)))

      -- a fault came before
      pub ended : GrowthEnds v count media now_media before
      ended = record {
        image = image;
        now = now;
        was = is_image;
        is = on.is;
        taken = taken;
        chosen = chosen;
        left = with_lost v (λ c. v.lost c || (is_new_mark v map1 c && is_written written c));
        vol = on.marked.vol;
        lose = record {
          same = refl;
          still = λ c was. or_left (v.lost c) (is_new_mark v map1 c && is_written written c) was;
          only = λ c h. ⊎_elim
              (λ was. or_left (v.lost c) (has taken c) was)
              (λ new. or_right (v.lost c) (has taken c) (sym (new_is c) ∙ (and_parts (is_new_mark v map1 c) (is_written written c) new).0))
              (or_cases (v.lost c) (is_new_mark v map1 c && is_written written c) h);
        };
        changes = changes;
      }

      pub back_agrees : (map2 : ClusterMap) (first : ℕ) → clusters_from k after first count ≡ taken
          → IsGivenBack k after first count written map1 map2
          → Agrees (record { sizes = (mounted_part volume).sizes; map = map2 }) now
      back_agrees map2 first those back = agrees_with map2 back.clusters back.whole back.bytes (λ c low. on.marked.marks c low ∙ sym (back_mark c low))
        where
          and_none : (t : Bool) → (t && false) ≡ false
          and_none true = refl
          and_none false = refl

          back_mark : (c : ℕ) → c < 8 * length map1.bytes → (mark map2.bytes c == 1) ≡ (if is_written written c then mark map1.bytes c == 1 else is_marked (sector image) c)
          back_mark c low =
              let size = best.gain.marks.bytes in
              let is : mark map2.bytes c ≡ (if (has taken c && not (is_written written c)) then 0 else mark map1.bytes c) =
              back.marks c ∙ ap (λ xs. if (has xs c && not (is_written written c)) then 0 else mark map1.bytes c) those in
              ⊎_elim
              (λ w.
              ap (λ m. m == 1) (is ∙ ap (λ t. if (has taken c && not t) then 0 else mark map1.bytes c) w ∙ ap (λ t. if t then 0 else mark map1.bytes c) (and_none (has taken c)))
              ∙ sym (ap (λ t. if t then mark map1.bytes c == 1 else is_marked (sector image) c) w))
              (λ unwritten. ⊎_elim
              (λ there.
              ap (λ m. m == 1) (is ∙ ap (λ t. if (t && not (is_written written c)) then 0 else mark map1.bytes c) there ∙ ap (λ t. if not t then 0 else mark map1.bytes c) unwritten)
              ∙ sym (ap (λ t. if t then mark map1.bytes c == 1 else is_marked (sector image) c) unwritten ∙ agrees.map.marks c (omega arith) ∙ free_unmarked c (taken_free c there)))
              (λ none.
              ap (λ m. m == 1) (is ∙ ap (λ t. if (t && not (is_written written c)) then 0 else mark map1.bytes c) none ∙ mark_other c none)
              ∙ sym (ap (λ t. if t then mark map1.bytes c == 1 else is_marked (sector image) c) unwritten ∙ agrees.map.marks c (omega arith)))
              (cases_Bool (has taken c)))
              (cases_Bool (is_written written c))

-- how many calls write wanted marks, of which none has been written
pub wanted_calls : (f : Option ℕ) (count : ℕ) (wanted : ℕ → Bool) (written : List Bool) (n : ℕ) (s t : DriveCounts)
    → MovesCounts f (min count (unwritten wanted written n)) s t → MovesCounts f (min count (below wanted n)) s t
wanted_calls f count wanted written n s t calls =
    let few = below_of (λ p. wanted p && not (slice_index_or written p false)) wanted n (λ p low h. (and_parts (wanted p) (not (slice_index_or written p false)) h).0) in
    counts_most f (min count (unwritten wanted written n)) (min count (below wanted n)) s t (omega arith) calls

pub at_most_all : (f : Option ℕ) (count n : ℕ) (s t : DriveCounts) → MovesCounts f (min count (below (λ p. true) n)) s t → MovesCounts f (min count n) s t
at_most_all f count n s t calls =
    let few = below_all (λ p. true) n in
    counts_most f (min count (below (λ p. true) n)) (min count n) s t (omega arith) calls

pub at_most_count : (f : Option ℕ) (count n : ℕ) (s t : DriveCounts) → MovesCounts f (min count n) s t → MovesCounts f count s t
at_most_count f count n s t calls = counts_most f (min count n) count s t (omega arith) calls

pub at_most_wanted : (f : Option ℕ) (count n : ℕ) (s t : DriveCounts) → MovesCounts f (min count n) s t → MovesCounts f n s t
at_most_wanted f count n s t calls = counts_most f (min count n) n s t (omega arith) calls

-- a volume is mounted that agrees with the media
pub mounted_where : (volume : Volume) (media : Option (List ℕ)) (v : DiskVolume) (image : List ℕ) (kv : MountedPart)
    → media ≡ Some image → Vol image v → Agrees kv image → mounted_part volume ≡ kv → IsCacheOf media volume.cache
    → IsMounted volume media
mounted_where volume media v image kv is vol agrees same cached =
    record { content = v; on = record { image = image; is = is; vol = vol }; agrees = subst (λ x. Agrees x image) (sym same) agrees; cached = cached }

-- the count that a refusal compares
pub full_is : (P : Type 0) (free total count : ℕ) → P ↔ (free < count) → free ≡ total → P ↔ (total < count)
full_is P free total count full same = subst (λ n. P ↔ (n < count)) same full

-- what holds whatever the option is
pub if_some : (o : Option ℕ) (P : Type 0) → P → IfSome o (λ _. P)
if_some None P p = tt
if_some (Some n) P p = p

-- where it was not refused, enough clusters are free
pub enough_free : {T : Type 0} (t : T) (free count : ℕ) (e : FileFault) → (IsErrOf {E = FileFault} (Ok t) e) ↔ (free < count) → count ≤ free
enough_free t free count e full = ⊎_elim (λ low. let is = full.1 low in absurd (cc is)) (λ fits. fits) (cases_lt free count)

-- the sizes of a map in which clusters have been marked
pub sizes_after : (k count : ℕ) (old new : ClusterMap) (before after : List (ℕ × ℕ)) → IsGain k count old new before after → AreSizes k old → AreSizes k new
sizes_after k count old new before after gain sizes = record {
  some = sizes.some;
  few = let was = sizes.few in let whole = gain.marks.whole in omega arith;
  whole_ones = let was = sizes.whole_ones in let clusters = gain.marks.clusters in let whole = gain.marks.whole in omega arith;
  sectors = subst (λ w. w * k ≤ 524280) (sym gain.marks.whole) sizes.sectors;
}
