-- A file that has gone, and whose clusters are given back sector by sector of the map.
use Rattle.std.proofs.Common.{◌≡◌, ◌≢◌, ℕ, ◌+◌, ◌-◌, ◌*◌, ◌/◌, ◌<◌, ◌≤◌, Bool, true, false, not, ◌==◌, ◌&&◌, ◌||◌, Option, Some, None, List, inl, inr, refl, sym, ap, ◌∙◌, subst, ⊎_elim, arith, eqb-true, eq-eqb}
use Rattle.std.specs.Prelude.{nat_lt, OnErr, Result, Ok, Err}
use mathlib.Core.Path.{fun_ext}
use Rattle.std.proofs.Math.Nat.{le-div_iff_mul-le}
use Rattle.std.proofs.lemmas.Bool.{and_parts, and_from, or_left, or_right, both_ways, false_from_ne_true, not_from_false, false≢true, ltb-true, lt-ltb, cases_Bool}
use Rattle.os9_outer.specs.Drive.{sector_count, sector_at}
use Rattle.rbf_model.specs.Fields.{segments_field}
use Rattle.rbf_model.specs.Geometry.{Geometry, image_geometry, sector, map_sectors}
use Rattle.rbf_model.specs.File.{DiskFile}
use Rattle.rbf_model.specs.Space.{is_whole, is_marked, has_cluster, cluster_count}
use Rattle.rbf_model.specs.Segments.{has, sectors_of}
use Rattle.rbf_model.specs.Volume.{DiskVolume, Vol}
use Rattle.rbf_model.specs.Writes.{with_lost}
use Rattle.rbf_model.proofs.Owners.{cluster_positive, cluster_below, mark_sector, root_file, owns_own}
use Rattle.rbf_model.proofs.Space.{cluster_from_owns}
use Rattle.rbf_change.specs.Agrees.{MountedPart, Agrees}
use Rattle.rbf_change.specs.Calls.{shape}
use Rattle.rbf_change.proofs.LawfulWrites.{shape-image}
use Rattle.rbf_access.specs.declared.volume.Volume.{Volume}
use Rattle.rbf_access.specs.Cached.{IsCacheOf}
use Rattle.rbf_access.specs.Drive.{DriveCounts, MovesCounts}
use Rattle.rbf_access.specs.Mounted.{mounted_part, RepresentsVolume, IsMounted}
use Rattle.rbf_access.specs.MapMarks.{has_mark_of, marking_sectors}
use Rattle.rbf_access.proofs.Counting.{no_calls, counts_then}
use Rattle.rbf_access.proofs.MapMarks.{below}
use Rattle.rbf_access.proofs.Reading.{below_total}
use Rattle.rbf_alloc.specs.declared.own.OwnSectors.{OwnSectors}
use Rattle.rbf_alloc.specs.Own.{in_own, here, NoneHere}
use Rattle.rbf_alloc.specs.Cleared.{MayClear, AreMarksCleared, IsClearing, MayGoOn, ClearsNext, IsStopped, before, not_before}
use Rattle.rbf_alloc.specs.Dropped.{IsGone, FileHasGone, IsDropped, DropEnds}
use Rattle.rbf_alloc.proofs.MarkCalls.{moves_more, moves_to_fault, moves_all}
use Rattle.rbf_alloc.proofs.FileClusters.{own_is, fields_some, AreSome}

and_true : (t : Bool) → (t && true) ≡ t
and_true true = refl
and_true false = refl

and_false : (t : Bool) → (t && false) ≡ false
and_false true = refl
and_false false = refl

-- what is lost of some clusters when those before a place have been given back: what is not of them, and the whole
-- ones that are left
lost_split : (lost his whole below : Bool) → (his ≡ true → lost ≡ whole) → (lost && not (his && below)) ≡ ((lost && not his) || (whole && (his && not (his && below))))
lost_split true true true below same = refl
lost_split true true false below same = absurd (false≢true (sym (same refl)))
lost_split true false whole below same = refl
lost_split false true true below same = absurd (false≢true (same refl))
lost_split false true false below same = refl
lost_split false false true below same = refl
lost_split false false false below same = refl

-- a mounted volume is that of the media, whichever image is named
pub agrees_on : (volume : Volume) (media : Option (List ℕ)) (v : DiskVolume) → IsMounted volume media → (on : RepresentsVolume media v) → Agrees (mounted_part volume) on.image
agrees_on volume media v mounted on =
    let both : Some mounted.on.image ≡ Some on.image = sym mounted.on.is ∙ on.is in
    let same : mounted.on.image ≡ on.image = cc in
    subst (λ i. Agrees (mounted_part volume) i) same mounted.agrees

-- Marks in the sectors of the map before a place.

pub none_before : (gone : ℕ → Bool) (c : ℕ) → before gone 0 c ≡ false
none_before gone c =
    let none : nat_lt (c / 2048) 0 ≡ false = false_from_ne_true (nat_lt (c / 2048) 0) (λ h. let low = ltb-true (c / 2048) 0 h in absurd (omega arith)) in
    ap (λ t. gone c && t) none ∙ and_false (gone c)

pub not_yet : (gone : ℕ → Bool) (place c : ℕ) → c / 2048 ≡ place → before gone place c ≡ false
not_yet gone place c is =
    let none : nat_lt (c / 2048) place ≡ false = false_from_ne_true (nat_lt (c / 2048) place) (λ h. let low = ltb-true (c / 2048) place h in absurd (omega arith)) in
    ap (λ t. gone c && t) none ∙ and_false (gone c)

pub one_before : (gone : ℕ → Bool) (place c : ℕ) → (before gone place c || here gone place c) ≡ before gone (place + 1) c
one_before gone place c = either (gone c) (nat_lt (c / 2048) place) (c / 2048 == place) ∙ ap (λ t. gone c && t) (tests (c / 2048))
  where
    either : (g a b : Bool) → ((g && a) || (g && b)) ≡ (g && (a || b))
    either true a b = refl
    either false a b = refl

    tests : (q : ℕ) → (nat_lt q place || (q == place)) ≡ nat_lt q (place + 1)
    tests q = ⊎_elim
        (λ low. ⊎_elim
        (λ under. or_left (nat_lt q place) (q == place) under ∙ sym (lt-ltb q (place + 1) (let l = ltb-true q place under in omega arith)))
        (λ past. or_right (nat_lt q place) (q == place) (eq-eqb q place (past_is low past)) ∙ sym low)
        (cases_Bool (nat_lt q place)))
        (λ high. ap (λ t. t || (q == place)) (false_from_ne_true (nat_lt q place)
        (λ under. both_ways (nat_lt q (place + 1)) high (lt-ltb q (place + 1)
        (let l = ltb-true q place under in omega arith))))
        ∙ false_from_ne_true (q == place) (λ is. both_ways (nat_lt q (place + 1)) high (lt-ltb q (place + 1) (let e = eqb-true q place is in omega arith))) ∙ sym high)
        (cases_Bool (nat_lt q (place + 1)))
      where
        past_is : nat_lt q (place + 1) ≡ true → nat_lt q place ≡ false → q ≡ place
        past_is low past =
            let l = ltb-true q (place + 1) low in
            let p : (q < place) → ⊥ = λ under. both_ways (nat_lt q place) past (lt-ltb q place under) in
            omega arith

-- the sectors of the map before this one have been written
pub record IsDropSoFar (gone : ℕ → Bool) (place : ℕ) (kept kept_now : MountedPart) (media mid : Option (List ℕ)) (first half : DriveCounts) : Type 0 where
  pub cleared : (v : DiskVolume) (old : List ℕ) → media ≡ Some old → Vol old v → MayClear v old gone → Agrees kept old → AreMarksCleared v old (before gone place) mid kept_now
  pub sizes : kept_now.sizes ≡ kept.sizes
  pub moved : MovesCounts None (below (has_mark_of kept.sizes gone) place) first half

-- none has been
pub drop_begins : (gone : ℕ → Bool) (kept kept_now : MountedPart) (media mid : Option (List ℕ)) (first : DriveCounts) → mid ≡ media → kept_now ≡ kept
    → IsDropSoFar gone 0 kept kept_now media mid first first
drop_begins gone kept kept_now media mid first same still = record {
  cleared = λ v old is vol may agrees. record {
    now = old;
    is = same ∙ is;
    vol = subst (λ lost. Vol old (with_lost v lost)) (fun_ext (λ c. sym (ap (λ t. v.lost c && not t) (none_before gone c) ∙ and_true (v.lost c)))) vol;
    marks = λ c low. sym (ap (λ t. is_marked (sector old) c && not t) (none_before gone c) ∙ and_true (is_marked (sector old) c));
    others = λ s none. refl;
    agrees = subst (λ kv. Agrees kv old) (sym still) agrees;
  };
  sizes = ap (λ (kv : MountedPart). kv.sizes) still;
  moved = no_calls first;
}

module _ (gone : ℕ → Bool) (place : ℕ) (kept kept_now : MountedPart) (media mid : Option (List ℕ))
    (first half : DriveCounts) (far : IsDropSoFar gone place kept kept_now media mid first half) where
  clearing : (v : DiskVolume) (old : List ℕ) → media ≡ Some old → Vol old v → MayClear v old gone → Agrees kept old
      → place < map_sectors (image_geometry old) → IsClearing v old (before gone place) gone place mid kept_now
  clearing v old is vol may agrees within = record { vol = vol; may = may; far = far.cleared v old is vol may agrees; fresh = λ c there. not_yet gone place c there; within = within }

  pub drop_goes_on : (v : DiskVolume) (old : List ℕ) → media ≡ Some old → Vol old v → MayClear v old gone
      → Agrees kept old → place < map_sectors (image_geometry old) → MayGoOn gone place mid kept_now
  drop_goes_on v old is vol may agrees within = record { volume = v; old = old; cleared = before gone place; is = clearing v old is vol may agrees within }

  pub drop_more : (now : Option (List ℕ)) (kept_then : MountedPart) (after : DriveCounts)
      → place < map_sectors kept.sizes → ClearsNext gone place mid now kept_now kept_then → kept_then.sizes ≡ kept_now.sizes
      → ((c : ℕ) → gone c ≡ true → c < cluster_count kept.sizes) → MovesCounts None 1 half after → (NoneHere gone place → MovesCounts None 0 half after)
      → IsDropSoFar gone (place + 1) kept kept_then media now first after
  drop_more now kept_then after within next sizes in_volume counts none = record {
    cleared = λ v old is vol may agrees.
        let low : place < map_sectors (image_geometry old) = subst (λ h. place < map_sectors h) agrees.sizes_are within in
        subst (λ t. AreMarksCleared v old t now kept_then) (fun_ext (one_before gone place)) (next v old (before gone place) (clearing v old is vol may agrees low));
    sizes = sizes ∙ far.sizes;
    moved = moves_more kept.sizes gone in_volume place None first half after far.moved counts none;
  }

module _ (media : Option (List ℕ)) (n : ℕ) (segs : List (ℕ × ℕ)) (segs_are : segs ≡ segments_field (sector_at media n)) (v : DiskVolume) (file : DiskFile) (gone : IsGone media v n file) where
  abbrev image : List ℕ
  image = gone.on.image

  abbrev g : Geometry
  g = image_geometry image

  abbrev owner : OwnSectors
  owner = record { fd = n; segs = segs }

  shaped : shape v ≡ g
  shaped = shape-image image v gone.on.vol

  positive : 1 ≤ g.cluster
  positive = cluster_positive g.cluster gone.on.vol.sound.shape.header.clusters

  not_root : n ≢ g.root
  not_root same =
      let r = root_file g (sector image) v gone.on.vol.sound in
      let both : None ≡ Some r.0 = sym gone.none ∙ ap v.files same ∙ r.1 in
      absurd (cc both)

  file_segments : file.segments ≡ segs
  file_segments = ap (λ (f : DiskFile). f.segments) gone.shown ∙ sym (segs_are ∙ ap (λ m. segments_field (sector_at m n)) gone.on.is)

  -- its clusters
  own_cluster : (c : ℕ) → in_own g.cluster owner c ≡ has_cluster (shape v) n file c
  own_cluster c =
      let some : AreSome file.segments = subst AreSome (sym (ap (λ (f : DiskFile). f.segments) gone.shown)) (fields_some (sector image n)) in
      ap (λ xs. in_own g.cluster (record { fd = n; segs = xs }) c) (sym file_segments) ∙ own_is g n file c positive not_root some ∙ ap (λ h. has_cluster h n file c) (sym shaped)

  in_shape : (c : ℕ) → has_cluster (shape v) n file c ≡ true → c * g.cluster < g.total
  in_shape c h = cluster_below g gone.on.vol.sound.shape n file c gone.number gone.within (subst (λ s. has_cluster s n file c ≡ true) shaped h)

  may_clear : MayClear v image (in_own g.cluster owner)
  may_clear = record {
    marked = λ c h. gone.marked c (sym (own_cluster c) ∙ h);
    unused = λ c h. gone.unused c (sym (own_cluster c) ∙ h);
    in_volume = λ c h.
        let low = in_shape c (sym (own_cluster c) ∙ h) in
        let same : cluster_count (shape v) ≡ cluster_count g = ap cluster_count shaped in
        let up : c + 1 ≤ (g.total + (g.cluster - 1)) / g.cluster = (le-div_iff_mul-le positive).1 (let some = positive in omega arith) in
        omega arith;
  }

  -- the clusters of a file that has gone are lost if they are whole
  lost_of : (c : ℕ) → has_cluster (shape v) n file c ≡ true → is_whole (shape v) c ≡ true → v.lost c ≡ true
  lost_of c h whole = (gone.on.vol.sound.mapped.lost_are c).1 (record {
    whole = subst (λ s. is_whole s c ≡ true) shaped whole;
    marked_in = gone.marked c h;
    unused = λ m other is. subst (λ s. has_cluster s m other c ≡ false) shaped (gone.unused c h m other is);
  })

  whole_of : (c : ℕ) → v.lost c ≡ true → is_whole (shape v) c ≡ true
  whole_of c lost = subst (λ s. is_whole s c ≡ true) (sym shaped) ((gone.on.vol.sound.mapped.lost_are c).0 lost).whole

  descriptor_there : n < sector_count media
  descriptor_there = below_total media v gone.on n gone.number

  module _ (k : ℕ) (kv kv_now : MountedPart) (k_is : k ≡ kv.sizes.cluster) (agrees : Agrees kv image) (place : ℕ) (mid : Option (List ℕ)) (first half : DriveCounts)
      (far : IsDropSoFar (in_own k owner) place kv kv_now media mid first half) where
    same_k : in_own k owner ≡ in_own g.cluster owner
    same_k = ap (λ x. in_own x owner) (k_is ∙ ap (λ (h : Geometry). h.cluster) agrees.sizes_are)

    abbrev has_it : ℕ → Bool
    has_it = has_cluster (shape v) n file

    before_is : (c : ℕ) → before (in_own k owner) place c ≡ (has_it c && nat_lt (c / 2048) place)
    before_is c = ap (λ (t : ℕ → Bool). t c && nat_lt (c / 2048) place) same_k ∙ ap (λ t. t && nat_lt (c / 2048) place) (own_cluster c)

    may : MayClear v image (in_own k owner)
    may = subst (MayClear v image) (sym same_k) may_clear

    abbrev state : AreMarksCleared v image (before (in_own k owner) place) mid kv_now
    state = far.cleared v image gone.on.is gone.on.vol may agrees

    pub own_in_volume : (c : ℕ) → in_own k owner c ≡ true → c < cluster_count kv.sizes
    own_in_volume c h = subst (λ s. c < cluster_count s) (shaped ∙ sym agrees.sizes_are) (may.in_volume c h)

    same_sectors : marking_sectors kv.sizes (in_own k owner) ≡ marking_sectors (shape v) has_it
    same_sectors = ap (λ s. marking_sectors s (in_own k owner)) (agrees.sizes_are ∙ sym shaped) ∙ ap (marking_sectors (shape v)) (same_k ∙ fun_ext own_cluster)

    pub calls_stopped : place < map_sectors kv.sizes → (f : Option ℕ) (then : DriveCounts) → MovesCounts f 1 half then → (NoneHere (in_own k owner) place → MovesCounts f 0 half then)
        → MovesCounts f (marking_sectors (shape v) has_it) first then
    calls_stopped low f then one none = subst (λ n. MovesCounts f n first then) same_sectors (moves_to_fault kv.sizes (in_own k owner) own_in_volume place low f first half then far.moved one none)

    pub calls_done : place ≡ map_sectors kv.sizes → MovesCounts None (marking_sectors (shape v) has_it) first half
    calls_done end = subst (λ n. MovesCounts None n first half) same_sectors (moves_all kv.sizes (in_own k owner) own_in_volume place end first half far.moved)

    pub goes_on : place < map_sectors kv.sizes → MayGoOn (in_own k owner) place mid kv_now
    goes_on within =
        drop_goes_on (in_own k owner) place kv kv_now media mid first half far v image gone.on.is gone.on.vol may agrees (subst (λ h. place < map_sectors h) agrees.sizes_are within)

    -- the volume is mounted
    pub mounted_so_far : (volume : Volume) → mounted_part volume ≡ kv_now → IsCacheOf mid volume.cache → IsMounted volume mid
    mounted_so_far volume same cached = record {
      content = with_lost v (λ c. v.lost c && not (before (in_own k owner) place c));
      on = record { image = state.now; is = state.is; vol = state.vol };
      agrees = subst (λ x. Agrees x state.now) (sym same) state.agrees;
      cached = cached;
    }

    -- all clusters have been given back
    pub drop_done : place ≡ map_sectors kv.sizes → IsDropped v n file media mid
    drop_done end = record {
      image = image;
      now = state.now;
      was = gone.on.is;
      is = state.is;
      vol = subst (λ t. Vol state.now (with_lost v (λ c. v.lost c && not (t c)))) (fun_ext all_before) state.vol;
      others = state.others;
      end = λ c past. state.marks c past.in_map ∙ ap (λ t. is_marked (sector image) c && not t) (all_before c);
    }
      where
        sectors : place ≡ map_sectors g
        sectors = end ∙ ap map_sectors agrees.sizes_are

        all_before : (c : ℕ) → before (in_own k owner) place c ≡ has_it c
        all_before c = before_is c ∙ ⊎_elim
            (λ there.
            let low = mark_sector g gone.on.vol.sound.shape c (in_shape c there) in
            let same = sectors in
            ap (λ t. has_it c && t) (lt-ltb (c / 2048) place (omega arith)) ∙ and_true (has_it c))
            (λ none. ap (λ t. t && nat_lt (c / 2048) place) none ∙ sym none)
            (cases_Bool (has_it c))

    -- a fault came where a cluster has its mark
    pub drop_ended : (c : ℕ) → in_own k owner c ≡ true → nat_lt (c / 2048) place ≡ false → DropEnds v n file media mid
    drop_ended c there past = record {
      image = image;
      now = state.now;
      was = gone.on.is;
      is = state.is;
      left = with_lost v (λ d. v.lost d && not (before (in_own k owner) place d));
      vol = state.vol;
      lose = record {
        same = refl;
        still = λ d h.
            let parts = and_parts (v.lost d) (not (has_it d)) h in
            and_from (v.lost d) (not (before (in_own k owner) place d)) parts.0 (ap not (before_is d) ∙ not_one (has_it d) (nat_lt (d / 2048) place) parts.1);
        only = λ d h.
            let parts = and_parts (v.lost d) (not (before (in_own k owner) place d)) h in
            ⊎_elim
            (λ his. or_right (v.lost d && not (has_it d)) (is_whole (shape v) d && has_it d) (and_from (is_whole (shape v) d) (has_it d) (whole_of d parts.0) his))
            (λ none. or_left (v.lost d && not (has_it d)) (is_whole (shape v) d && has_it d) (and_from (v.lost d) (not (has_it d)) parts.0 (not_from_false (has_it d) none)))
            (cases_Bool (has_it d));
      };
      unfinished = (
        c,
        his_cluster,
        state.marks c (let low = mark_sector g gone.on.vol.sound.shape c (in_shape c his_cluster) in omega arith)
            ∙ and_from (is_marked (sector image) c) (not (before (in_own k owner) place c)) (gone.marked c his_cluster)
            (ap (λ t. not (in_own k owner c && t)) past ∙ ap not (and_false (in_own k owner c))),
      );
      others = state.others;
      stops = record {
        place = place;
        marks = λ d low. state.marks d low ∙ ap (λ t. is_marked (sector image) d && not t) (before_is d);
        lost_are = ap (with_lost v) (fun_ext lost_is);
      };
      end = λ d behind. ⊎_elim
          (λ low. inr (state.marks d behind.in_map ∙ ap (λ t. is_marked (sector image) d && not t) (before_is d ∙ ap (λ t. has_it d && t) low ∙ and_true (has_it d))))
          (λ high. inl (state.marks d behind.in_map ∙ ap (λ t. is_marked (sector image) d && not t)
          (before_is d ∙ ap (λ t. has_it d && t) high ∙ and_false (has_it d)) ∙ and_true (is_marked (sector image) d)))
          (cases_Bool (nat_lt (d / 2048) place));
    }
      where
        his_cluster : has_it c ≡ true
        his_cluster = sym (ap (λ (t : ℕ → Bool). t c) same_k ∙ own_cluster c) ∙ there

        -- those of its clusters that are lost still are the whole ones with their mark at the place or behind it
        lost_is : (d : ℕ) → (v.lost d && not (before (in_own k owner) place d)) ≡ ((v.lost d && not (has_it d)) || (is_whole (shape v) d && not_before has_it place d))
        lost_is d = ap (λ t. v.lost d && not t) (before_is d) ∙ lost_split (v.lost d) (has_it d) (is_whole (shape v) d) (nat_lt (d / 2048) place) (λ his. ⊎_elim
            (λ whole. lost_of d his whole ∙ sym whole)
            (λ part. false_from_ne_true (v.lost d) (λ lost. both_ways (is_whole (shape v) d) part (whole_of d lost)) ∙ sym part)
            (cases_Bool (is_whole (shape v) d)))

        not_one : (a b : Bool) → not a ≡ true → not (a && b) ≡ true
        not_one true b h = absurd (false≢true h)
        not_one false b h = refl

    -- a fault came before anything was written
    pub drop_not_begun : place ≡ 0 → DropEnds v n file media mid
    drop_not_begun start =
        let first_own : has_it (n / g.cluster) ≡ true = subst (λ h. has_cluster h n file (n / g.cluster) ≡ true) (sym shaped)
        (cluster_from_owns g n file n (owns_own g n file n (or_left (n == n) (has (sectors_of file.segments) n) (eq-eqb n n refl)))) in
        drop_ended (n / g.cluster) (ap (λ (t : ℕ → Bool). t (n / g.cluster)) same_k ∙ own_cluster (n / g.cluster) ∙ first_own)
        (false_from_ne_true (nat_lt (n / g.cluster / 2048) place) (λ h. let low = ltb-true (n / g.cluster / 2048) place h in absurd (omega arith)))

    -- a fault of the call that gives back what has its mark in one sector
    pub drop_stopped : (now : Option (List ℕ)) (kv_then : MountedPart) → IsStopped (in_own k owner) place mid now kv_now kv_then → DropEnds v n file media now
    drop_stopped now kv_then stop =
        let some = stop.some in
        let parts = and_parts (in_own k owner some.0) (some.0 / 2048 == place) some.1 in
        let at : some.0 / 2048 ≡ place = eqb-true (some.0 / 2048) place parts.1 in
        subst (DropEnds v n file media) (sym stop.media_kept)
        (drop_ended some.0 parts.0 (false_from_ne_true (nat_lt (some.0 / 2048) place) (λ h. let low = ltb-true (some.0 / 2048) place h in absurd (omega arith))))

    pub mounted_stopped : (volume : Volume) (now : Option (List ℕ)) → IsStopped (in_own k owner) place mid now kv_now (mounted_part volume) → IsCacheOf now volume.cache → IsMounted volume now
    mounted_stopped volume now stop cached = subst (IsMounted volume) (sym stop.media_kept) (mounted_so_far volume stop.volume_kept (subst (λ m. IsCacheOf m volume.cache) stop.media_kept cached))

-- what holds whatever the answer is
pub on_err : {A E : Type 0} (r : Result A E) (P : Type 0) → P → OnErr r P
on_err (Ok a) P p = tt
on_err (Err e) P p = p

-- the descriptor could not be read
pub drop_unread : (media : Option (List ℕ)) (n : ℕ) (v : DiskVolume) (file : DiskFile) (gone : IsGone media v n file) (kv : MountedPart)
    → Agrees kv gone.on.image → (mid : Option (List ℕ)) → mid ≡ media → DropEnds v n file media mid
drop_unread media n v file gone kv agrees mid same =
    let none : DriveCounts = record { faults = 0; last = None; calls = 0 } in
    let segs : List (ℕ × ℕ) = segments_field (sector_at media n) in
    let own : OwnSectors = record { fd = n; segs = segs } in
    drop_not_begun media n segs refl v file gone kv.sizes.cluster kv kv refl agrees 0 mid none none
    (drop_begins (in_own kv.sizes.cluster own) kv kv media mid none same refl) refl

-- the same file has gone from a media that has only been read since
pub still_gone : (media now : Option (List ℕ)) (n : ℕ) (v : DiskVolume) (file : DiskFile) → now ≡ media → IsGone media v n file → IsGone now v n file
still_gone media now n v file same gone = subst (λ m. IsGone m v n file) (sym same) gone

pub still_has_gone : (media now : Option (List ℕ)) (n : ℕ) → now ≡ media → FileHasGone media n → FileHasGone now n
still_has_gone media now n same gone = subst (λ m. FileHasGone m n) (sym same) gone

pub dropped_before : (media mid now : Option (List ℕ)) (n : ℕ) (v : DiskVolume) (file : DiskFile) → mid ≡ media → IsDropped v n file mid now → IsDropped v n file media now
dropped_before media mid now n v file same done = subst (λ m. IsDropped v n file m now) same done

pub ended_before : (media mid now : Option (List ℕ)) (n : ℕ) (v : DiskVolume) (file : DiskFile) → mid ≡ media → DropEnds v n file mid now → DropEnds v n file media now
ended_before media mid now n v file same ends = subst (λ m. DropEnds v n file m now) same ends

-- one call has been made before
pub calls_before : (media mid : Option (List ℕ)) (n : ℕ) (v : DiskVolume) (file : DiskFile) → mid ≡ media → (f : Option ℕ) (s t u : DriveCounts) → MovesCounts None 1 s t
    → ((w : DiskVolume) (other : DiskFile) → IsGone mid w n other → MovesCounts f (marking_sectors (shape w) (has_cluster (shape w) n other)) t u)
    → IsGone media v n file → MovesCounts f (1 + marking_sectors (shape v) (has_cluster (shape v) n file)) s u
calls_before media mid n v file same f s t u one other gone =
    counts_then f 1 (marking_sectors (shape v) (has_cluster (shape v) n file)) s t u one (other v file (still_gone media mid n v file same gone))

pub none_as : (k other : ℕ) (own : OwnSectors) (place : ℕ) (P : Type 0) → other ≡ k → (NoneHere (in_own other own) place → P) → NoneHere (in_own k own) place → P
none_as k other own place P same rest none = rest (subst (λ x. NoneHere (in_own x own) place) (sym same) none)

-- the same where the sizes have come from the call before
pub go_as : (k other : ℕ) (own : OwnSectors) (place : ℕ) (media : Option (List ℕ)) (kv : MountedPart) → other ≡ k → MayGoOn (in_own k own) place media kv → MayGoOn (in_own other own) place media kv
go_as k other own place media kv same go = subst (λ x. MayGoOn (in_own x own) place media kv) (sym same) go

pub stopped_as : (k other : ℕ) (own : OwnSectors) (place : ℕ) (media now : Option (List ℕ)) (kv kv_now : MountedPart)
    → other ≡ k → IsStopped (in_own other own) place media now kv kv_now
    → IsStopped (in_own k own) place media now kv kv_now
stopped_as k other own place media now kv kv_now same stop = subst (λ x. IsStopped (in_own x own) place media now kv kv_now) same stop

pub next_as : (k other : ℕ) (own : OwnSectors) (place : ℕ) (media now : Option (List ℕ)) (kv kv_now : MountedPart)
    → other ≡ k → ClearsNext (in_own other own) place media now kv kv_now
    → ClearsNext (in_own k own) place media now kv kv_now
next_as k other own place media now kv kv_now same next = subst (λ x. ClearsNext (in_own x own) place media now kv kv_now) same next
