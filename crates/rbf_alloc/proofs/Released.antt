-- Clusters that are given back, sector by sector of the map.
use Rattle.std.proofs.Common.{◌≡◌, ℕ, ◌+◌, ◌-◌, ◌*◌, ◌/◌, ◌<◌, ◌≤◌, Bool, true, false, not, ◌==◌, ◌&&◌, ◌||◌, Option, Some, None, List, refl, sym, ap, ◌∙◌, subst, ⊎_elim, arith, eqb-true}
use Rattle.std.specs.Prelude.{nat_lt}
use mathlib.Core.Path.{fun_ext}
use Rattle.std.proofs.Math.Nat.{le-div_iff_mul-le}
use Rattle.std.proofs.lemmas.Bool.{and_parts, false_from_ne_true, ltb-true, lt-ltb, cases_Bool}
use Rattle.rbf_model.specs.Geometry.{Geometry, image_geometry, sector, map_sectors}
use Rattle.rbf_model.specs.Space.{is_marked, cluster_count}
use Rattle.rbf_model.specs.Volume.{DiskVolume, Vol}
use Rattle.rbf_model.specs.Writes.{with_lost}
use Rattle.rbf_model.proofs.Owners.{cluster_positive, mark_sector}
use Rattle.rbf_change.specs.Agrees.{MountedPart, Agrees}
use Rattle.rbf_change.specs.Calls.{shape}
use Rattle.rbf_change.proofs.LawfulWrites.{shape-image}
use Rattle.rbf_access.specs.Drive.{DriveCounts, MovesCounts}
use Rattle.rbf_access.specs.MapMarks.{has_mark_of}
use Rattle.rbf_access.proofs.Counting.{no_calls}
use Rattle.rbf_access.proofs.MapMarks.{below}
use Rattle.rbf_alloc.specs.Own.{here, NoneHere}
use Rattle.rbf_alloc.specs.Cleared.{MayClear, AreMarksCleared, IsClearing, MayGoOn, ClearsNext, IsStopped, before}
use Rattle.rbf_alloc.proofs.Dropping.{none_before, not_yet, one_before}
use Rattle.rbf_alloc.proofs.MarkCalls.{moves_more}
use Rattle.rbf_alloc.specs.declared.rest.CutSectors.{CutSectors}
use Rattle.rbf_alloc.specs.Rest.{in_rest}
use Rattle.rbf_alloc.specs.Release.{MayRelease, IsReleasing, ReleaseEnds}

and_true : (t : Bool) → (t && true) ≡ t
and_true true = refl
and_true false = refl

-- the sectors of the map before this one have been written
pub record IsReleaseSoFar (gone : ℕ → Bool) (place : ℕ) (kept kept_now : MountedPart) (media mid : Option (List ℕ)) (first half : DriveCounts) : Type 0 where
  pub cleared : (v : DiskVolume) (old : List ℕ) → media ≡ Some old → Vol old v → MayClear v old gone → Agrees kept old → AreMarksCleared v old (before gone place) mid kept_now
  pub sizes : kept_now.sizes ≡ kept.sizes
  pub moved : MovesCounts None (below (has_mark_of kept.sizes gone) place) first half

pub release_begins : (gone : ℕ → Bool) (kept : MountedPart) (media : Option (List ℕ)) (first : DriveCounts) → IsReleaseSoFar gone 0 kept kept media media first first
release_begins gone kept media first = record {
  cleared = λ v old is vol may agrees. record {
    now = old;
    is = is;
    vol = subst (λ lost. Vol old (with_lost v lost)) (fun_ext (λ c. sym (ap (λ t. v.lost c && not t) (none_before gone c) ∙ and_true (v.lost c)))) vol;
    marks = λ c low. sym (ap (λ t. is_marked (sector old) c && not t) (none_before gone c) ∙ and_true (is_marked (sector old) c));
    others = λ s none. refl;
    agrees = agrees;
  };
  sizes = refl;
  moved = no_calls first;
}

module _ (gone : ℕ → Bool) (place : ℕ) (kept kept_now : MountedPart) (media mid : Option (List ℕ)) (first half : DriveCounts) (far : IsReleaseSoFar gone place kept kept_now media mid first half) where
  clearing : (v : DiskVolume) (old : List ℕ) → media ≡ Some old → Vol old v → MayClear v old gone → Agrees kept old
      → place < map_sectors (image_geometry old) → IsClearing v old (before gone place) gone place mid kept_now
  clearing v old is vol may agrees within = record { vol = vol; may = may; far = far.cleared v old is vol may agrees; fresh = λ c there. not_yet gone place c there; within = within }

  pub release_more : (now : Option (List ℕ)) (kept_then : MountedPart) (after : DriveCounts)
      → place < map_sectors kept.sizes → ClearsNext gone place mid now kept_now kept_then → kept_then.sizes ≡ kept_now.sizes
      → ((c : ℕ) → gone c ≡ true → c < cluster_count kept.sizes) → MovesCounts None 1 half after → (NoneHere gone place → MovesCounts None 0 half after)
      → IsReleaseSoFar gone (place + 1) kept kept_then media now first after
  release_more now kept_then after within next sizes in_volume counts none = record {
    cleared = λ v old is vol may agrees.
        let low : place < map_sectors (image_geometry old) = subst (λ h. place < map_sectors h) agrees.sizes_are within in
        subst (λ t. AreMarksCleared v old t now kept_then) (fun_ext (one_before gone place)) (next v old (before gone place) (clearing v old is vol may agrees low));
    sizes = sizes ∙ far.sizes;
    moved = moves_more kept.sizes gone in_volume place None first half after far.moved counts none;
  }

  module _ (v : DiskVolume) (old : List ℕ) (is : media ≡ Some old) (vol : Vol old v) (agrees : Agrees kept old) (may : MayClear v old gone) where
    pub release_goes_on : place < map_sectors kept.sizes → MayGoOn gone place mid kept_now
    release_goes_on within = record { volume = v; old = old; cleared = before gone place; is = clearing v old is vol may agrees (subst (λ h. place < map_sectors h) agrees.sizes_are within) }

    -- all have been given back
    pub release_done : place ≡ map_sectors kept.sizes → AreMarksCleared v old gone mid kept_now
    release_done end = subst (λ t. AreMarksCleared v old t mid kept_now) (fun_ext all_before) (far.cleared v old is vol may agrees)
      where
        sectors : place ≡ map_sectors (image_geometry old)
        sectors = end ∙ ap map_sectors agrees.sizes_are

        all_before : (c : ℕ) → before gone place c ≡ gone c
        all_before c = ⊎_elim
            (λ there.
            let g = image_geometry old in
            let in_shape : c < cluster_count g = subst (λ h. c < cluster_count h) (shape-image old v vol) (may.in_volume c there) in
            let positive = cluster_positive g.cluster vol.sound.shape.header.clusters in
            let most : (c + 1) * g.cluster ≤ g.total + (g.cluster - 1) = (le-div_iff_mul-le positive).0 (omega arith) in
            let low = mark_sector g vol.sound.shape c (omega arith) in
            let same = sectors in
            ap (λ t. gone c && t) (lt-ltb (c / 2048) place (omega arith)) ∙ and_true (gone c))
            (λ none. ap (λ t. t && nat_lt (c / 2048) place) none ∙ sym none)
            (cases_Bool (gone c))

    -- a fault came where a cluster has its mark
    pub release_ends : (now : Option (List ℕ)) (kept_then : MountedPart) → IsStopped gone place mid now kept_now kept_then → ReleaseEnds v old gone now kept_then
    release_ends now kept_then stop =
        let some = stop.some in
        let parts = and_parts (gone some.0) (some.0 / 2048 == place) some.1 in
        record {
          place = place;
          cleared = subst (λ m. AreMarksCleared v old (before gone place) m kept_then) (sym stop.media_kept)
              (subst (λ kv. AreMarksCleared v old (before gone place) mid kv) (sym stop.volume_kept) (far.cleared v old is vol may agrees));
          some = some.0;
          given_up = parts.0;
          still = not_yet gone place some.0 (eqb-true (some.0 / 2048) place parts.1);
        }

-- what is given up is in the volume
pub rest_in_volume : (k : ℕ) (cut : CutSectors) (media : Option (List ℕ)) (kv : MountedPart) → MayRelease k cut media kv → (c : ℕ) → in_rest k cut c ≡ true → c < cluster_count kv.sizes
rest_in_volume k cut media kv may c h =
    let is = may.is in
    subst (λ g. c < cluster_count g) (shape-image may.old may.volume is.vol ∙ sym is.agrees.sizes_are) (is.may.in_volume c h)

pub none_as : (k other : ℕ) (cut : CutSectors) (place : ℕ) (P : Type 0) → other ≡ k → (NoneHere (in_rest other cut) place → P) → NoneHere (in_rest k cut) place → P
none_as k other cut place P same rest none = rest (subst (λ x. NoneHere (in_rest x cut) place) (sym same) none)

-- the same where the sizes have come from the call before
pub go_as : (k other : ℕ) (cut : CutSectors) (place : ℕ) (media : Option (List ℕ)) (kv : MountedPart) → other ≡ k → MayGoOn (in_rest k cut) place media kv → MayGoOn (in_rest other cut) place media kv
go_as k other cut place media kv same go = subst (λ x. MayGoOn (in_rest x cut) place media kv) (sym same) go

pub stopped_as : (k other : ℕ) (cut : CutSectors) (place : ℕ) (media now : Option (List ℕ)) (kv kv_now : MountedPart)
    → other ≡ k → IsStopped (in_rest other cut) place media now kv kv_now
    → IsStopped (in_rest k cut) place media now kv kv_now
stopped_as k other cut place media now kv kv_now same stop = subst (λ x. IsStopped (in_rest x cut) place media now kv kv_now) same stop

pub next_as : (k other : ℕ) (cut : CutSectors) (place : ℕ) (media now : Option (List ℕ)) (kv kv_now : MountedPart)
    → other ≡ k → ClearsNext (in_rest other cut) place media now kv kv_now
    → ClearsNext (in_rest k cut) place media now kv kv_now
next_as k other cut place media now kv kv_now same next = subst (λ x. ClearsNext (in_rest x cut) place media now kv kv_now) same next
