-- A file that has been cut, and the clusters that it gives up.
use Rattle.std.proofs.Common.{◌≡◌, ◌≢◌, ℕ, ◌+◌, ◌-◌, ◌*◌, ◌/◌, ◌<◌, ◌≤◌, Bool, true, false, not, ◌==◌, ◌&&◌, ◌||◌, Some, List, length, refl, sym, ap, ap₂, ◌∙◌, subst, ⊎_elim, arith, eqb-true}
use Rattle.std.specs.Prelude.{if◌then◌else◌}
use Rattle.std.proofs.Math.Nat.{le-div_iff_mul-le}
use Rattle.std.proofs.lemmas.Bool.{and_parts, or_left, or_right, both_ways, false_from_ne_true, not-true, cases_eq}
use Rattle.rbf_model.specs.Fields.{segments_field}
use Rattle.rbf_model.specs.Geometry.{Geometry, image_geometry, sector, map_sectors}
use Rattle.rbf_model.specs.File.{DiskFile, is_directory}
use Rattle.rbf_model.specs.Space.{is_whole, is_marked, has_cluster, cluster_count}
use Rattle.rbf_model.specs.Volume.{DiskVolume, Vol, in_file}
use Rattle.rbf_model.specs.Writes.{put_sector, with_file}
use Rattle.rbf_model.proofs.Bytes.{marked_beside}
use Rattle.rbf_model.proofs.Owners.{cluster_positive, mark_sector, file_cluster_below}
use Rattle.rbf_change.specs.Calls.{shape}
use Rattle.rbf_change.proofs.LawfulWrites.{shape-image}
use Rattle.rbf_alloc.specs.Cleared.{MayClear}
use Rattle.rbf_alloc.proofs.FileClusters.{own_is, fields_some, AreSome}
use Rattle.rbf_write.proofs.FilledFile.{put_here}
use Rattle.rbf_write.proofs.Redated.{sectors_put, behind_map}
use Rattle.rbf_alloc.specs.declared.rest.CutSectors.{CutSectors}
use Rattle.rbf_alloc.specs.Rest.{in_rest}

-- a file that has new segments, all in clusters that it had: the whole clusters that it gave up are lost
module _ (image : List ℕ) (v : DiskVolume) (vol : Vol image v) (n : ℕ) (old new : DiskFile) (is : v.files n ≡ Some old)
    (not_directory : is_directory old ≡ false) (bytes : List ℕ) (whole : length bytes ≡ 256)
    (list : segments_field bytes ≡ new.segments) (new_in_old : (c : ℕ) → has_cluster (image_geometry image) n new c ≡ true → has_cluster (image_geometry image) n old c ≡ true) where
  abbrev g : Geometry
  g = image_geometry image

  abbrev lessened : DiskVolume
  lessened = with_file g v n (Some new)

  abbrev now : List ℕ
  now = put_sector image n bytes

  abbrev cut : CutSectors
  cut = record { old = record { fd = n; segs = old.segments }; kept = record { fd = n; segs = new.segments } }

  abbrev gone : ℕ → Bool
  gone c = has_cluster g n old c && not (has_cluster g n new c)

  positive : 1 ≤ g.cluster
  positive = cluster_positive g.cluster vol.sound.shape.header.clusters

  not_root : n ≢ g.root
  not_root same = both_ways (is_directory old) not_directory (vol.sound.tree.root old (ap v.files (sym same) ∙ is))

  some_old : AreSome old.segments
  some_old = subst AreSome (sym (ap (λ (f : DiskFile). f.segments) (vol.sound.shows.shown n old is))) (fields_some (sector image n))

  some_new : AreSome new.segments
  some_new = subst AreSome list (fields_some bytes)

  pub rest_is : (c : ℕ) → in_rest g.cluster cut c ≡ gone c
  rest_is c =
      ap₂ (λ a b. a && not b) (own_is g n old c positive not_root some_old) (own_is g n new c positive not_root some_new)

  -- a lost cluster is not the file's
  lost_apart : (c : ℕ) → has_cluster g n old c ≡ true → v.lost c ≡ false
  lost_apart c own = false_from_ne_true (v.lost c) (λ lost. both_ways (has_cluster g n old c) (((vol.sound.mapped.lost_are c).0 lost).unused n old is) own)

  lost_is : (c : ℕ) → lessened.lost c ≡ (if has_cluster g n new c then false else (if has_cluster g n old c then is_whole g c else v.lost c))
  lost_is c = ap (λ o. if has_cluster g n new c then false else (if in_file g n o c then is_whole g c else v.lost c)) is

  -- when they have been given back, those are lost that were
  pub lost_then : (c : ℕ) → (lessened.lost c && not (gone c)) ≡ v.lost c
  lost_then c = ap (λ t. t && not (gone c)) (lost_is c)
      ∙ cases (has_cluster g n new c) (has_cluster g n old c) (is_whole g c) (v.lost c) (λ h. lost_apart c (new_in_old c h)) (λ h. lost_apart c h)
    where
      cases : (in_new in_old whole_one lost : Bool) → (in_new ≡ true → lost ≡ false) → (in_old ≡ true → lost ≡ false)
          → ((if in_new then false else (if in_old then whole_one else lost)) && not (in_old && not in_new)) ≡ lost
      cases true in_old whole_one lost apart other = sym (apart refl)
      cases false true true lost apart other = sym (other refl)
      cases false true false lost apart other = sym (other refl)
      cases false false whole_one true apart other = refl
      cases false false whole_one false apart other = refl

  -- and until then a whole one that was given up is lost
  pub given_up_lost : (c : ℕ) → gone c ≡ true → is_whole g c ≡ true → lessened.lost c ≡ true
  given_up_lost c h whole_one =
      let parts = and_parts (has_cluster g n old c) (not (has_cluster g n new c)) h in
      lost_is c ∙ ap (λ t. if t then false else (if has_cluster g n old c then is_whole g c else v.lost c)) (not-true (has_cluster g n new c) parts.1)
      ∙ ap (λ t. if t then is_whole g c else v.lost c) parts.0 ∙ whole_one

  -- what is lost then was lost, or has been given up
  pub lost_from : (c : ℕ) → lessened.lost c ≡ true → (v.lost c || (is_whole g c && gone c)) ≡ true
  lost_from c h = cases (has_cluster g n new c) (has_cluster g n old c) (is_whole g c) (v.lost c) (sym (lost_is c) ∙ h)
    where
      cases : (in_new in_old whole_one lost : Bool) → (if in_new then false else (if in_old then whole_one else lost)) ≡ true → (lost || (whole_one && (in_old && not in_new))) ≡ true
      cases true in_old whole_one lost e = absurd (both_ways false refl e)
      cases false true true lost e = or_right lost true refl
      cases false true false lost e = absurd (both_ways false refl e)
      cases false false whole_one lost e = or_left lost (whole_one && false) e

  -- the marks of the map have stayed
  in_volume : (c : ℕ) → has_cluster g n old c ≡ true → c * g.cluster < g.total
  in_volume c h = file_cluster_below g (sector image) v vol.sound n old c is h

  pub same_marks : (c : ℕ) → c < 2048 * map_sectors g → is_marked (sector now) c ≡ is_marked (sector image) c
  same_marks c low =
      ap (λ d. is_marked d c) (sectors_put image v vol n old is bytes whole)
      ∙ marked_beside (sector image) n bytes c (λ same. let past = behind_map image v vol n old is bytes whole in absurd (omega arith))

  pub may_clear : MayClear lessened now (in_rest g.cluster cut)
  may_clear = record {
    marked = λ c h.
        let parts = and_parts (has_cluster g n old c) (not (has_cluster g n new c)) (sym (rest_is c) ∙ h) in
        let low = mark_sector g vol.sound.shape c (in_volume c parts.0) in
        same_marks c (omega arith) ∙ vol.sound.mapped.marks n old c is parts.0;
    unused = λ c h m file named.
        let parts = and_parts (has_cluster g n old c) (not (has_cluster g n new c)) (sym (rest_is c) ∙ h) in
        subst (λ s. has_cluster s m file c ≡ false) (sym (shape-image image v vol))
        (⊎_elim
        (λ same.
        let here : Some new ≡ Some file = sym (put_here v.files n (Some new)) ∙ ap lessened.files (sym same) ∙ named in
        let one : new ≡ file = cc in
        ap₂ (λ i f. has_cluster g i f c) same (sym one) ∙ not-true (has_cluster g n new c) parts.1)
        (λ differ.
        let there : v.files m ≡ Some file = sym (ap (λ t. if t then Some new else v.files m) (false_from_ne_true (m == n) (λ e. differ (eqb-true m n e)))) ∙ named in
        false_from_ne_true (has_cluster g m file c) (λ own. differ (vol.sound.mapped.apart m n file old c there is own parts.0)))
        (cases_eq m n));
    in_volume = λ c h.
        let parts = and_parts (has_cluster g n old c) (not (has_cluster g n new c)) (sym (rest_is c) ∙ h) in
        let low = in_volume c parts.0 in
        let up : c + 1 ≤ (g.total + (g.cluster - 1)) / g.cluster = (le-div_iff_mul-le positive).1 (let some = positive in omega arith) in
        let same : cluster_count (shape v) ≡ cluster_count g = ap cluster_count (shape-image image v vol) in
        omega arith;
  }
