-- An image whose lost clusters are freed: LSN 0 and the bits of the map that no whole cluster has stay.
use Rattle.std.proofs.Common.{◌≡◌, ℕ, ◌+◌, ◌-◌, ◌*◌, ◌/◌, ◌%◌, ◌≤◌, ◌==◌, ◌&&◌, not, Bool, true, false, List, drop, get_or, refl, sym, ap, ◌∙◌, arith}
use Rattle.std.specs.Int.{bit_at}
use Rattle.std.proofs.lemmas.Bool.{false_from_ne_true, leb-true}
use Rattle.std.proofs.lemmas.Nat.{le-div}
use Rattle.std.proofs.lemmas.List.{get_or-take, get_or-drop}
use Rattle.rbf_model.specs.Geometry.{image_geometry, sector}
use Rattle.rbf_model.specs.Segments.{has}
use Rattle.rbf_model.specs.Space.{cluster_count, is_marked}
use Rattle.rbf_model.specs.Volume.{DiskVolume, Vol, lost_clusters}
use Rattle.rbf_model.proofs.Owners.{cluster_positive}
use Rattle.vol_tools.specs.Tail.{KeepsTail}
use Rattle.vol_tools.specs.Clearing.{ClearsBits, bit_of}
use Rattle.vol_tools.proofs.Lists.{filter_has}

-- the mark of a cluster is its bit in the image
mark-is : (image : List ℕ) (c : ℕ) → is_marked (sector image) c ≡ bit_of image c
unfolding is_marked
mark-is image c =
    let s : ℕ = 1 + c / 8 / 256 in
    let j : ℕ = c / 8 % 256 in
    let place : 256 * s + j ≡ 256 + c / 8 = omega arith in
    ap (λ byte. bit_at byte (7 - c % 8) == 1) (get_or-take 256 (drop (256 * s) image) j 0 (omega arith) ∙ get_or-drop (256 * s) image j 0 ∙ ap (λ k. get_or image k 0) place)

still : (t gone : Bool) → gone ≡ false → (t && not gone) ≡ t
still true gone kept = ap not kept
still false gone kept = refl

module _ (old new : List ℕ) (v : DiskVolume) (vol : Vol old v) (cleared : ClearsBits old new (lost_clusters (image_geometry old) v)) where
  -- a lost cluster is whole
  not-lost : (c : ℕ) → (image_geometry old).total / (image_geometry old).cluster ≤ c → has (lost_clusters (image_geometry old) v) c ≡ false
  not-lost c past =
      false_from_ne_true (has (lost_clusters (image_geometry old) v) c)
      (λ found.
      let g = image_geometry old in
      let lost = filter_has v.lost 0 (cluster_count g) c found in
      let is = (vol.sound.mapped.lost_are c).0 lost.passes in
      let whole = le-div (c + 1) g.total g.cluster (cluster_positive g.cluster vol.sound.shape.header.clusters) (leb-true ((c + 1) * g.cluster) g.total is.whole) in
      absurd (omega arith))

  mark-now : (c : ℕ) → is_marked (sector new) c ≡ (is_marked (sector old) c && not (has (lost_clusters (image_geometry old) v) c))
  mark-now c =
      mark-is new c ∙ cleared.bits c ∙ ap (λ t. t && not (has (lost_clusters (image_geometry old) v) c)) (sym (mark-is old c))

  pub repaired-tail : KeepsTail old new
  repaired-tail = record {
    first = cleared.front;
    bits = λ c end. mark-now c ∙ still (is_marked (sector old) c) (has (lost_clusters (image_geometry old) v) c) (not-lost c end.not_whole);
  }
