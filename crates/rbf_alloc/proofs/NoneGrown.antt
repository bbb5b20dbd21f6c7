-- A file that gains no cluster.
use Rattle.std.proofs.Common.{◌≡◌, ℕ, ◌≤◌, Bool, true, false, not, ◌&&◌, ◌||◌, Option, List, [], length, refl, sym, subst}
use mathlib.Core.Path.{fun_ext}
use Rattle.rbf_model.specs.Geometry.{sector}
use Rattle.rbf_model.specs.Space.{is_marked}
use Rattle.rbf_model.specs.Volume.{DiskVolume, Vol}
use Rattle.rbf_model.specs.Writes.{with_lost}
use Rattle.rbf_access.specs.Mounted.{RepresentsVolume}
use Rattle.rbf_alloc.specs.Grown.{IsGrown}

or_none : (b : Bool) → b ≡ (b || false)
or_none true = refl
or_none false = refl

and_kept : (b : Bool) → b ≡ (b && not false)
and_kept true = refl
and_kept false = refl

grown_by_none : (v : DiskVolume) (media : Option (List ℕ)) → RepresentsVolume media v → (segs : List (ℕ × ℕ)) → length segs ≤ 48 → IsGrown v 0 media media segs segs
grown_by_none v media on segs few = record {
  image = on.image;
  now = on.image;
  was = on.is;
  is = on.is;
  taken = [];
  chosen = record { counted = refl; gained = tt; best = tt; fits = few };
  segments = refl;
  vol = subst (λ (lost : ℕ → Bool). Vol on.image (with_lost v lost)) (fun_ext (λ c. or_none (v.lost c))) on.vol;
  changes = record { others = λ s apart. refl; end = λ c past. and_kept (is_marked (sector on.image) c) };
}

-- its volume is as it was
pub none_grown : (v : DiskVolume) (media : Option (List ℕ)) → RepresentsVolume media v → (n : ℕ) → n ≡ 0 → (segs : List (ℕ × ℕ)) → length segs ≤ 48 → IsGrown v n media media segs segs
none_grown v media on n zero segs few = subst (λ k. IsGrown v k media media segs segs) (sym zero) (grown_by_none v media on segs few)
