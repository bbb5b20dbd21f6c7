-- The runs of an owner, as they are listed.
use Rattle.std.proofs.Common.{◌≡◌, ◌≢◌, ℕ, ◌+◌, ◌<◌, ◌≤◌, ◌==◌, List, [], ◌∷◌, ◌++◌, All, sym, ap, ◌∙◌, append_assoc, eq-eqb}
use Rattle.std.proofs.lemmas.List.Elements.{All-nil, All-push}
use Rattle.std.specs.Prelude.{if◌then◌else◌}
use Rattle.std.proofs.lemmas.Bool.{cond-true, cond-false, ne_eqb}
use Rattle.std.proofs.lemmas.Grind.{flat_map-append}
use Rattle.std.proofs.lemmas.List.{append-nil}
use Rattle.rbf_model.specs.Disk.{disk_of}
use Rattle.rbf_model.specs.Fields.{segments_field}
use Rattle.rbf_model.specs.Geometry.{Geometry, map_sectors}
use Rattle.rbf_model.specs.Segments.{segment_sectors, sectors_of}
use Rattle.rbf_model.specs.Space.{system_sectors, owned}
use Rattle.rbf_segs.specs.Segments.{IsSegment}
use Rattle.rbf_sector_rules.specs.Used.{used_by}

module _ (g : Geometry) (n : ℕ) (front : List (ℕ × ℕ)) where
  -- the run of the system's sectors, which the root's file has
  pub front_of_root : (count : ℕ) → n ≡ g.root → count ≡ 1 + map_sectors g → front ≡ (0, count) ∷ [] → sectors_of front ≡ (if n == g.root then system_sectors g else [])
  front_of_root count root counted is =
      let one : (0, count) ∷ [] ≡ (0, 1 + map_sectors g) ∷ [] = ap (λ c. (0, c) ∷ []) counted in
      ap sectors_of (is ∙ one) ∙ append-nil (system_sectors g) ∙ sym (cond-true (n == g.root) (system_sectors g) [] (eq-eqb n g.root root))

  pub front_of_other : n ≢ g.root → front ≡ [] → sectors_of front ≡ (if n == g.root then system_sectors g else [])
  front_of_other other is =
      ap sectors_of is ∙ sym (cond-false (n == g.root) (system_sectors g) [] (ne_eqb n g.root other))

  pub listed_is : (disk : ℕ → List ℕ) (runs segs : List (ℕ × ℕ)) → sectors_of front ≡
      (if n == g.root then system_sectors g else []) → runs ≡ (front ++ (n, 1) ∷ []) ++ segs → segs ≡ segments_field
      (disk n) → sectors_of runs ≡ used_by (disk_of g disk) n
  unfolding owned
  listed_is disk runs segs system is segments =
      ap sectors_of (is ∙ append_assoc front ((n, 1) ∷ []) segs) ∙ flat_map-append segment_sectors front ((n, 1) ∷ segs)
      ∙ ap (λ xs. xs ++ n ∷ sectors_of segs) system
      ∙ ap (λ s. (if n == g.root then system_sectors g else []) ++ n ∷ sectors_of s) segments

-- a list of one segment
pub one_segment : (lsn count : ℕ) → lsn < 16777216 → 1 ≤ count → count < 65536 → All IsSegment ((lsn, count) ∷ [])
one_segment lsn count low some few =
    All-push IsSegment [] (lsn, count) (All-nil IsSegment) (record { lsn = low; some = some; count = few })
