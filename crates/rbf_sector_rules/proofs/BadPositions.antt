-- Entries that name no descriptor of the volume, by their positions.
use Rattle.std.proofs.Common.{◌≡◌, ℕ, ◌+◌, ◌<◌, ◌≤◌, true, List, length, take, get_or, sym, ap, ◌∙◌, subst, ⊎_elim, arith}
use Rattle.std.proofs.lemmas.List.{get_or_default, take_all}
use Rattle.rbf_model.specs.Disk.{disk_of}
use Rattle.rbf_model.specs.Fields.{directory_entry, is_used, descriptor_field}
use Rattle.rbf_model.specs.Geometry.{Geometry, IsNumber}
use Rattle.rbf_model.specs.Segments.{segment_sectors, has}
use Rattle.rbf_model.proofs.Bytes.{has_place, place_of}
use Rattle.rbf_model.proofs.Segments.{has_cases}
use Rattle.rbf_sector_rules.specs.Rules.{HasBadNumber, IsBadPosition}
use Rattle.rbf_sector_rules.specs.Positions.{entry_at_position, positions_in}
use Rattle.rbf_sector_rules.proofs.Runs.{run_has, sectors_more}
use Rattle.rbf_sector_rules.proofs.Positioned.{ArePositions}

-- the entries in a list of positions
module _ (g : Geometry) (disk : ℕ → List ℕ) (contents : List ℕ) (runs : List (ℕ × ℕ)) (are : ArePositions g disk contents runs) where
  -- a bad position is a bad entry
  bad_from : (t : ℕ) → has (positions_in runs) t ≡ true → IsBadPosition (disk_of g disk) t → HasBadNumber g contents
  bad_from t h bad =
      let place = place_of (positions_in runs) t h in
      let i = place.0 in
      let at : directory_entry contents i ≡ entry_at_position disk t = are.each i place.1 ∙ ap (entry_at_position disk) (get_or_default (positions_in runs) i 0 t place.1 ∙ place.2) in
      let P : List ℕ → Type 0 = λ b. IsNumber g (descriptor_field b) → ⊥ in
      (i, record { within = omega (arith, place.1, are.count); used = ap is_used at ∙ bad.used }, subst P (sym at) bad.number)

  bad_of : HasBadNumber g contents → (t : ℕ) × (has (positions_in runs) t ≡ true) × IsBadPosition (disk_of g disk) t
  bad_of h =
      let i = h.0 in
      let entry = h.1 in
      let within = entry.within in
      let low : i < length (positions_in runs) = omega (arith, are.count) in
      let at = are.each i low in
      let P : List ℕ → Type 0 = λ b. IsNumber g (descriptor_field b) → ⊥ in
      (get_or (positions_in runs) i 0, has_place (positions_in runs) i low, record { used = ap is_used (sym at) ∙ entry.used; number = subst P at h.2 })

  -- no run of the first has a bad position, and so has the next none
  pub none_more : (i : ℕ) → i < length runs → ((e : ℕ) → has (positions_in (take i runs)) e ≡ true
      → IsBadPosition (disk_of g disk) e → ⊥) → ((e : ℕ) → has (segment_sectors (get_or runs i (0, 0))) e ≡ true
      → IsBadPosition (disk_of g disk) e → ⊥)
      → (e : ℕ) → has (positions_in (take (i + 1) runs)) e ≡ true → IsBadPosition (disk_of g disk) e → ⊥
  none_more i low before here e h bad = ⊎_elim
      (λ earlier. before e earlier bad)
      (λ last. here e last bad)
      (has_cases (positions_in (take i runs)) (segment_sectors (get_or runs i (0, 0))) e (ap (λ xs. has xs e) (sectors_more runs i low) ∙ h))

  pub none_bad : (i : ℕ) → length runs ≤ i → ((e : ℕ) → has (positions_in (take i runs)) e ≡ true → IsBadPosition (disk_of g disk) e → ⊥) → HasBadNumber g contents → ⊥
  none_bad i all none bad =
      let position_bad = bad_of bad in
      none position_bad.0 (ap (λ rs. has (positions_in rs) position_bad.0) (take_all i runs all) ∙ position_bad.1) position_bad.2

  pub bad_in_run : (i e : ℕ) → i < length runs → has (segment_sectors (get_or runs i (0, 0))) e ≡ true → IsBadPosition (disk_of g disk) e → HasBadNumber g contents
  bad_in_run i e low here bad = bad_from e (run_has runs i e low here) bad
