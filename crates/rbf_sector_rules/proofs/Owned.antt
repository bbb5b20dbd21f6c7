-- The sectors of owners, which are within the volume.
use Rattle.std.proofs.Common.{◌≡◌, ℕ, ◌+◌, ◌<◌, ◌≤◌, true, List, All, get_or, sym, ap, ◌∙◌, subst, ⊎_elim}
use Rattle.std.proofs.lemmas.Bool.{cases_Bool}
use Rattle.std.proofs.lemmas.List.{get_or_default}
use Rattle.std.proofs.lemmas.List.Elements.{All-from_get_or}
use Rattle.rbf_model.specs.Disk.{disk_of}
use Rattle.rbf_model.specs.Fields.{segments_field}
use Rattle.rbf_model.specs.Geometry.{Geometry, sector, is_within, LieWithin, IsHeader, HasMap}
use Rattle.rbf_model.specs.Segments.{sectors_of, has}
use Rattle.rbf_model.specs.File.{file_at}
use Rattle.rbf_model.specs.Space.{owns}
use Rattle.rbf_model.specs.Faults.{Breaks}
use Rattle.rbf_model.specs.Search.{IsReachedOn, searchable_bytes}
use Rattle.rbf_model.specs.Faults.Breaks.{bad_segment}
use Rattle.rbf_model.proofs.Keeps.{number_of_reached}
use Rattle.rbf_model.proofs.Owners.{owned_below}
use Rattle.rbf_segs.specs.Segments.{IsSegment}
use Rattle.rbf_sector.specs.Ident.{geometry_of}
use Rattle.rbf_sector_rules.specs.declared.image.IdentifiedImage.{IdentifiedImage}
use Rattle.rbf_sector_rules.specs.Used.{used_by}
use Rattle.rbf_sector_rules.proofs.Headers.{header_of}
use Rattle.rbf_sector_rules.proofs.Runs.{runs_within}

module _ (g : Geometry) (disk : ℕ → List ℕ) (header : IsHeader g) (kept : (lsn : ℕ) → Breaks (disk_of g disk) 1 lsn → ⊥) (map : HasMap g) where
  pub lie_within : (n : ℕ) → IsReachedOn (disk_of g disk) n → LieWithin g (segments_field (disk n))
  lie_within n reached =
      let segments = segments_field (disk n) in
      All-from_get_or (λ s. is_within g s ≡ true) segments (0, 0) (λ i low. ⊎_elim
      (λ within. within)
      (λ outside. absurd (kept n (bad_segment reached (i, low, get_or_default segments i (get_or segments i (0, 0)) (0, 0) low) outside)))
      (cases_Bool (is_within g (get_or segments i (0, 0)))))

  -- what is in use is within the volume
  pub used_below : (n s : ℕ) → IsReachedOn (disk_of g disk) n → has (used_by (disk_of g disk) n) s ≡ true → s < g.total
  unfolding owns
  used_below n s reached h =
      owned_below g (record { header = header; map = map }) n (file_at disk n) s (number_of_reached g (searchable_bytes (disk_of g disk)) header reached).below (lie_within n reached) h

-- the runs of an owner's sectors, which are within the volume
pub record AreRuns (g : Geometry) (disk : ℕ → List ℕ) (n : ℕ) (runs : List (ℕ × ℕ)) : Type 0 where
  pub sectors : sectors_of runs ≡ used_by (disk_of g disk) n
  pub segments : All IsSegment runs
  pub within : All (λ r. r.0 + r.1 ≤ g.total) runs

pub runs_are : (image : IdentifiedImage) (n : ℕ) (listed runs : List (ℕ × ℕ))
    → ((lsn : ℕ) → Breaks (disk_of (geometry_of image.ident) (sector image.bytes.now)) 1 lsn → ⊥)
    → HasMap (geometry_of image.ident) → IsReachedOn (disk_of (geometry_of image.ident) (sector image.bytes.now)) n
    → sectors_of listed ≡ used_by (disk_of (geometry_of image.ident) (sector image.bytes.now)) n
    → All IsSegment listed → runs ≡ listed → AreRuns (geometry_of image.ident) (sector image.bytes.now) n runs
runs_are image n listed runs kept map reached sectors segments is =
    let g = geometry_of image.ident in
    let disk = sector image.bytes.now in
    let P : List (ℕ × ℕ) → Type 0 = λ rs. AreRuns g disk n rs in
    subst P (sym is) (record {
      sectors = sectors;
      segments = segments;
      within = runs_within listed g.total (λ i d low. (segments i d low).some) (λ s h. used_below g disk (header_of image) kept map n s reached (sym (ap (λ xs. has xs s) sectors) ∙ h));
    })
