-- The directories that a volume shows are those that can be searched.
use Rattle.std.proofs.Common.{◌≡◌, ℕ, true, false, List, [], Some, sym, ◌∙◌, ⊎_elim}
use Rattle.std.specs.List.{list_all}
use Rattle.std.proofs.lemmas.Bool.{cond-true, cond-false, cases_Bool}
use Rattle.std.proofs.lemmas.List.Sums.{list_all-from_AllPass}
use Rattle.rbf_model.specs.Disk.{disk_of}
use Rattle.rbf_model.specs.Fields.{size_field, segments_field}
use Rattle.rbf_model.specs.Geometry.{LieWithin, Geometry, is_within}
use Rattle.rbf_model.specs.File.{file_at, is_directory, is_directory_size, has_room}
use Rattle.rbf_model.specs.Search.{is_searchable, searchable_bytes}
use Rattle.rbf_model.specs.Volume.{listing}
use Rattle.rbf_model.proofs.Lists.{four_pass, first_fails}

-- what a file shows of a directory is what a search finds
pub listing_is : (g : Geometry) (disk : ℕ → List ℕ) (n : ℕ) → LieWithin g (segments_field (disk n))
    → has_room (segments_field (disk n)) (size_field (disk n)) ≡ true
    → (is_directory (file_at disk n) ≡ true → is_directory_size (size_field (disk n)) ≡ true)
    → listing (Some (file_at disk n)) ≡ searchable_bytes (disk_of g disk) n
listing_is g disk n all room size =
    ⊎_elim
    (λ is_dir.
    let every : list_all (is_within g) (segments_field (disk n)) ≡ true = list_all-from_AllPass (is_within g) (segments_field (disk n)) all in
    let searchable : is_searchable (disk_of g disk) n ≡ true = four_pass _ _ _ _ is_dir every room (size is_dir) in
    cond-true (is_directory (file_at disk n)) (file_at disk n).contents [] is_dir ∙ sym (cond-true (is_searchable (disk_of g disk) n) (file_at disk n).contents [] searchable))
    (λ not_dir.
    let unsearchable : is_searchable (disk_of g disk) n ≡ false = first_fails _ _ _ _ not_dir in
    cond-false (is_directory (file_at disk n)) (file_at disk n).contents [] not_dir ∙ sym (cond-false (is_searchable (disk_of g disk) n) (file_at disk n).contents [] unsearchable))
    (cases_Bool (is_directory (file_at disk n)))
