-- What a survey says of the volume of its image.
use Rattle.std.proofs.Common.{◌≡◌, ◌≢◌, ◌⊎◌, ℕ, ◌+◌, ◌*◌, ◌&&◌, not, ◌<◌, ◌≤◌, true, List, All, length, get_or, drop, Option, Some, None, refl, sym, ap, ◌∙◌, subst, inl, inr, ⊎_elim, arith, leb-true}
use Rattle.std.specs.Prelude.{filter}
use Rattle.std.specs.Int.{div_ceil}
use Rattle.std.specs.List.{range_with_len}
use Rattle.std.proofs.lemmas.Bool.{cond-true, cond-false, false_from_ne_true, and_parts}
use Rattle.rbf_model.specs.Disk.{disk_of, IsDisk}
use Rattle.rbf_model.specs.Fields.{directory_entry, entry_name_field, segments_field}
use Rattle.rbf_model.specs.Geometry.{Geometry, IsHeader, IsNumber, LieWithin, is_within, image_geometry, sector}
use Rattle.rbf_model.specs.Segments.{has}
use Rattle.rbf_model.specs.File.{file_at}
use Rattle.rbf_model.specs.Space.{is_whole, is_marked, cluster_count}
use Rattle.rbf_model.specs.Tree.{ReachedFile, EntryNames, Links}
use Rattle.rbf_model.specs.Tree.ReachedFile.{root, named}
use Rattle.rbf_model.specs.Volume.{Sound, directories, free_clusters}
use Rattle.rbf_model.specs.Search.{IsReachedOn, searchable_bytes}
use Rattle.rbf_model.proofs.Lists.{some_is}
use Rattle.rbf_model.proofs.Free.{free_clusters_are}
use Rattle.rbf_model.proofs.Owners.{cluster_positive}
use Rattle.rbf_model.proofs.Keeps.{searched_is}
use Rattle.rbf_model.proofs.Built.{sound_from_keeps}
use Rattle.rbf_sector_rules.specs.declared.links.Link.{Link}
use Rattle.rbf_check.specs.declared.survey.Survey.{Survey}
use Rattle.rbf_sector_rules.specs.Files.{found_numbers}
use Rattle.rbf_sector.specs.Ident.{geometry_of}
use Rattle.rbf_check.specs.Survey.{IsSurvey}
use Rattle.rbf_sector_rules.proofs.Headers.{header_of, is_disk_of}
use Rattle.rbf_sector_rules.proofs.FoundNumbers.{number_reached}
use Rattle.rbf_check.proofs.Counted.{ceil_is}
use Rattle.rbf_check.specs.Places.{AreLinkPlaces}
use Rattle.rbf_check.specs.VolumeNodes.{volume_from}
use Rattle.rbf_check.specs.Tree.{IsPlaced}
use Rattle.rbf_check.specs.Tree.IsPlaced.{named as in_directory}

-- what is reached is the root or is named by a link
reached_cases : (g : Geometry) (dirs : ℕ → List ℕ) (n : ℕ) → ReachedFile g dirs n → (n ≡ g.root) ⊎ ((d : ℕ) × (i : ℕ) × Links g dirs d i n × IsNumber g n)
reached_cases g dirs n root = inl refl
reached_cases g dirs n (named {d = d} {i = i} from names number) = inr (d, i, record { from = from; names = names }, number)

module _ (survey : Survey) (is : IsSurvey survey) where
  pub header_is : IsHeader (geometry_of survey.image.ident)
  header_is = header_of survey.image

  pub disk_is : IsDisk (disk_of (geometry_of survey.image.ident) (sector survey.image.bytes.now))
  disk_is = is_disk_of survey.image

  total_is : (image_geometry survey.image.bytes.now).total ≡ survey.image.ident.total
  total_is = ap (λ (g : Geometry). g.total) survey.image.identified.geometry

  -- a descriptor that is reached and its segments are in the image
  pub reached_below : (n : ℕ) → IsReachedOn (disk_of (geometry_of survey.image.ident) (sector survey.image.bytes.now)) n → n < survey.image.ident.total
  reached_below n reached = (number_reached survey.image n reached).below

  pub descriptor_fits : (n : ℕ) → n < survey.image.ident.total → 256 * (n + 1) ≤ length survey.image.bytes.now
  descriptor_fits n below = omega (arith, survey.image.identified.header.fits, total_is)

  pub segments_below : (n : ℕ) (segments : List (ℕ × ℕ)) → IsReachedOn (disk_of (geometry_of survey.image.ident)
      (sector survey.image.bytes.now)) n → segments ≡ segments_field (sector survey.image.bytes.now n)
      → All (λ segment. segment.0 + segment.1 ≤ survey.image.ident.total) segments
  segments_below n segments reached same k d low =
      let segment = get_or segments k d in
      let within : is_within (geometry_of survey.image.ident) segment ≡ true =
      subst (λ xs. LieWithin (geometry_of survey.image.ident) xs) (sym same) (is.kept.segments n reached) k d low in
      leb-true (segment.0 + segment.1) survey.image.ident.total (and_parts _ _ within).1

  pub segments_fit : (n : ℕ) → IsReachedOn (disk_of (geometry_of survey.image.ident) (sector survey.image.bytes.now))
      n → All (λ segment. 256 * (segment.0 + segment.1) ≤ length survey.image.bytes.now)
      (segments_field (sector survey.image.bytes.now n))
  segments_fit n reached k d low =
      omega (arith, segments_below n (segments_field (sector survey.image.bytes.now n)) reached refl k d low, survey.image.identified.header.fits, total_is)

  -- the image stands for the volume
  pub sound_is : Sound (disk_of (geometry_of survey.image.ident) (sector survey.image.bytes.now)) (volume_from survey)
  sound_is =
      sound_from_keeps (geometry_of survey.image.ident) (sector survey.image.bytes.now) header_is disk_is is.kept
      (found_numbers survey.files.items) is.files.found (drop (256 * survey.image.ident.total)
      survey.image.bytes.now)

  -- whose free clusters are counted in the map
  pub free_clusters_is : free_clusters (geometry_of survey.image.ident) (volume_from survey)
      ≡ filter (λ c. is_whole (geometry_of survey.image.ident) c && not (is_marked (sector survey.image.bytes.now) c)) (range_with_len 0 (cluster_count (geometry_of survey.image.ident)))
  free_clusters_is = free_clusters_are (geometry_of survey.image.ident) (sector survey.image.bytes.now) (volume_from survey) sound_is

  pub clusters_are : (clusters k : ℕ) → k ≡ survey.image.ident.cluster → clusters ≡ div_ceil survey.image.ident.total k → clusters ≡ cluster_count (geometry_of survey.image.ident)
  clusters_are clusters k sized is =
      is ∙ ap (div_ceil survey.image.ident.total) sized ∙ sym (ceil_is survey.image.ident.total survey.image.ident.cluster (cluster_positive survey.image.ident.cluster header_is.clusters))

  -- which has a file for each descriptor that is reached, and no other
  pub file_is : (n : ℕ) → IsReachedOn (disk_of (geometry_of survey.image.ident) (sector survey.image.bytes.now)) n → (volume_from survey).files n ≡ Some (file_at (sector survey.image.bytes.now) n)
  file_is n reached = cond-true (has (found_numbers survey.files.items) n) (Some (file_at (sector survey.image.bytes.now) n)) None ((is.files.found n).1 reached)

  pub no_file : (n : ℕ) → (IsReachedOn (disk_of (geometry_of survey.image.ident) (sector survey.image.bytes.now)) n → ⊥) → (volume_from survey).files n ≡ None
  no_file n never =
      cond-false (has (found_numbers survey.files.items) n) (Some (file_at (sector survey.image.bytes.now) n)) None
      (false_from_ne_true (has (found_numbers survey.files.items) n)
      (λ found. never ((is.files.found n).0 found)))

  pub root_file : (n : ℕ) → n ≡ survey.image.ident.root → (volume_from survey).files n ≡ Some (file_at (sector survey.image.bytes.now) n)
  root_file n same =
      file_is n (subst (λ m. IsReachedOn (disk_of (geometry_of survey.image.ident) (sector survey.image.bytes.now)) m) (sym same) root)

  -- a directory of the volume is what a search finds
  directory_is : (d : ℕ) → IsReachedOn (disk_of (geometry_of survey.image.ident) (sector survey.image.bytes.now)) d
      → directories (volume_from survey).files d ≡ searchable_bytes (disk_of (geometry_of survey.image.ident)
      (sector survey.image.bytes.now)) d
  directory_is d reached =
      searched_is (geometry_of survey.image.ident) (sector survey.image.bytes.now) (volume_from survey) sound_is d
      (some_is ((volume_from survey).files d) (file_at (sector survey.image.bytes.now) d) (file_is d reached))

  module _ (places : List (Option Link)) (are : AreLinkPlaces survey.links.items survey.image.ident.total places) (n : ℕ) where
    -- a number that no place is kept for is no file's
    pub no_place : n ≢ survey.image.ident.root → get_or places n None ≡ None → (volume_from survey).files n ≡ None
    no_place other none = no_file n (λ reached. ⊎_elim
        (λ is_root. other is_root)
        (λ link. are.there (record { directory = link.0; entry = link.1; descriptor = n }) (is.links.all link.0 link.1 n link.2 link.3) none)
        (reached_cases (geometry_of survey.image.ident) (searchable_bytes (disk_of (geometry_of survey.image.ident) (sector survey.image.bytes.now))) n reached))

    module _ (link : Link) (there : get_or places n None ≡ Some link) where
      -- and a link that is kept is one of the image's
      pub link_is : Links (geometry_of survey.image.ident) (searchable_bytes (disk_of (geometry_of survey.image.ident) (sector survey.image.bytes.now))) link.directory link.entry link.descriptor
      link_is = (is.links.each link (are.each n link there).0).0

      named_is : EntryNames (searchable_bytes (disk_of (geometry_of survey.image.ident) (sector survey.image.bytes.now)) link.directory) link.entry n
      named_is =
          subst (λ m. EntryNames (searchable_bytes (disk_of (geometry_of survey.image.ident) (sector survey.image.bytes.now)) link.directory) link.entry m) (are.each n link there).1 link_is.names

      pub linked_file : (volume_from survey).files n ≡ Some (file_at (sector survey.image.bytes.now) n)
      linked_file =
          file_is n (named link_is.from named_is (subst (λ m. IsNumber (geometry_of survey.image.ident) m) (are.each n link there).1 (is.links.each link (are.each n link there).0).1))

      pub linked_place : (name : List ℕ)
          → entry_name_field (directory_entry (searchable_bytes (disk_of (geometry_of survey.image.ident)
          (sector survey.image.bytes.now)) link.directory) link.entry) ≡ Some name
          → IsPlaced (geometry_of survey.image.ident) (volume_from survey) n link.directory name
      linked_place name spelled =
          let same = directory_is link.directory link_is.from in
          in_directory (subst (λ c. EntryNames c link.entry n) (sym same) named_is) (subst (λ c. entry_name_field (directory_entry c link.entry) ≡ Some name) (sym same) spelled)
