-- Writes of descriptors.
use Rattle.std.proofs.Common.{◌≡◌, ◌≢◌, ℕ, ◌<◌, ◌==◌, true, List, length, take, Some, refl, sym, ap, ◌∙◌, subst, inl, inr, ⊎_elim, arith, eq-eqb}
use Rattle.std.proofs.lemmas.Bool.{false_from_ne_true, or_left, cases_Bool}
use Rattle.std.proofs.lemmas.Option.{same_Some}
use Rattle.rbf_model.specs.Disk.{disk_of}
use Rattle.rbf_model.specs.Fields.{size_field, segments_field}
use Rattle.rbf_model.specs.Geometry.{Geometry, LieWithin, map_sectors}
use Rattle.rbf_model.specs.Segments.{has, sectors_of, AreDistinct}
use Rattle.rbf_model.specs.File.{DiskFile, file_from, file_at, segment_bytes, has_room, is_directory}
use Rattle.rbf_model.specs.Space.{is_marked, own_sectors, owned, IsMapped}
use Rattle.rbf_model.specs.Volume.{DiskVolume, Sound, IsTree, listing}
use Rattle.rbf_model.specs.Writes.{put, put_file, lost_after, with_file}
use Rattle.rbf_model.specs.Laws.{Describes, Redescribes}
use Rattle.rbf_model.proofs.Keeps.{size_is}
use Rattle.rbf_model.proofs.Free.{in_file_at, number_below}
use Rattle.rbf_model.proofs.Change.{put_file_cases, mapped_after}
use Rattle.rbf_model.proofs.Entries.{listing_directory, listing_file}
use Rattle.rbf_model.proofs.Kept.{tree_kept}
use Rattle.rbf_model.proofs.Bytes.{put_here, file_from_beside, distinct_first}
use Rattle.rbf_model.proofs.Owners.{own_after, own_apart, marks_stay, mapped_by_marks}
use Rattle.rbf_model.proofs.Shown.{IsShown, disk_put, shown_beside, ident_beside}
use Rattle.rbf_model.proofs.Data.{own_distinct}

module _ (g : Geometry) (disk : ℕ → List ℕ) (v : DiskVolume) (sound : Sound (disk_of g disk) v) (n : ℕ) (old : DiskFile) (bytes : List ℕ) (whole : length bytes ≡ 256)
    (describes : Describes (disk_of g disk) v n old bytes) where
  own_descriptor : has (own_sectors n old) n ≡ true
  own_descriptor = or_left (n == n) (has (sectors_of old.segments) n) (eq-eqb n n refl)

  pub past_descriptor : map_sectors g < n
  past_descriptor = own_after g disk v sound n old n describes.is own_descriptor

  -- other files stay
  pub shown_beside_descriptor : (m : ℕ) (other : DiskFile) → m ≢ n → v.files m ≡ Some other → IsShown (put disk n bytes) m other
  shown_beside_descriptor m other differ is =
      shown_beside g disk v sound m other n bytes is
      (false_from_ne_true (has (own_sectors m other) n) (λ own. differ (own_apart g disk v sound m n other old n is describes.is own own_descriptor)))

  -- the new one is as its descriptor says
  pub shown_described : IsShown (put disk n bytes) n (file_from disk bytes)
  shown_described = record {
    same = sym (ap (file_from (put disk n bytes)) (put_here disk n bytes)
        ∙ file_from_beside disk n bytes bytes (distinct_first n (sectors_of (segments_field bytes)) (own_distinct g n (file_from disk bytes) describes.distinct)));
    room = subst (λ d. has_room (segments_field bytes) (size_field d) ≡ true) (sym (put_here disk n bytes)) describes.room;
  }

  pub below_described : (m : ℕ) (other : DiskFile) → put_file v.files n (Some (file_from disk bytes)) m ≡ Some other → m < g.total
  below_described m other is =
      ⊎_elim
      (λ here. subst (λ k. k < g.total) (sym here.0) (number_below g disk v sound n old describes.is))
      (λ there. number_below g disk v sound m other there.1)
      (put_file_cases v.files n (Some (file_from disk bytes)) m other is)

  -- its space
  pub mapped_described : IsMapped g (is_marked (put disk n bytes)) (put_file v.files n (Some (file_from disk bytes))) (lost_after g v.files v.lost n (Some (file_from disk bytes)))
  mapped_described =
      mapped_by_marks g (is_marked disk) (is_marked (put disk n bytes)) (put_file v.files n (Some (file_from disk bytes))) (lost_after g v.files v.lost n (Some (file_from disk bytes)))
      sound.shape below_described (λ c low. marks_stay g disk v sound n bytes c past_descriptor low)
      (mapped_after g (is_marked disk) v.files v.lost sound.mapped n (Some (file_from disk bytes))
      (λ file h. subst (λ f. LieWithin g f.segments) (same_Some (file_from disk bytes) file h) describes.within)
      (λ file h. subst (λ f. AreDistinct (owned g n f)) (same_Some (file_from disk bytes) file h) describes.distinct)
      (λ c h. ⊎_elim (λ lost. inl lost) (λ was. inr (in_file_at g n (v.files n) old c describes.is ∙ was)) (describes.clusters c h)))

  -- the disk stands for the volume, where the tree is one
  pub described_write : IsTree g (put_file v.files n (Some (file_from disk bytes))) → Sound (disk_of g (put disk n bytes)) (with_file g v n (Some (file_from disk bytes)))
  described_write tree = record {
    shape = sound.shape;
    sectors = disk_put g disk n bytes sound.sectors whole;
    shows = record {
      ident = ident_beside g disk v sound n bytes (let past = past_descriptor in omega arith);
      shown = λ m other is. ⊎_elim
          (λ here. sym (same_Some (file_from disk bytes) other here.1) ∙ shown_described.same ∙ ap (file_at (put disk n bytes)) (sym here.0))
          (λ there. (shown_beside_descriptor m other there.0 there.1).same)
          (put_file_cases v.files n (Some (file_from disk bytes)) m other is);
      room = λ m other is. ⊎_elim
          (λ here. subst (λ k. has_room other.segments (size_field (put disk n bytes k)) ≡ true) (sym here.0)
          (subst (λ f. has_room f.segments (size_field (put disk n bytes n)) ≡ true) (same_Some (file_from disk bytes) other here.1) shown_described.room))
          (λ there. (shown_beside_descriptor m other there.0 there.1).room)
          (put_file_cases v.files n (Some (file_from disk bytes)) m other is);
    };
    mapped = mapped_described;
    tree = tree;
  }

-- a file with another descriptor of its kind
pub describe_law : (g : Geometry) (disk : ℕ → List ℕ) (v : DiskVolume) → Sound (disk_of g disk) v → (n : ℕ) (old : DiskFile) (bytes : List ℕ) → length bytes ≡ 256
    → Redescribes (disk_of g disk) v n old bytes → Sound (disk_of g (put disk n bytes)) (with_file g v n (Some (file_from disk bytes)))
describe_law g disk v sound n old bytes whole re =
    described_write g disk v sound n old bytes whole re.describes
    (tree_kept g v.files sound.tree n old (file_from disk bytes) re.describes.is re.kind same)
  where
    is_at : old ≡ file_at disk n
    is_at = sound.shows.shown n old re.describes.is

    contents : is_directory old ≡ true → (file_from disk bytes).contents ≡ old.contents
    contents is_dir =
        let keeps = re.directory is_dir in
        let segments : segments_field bytes ≡ segments_field (disk n) = keeps.0 ∙ ap (λ f. f.segments) is_at in
        let size : size_field bytes ≡ size_field (disk n) = keeps.1 ∙ ap (λ f. length f.contents) is_at ∙ size_is g disk v sound n old re.describes.is in
        ap (λ k. take k (segment_bytes disk (segments_field bytes))) size ∙ ap (λ x. take (size_field (disk n)) (segment_bytes disk x)) segments ∙ sym (ap (λ f. f.contents) is_at)

    same : listing (Some (file_from disk bytes)) ≡ listing (Some old)
    same =
        ⊎_elim
        (λ is_dir. listing_directory (file_from disk bytes) (re.kind ∙ is_dir) ∙ contents is_dir ∙ sym (listing_directory old is_dir))
        (λ not_dir. listing_file (file_from disk bytes) (re.kind ∙ not_dir) ∙ sym (listing_file old not_dir))
        (cases_Bool (is_directory old))
