-- A file that is cut by a write of its descriptor.
use Rattle.std.proofs.Common.{◌≡◌, ℕ, ◌+◌, ◌-◌, ◌*◌, ◌<◌, ◌≤◌, min, true, false, ◌==◌, Some, List, [], ◌∷◌, ◌++◌, length, take, drop, refl, sym, ap, ◌∙◌, subst, inr, ⊎_elim, arith, length-append, length-take, leb-true, le-leb}
use Rattle.std.specs.Prelude.{if◌then◌else◌, flat_map}
use Rattle.std.specs.Int.{bit_at}
use Rattle.std.proofs.Math.Nat.{mul-le-mul_left}
use Rattle.std.proofs.lemmas.Bool.{and_parts, and_from, both_ways, cases_Bool}
use Rattle.std.proofs.lemmas.List.{take-append-le, take-append-drop, take_all}
use Rattle.std.proofs.lemmas.List.Elements.{All-head, All-tail, All-cons, All-nil}
use Rattle.rbf_model.specs.Disk.{disk_of}
use Rattle.rbf_model.specs.Fields.{segments_field, size_field}
use Rattle.rbf_model.specs.Geometry.{Geometry, image_geometry, sector, is_within, LieWithin}
use Rattle.rbf_model.specs.Segments.{sectors_of, shortened_segments, has, AreDistinct}
use Rattle.rbf_model.specs.File.{DiskFile, file_from, is_directory, has_room, segment_bytes}
use Rattle.rbf_model.specs.Space.{owned, has_cluster}
use Rattle.rbf_model.specs.Volume.{DiskVolume, Vol}
use Rattle.rbf_model.specs.Writes.{put_sector, with_file}
use Rattle.rbf_model.specs.Laws.{Redescribes}
use Rattle.rbf_model.proofs.Growth.{distinct_front, owned_more, cluster_kept, shorter_contents}
use Rattle.rbf_model.proofs.ImageLaws.{describe_image}
use Rattle.rbf_model.proofs.Images.{length-sector}
use Rattle.rbf_model.proofs.Segments.{has_left, length-joined, sectors_within}
use Rattle.rbf_segs.proofs.Runs.{sectors_of-shortened}
use Rattle.rbf_change.specs.Contents.{sector_count}
use Rattle.rbf_change.specs.Cut.{kept_count, cut_file}
use Rattle.rbf_access.specs.Reading.{IsFdOf}
use Rattle.rbf_access.proofs.ReadFile.{contents_are, room_for}
use Rattle.rbf_write.specs.Changed.{HasFields}
use Rattle.rbf_write.proofs.Redated.{same_file}
use Rattle.rbf_sector.specs.declared.fd.Fd.{Fd}

-- the first sectors of a list that lies within a volume
pub within_shortened : (g : Geometry) (m : ℕ) (runs : List (ℕ × ℕ)) → LieWithin g runs → LieWithin g (shortened_segments m runs)
within_shortened g m [] all = all
within_shortened g m (run ∷ runs) all = ⊎_elim
    (λ none. subst (λ t. LieWithin g (if t then [] else (run.0, min m run.1) ∷ shortened_segments (m - run.1) runs)) (sym none) (All-nil (λ s. is_within g s ≡ true)))
    (λ some. subst (λ t. LieWithin g (if t then [] else (run.0, min m run.1) ∷ shortened_segments (m - run.1) runs)) (sym some)
    (let first = and_parts _ _ (All-head (λ s. is_within g s ≡ true) run runs all) in
    let high : run.0 + run.1 ≤ g.total = leb-true (run.0 + run.1) g.total first.1 in
    All-cons (λ s. is_within g s ≡ true) (run.0, min m run.1) (shortened_segments (m - run.1) runs)
    (and_from _ _ first.0 (le-leb (run.0 + min m run.1) g.total (omega arith)))
    (within_shortened g (m - run.1) runs (All-tail (λ s. is_within g s ≡ true) run runs all))))
    (cases_Bool (m == 0))

module _ (image : List ℕ) (v : DiskVolume) (vol : Vol image v) (n : ℕ) (old : DiskFile) (is : v.files n ≡ Some old)
    (not_directory : is_directory old ≡ false) (k size : ℕ) (minute : List ℕ) (shorter : size < length old.contents)
    (fd : Fd) (says : IsFdOf old fd) (bytes : List ℕ) (whole : length bytes ≡ 256)
    (fields : HasFields (record fd {
      size = size;
      modified = minute;
      segs = shortened_segments (kept_count k n old size) old.segments;
    }) bytes)
    (list : segments_field bytes ≡ shortened_segments (kept_count k n old size) old.segments) where
  abbrev g : Geometry
  g = image_geometry image

  abbrev disk : ℕ → List ℕ
  disk = sector image

  abbrev xs : List ℕ
  xs = sectors_of old.segments

  abbrev kept : ℕ
  kept = kept_count k n old size

  abbrev new : DiskFile
  new = cut_file k n old size minute

  sectors_new : sectors_of new.segments ≡ take kept xs
  sectors_new = sectors_of-shortened kept old.segments

  split : xs ≡ take kept xs ++ drop kept xs
  split = sym (take-append-drop kept xs)

  fewer : (s : ℕ) → has (sectors_of new.segments) s ≡ true → has xs s ≡ true
  fewer s h = subst (λ ys. has ys s ≡ true) (take-append-drop kept xs) (has_left (take kept xs) (drop kept xs) s (subst (λ ys. has ys s ≡ true) sectors_new h))

  room_old : length old.contents ≤ 256 * length xs
  room_old = room_for (Some image) v (record { image = image; is = refl; vol = vol }) n old is

  enough : sector_count size ≤ length (take kept xs)
  enough =
      let there = room_old in
      let l = length-take kept xs in
      omega arith

  full : (s : ℕ) → has xs s ≡ true → length (disk s) ≡ 256
  full s h =
      let b = sectors_within g old.segments (vol.sound.mapped.within n old is) s h in
      let all = vol.header.fits in
      let more : 256 * (s + 1) ≤ 256 * g.total = mul-le-mul_left 256 (let low = b.1 in omega arith) in
      length-sector image s (omega arith)

  contents_new : take size (segment_bytes disk new.segments) ≡ take size old.contents
  contents_new =
      let joined : length (flat_map disk (take kept xs)) ≡ 256 * length (take kept xs) =
      length-joined disk (take kept xs) (λ s h. full s (subst (λ ys. has ys s ≡ true) (take-append-drop kept xs) (has_left (take kept xs) (drop kept xs) s h))) in
      let there = enough in
      ap (λ ys. take size (flat_map disk ys)) sectors_new
      ∙ shorter_contents disk (take kept xs) (drop kept xs) (length old.contents) size (omega arith) (omega arith)
      ∙ ap (λ ys. take size (take (length old.contents) (flat_map disk ys))) (take-append-drop kept xs)
      ∙ ap (take size) (sym (contents_are (Some image) v (record { image = image; is = refl; vol = vol }) n old is))

  new_file : file_from disk bytes ≡ new
  new_file = same_file (file_from disk bytes) new
      (fields.attributes_are ∙ says.attributes_are)
      (fields.owner_is ∙ says.owner_is)
      fields.modified_is
      (fields.links_are ∙ says.links_are)
      (fields.created_is ∙ says.created_is)
      list
      (ap (λ s. take s (segment_bytes disk (segments_field bytes))) fields.size_is ∙ ap (λ ys. take size (segment_bytes disk ys)) list ∙ contents_new)

  owned_old : owned g n old ≡ owned g n new ++ drop kept xs
  owned_old = owned_more g n new old (drop kept xs) (split ∙ ap (λ ys. ys ++ drop kept xs) (sym sectors_new))

  distinct_new : AreDistinct (owned g n new)
  distinct_new =
      let whole_list : AreDistinct (owned g n new ++ drop kept xs) = subst AreDistinct owned_old (vol.sound.mapped.once n old is) in
      let front : take (length (owned g n new)) (owned g n new ++ drop kept xs) ≡ owned g n new =
      take-append-le (length (owned g n new)) (owned g n new) (drop kept xs) (omega arith) ∙ take_all (length (owned g n new)) (owned g n new) (omega arith) in
      subst AreDistinct front (distinct_front (owned g n new ++ drop kept xs) (length (owned g n new)) (let all = length-append (owned g n new) (drop kept xs) in omega arith) whole_list)

  pub new_in_old : (c : ℕ) → has_cluster g n new c ≡ true → has_cluster g n old c ≡ true
  new_in_old c h = cluster_kept g n old new c fewer h

  law : Redescribes (disk_of g disk) v n old bytes
  law = record {
    describes = record {
      is = is;
      within = subst (LieWithin g) (sym list) (within_shortened g kept old.segments (vol.sound.mapped.within n old is));
      distinct = subst (λ f. AreDistinct (owned g n f)) (sym new_file) distinct_new;
      room = ap (λ ys. has_room ys (size_field bytes)) list ∙ ap (has_room new.segments) fields.size_is
          ∙ le-leb size (256 * length (sectors_of new.segments)) (let there = enough in let same = ap length sectors_new in omega arith);
      clusters = λ c h. inr (new_in_old c (subst (λ f. has_cluster g n f c ≡ true) new_file h));
    };
    kind = ap (λ a. bit_at a 7 == 1) (fields.attributes_are ∙ says.attributes_are);
    directory = λ h. absurd (both_ways (is_directory old) not_directory h);
  }

  -- the volume then: its file has been cut, and the whole clusters that it gave up are lost
  pub cut_volume : Vol (put_sector image n bytes) (with_file g v n (Some new))
  cut_volume = subst (λ f. Vol (put_sector image n bytes) (with_file g v n (Some f))) new_file (describe_image image v vol n old bytes whole law)
