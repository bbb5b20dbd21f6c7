-- A file's descriptor that is written over, where it may have gained clusters.
use Rattle.std.proofs.Common.{◌≡◌, ℕ, ◌+◌, ◌-◌, ◌*◌, ◌/◌, ◌%◌, ◌≤◌, Bool, true, false, ◌==◌, ◌||◌, Some, List, [], ◌∷◌, ◌++◌, length, refl, sym, ap, ◌∙◌, subst, ⊎_elim, arith, slice_index}
use Rattle.std.specs.Prelude.{if◌then◌else◌}
use Rattle.std.specs.Int.{bit_at}
use Rattle.std.specs.List.{list_any}
use Rattle.std.proofs.lemmas.Bool.{or_left, or_right, both_ways, false_from_ne_true, cases_Bool}
use Rattle.rbf_model.specs.Disk.{disk_of}
use mathlib.Core.Path.{fun_ext}
use Rattle.rbf_model.specs.Fields.{size_field, segments_field}
use Rattle.rbf_model.specs.Geometry.{Geometry, geometry, image_geometry, sector, map_sectors, LieWithin}
use Rattle.rbf_model.specs.Segments.{sectors_of, has, AreDistinct}
use Rattle.rbf_model.specs.File.{DiskFile, file_from, is_directory, has_room}
use Rattle.rbf_model.specs.Space.{is_whole, is_marked, cluster_count, owned, has_cluster, system_sectors}
use Rattle.rbf_model.specs.Volume.{DiskVolume, Vol, in_file}
use Rattle.rbf_model.specs.Writes.{put_sector, put_file, with_lost, lost_after}
use Rattle.rbf_model.specs.Laws.{Redescribes}
use Rattle.rbf_model.proofs.Owners.{cluster_positive}
use Rattle.rbf_model.proofs.ImageLaws.{describe_image}
use Rattle.rbf_change.specs.Agrees.{MountedPart, Agrees}
use Rattle.rbf_change.specs.Calls.{replaced}
use Rattle.rbf_change.specs.Growth.{uses, with_clusters, Gains}
use Rattle.rbf_write.proofs.Segments.{with_segments, IsSpace, space_with, space_old, lost_apart, used_is, uses_with, used_or_old, old_stays}

-- what a file owns is told by its segments
same_owned : (g : Geometry) (n : ℕ) (one other : DiskFile) → one.segments ≡ other.segments → owned g n one ≡ owned g n other
unfolding owned
same_owned g n one other same = ap (λ segments. (if n == g.root then system_sectors g else []) ++ n ∷ sectors_of segments) same

pub same_cluster : (g : Geometry) (n : ℕ) (one other : DiskFile) (c : ℕ) → one.segments ≡ other.segments → has_cluster g n one c ≡ has_cluster g n other c
unfolding has_cluster
same_cluster g n one other c same = ap (list_any (λ t. t / g.cluster == c)) (same_owned g n one other same)

-- the clusters that are lost when a file has another in its place with all its clusters
lost_of : (in_new in_old whole lost was : Bool) → (in_new ≡ true → was ≡ false)
    → (in_new ≡ false → (in_old ≡ false) × (lost ≡ was)) → (if in_new then false else (if in_old then whole else lost)) ≡ was
lost_of true in_old whole lost was new other = sym (new refl)
lost_of false true whole lost was new other = absurd (both_ways true (other refl).0 refl)
lost_of false false whole lost was new other = (other refl).1

module _ (image : List ℕ) (v : DiskVolume) (lost : ℕ → Bool) (taken : List ℕ) (vol : Vol image (with_lost v lost))
    (lost_is : (c : ℕ) → lost c ≡ (v.lost c || has taken c)) (not_lost : (c : ℕ) → has taken c ≡ true → v.lost c ≡ false)
    (n : ℕ) (old : DiskFile) (is : v.files n ≡ Some old) (free : ℕ → Bool) (gained : Gains (image_geometry image).cluster free old.segments taken)
    (bytes : List ℕ) (whole : length bytes ≡ 256) (list : segments_field bytes ≡ with_clusters (image_geometry image).cluster old.segments taken)
    (kind : is_directory (file_from (sector image) bytes) ≡ is_directory old) (room : has_room (segments_field bytes) (size_field bytes) ≡ true)
    (directory : is_directory old ≡ true → (segments_field bytes ≡ old.segments) × (size_field bytes ≡ length old.contents)) where
  abbrev g : Geometry
  g = image_geometry image

  abbrev u : DiskVolume
  u = with_lost v lost

  abbrev new : DiskFile
  new = file_from (sector image) bytes

  abbrev longer : DiskFile
  longer = with_segments old (with_clusters g.cluster old.segments taken)

  taken_lost : (c : ℕ) → has taken c ≡ true → lost c ≡ true
  taken_lost c h = lost_is c ∙ or_right (v.lost c) (has taken c) h

  space : IsSpace g (sector image) u vol.sound n old is (with_clusters g.cluster old.segments taken)
  space = space_with g (sector image) u vol.sound n old is free old.segments taken gained taken_lost (space_old g (sector image) u vol.sound n old is)

  law : Redescribes (disk_of g (sector image)) u n old bytes
  law = record {
    describes = record {
      is = is;
      within = subst (LieWithin g) (sym list) space.within;
      distinct = subst AreDistinct (sym (same_owned g n new longer list)) space.distinct;
      room = room;
      clusters = λ c h. space.clusters c (sym (same_cluster g n new longer c list) ∙ h);
    };
    kind = kind;
    directory = directory;
  }

  -- the clusters that it has and those that are lost then
  positive : 1 ≤ g.cluster
  positive = cluster_positive g.cluster vol.sound.shape.header.clusters

  new_not_lost : (c : ℕ) → has_cluster g n new c ≡ true → v.lost c ≡ false
  new_not_lost c h = false_from_ne_true (v.lost c) (λ was.
      let now : lost c ≡ true = lost_is c ∙ or_left (v.lost c) (has taken c) was in
      ⊎_elim
      (λ gone. ⊎_elim
      (λ has_it. both_ways (v.lost c) (not_lost c has_it) was)
      (λ none. both_ways (has_cluster g n old c) (lost_apart g (sector image) u vol.sound n old is c now) (in_old c none (sym (same_cluster g n new longer c list) ∙ h)))
      (cases_Bool (has taken c)))
      (λ own. both_ways (has_cluster g n old c) (lost_apart g (sector image) u vol.sound n old is c now) own)
      (space.clusters c (sym (same_cluster g n new longer c list) ∙ h)))
    where
      or_rest : (x y : Bool) → y ≡ false → (x || y) ≡ true → x ≡ true
      or_rest true y none h = refl
      or_rest false y none h = absurd (both_ways y none h)

      in_old : (c : ℕ) → has taken c ≡ false → has_cluster g n longer c ≡ true → has_cluster g n old c ≡ true
      in_old c none h = ⊎_elim
          (λ own. own)
          (λ used.
          used_is g (sector image) u vol.sound n old is old.segments c
          (or_rest (uses g.cluster old.segments c) (has taken c) none (sym (uses_with g.cluster old.segments taken c positive) ∙ used)))
          (used_or_old g (sector image) u vol.sound n old is (with_clusters g.cluster old.segments taken) c h)

  old_in_new : (c : ℕ) → has_cluster g n new c ≡ false → has_cluster g n old c ≡ false
  old_in_new c none = false_from_ne_true (has_cluster g n old c) (λ own. both_ways (has_cluster g n new c) none
      (same_cluster g n new longer c list ∙ ⊎_elim
      (λ h. old_stays g (sector image) u vol.sound n old is (with_clusters g.cluster old.segments taken)
      (λ d used. uses_with g.cluster old.segments taken d positive ∙ or_left (uses g.cluster old.segments d) (has taken d) used) c h)
      (λ not_own. absurd (both_ways (has_cluster g n old c) not_own own))
      (cases_Bool (has_cluster g n old c))))

  taken_in_new : (c : ℕ) → has_cluster g n new c ≡ false → has taken c ≡ false
  taken_in_new c none = false_from_ne_true (has taken c) (λ h. both_ways (has_cluster g n new c) none
      (same_cluster g n new longer c list
      ∙ used_is g (sector image) u vol.sound n old is (with_clusters g.cluster old.segments taken) c
      (uses_with g.cluster old.segments taken c positive ∙ or_right (uses g.cluster old.segments c) (has taken c) h)))

  lost_then : (c : ℕ) → lost_after g u.files u.lost n (Some new) c ≡ v.lost c
  lost_then c =
      ap (λ o. if has_cluster g n new c then false else (if in_file g n o c then is_whole g c else lost c)) is
      ∙ lost_of (has_cluster g n new c) (has_cluster g n old c) (is_whole g c) (lost c) (v.lost c) (new_not_lost c)
      (λ none. (old_in_new c none, lost_is c ∙ ap (λ t. v.lost c || t) (taken_in_new c none) ∙ or_none (v.lost c)))
    where
      or_none : (t : Bool) → (t || false) ≡ t
      or_none true = refl
      or_none false = refl

  pub described : Vol (put_sector image n bytes) (replaced v n (Some new))
  described =
      subst (λ l. Vol (put_sector image n bytes) (record { ident = v.ident; files = put_file v.files n (Some new); lost = l; rest = v.rest })) (fun_ext lost_then)
      (describe_image image u vol n old bytes whole law)

-- a volume stays mounted where sector 0 and the map have not changed
pub agrees_beside : (kv : MountedPart) (old now : List ℕ) → Agrees kv old → ((s : ℕ) → s ≤ map_sectors (image_geometry old) → sector now s ≡ sector old s) → Agrees kv now
unfolding is_marked
agrees_beside kv old now agrees same =
    let shape : image_geometry now ≡ image_geometry old = ap geometry (same 0 (omega arith)) in
    let P : Geometry → Type 0 = λ h. (kv.sizes ≡ h) × (kv.map.clusters ≡ cluster_count h) × (kv.map.whole ≡ h.total / h.cluster) × (length kv.map.bytes ≡ 256 * map_sectors h) in
    let there : P (image_geometry now) = subst P (sym shape) (agrees.sizes_are, agrees.map.clusters_are, agrees.map.whole_are, agrees.map.sectors) in
    record {
      sizes_are = there.0;
      map = record {
        clusters_are = there.1;
        whole_are = there.2;
        sectors = there.3;
        marks = λ c low.
            let size = agrees.map.sectors in
            ap (λ b. bit_at (slice_index b (c / 8 % 256)) (7 - c % 8) == 1) (same (1 + c / 8 / 256) (omega arith)) ∙ agrees.map.marks c low;
      };
    }
