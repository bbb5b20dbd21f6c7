-- A directory that has gained clusters which are lost in the volume: a descriptor with their sectors.
use Rattle.std.proofs.Common.{◌≡◌, ℕ, ◌*◌, ◌/◌, ◌≤◌, Bool, true, false, ◌==◌, ◌||◌, Some, List, [], ◌∷◌, ◌++◌, take, refl, sym, ap, ap₂, ◌∙◌, subst, ⊎_elim, eq-eqb}
use Rattle.std.specs.Prelude.{flat_map, if◌then◌else◌}
use Rattle.std.specs.List.{range_with_len}
use Rattle.std.proofs.lemmas.Bool.{or_left, or_right, both_ways, false_from_ne_true, cases_Bool}
use Rattle.rbf_model.specs.Disk.{disk_of}
use mathlib.Core.Path.{fun_ext}
use Rattle.rbf_model.specs.Fields.{size_field, segments_field}
use Rattle.rbf_model.specs.Geometry.{Geometry, image_geometry, sector, LieWithin}
use Rattle.rbf_model.specs.Segments.{sectors_of, has, AreDistinct}
use Rattle.rbf_model.specs.File.{DiskFile, file_from, file_at, is_directory, has_room}
use Rattle.rbf_model.specs.Space.{is_whole, own_sectors, has_cluster}
use Rattle.rbf_model.specs.Volume.{DiskVolume, Vol, in_file}
use Rattle.rbf_model.specs.Writes.{put_file, with_file, with_lost, lost_after, IsNewDirectory}
use Rattle.rbf_model.specs.Laws.{Describes, IsReady}
use Rattle.rbf_model.proofs.Change.{owned_is, has_cluster_is}
use Rattle.rbf_model.proofs.Growth.{cluster_of_range}
use Rattle.rbf_model.proofs.Owners.{cluster_positive}
use Rattle.rbf_model.proofs.Segments.{has_cases}
use Rattle.rbf_change.specs.Calls.{replaced}
use Rattle.rbf_change.specs.Growth.{uses, with_clusters, Gains}
use Rattle.rbf_write.proofs.Segments.{with_segments, IsSpace, space_with, space_old, lost_apart, used_is, uses_with, used_or_old, old_stays}
use Rattle.rbf_write.proofs.Gained.{cluster_sectors}

-- a sector of clusters
pub in_taken : (k : ℕ) (taken : List ℕ) (s : ℕ) → 1 ≤ k → has (cluster_sectors k taken) s ≡ true → has taken (s / k) ≡ true
in_taken k [] s positive h = h
in_taken k (c ∷ taken) s positive h = ⊎_elim
    (λ here. or_left (c == s / k) (has taken (s / k)) (eq-eqb c (s / k) (sym (cluster_of_range k c s positive here))))
    (λ later. or_right (c == s / k) (has taken (s / k)) (in_taken k taken s positive later))
    (has_cases (range_with_len (c * k) k) (cluster_sectors k taken) s h)

-- a file rests on its own sectors
joined_same : (one other : ℕ → List ℕ) (xs : List ℕ) → ((s : ℕ) → has xs s ≡ true → other s ≡ one s) → flat_map other xs ≡ flat_map one xs
joined_same one other [] same = refl
joined_same one other (x ∷ xs) same =
    ap₂ (λ a b. a ++ b) (same x (or_left (x == x) (has xs x) (eq-eqb x x refl))) (joined_same one other xs (λ s there. same s (or_right (x == s) (has xs s) there)))

module _ (one other : ℕ → List ℕ) (n : ℕ) (same : (s : ℕ) → has (own_sectors n (file_at one n)) s ≡ true → other s ≡ one s) where
  descriptor_same : other n ≡ one n
  descriptor_same = same n (or_left (n == n) (has (sectors_of (file_at one n).segments) n) (eq-eqb n n refl))

  pub file_same : file_at other n ≡ file_at one n
  file_same =
      ap (file_from other) descriptor_same
      ∙ ap (λ b. record (file_from one (one n)) { contents = take (size_field (one n)) b })
      (joined_same one other (sectors_of (segments_field (one n))) (λ s there. same s (or_right (n == s) (has (sectors_of (segments_field (one n))) s) there)))

  -- so it stays ready
  pub ready_same : (g : Geometry) (v w : DiskVolume) (d : ℕ) → ((c : ℕ) → v.lost c ≡ true → w.lost c ≡ true) → IsReady (disk_of g one) v d n → IsReady (disk_of g other) w d n
  ready_same g v w d still ready = record {
    number = ready.number;
    within = subst (λ b. LieWithin g (segments_field b)) (sym descriptor_same) ready.within;
    distinct = subst (λ f. AreDistinct (own_sectors n f)) (sym file_same) ready.distinct;
    room = subst (λ b. has_room (segments_field b) (size_field b) ≡ true) (sym descriptor_same) ready.room;
    clusters = λ c h. still c (ready.clusters c (subst (λ f. has_cluster g n f c ≡ true) file_same h));
    made = λ h. subst (λ f. IsNewDirectory f.contents n d) (sym file_same) (ready.made (subst (λ f. is_directory f ≡ true) file_same h));
  }

-- the clusters that are lost when a file has another in its place with all its clusters
lost_of : (in_new in_old whole lost was : Bool) → (in_new ≡ true → was ≡ false)
    → (in_new ≡ false → (in_old ≡ false) × (lost ≡ was)) → (if in_new then false else (if in_old then whole else lost)) ≡ was
lost_of true in_old whole lost was new other = sym (new refl)
lost_of false true whole lost was new other = absurd (both_ways true (other refl).0 refl)
lost_of false false whole lost was new other = (other refl).1

or_rest : (x y : Bool) → y ≡ false → (x || y) ≡ true → x ≡ true
or_rest true y none h = refl
or_rest false y none h = absurd (both_ways y none h)

or_none : (t : Bool) → (t || false) ≡ t
or_none true = refl
or_none false = refl

module _ (image : List ℕ) (v : DiskVolume) (lost : ℕ → Bool) (taken : List ℕ) (vol : Vol image (with_lost v lost))
    (lost_is : (c : ℕ) → lost c ≡ (v.lost c || has taken c)) (not_lost : (c : ℕ) → has taken c ≡ true → v.lost c ≡ false)
    (n : ℕ) (old : DiskFile) (is : v.files n ≡ Some old) (free : ℕ → Bool) (gained : Gains (image_geometry image).cluster free old.segments taken)
    (bytes : List ℕ) (list : segments_field bytes ≡ with_clusters (image_geometry image).cluster old.segments taken) (room : has_room (segments_field bytes) (size_field bytes) ≡ true) where
  abbrev g : Geometry
  g = image_geometry image

  abbrev u : DiskVolume
  u = with_lost v lost

  abbrev new : DiskFile
  new = file_from (sector image) bytes

  abbrev longer : DiskFile
  longer = with_segments old (with_clusters g.cluster old.segments taken)

  taken_lost : (c : ℕ) → has taken c ≡ true → lost c ≡ true
  taken_lost c h = lost_is c ∙ or_right (v.lost c) (has taken c) h

  space : IsSpace g (sector image) u vol.sound n old is (with_clusters g.cluster old.segments taken)
  space = space_with g (sector image) u vol.sound n old is free old.segments taken gained taken_lost (space_old g (sector image) u vol.sound n old is)

  pub describes : Describes (disk_of g (sector image)) u n old bytes
  describes = record {
    is = is;
    within = subst (LieWithin g) (sym list) space.within;
    distinct = subst AreDistinct (sym (owned_is g n new longer list)) space.distinct;
    room = room;
    clusters = λ c h. space.clusters c (sym (has_cluster_is g n new longer c list) ∙ h);
  }

  positive : 1 ≤ g.cluster
  positive = cluster_positive g.cluster vol.sound.shape.header.clusters

  in_old : (c : ℕ) → has taken c ≡ false → has_cluster g n longer c ≡ true → has_cluster g n old c ≡ true
  in_old c none h = ⊎_elim
      (λ own. own)
      (λ used.
      used_is g (sector image) u vol.sound n old is old.segments c
      (or_rest (uses g.cluster old.segments c) (has taken c) none (sym (uses_with g.cluster old.segments taken c positive) ∙ used)))
      (used_or_old g (sector image) u vol.sound n old is (with_clusters g.cluster old.segments taken) c h)

  new_not_lost : (c : ℕ) → has_cluster g n new c ≡ true → v.lost c ≡ false
  new_not_lost c h = false_from_ne_true (v.lost c) (λ was.
      let now : lost c ≡ true = lost_is c ∙ or_left (v.lost c) (has taken c) was in
      ⊎_elim
      (λ gone. ⊎_elim
      (λ has_it. both_ways (v.lost c) (not_lost c has_it) was)
      (λ none. both_ways (has_cluster g n old c) (lost_apart g (sector image) u vol.sound n old is c now) (in_old c none (sym (has_cluster_is g n new longer c list) ∙ h)))
      (cases_Bool (has taken c)))
      (λ own. both_ways (has_cluster g n old c) (lost_apart g (sector image) u vol.sound n old is c now) own)
      (space.clusters c (sym (has_cluster_is g n new longer c list) ∙ h)))

  old_in_new : (c : ℕ) → has_cluster g n new c ≡ false → has_cluster g n old c ≡ false
  old_in_new c none = false_from_ne_true (has_cluster g n old c) (λ own. both_ways (has_cluster g n new c) none
      (has_cluster_is g n new longer c list
      ∙ old_stays g (sector image) u vol.sound n old is (with_clusters g.cluster old.segments taken)
      (λ d used. uses_with g.cluster old.segments taken d positive ∙ or_left (uses g.cluster old.segments d) (has taken d) used) c own))

  taken_in_new : (c : ℕ) → has_cluster g n new c ≡ false → has taken c ≡ false
  taken_in_new c none = false_from_ne_true (has taken c) (λ h. both_ways (has_cluster g n new c) none
      (has_cluster_is g n new longer c list
      ∙ used_is g (sector image) u vol.sound n old is (with_clusters g.cluster old.segments taken) c
      (uses_with g.cluster old.segments taken c positive ∙ or_right (uses g.cluster old.segments c) (has taken c) h)))

  pub lost_then : (c : ℕ) → lost_after g u.files u.lost n (Some new) c ≡ v.lost c
  lost_then c =
      ap (λ o. if has_cluster g n new c then false else (if in_file g n o c then is_whole g c else lost c)) is
      ∙ lost_of (has_cluster g n new c) (has_cluster g n old c) (is_whole g c) (lost c) (v.lost c) (new_not_lost c)
      (λ none. (old_in_new c none, lost_is c ∙ ap (λ t. v.lost c || t) (taken_in_new c none) ∙ or_none (v.lost c)))

  -- the volume with that descriptor: no cluster is lost besides
  pub with_longer : with_file g u n (Some new) ≡ replaced v n (Some new)
  with_longer = ap (λ l. record { ident = v.ident; files = put_file v.files n (Some new); lost = l; rest = v.rest }) (fun_ext lost_then)
