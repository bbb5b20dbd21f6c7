-- A new directory that is entered into its parent: what the media represents at each answer.
use Rattle.std.proofs.Common.{◌≡◌, ◌≢◌, ◌==◌, ◌&&◌, ◌||◌, ◌⊎◌, ℕ, zero, suc, ◌+◌, ◌*◌, ◌/◌, ◌%◌, ◌<◌, ◌≤◌, Bool, true, false, not, Option, Some, None, is_some, List, [], ◌∷◌, length, take, get_or, inl, inr, ⊎_elim, refl, sym, ap, ◌∙◌, subst, eqb-true, eq-eqb, lt-ltb, arith}
use Rattle.std.specs.Prelude.{nat_lt, if◌then◌else◌}
use Rattle.std.specs.List.{range_with_len}
use mathlib.Core.Path.{fun_ext}
use Rattle.std.proofs.lemmas.Bool.{and_parts, and_from, both_ways, or_left, or_right, or_cases, false_from_ne_true, false≢true, cond-true, cond-false, le-ltb, ltb-true}
use Rattle.std.proofs.lemmas.List.Sums.{length-filter}
use Rattle.std.proofs.lemmas.Option.{same_Some}
use Rattle.os9_base.specs.declared.registers.TimePacket.{TimePacket}
use Rattle.rbf_model.specs.Disk.{image_disk}
use Rattle.rbf_model.specs.Fields.{descriptor_field}
use Rattle.rbf_model.specs.File.{DiskFile, file_at, is_directory}
use Rattle.rbf_model.specs.Geometry.{Geometry, geometry, image_geometry, sector, map_sectors}
use Rattle.rbf_model.specs.Laws.{IsMapSector, IsReady}
use Rattle.rbf_model.specs.Segments.{has, sectors_of}
use Rattle.rbf_model.specs.Space.{has_cluster, own_sectors as owned_sectors, cluster_count, is_marked, Unused}
use Rattle.rbf_model.specs.Volume.{DiskVolume, is_free}
use Rattle.rbf_model.specs.Walk.{look_up, file_permits}
use Rattle.rbf_model.specs.Writes.{put_file, put_at, with_file, with_lost}
use Rattle.rbf_model.proofs.Change.{put_file_beside}
use Rattle.rbf_model.proofs.Owners.{own_after, own_apart, own_below}
use Rattle.rbf_change.specs.Calls.{shape, cluster_size, free_total, is_free_in, replaced, written_file, WritesFile}
use Rattle.rbf_change.specs.Contents.{sector_count, written}
use Rattle.rbf_change.specs.Faults.{MayLose, EntryEnds}
use Rattle.rbf_change.specs.Growth.{IsChoice, with_clusters, clusters_needed}
use Rattle.rbf_change.specs.Names.{new_entry, entry_place, is_dots, may_change}
use Rattle.rbf_change.specs.NewFiles.{Plan, directory_plan, IsNewFile, file_clusters, free_without, entry_clusters, no_cluster, too_many_runs}
use Rattle.rbf_change.specs.Tidy.{IsNewList, KeepsListEnd, KeepsMapEnd}
use Rattle.rbf_access.specs.Mounted.{RepresentsVolume}
use Rattle.rbf_access.specs.Reading.{IsFdOf}
use Rattle.rbf_change.proofs.LawfulWrites.{shape-image}
use Rattle.rbf_model.proofs.Free.{free_parts}
use Rattle.os9_outer.specs.Drive.{sector_at}
use Rattle.rbf_access.proofs.ReadFile.{room_for}
use Rattle.rbf_model.proofs.Owners.{owns_own}
use Rattle.rbf_model.proofs.Space.{cluster_from_owns}
use Rattle.rbf_entries.specs.NewEntry.{MayEnter, IsEntryWritten, EntryStops, IsAfterMarks, IsUncountedEntry, sector_of_place}
use Rattle.rbf_entries.specs.Entering.{Entering, refusal_of, written_sectors, IsEnteredOn, IsFileOnMedia, EnteringStops, took, entry_calls}
use Rattle.rbf_entries.specs.Rooms.{place_clusters, HasClusterRoom, HasNoSegment}
use Rattle.rbf_entries.proofs.Needs.{needs_entry}
use Rattle.rbf_entries.proofs.Placing.{place_most}
use Rattle.rbf_entries.proofs.Sectors.{entry_no_map, entry_apart, untaken}
use Rattle.rbf_entries.proofs.Choice.{choice_exists, one_needed, one_passes}
use Rattle.rbf_write.proofs.Steps.{few_segments, own_not_free}
use Rattle.rbf_entries.proofs.NewEntries.{may_enter, new_length, new_number}
use Rattle.rbf_entries.specs.Places.{IsNewPlace}
use Rattle.rbf_walk.proofs.Stepping.{same_content}
use Rattle.rbf_write.specs.declared.loaded.Loaded.{Loaded}
use Rattle.rbf_write.specs.Files.{IsDescriptorLoaded}
use Rattle.rbf_write.proofs.Contents.{length-laid}
use Rattle.rbf_entries.specs.Asked.{folder_request}
use Rattle.rbf_entries.specs.FolderMade.{first_sector, ClustersTaken, IsFolderMade, FolderEnds}
use Rattle.rbf_entries.proofs.Last.{split_count, more_count, listed_count, free_left, apart, joined}
use Rattle.rbf_entries.proofs.FolderMaking.{positive_of, past_system}

-- a place of a list
has_place : (xs : List ℕ) (j : ℕ) → j < length xs → has xs (get_or xs j 0) ≡ true
has_place [] j low = absurd (omega arith)
has_place (x ∷ xs) zero low = or_left (x == x) (has xs x) (eq-eqb x x refl)
has_place (x ∷ xs) (suc j) low = or_right (x == get_or xs j 0) (has xs (get_or xs j 0)) (has_place xs j (omega arith))

pub first_taken : (xs : List ℕ) (size : ℕ) → sector_count size ≡ 1 → has xs (get_or xs 0 0) ≡ true → has (take (sector_count size) xs) (get_or xs 0 0) ≡ true
first_taken [] size one h = absurd (false≢true h)
first_taken (x ∷ xs) size one h = subst (λ m. has (take m (x ∷ xs)) x ≡ true) (sym one) (or_left (x == x) false (eq-eqb x x refl))

first_only : (xs : List ℕ) (s : ℕ) → has (take 1 xs) s ≡ true → get_or xs 0 0 ≡ s
first_only [] s h = absurd (false≢true h)
first_only (x ∷ xs) s h = eqb-true x s (or_false (x == s) h)
  where
    or_false : (t : Bool) → (t || false) ≡ true → t ≡ true
    or_false true h = refl
    or_false false h = h

-- bytes that are written lie within the contents then
written_past : (contents bytes : List ℕ) (at : ℕ) → length bytes ≡ 32 → at + 32 ≤ length (written contents at bytes)
written_past contents [] at whole = absurd (omega arith)
written_past contents (b ∷ bytes) at whole = omega (arith, length-laid contents (b ∷ bytes) at)

-- a file's own sector lies in no free cluster
own_not_free_sector : (media : Option (List ℕ)) (v : DiskVolume) → RepresentsVolume media v → (d : ℕ) (dir : DiskFile)
    → v.files d ≡ Some dir → (s : ℕ) → has (owned_sectors d dir) s ≡ true → is_free_in v (s / cluster_size v) ≡ false
own_not_free_sector media v on d dir is s own = false_from_ne_true (is_free_in v (s / cluster_size v)) (λ free.
    let facts =
    free_parts (image_geometry on.image) (sector on.image) v on.vol.sound (s / cluster_size v)
    (subst (λ h. is_free h v (s / cluster_size v) ≡ true) (shape-image on.image v on.vol) free) in
    both_ways (has_cluster (shape v) d dir (s / cluster_size v)) (subst (λ h. Unused h v.files (s / cluster_size v)) (sym (shape-image on.image v on.vol)) facts.2 d dir is)
    (cluster_from_owns (shape v) d dir s (owns_own (shape v) d dir s own)))

pub number_below_all : (media : Option (List ℕ)) (v : DiskVolume) → RepresentsVolume media v → (d : ℕ) (dir : DiskFile) → v.files d ≡ Some dir → d < 16777216
number_below_all media v on d dir is =
    let low = own_below (image_geometry on.image) (sector on.image) v on.vol.sound d dir d is (or_left (d == d) (has (sectors_of dir.segments) d) (eq-eqb d d refl)) in
    let most = on.vol.header.header.most in
    omega arith

-- what two steps keep of the marks behind the clusters
keeps_then : (a b c : List ℕ) → image_geometry b ≡ image_geometry a → KeepsMapEnd a b (λ _. false) → KeepsMapEnd b c (λ _. false) → KeepsMapEnd a c (λ _. false)
keeps_then a b c same one other x behind =
    other x (record {
      not_whole = subst (λ (g : Geometry). g.total / g.cluster ≤ x) (sym same) behind.not_whole;
      in_map = subst (λ (g : Geometry). x < 2048 * map_sectors g) (sym same) behind.in_map;
    }) ∙ ap (λ t. t && not false) (one x behind) ∙ twice (is_marked (sector a) x)
  where
    twice : (t : Bool) → ((t && not false) && not false) ≡ (t && not false)
    twice true = refl
    twice false = refl

and_false : (a b : Bool) → (a ≡ true → b ≡ false) → (a && b) ≡ false
and_false true b none = none refl
and_false false b none = refl

module _ (media : Option (List ℕ)) (v : DiskVolume) (on : RepresentsVolume media v) (d place : ℕ) (dir : DiskFile)
    (dir_is : v.files d ≡ Some dir) (name : List ℕ) (attr user : ℕ) (time : TimePacket)
    (spot : IsNewPlace dir name user false place) where
  abbrev e : Entering
  e = folder_request d name attr user time

  abbrev plan : ℕ → Plan
  plan = directory_plan attr user time d

  abbrev k : ℕ
  k = cluster_size v

  abbrev need : ℕ
  need = file_clusters (cluster_size v) 64

  pub place_is : entry_place dir.contents ≡ place
  place_is = sym spot.absent.free_is

  clusters_are : entry_clusters k dir ≡ place_clusters v dir place
  clusters_are = ap (λ p. clusters_needed k dir.segments (32 * (p + 1))) place_is

  -- no refusal but for want of space
  passes : refusal_of v dir e ≡ (if nat_lt (free_total v) (need + entry_clusters k dir) then Some no_cluster else
      (if nat_lt 0 (entry_clusters k dir) && (length dir.segments == 48) then Some too_many_runs else None))
  passes =
      cond-false (is_dots name) _ _ spot.proper
      ∙ cond-false (not (may_change dir user false)) _ _ (ap not spot.allowed)
      ∙ cond-false (is_some (look_up dir.contents name)) _ _ (ap is_some spot.absent.names_none)

  pub full : free_total v < need + place_clusters v dir place → refusal_of v dir e ≡ Some no_cluster
  full less =
      let same : entry_clusters k dir ≡ place_clusters v dir place = clusters_are in
      passes ∙ cond-true (nat_lt (free_total v) (need + entry_clusters k dir)) _ _ (lt-ltb (free_total v) (need + entry_clusters k dir) (omega arith))

  enough_tests : need + place_clusters v dir place ≤ free_total v → nat_lt (free_total v) (need + entry_clusters k dir) ≡ false
  enough_tests enough =
      let same : entry_clusters k dir ≡ place_clusters v dir place = clusters_are in
      le-ltb (free_total v) (need + entry_clusters k dir) (omega arith)

  pub no_segment : HasNoSegment v dir place need → refusal_of v dir e ≡ Some too_many_runs
  no_segment none =
      let same : entry_clusters k dir ≡ place_clusters v dir place = clusters_are in
      let needs = none.needs in
      passes ∙ cond-false (nat_lt (free_total v) (need + entry_clusters k dir)) _ _ (enough_tests none.enough)
      ∙ cond-true (nat_lt 0 (entry_clusters k dir) && (length dir.segments == 48)) _ _
      (and_from (nat_lt 0 (entry_clusters k dir)) (length dir.segments == 48) (lt-ltb 0 (entry_clusters k dir) (omega arith)) (eq-eqb (length dir.segments) 48 none.full))

  positive : 1 ≤ k
  positive = positive_of media v on

  dir_room : length dir.contents ≤ 256 * length (sectors_of dir.segments)
  dir_room = room_for media v on d dir dir_is

  few_runs : length dir.segments ≤ 48
  few_runs = subst (λ f. length f.segments ≤ 48) (sym (on.vol.sound.shows.shown d dir dir_is)) (few_segments (sector on.image d))

  needs_few : place_clusters v dir place ≤ 1
  needs_few = let most = place_most dir.contents in let at = place_is in let there = dir_room in one_needed k dir.segments place positive (omega arith)

  dir_own : has (owned_sectors d dir) d ≡ true
  dir_own = or_left (d == d) (has (sectors_of dir.segments) d) (eq-eqb d d refl)

  directory : is_directory dir ≡ true
  directory = (and_parts (is_directory dir) (file_permits dir user 1) (and_parts (is_directory dir && file_permits dir user 1) (file_permits dir user 2) spot.allowed).0).0

  module _ (room : HasClusterRoom v dir place need) where
    pub roomy : refusal_of v dir e ≡ None
    roomy =
        let same : entry_clusters k dir ≡ place_clusters v dir place = clusters_are in
        passes ∙ cond-false (nat_lt (free_total v) (need + entry_clusters k dir)) _ _ (enough_tests room.enough)
        ∙ cond-false (nat_lt 0 (entry_clusters k dir) && (length dir.segments == 48)) _ _
        (and_false (nat_lt 0 (entry_clusters k dir)) (length dir.segments == 48)
        (λ needs. false_from_ne_true (length dir.segments == 48) (λ h.
        let most : length dir.segments ≡ 48 = eqb-true (length dir.segments) 48 h in
        let some : 0 < entry_clusters k dir = ltb-true 0 (entry_clusters k dir) needs in
        let few = room.few (let s = some in omega arith) in
        absurd (omega arith))))

    module _ (n : ℕ) (file : DiskFile) (new : IsNewFile k (is_free_in v) n (plan n) file) (takes : ClustersTaken v n file) where
      pub fresh : (c : ℕ) → has_cluster (shape v) n file c ≡ true → is_free_in v c ≡ true
      fresh c h = takes.free c (takes.are c ∙ h)

      abbrev left : DiskVolume
      left = with_lost v (λ c. v.lost c || has_cluster (shape v) n file c)

      abbrev entry : List ℕ
      entry = new_entry name n

      pub left_free : (c : ℕ) → is_free_in left c ≡ free_without (shape v) (is_free_in v) n file c
      left_free = free_left media v on n (plan n) file new fresh

      own_cluster : (s : ℕ) → has (owned_sectors n file) s ≡ true → has_cluster (shape v) n file (s / k) ≡ true
      own_cluster s own = cluster_from_owns (shape v) n file s (owns_own (shape v) n file s own)

      first_own : has (owned_sectors n file) (first_sector file) ≡ true
      first_own = or_right (n == first_sector file) (has (sectors_of file.segments) (first_sector file)) takes.some

      number_own : has (owned_sectors n file) n ≡ true
      number_own = or_left (n == n) (has (sectors_of file.segments) n) (eq-eqb n n refl)

      -- and both are written
      number_written : has (written_sectors n file) n ≡ true
      number_written = or_left (n == n) (has (take (sector_count (length file.contents)) (sectors_of file.segments)) n) (eq-eqb n n refl)

      first_written : has (written_sectors n file) (first_sector file) ≡ true
      first_written =
          let sized : length file.contents ≡ 64 = ap (λ (f : DiskFile). length f.contents) new.is in
          or_right (n == first_sector file) (has (take (sector_count (length file.contents)) (sectors_of file.segments)) (first_sector file))
          (first_taken (sectors_of file.segments) (length file.contents) (ap sector_count sized) takes.some)

      unwritten : (s : ℕ) → has (written_sectors n file) s ≡ false → (s ≢ n) × (s ≢ first_sector file)
      unwritten s none = (
        λ same. both_ways (has (written_sectors n file) s) none (subst (λ x. has (written_sectors n file) x ≡ true) (sym same) number_written),
        λ same. both_ways (has (written_sectors n file) s) none (subst (λ x. has (written_sectors n file) x ≡ true) (sym same) first_written),
      )

      first_was_free : is_free_in v (first_sector file / k) ≡ true
      first_was_free = fresh (first_sector file / k) (own_cluster (first_sector file) first_own)

      number_was_free : is_free_in v (n / k) ≡ true
      number_was_free = fresh (n / k) (own_cluster n number_own)

      -- as many clusters are free as the parent needs
      free_enough : need + place_clusters v dir place ≤ free_total v → place_clusters v dir place ≤ free_total left
      free_enough enough =
          let clusters : List ℕ = range_with_len 0 (cluster_count (shape v)) in
          let before = length-filter (is_free (shape v) v) clusters in
          let after = length-filter (is_free (shape v) left) clusters in
          let split = split_count (is_free (shape v) v) (has takes.clusters) clusters in
          let more = more_count (λ x. is_free (shape v) v x && not (has takes.clusters x)) (is_free (shape v) left)
          (λ x h. left_free x ∙ ap (λ t. is_free_in v x && not t) (sym (takes.are x)) ∙ h) clusters in
          let listed = listed_count takes.clusters 0 (cluster_count (shape v)) in
          let counted = takes.counted in
          omega arith

      pub room_left : HasClusterRoom left dir place 0
      room_left = record { enough = let few = free_enough room.enough in omega arith; few = room.few }

      whole : length entry ≡ 32
      whole = new_length name n spot.named

      needs_written : clusters_needed k dir.segments (length (written dir.contents (32 * place) entry)) ≡ place_clusters v dir place
      needs_written = needs_entry v dir place entry whole dir_room

      -- a cluster that the parent may gain then, if it needs one
      pub some_choice : (gained : List ℕ) × IsChoice k (is_free_in left) dir.segments (length (written dir.contents (32 * place) entry)) gained
      some_choice =
          let same = needs_written in
          let most = needs_few in
          let few = free_enough room.enough in
          choice_exists k (is_free_in left) dir.segments (length (written dir.contents (32 * place) entry)) (omega arith) few_runs (λ one. room.few (omega arith))
          (λ c used. left_free c ∙ ap (λ t. t && not (has_cluster (shape v) n file c)) (own_not_free media v on d dir dir_is c used))
          (λ one. one_passes (is_free_in left) (range_with_len 0 (cluster_count (shape left))) (let some : 1 ≤ free_total left = omega arith in some))

      -- the sector of the entry
      module _ (gained : List ℕ) (choice : IsChoice k (is_free_in left) dir.segments (length (written dir.contents (32 * place) entry)) gained) where
        choice_without : IsChoice k (free_without (shape v) (is_free_in v) n file) dir.segments (length (written dir.contents (32 * place) entry)) gained
        choice_without = subst (λ f. IsChoice k f dir.segments (length (written dir.contents (32 * place) entry)) gained) (fun_ext left_free) choice

        -- no cluster that it gains has been taken where those of the new directory alone have
        ungained : (w : DiskVolume) → MayLose v w (has_cluster (shape v) n file) → (c : ℕ) → has gained c ≡ true → w.lost c ≡ false
        ungained = untaken media v on d place dir dir_is entry whole n file fresh gained choice_without

        entry_away : (s : ℕ) → has (owned_sectors n file) s ≡ true → sector_of_place (with_clusters k dir.segments gained) place ≢ s
        entry_away = entry_apart media v on d place dir dir_is entry whole n file fresh gained choice_without

        entry_not_map : (image : List ℕ) → media ≡ Some image → ¬ IsMapSector (image_geometry image) (sector_of_place (with_clusters k dir.segments gained) place)
        entry_not_map = entry_no_map media v on d place dir dir_is entry whole n file fresh gained choice_without

      -- its descriptor and its first sector are written
      written_two : (s : ℕ) → has (written_sectors n file) s ≡ true → (n ≡ s) ⊎ (first_sector file ≡ s)
      written_two s h =
          let sized : length file.contents ≡ 64 = ap (λ (f : DiskFile). length f.contents) new.is in
          ⊎_elim (λ own. inl (eqb-true n s own)) (λ later. inr (first_only (sectors_of file.segments) s (subst (λ m. has (take m (sectors_of file.segments)) s ≡ true) (ap sector_count sized) later)))
          (or_cases (n == s) (has (take (sector_count (length file.contents)) (sectors_of file.segments)) s) h)

      -- the tree is as it was, and clusters may be lost
      abbrev pub ends_by : (gained : List ℕ) → IsChoice k (is_free_in left) dir.segments (length (written dir.contents (32 * place) entry)) gained
          → (w : DiskVolume) → MayLose v w (λ c. has_cluster (shape v) n file c || has gained c)
          → EntryEnds v w d n name (plan n)
      ends_by gained choice w lose = record {
        both = record {
          old = dir;
          new = written_file dir (32 * entry_place dir.contents) entry time (with_clusters k dir.segments gained);
          file = file;
          is = dir_is;
          made = new;
          entry = record {
            gained = gained;
            choice = subst (λ p. IsChoice k (free_without (shape v) (is_free_in v) n file) dir.segments (length (written dir.contents (32 * p) entry)) gained) (sym place_is)
                (subst (λ f. IsChoice k f dir.segments (length (written dir.contents (32 * place) entry)) gained) (fun_ext left_free) choice);
            file = refl;
          };
        };
        volume = lose;
      }

    -- the directory was not made
    pub unmade : (mid : Option (List ℕ)) → FolderEnds v plan media mid → EnteringStops v dir e media mid
    unmade mid ends =
        let c = some_choice ends.number ends.file ends.chosen ends.takes in
        took (record {
          allowed = roomy;
          image = ends.image;
          now = ends.now;
          was = ends.was;
          is = ends.is;
          left = ends.left;
          vol = ends.vol;
          number = ends.number;
          ends = ends_by ends.number ends.file ends.chosen ends.takes c.0 c.1 ends.left (record {
            same = ends.lose.same;
            still = ends.lose.still;
            only = λ x h. wider (v.lost x) (has_cluster (shape v) ends.number ends.file x) (has c.0 x) (ends.lose.only x h);
          });
          others = λ s none not_own _. ends.others s none (unwritten ends.number ends.file ends.chosen ends.takes s not_own).1;
          marks = λ s h. ⊎_elim
              (λ own. subst (λ t. IsAfterMarks ends.image ends.now t ends.left (has_cluster (shape v) ends.number ends.file)) own (inl ends.undescribed))
              (λ first. subst (λ t. IsAfterMarks ends.image ends.now t ends.left (has_cluster (shape v) ends.number ends.file)) first ends.order)
              (written_two ends.number ends.file ends.chosen ends.takes s h);
          descriptor = inl ends.undescribed;
          growth = λ x gains lost. absurd (both_ways (ends.left.lost x) (ungained ends.number ends.file ends.chosen ends.takes c.0 c.1 ends.left ends.lose x gains) lost);
          entry =
              subst (λ p. (sector ends.now (sector_of_place (with_clusters k dir.segments c.0) p) ≡ sector ends.image
              (sector_of_place (with_clusters k dir.segments c.0) p)) ⊎
              (IsUncountedEntry ends.image ends.now dir (sector_of_place (with_clusters k dir.segments c.0) p) p
              (new_entry name ends.number) × IsFileOnMedia v ends.left ends.now ends.number ends.file c.0)) (sym place_is)
              (inl (ends.others (sector_of_place (with_clusters k dir.segments c.0) place) (entry_not_map ends.number ends.file ends.chosen ends.takes c.0 c.1 ends.image ends.was)
              (entry_away ends.number ends.file ends.chosen ends.takes c.0 c.1 (first_sector ends.file) (first_own ends.number ends.file ends.chosen ends.takes))));
          end = ends.end;
        })
      where
        wider : (l h t : Bool) → (l || h) ≡ true → (l || (h || t)) ≡ true
        wider true h t is = refl
        wider false true t is = refl
        wider false false t is = absurd (cc is)

    -- the directory is on the media
    module _ (mid : Option (List ℕ)) (n : ℕ) (made : IsFolderMade v d n (plan n) media mid) where
      abbrev file : DiskFile
      file = made.made.file

      abbrev lost_left : DiskVolume
      lost_left = with_lost v (λ c. v.lost c || has_cluster (shape v) n file c)

      left_is : made.left ≡ lost_left
      left_is = made.made.volume

      abbrev pub on_mid : RepresentsVolume mid made.left
      on_mid = record { image = made.now; is = made.is; vol = made.vol }

      pub dir_mid : made.left.files d ≡ Some dir
      dir_mid = ap (λ (x : DiskVolume). x.files d) left_is ∙ dir_is

      pub low : n < 16777216
      low =
          let below = made.ready.number.below in
          let most = made.vol.header.header.most in
          omega arith

      number : descriptor_field (new_entry name n) ≡ n
      number = new_number name n spot.named low

      pub may_enter_it : (bytes : List ℕ) → bytes ≡ new_entry name n → MayEnter mid d place bytes
      may_enter_it bytes is = subst (MayEnter mid d place) (sym is) (record {
        content = made.left;
        on = on_mid;
        dir = dir;
        is = dir_mid;
        directory = directory;
        place_is = spot.absent.free_is;
        new = may_enter dir.contents name place n spot.named spot.proper spot.absent.nowhere;
        ready = subst (IsReady (image_disk made.now) made.left d) (sym number) made.ready;
        room = subst (λ x. HasClusterRoom x dir place 0) (sym left_is) (room_left n file made.made.made made.takes);
      })

      pub calls_left : entry_calls made.left dir ≡ entry_calls v dir
      calls_left = ap (λ x. entry_calls x dir) left_is

      number_free : is_free_in v (n / k) ≡ true
      number_free = number_was_free n file made.made.made made.takes

      first_free : is_free_in v (first_sector file / k) ≡ true
      first_free = first_was_free n file made.made.made made.takes

      -- its own sectors alone were written
      kept_used : (s : ℕ) → ¬ IsMapSector (image_geometry made.image) s → is_free_in v (s / k) ≡ false → sector made.now s ≡ sector made.image s
      kept_used s none used = made.writes.others s none
          (λ same. both_ways (is_free_in v (s / k)) used (subst (λ t. is_free_in v (t / k) ≡ true) (sym same) number_free))
          (λ same. both_ways (is_free_in v (s / k)) used (subst (λ t. is_free_in v (t / k) ≡ true) (sym same) first_free))

      zero_kept : sector made.now 0 ≡ sector made.image 0
      zero_kept = kept_used 0 (λ map. let low0 = map.after in absurd (omega arith)) (false_from_ne_true (is_free_in v (0 / k)) (λ h. let past = past_system media v on 0 h in absurd (omega arith)))

      shape_made : image_geometry made.now ≡ image_geometry made.image
      shape_made = ap geometry zero_kept

      no_map : (s : ℕ) → is_free_in v (s / k) ≡ true → ¬ IsMapSector (image_geometry made.now) s
      no_map s free map =
          let past = past_system media v on s free in
          let same : on.image ≡ made.image = same_Some on.image made.image (sym on.is ∙ made.was) in
          let sectors : map_sectors (image_geometry on.image) ≡ map_sectors (image_geometry made.now) = ap (λ x. map_sectors (image_geometry x)) same ∙ sym (ap map_sectors shape_made) in
          let within = map.within in
          absurd (omega arith)

      map_made : (s : ℕ) → ¬ IsMapSector (image_geometry made.image) s → ¬ IsMapSector (image_geometry made.now) s
      map_made s none map = none (subst (λ g. IsMapSector g s) shape_made map)

      -- the parent's descriptor is as it was read
      d_no_map : ¬ IsMapSector (image_geometry made.image) d
      d_no_map map =
          let same : map_sectors (image_geometry on.image) ≡ map_sectors (image_geometry made.image) =
          ap (λ i. map_sectors (image_geometry i)) (same_Some on.image made.image (sym on.is ∙ made.was)) in
          let past = own_after (image_geometry on.image) (sector on.image) v on.vol.sound d dir d dir_is dir_own in
          let within = map.within in
          absurd (omega arith)

      d_used : is_free_in v (d / k) ≡ false
      d_used = own_not_free_sector media v on d dir dir_is d dir_own

      pub read_still : (loaded : Loaded) → IsDescriptorLoaded media d loaded → IsDescriptorLoaded mid d loaded
      read_still loaded read = record {
        number_is = read.number_is;
        bytes_are = read.bytes_are ∙ ap (λ m. sector_at m d) made.was ∙ sym (kept_used d d_no_map d_used) ∙ sym (ap (λ m. sector_at m d) made.is);
        list_is = read.list_is;
        says = λ w f on_w is_w.
            subst (λ x. IsFdOf x loaded.file) (same_Some dir f (sym dir_mid ∙ ap (λ (x : DiskVolume). x.files d) (same_content mid made.left w on_mid on_w) ∙ is_w)) (read.says v dir on dir_is);
      }

      -- the entry was not written
      module _ (new : Option (List ℕ)) (stops : EntryStops made.left dir (record { directory = d; place = place; entry = new_entry name n; now = time }) mid new) where
        stops_image : stops.image ≡ made.now
        stops_image = same_Some stops.image made.now (sym stops.was ∙ made.is)

        stops_choice : IsChoice k (is_free_in lost_left) dir.segments (length (written dir.contents (32 * place) (new_entry name n))) stops.taken
        stops_choice = subst (λ x. IsChoice (cluster_size x) (is_free_in x) dir.segments (length (written dir.contents (32 * place) (new_entry name n))) stops.taken) left_is stops.choice

        stops_others : (s : ℕ) → ¬ IsMapSector (image_geometry made.now) s → s ≢ sector_of_place (with_clusters k dir.segments stops.taken) place → sector stops.now s ≡ sector made.now s
        stops_others = subst (λ i. (s : ℕ) → ¬ IsMapSector (image_geometry i) s → s ≢ sector_of_place (with_clusters k dir.segments stops.taken) place → sector stops.now s ≡ sector i s) stops_image
            (subst (λ x. (s : ℕ) → ¬ IsMapSector (image_geometry stops.image) s → s ≢ sector_of_place
            (with_clusters (cluster_size x) dir.segments stops.taken) place → sector stops.now s ≡ sector stops.image s)
            left_is stops.others)

        abbrev entry_sector : ℕ
        entry_sector = sector_of_place (with_clusters k dir.segments stops.taken) place

        abbrev Ordered : List ℕ → ℕ → Type 0
        Ordered i s = (sector stops.now s ≡ sector i s) ⊎ (IsUncountedEntry i stops.now dir s place (new_entry name n) × ((c : ℕ) → has stops.taken c ≡ true → stops.left.lost c ≡ true))

        stops_order : Ordered made.now entry_sector
        stops_order = subst (λ i. Ordered i entry_sector) stops_image
            (subst (λ x. Ordered stops.image (sector_of_place (with_clusters (cluster_size x) dir.segments stops.taken) place)) left_is stops.order)

        entry_was : sector made.now entry_sector ≡ sector made.image entry_sector
        entry_was = made.writes.others entry_sector (entry_not_map n file made.made.made made.takes stops.taken stops_choice made.image made.was)
            (entry_away n file made.made.made made.takes stops.taken stops_choice n (number_own n file made.made.made made.takes))
            (entry_away n file made.made.made made.takes stops.taken stops_choice (first_sector file) (first_own n file made.made.made made.takes))

        its_lost : (c : ℕ) → has_cluster (shape v) n file c ≡ true → stops.left.lost c ≡ true
        its_lost c h = stops.lose.still c (ap (λ (y : DiskVolume). y.lost c) left_is ∙ or_right (v.lost c) (has_cluster (shape v) n file c) h)

        shown_then : file_at (sector stops.now) n ≡ file
        shown_then = subst (λ m. file_at (sector stops.now) m ≡ file_at (sector stops.image) m) number stops.named ∙ ap (λ i. file_at (sector i) n) stops_image ∙ made.made.shown

        pub unnamed : EnteringStops v dir e media new
        unnamed = took (record {
          allowed = roomy;
          image = made.image;
          now = stops.now;
          was = made.was;
          is = stops.is;
          left = stops.left;
          vol = stops.vol;
          number = n;
          ends = ends_by n file made.made.made made.takes stops.taken stops_choice stops.left (record {
            same = stops.lose.same ∙ ap (λ x. with_lost x stops.left.lost) left_is;
            still = λ x h. stops.lose.still x (ap (λ (y : DiskVolume). y.lost x) left_is ∙ or_left (v.lost x) (has_cluster (shape v) n file x) h);
            only = λ x h. wider (v.lost x) (has_cluster (shape v) n file x) (has stops.taken x) (ap (λ (y : DiskVolume). y.lost x || has stops.taken x) (sym left_is) ∙ stops.lose.only x h);
          });
          others = λ s none not_own away.
              let apart_from = unwritten n file made.made.made made.takes s not_own in
              stops_others s (map_made s none) (λ same. away (same ∙ ap (sector_of_place (with_clusters k dir.segments stops.taken)) (sym place_is)))
              ∙ made.writes.others s none apart_from.0 apart_from.1;
          marks = λ s h. inr its_lost;
          descriptor = inr shown_then;
          growth = λ c gains lost. shown_then;
          entry =
              subst (λ p. (sector stops.now (sector_of_place (with_clusters k dir.segments stops.taken) p) ≡ sector
              made.image (sector_of_place (with_clusters k dir.segments stops.taken) p)) ⊎
              (IsUncountedEntry made.image stops.now dir (sector_of_place (with_clusters k dir.segments stops.taken) p) p
              (new_entry name n) × IsFileOnMedia v stops.left stops.now n file stops.taken)) (sym place_is)
              (⊎_elim
              (λ still. inl (still ∙ entry_was))
              (λ behind. inr (
                record { end = behind.0.end; filled = behind.0.filled ∙ ap (λ b. put_at b (32 * (place % 8)) (new_entry name n)) entry_was },
                record { shown = shown_then; marked = λ c h. ⊎_elim (its_lost c) (behind.1 c) (or_cases (has_cluster (shape v) n file c) (has stops.taken c) h) },
              ))
              stops_order);
          end = keeps_then made.image made.now stops.now shape_made made.writes.end (subst (λ i. KeepsMapEnd i stops.now (λ _. false)) stops_image stops.end);
        })
          where
            wider : (l h t : Bool) → ((l || h) || t) ≡ true → (l || (h || t)) ≡ true
            wider true h t is = refl
            wider false h t is = is

      -- the entry is written
      module _ (new : Option (List ℕ)) (done : IsEntryWritten made.left (record { directory = d; place = place; entry = new_entry name n; now = time }) mid new) where
        done_image : done.image ≡ made.now
        done_image = same_Some done.image made.now (sym done.was ∙ made.is)

        abbrev new_dir : DiskFile
        new_dir = done.put.new

        abbrev entry_now : List ℕ
        entry_now = new_entry name n

        old_is : done.put.old ≡ dir
        old_is = same_Some done.put.old dir (sym done.put.is ∙ dir_mid)

        wrote_left : WritesFile k (is_free_in lost_left) (32 * place) entry_now time dir new_dir
        wrote_left =
            subst (λ o. WritesFile k (is_free_in lost_left) (32 * place) entry_now time o new_dir) old_is
            (subst (λ y. WritesFile (cluster_size y) (is_free_in y) (32 * place) entry_now time done.put.old new_dir) left_is done.put.written)

        wrote : WritesFile k (free_without (shape v) (is_free_in v) n file) (32 * entry_place dir.contents) entry_now time dir new_dir
        wrote =
            subst (λ p. WritesFile k (free_without (shape v) (is_free_in v) n file) (32 * p) entry_now time dir new_dir) (sym place_is)
            (subst (λ f. WritesFile k f (32 * place) entry_now time dir new_dir) (fun_ext (left_free n file made.made.made made.takes)) wrote_left)

        shown_now : file_at (sector done.image) n ≡ file
        shown_now = ap (λ i. file_at (sector i) n) done_image ∙ made.made.shown

        fresh_now : (c : ℕ) → has_cluster (shape v) n file c ≡ true → is_free_in v c ≡ true
        fresh_now = fresh n file made.made.made made.takes

        after_is : done.after ≡ replaced (replaced v d (Some new_dir)) n (Some file)
        after_is =
            done.put.volume
            ∙ ap (λ x. with_file (shape x) (replaced x d (Some new_dir)) (descriptor_field entry_now) (Some (file_at (sector done.image) (descriptor_field entry_now)))) left_is
            ∙ ap (λ m. with_file (shape v) (replaced lost_left d (Some new_dir)) m (Some (file_at (sector done.image) m))) number
            ∙ ap (λ f. with_file (shape v) (replaced lost_left d (Some new_dir)) n (Some f)) shown_now
            ∙ joined media v on n (plan n) file made.made.made fresh_now d dir dir_is new_dir

        other : n ≢ d
        other = apart media v on n (plan n) file made.made.made fresh_now d dir dir_is

        dir_after : done.after.files d ≡ Some new_dir
        dir_after =
            ap (λ (x : DiskVolume). x.files d) after_is
            ∙ put_file_beside (put_file v.files d (Some new_dir)) n (Some file) d (λ same. other (sym same))
            ∙ cond-true (d == d) (Some new_dir) (v.files d) (eq-eqb d d refl)

        file_after : done.after.files n ≡ Some file
        file_after = ap (λ (x : DiskVolume). x.files n) after_is ∙ cond-true (n == n) (Some file) (put_file v.files d (Some new_dir) n) (eq-eqb n n refl)

        abbrev lsn : ℕ
        lsn = sector_of_place new_dir.segments place

        on_after : RepresentsVolume new done.after
        on_after = record { image = done.now; is = done.is; vol = done.vol }

        new_size : 32 * (place + 1) ≤ length new_dir.contents
        new_size =
            subst (λ m. 32 * (place + 1) ≤ m) (sym (ap (λ (f : DiskFile). length f.contents) wrote_left.file))
            (let past = written_past dir.contents entry_now (32 * place) (whole n file made.made.made made.takes) in let
            h : 32 * (place + 1) ≤ length (written dir.contents (32 * place) entry_now) = omega (arith, past) in h)

        lsn_own : has (owned_sectors d new_dir) lsn ≡ true
        lsn_own =
            let holds = room_for new done.after on_after d new_dir dir_after in
            let sized = new_size in
            or_right (d == lsn) (has (sectors_of new_dir.segments) lsn) (has_place (sectors_of new_dir.segments) (place / 8) (omega arith))

        abbrev g1 : Geometry
        g1 = image_geometry done.now

        lsn_after : map_sectors g1 < lsn
        lsn_after = own_after g1 (sector done.now) done.after done.vol.sound d new_dir lsn dir_after lsn_own

        dir_own_now : has (owned_sectors d new_dir) d ≡ true
        dir_own_now = or_left (d == d) (has (sectors_of new_dir.segments) d) (eq-eqb d d refl)

        d_after : map_sectors g1 < d
        d_after = own_after g1 (sector done.now) done.after done.vol.sound d new_dir d dir_after dir_own_now

        differs : (s : ℕ) → has (owned_sectors n file) s ≡ true → s ≢ lsn
        differs s own same =
            other (sym (own_apart g1 (sector done.now) done.after done.vol.sound d n new_dir file lsn dir_after file_after lsn_own (subst (λ x. has (owned_sectors n file) x ≡ true) same own)))

        differs_d : (s : ℕ) → has (owned_sectors n file) s ≡ true → s ≢ d
        differs_d s own same =
            other (sym (own_apart g1 (sector done.now) done.after done.vol.sound d n new_dir file d dir_after file_after dir_own_now (subst (λ x. has (owned_sectors n file) x ≡ true) same own)))

        -- beside the map only the parent's descriptor and the entry's sector have changed
        written_others : (s : ℕ) → ¬ IsMapSector (image_geometry made.now) s → s ≢ d → s ≢ lsn → sector done.now s ≡ sector made.now s
        written_others = subst (λ i. (s : ℕ) → ¬ IsMapSector (image_geometry i) s → s ≢ d → s ≢ lsn → sector done.now s ≡ sector i s) done_image done.writes.others

        shape_done : g1 ≡ image_geometry made.now
        shape_done =
            ap geometry (written_others 0 (λ map. let low0 = map.after in absurd (omega arith))
            (λ same. let past = d_after in absurd (omega arith)) (λ same. let past = lsn_after in absurd (omega arith)))

        not_map : (s : ℕ) → map_sectors g1 < s → ¬ IsMapSector (image_geometry made.image) s
        not_map s past map =
            let sectors : map_sectors g1 ≡ map_sectors (image_geometry made.image) = ap map_sectors (shape_done ∙ shape_made) in
            let within = map.within in
            absurd (omega arith)

        own_number : has (owned_sectors n file) n ≡ true
        own_number = number_own n file made.made.made made.takes

        own_first : has (owned_sectors n file) (first_sector file) ≡ true
        own_first = first_own n file made.made.made made.takes

        made_others : (s : ℕ) → ¬ IsMapSector (image_geometry made.image) s → s ≢ n → s ≢ first_sector file → sector made.now s ≡ sector made.image s
        made_others = made.writes.others

        old_at : sector done.image lsn ≡ sector made.image lsn
        old_at = ap (λ i. sector i lsn) done_image ∙ made_others lsn (not_map lsn lsn_after) (λ same. differs n own_number (sym same)) (λ same. differs (first_sector file) own_first (sym same))

        old_at_d : sector done.image d ≡ sector made.image d
        old_at_d = ap (λ i. sector i d) done_image ∙ made_others d (not_map d d_after) (λ same. other (sym same)) (λ same. differs_d (first_sector file) own_first (sym same))

        filled_at : sector done.now lsn ≡ put_at (sector made.image lsn) (32 * (place % 8)) entry_now
        filled_at = done.writes.filled ∙ ap (λ b. put_at b (32 * (place % 8)) entry_now) old_at

        -- the new directory stands as before
        pub file_stays : file_at (sector_at new) n ≡ file_at (sector_at mid) n
        file_stays =
            ap (λ m. file_at (sector_at m) n) done.is ∙ sym (done.vol.sound.shows.shown n file file_after)
            ∙ sym made.made.shown ∙ ap (λ m. file_at (sector_at m) n) (sym made.is)

        pub named : IsEnteredOn v dir e media new n
        named = record {
          allowed = roomy;
          image = made.image;
          now = done.now;
          was = made.was;
          is = done.is;
          after = done.after;
          vol = done.vol;
          enters = record {
            both = record { old = dir; new = new_dir; file = file; is = dir_is; made = made.made.made; entry = wrote };
            volume = after_is;
          };
          filled =
              subst (λ p. sector done.now (sector_of_place new_dir.segments p) ≡ put_at
              (sector made.image (sector_of_place new_dir.segments p)) (32 * (p % 8)) entry_now) (sym place_is)
              filled_at;
          others = λ s none not_own differ away.
              written_others s (map_made s none) differ (λ same. away (same ∙ ap (sector_of_place new_dir.segments) (sym place_is)))
              ∙ made_others s none (unwritten n file made.made.made made.takes s not_own).0 (unwritten n file made.made.made made.takes s not_own).1;
          list = subst IsNewList (sym (written_others n (no_map n number_free) other (differs n own_number))) made.made.rest;
          kept_list = subst (λ b. KeepsListEnd b (sector done.now d)) old_at_d done.writes.list;
          end = keeps_then made.image made.now done.now shape_made made.writes.end (subst (λ i. KeepsMapEnd i done.now (λ _. false)) done_image done.writes.end);
        }
