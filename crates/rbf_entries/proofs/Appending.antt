-- An entry that is appended to a directory: what the media represents at each answer.
use Rattle.std.proofs.Common.{◌≡◌, ◌≢◌, ℕ, ◌+◌, ◌-◌, ◌*◌, ◌/◌, ◌%◌, ◌<◌, ◌≤◌, Bool, true, false, ◌==◌, ◌||◌, Option, Some, IsSome, Err, List, [], ◌∷◌, ◌++◌, length, take, drop, get_or, inl, inr, refl, sym, ap, ◌∙◌, subst, ⊎_elim, arith, eq-eqb, eqb-true, le-leb, length-append, length-take, append_assoc}
use Rattle.std.specs.Prelude.{flat_map, replicate}
use Rattle.std.specs.Int.{bit_at}
use Rattle.std.proofs.Math.Nat.{lt-div-mul-add, mul-le-mul_left}
use Rattle.std.proofs.lemmas.Bool.{or_left, or_right, both_ways, false_from_ne_true, cond-false, cases_lt}
use Rattle.std.proofs.lemmas.List.{append-nil, take_all, drop_all, take-append-le, take-take, get_or_append_left, get_or-append_right}
use Rattle.std.proofs.lemmas.Option.{same_Some}
use Rattle.rbf_model.specs.Disk.{disk_of}
use Rattle.os9_outer.specs.Drive.{sector_count as drive_sectors, sector_at, with_sector}
use Rattle.rbf_model.specs.Fields.{directory_entry, descriptor_field, segments_field, size_field}
use Rattle.rbf_model.specs.File.{DiskFile, file_from, file_at, is_directory, has_room, segment_bytes}
use Rattle.rbf_model.specs.Geometry.{Geometry, image_geometry, sector, map_sectors}
use Rattle.rbf_model.specs.Laws.{IsMapSector, IsFileSector, IsUnseen, idle, past_size, IsReady, AppendsEntry, DirectoryEntry}
use Rattle.rbf_model.specs.Segments.{sectors_of, has}
use Rattle.rbf_model.specs.Space.{own_sectors, has_cluster}
use Rattle.rbf_model.specs.Volume.{DiskVolume, Vol, is_free}
use Rattle.rbf_model.specs.Writes.{put, put_at, put_sector, with_file, with_lost}
use Rattle.rbf_model.proofs.Bytes.{put_here, put_beside, has_place}
use Rattle.rbf_model.proofs.Free.{free_parts, number_below}
use Rattle.rbf_model.proofs.Growth.{contents_of_added}
use Rattle.rbf_model.proofs.ImageLaws.{unseen_image, append_image}
use Rattle.rbf_model.proofs.Lifted.{sector_put}
use Rattle.rbf_model.proofs.Owners.{cluster_positive, own_after, own_below, owns_own, owns_system, root_file, whole_sector_below}
use Rattle.rbf_model.proofs.Pieces.{length-put_at, entry_put}
use Rattle.rbf_model.proofs.Segments.{has_cases, has_range}
use Rattle.rbf_model.proofs.Space.{cluster_from_owns}
use Rattle.rbf_change.specs.Calls.{shape, cluster_size, is_free_in, replaced, minute_of, written_file}
use Rattle.rbf_change.specs.Contents.{sector_count, extended, written}
use Rattle.rbf_change.specs.Faults.{MayLose}
use Rattle.rbf_change.specs.Growth.{with_clusters, clusters_needed, Gains, IsChoice}
use Rattle.rbf_change.specs.Parts.{EntryIsPut}
use Rattle.rbf_change.specs.Tidy.{KeepsListEnd, KeepsMapEnd}
use Rattle.rbf_change.proofs.LawfulWrites.{shape-image}
use Rattle.rbf_access.specs.Faults.{file_fault}
use Rattle.rbf_access.specs.Mounted.{RepresentsVolume}
use Rattle.rbf_access.specs.Reading.{IsFdOf}
use Rattle.rbf_access.specs.declared.faults.FileFault.{FileFault}
use Rattle.rbf_access.specs.declared.faults.FileFault.TheVariants.{Device, NoCluster, TooManyRuns}
use Rattle.rbf_access.proofs.ReadFile.{room_for, contents_are}
use Rattle.rbf_access.proofs.Reading.{below_total}
use Rattle.rbf_alloc.specs.Grown.{ChangesMap, IsChosenGrowth, IsGrown, GrowthEnds, Grows}
use Rattle.rbf_alloc.proofs.Chosen.{has_free, length-with}
use Rattle.rbf_write.proofs.Redated.{same_file}
use Rattle.rbf_write.proofs.Segments.{lost_apart}
use Rattle.rbf_entries.specs.Becomes.{with_piece}
use Rattle.rbf_entries.proofs.Stored.{IsStored}
use Rattle.rbf_write.specs.declared.loaded.Loaded.{Loaded}
use Rattle.rbf_write.specs.Finished.{IsResized}
use Rattle.rbf_write.proofs.Gained.{cluster_sectors, sectors_with, descriptor_apart, after_map}
use Rattle.rbf_write.proofs.Laid.{same_mark}
use Rattle.rbf_write.proofs.Steps.{few_segments}
use Rattle.rbf_entries.specs.Rooms.{place_clusters}
use Rattle.rbf_entries.specs.NewEntry.{EntryWrite, MayAppend, WritesEntry, IsEntryWritten, EntryStops, AnswersEntry, sector_of_place}
use Rattle.rbf_entries.proofs.Choice.{fits_with, one_needed}
use Rattle.rbf_entries.proofs.Longer.{in_taken, file_same, ready_same, describes, lost_then, with_longer}

-- bytes that are written at the end
pub written_at_end : (contents bytes : List ℕ) (at : ℕ) → 1 ≤ length bytes → length contents ≡ at → written contents at bytes ≡ contents ++ bytes
written_at_end contents [] at some end = absurd (omega arith)
written_at_end contents (b ∷ bytes) at some end =
    let none : at - length contents ≡ 0 = omega arith in
    let same : extended contents at ≡ contents = ap (λ n. contents ++ replicate n 0) none ∙ append-nil contents in
    ap (λ c. put_at c at (b ∷ bytes)) same
    ∙ ap (λ front. front ++ b ∷ bytes ++ drop (at + length (b ∷ bytes)) contents) (take_all at contents (omega arith))
    ∙ ap (λ rest. contents ++ b ∷ bytes ++ rest) (drop_all (at + length (b ∷ bytes)) contents (omega arith))
    ∙ append-nil (contents ++ b ∷ bytes)

-- bytes before those that are put
front_of_put : (old bytes : List ℕ) (at : ℕ) → at ≤ length old → take at (put_at old at bytes) ≡ take at old
front_of_put old bytes at fits =
    ap (take at) (append_assoc (take at old) bytes (drop (at + length bytes) old))
    ∙ take-append-le at (take at old) (bytes ++ drop (at + length bytes) old) (omega (arith, length-take at old))
    ∙ take-take at at old (omega arith)

module _ (m0 : Option (List ℕ)) (a : EntryWrite) (may : MayAppend m0 a.directory a.place a.entry) (whole : length a.entry ≡ 32) where
  abbrev v : DiskVolume
  v = may.content

  abbrev dir : DiskFile
  dir = may.dir

  abbrev d : ℕ
  d = a.directory

  abbrev place : ℕ
  place = a.place

  abbrev entry : List ℕ
  entry = a.entry

  abbrev k : ℕ
  k = cluster_size v

  abbrev image0 : List ℕ
  image0 = may.on.image

  abbrev g0 : Geometry
  g0 = image_geometry image0

  abbrev n : ℕ
  n = descriptor_field entry

  shape_is : shape v ≡ g0
  shape_is = shape-image image0 v may.on.vol

  pub positive : 1 ≤ k
  positive = subst (λ (g : Geometry). 1 ≤ g.cluster) (sym shape_is) (cluster_positive g0.cluster may.on.vol.sound.shape.header.clusters)

  room : length dir.contents ≤ 256 * length (sectors_of dir.segments)
  room = room_for m0 v may.on d dir may.is

  pub few_runs : length dir.segments ≤ 48
  few_runs = subst (λ f. length f.segments ≤ 48) (sym (may.on.vol.sound.shows.shown d dir may.is)) (few_segments (sector image0 d))

  pub needs_few : place_clusters v dir place ≤ 1
  needs_few = let end = may.end in let there = room in one_needed k dir.segments place positive (omega arith)

  pub size_then : length (written dir.contents (32 * place) entry) ≡ 32 * (place + 1)
  size_then =
      let end = may.end in
      ap length (written_at_end dir.contents entry (32 * place) (omega arith) may.end) ∙ length-append dir.contents entry ∙ omega arith

  choice_of : (count : ℕ) (taken : List ℕ) → count ≡ place_clusters v dir place
      → IsChosenGrowth k count (is_free_in v) dir.segments taken → IsChoice k (is_free_in v) dir.segments (length (written dir.contents (32 * place) entry)) taken
  choice_of count taken counted chosen = record { enough = chosen.counted ∙ counted ∙ ap (clusters_needed k dir.segments) (sym size_then); gained = chosen.gained; fits = chosen.fits }

  -- a free cluster has no sector of the map
  free_no_map : (s : ℕ) → is_free_in v (s / k) ≡ true → ¬ IsMapSector g0 s
  free_no_map s free map =
      let within = map.within in
      let r = root_file g0 (sector image0) v may.on.vol.sound in
      let unused = (free_parts g0 (sector image0) v may.on.vol.sound (s / k) (subst (λ h. is_free h v (s / k) ≡ true) shape_is free)).2 in
      both_ways (has_cluster g0 g0.root r.0 (s / k)) (unused g0.root r.0 r.1)
      (subst (λ m. has_cluster g0 g0.root r.0 (s / m) ≡ true) (sym (ap (λ (h : Geometry). h.cluster) shape_is))
      (cluster_from_owns g0 g0.root r.0 s (owns_system g0 r.0 s (has_range 0 (1 + map_sectors g0) s (omega arith) (omega arith)))))

  -- the new file is in clusters that are lost
  its_lost : (s : ℕ) → has (own_sectors n (file_at (sector image0) n)) s ≡ true → v.lost (s / g0.cluster) ≡ true
  its_lost s h = may.ready.clusters (s / g0.cluster) (cluster_from_owns g0 n (file_at (sector image0) n) s (owns_own g0 n (file_at (sector image0) n) s h))

  lost_no_map : (s : ℕ) → v.lost (s / g0.cluster) ≡ true → ¬ IsMapSector g0 s
  lost_no_map s gone map =
      let within = map.within in
      let r = root_file g0 (sector image0) v may.on.vol.sound in
      let known = (may.on.vol.sound.mapped.lost_are (s / g0.cluster)).0 gone in
      both_ways (has_cluster g0 g0.root r.0 (s / g0.cluster)) (known.unused g0.root r.0 r.1)
      (cluster_from_owns g0 g0.root r.0 s (owns_system g0 r.0 s (has_range 0 (1 + map_sectors g0) s (omega arith) (omega arith))))

  -- it is as it was where only the map has changed
  named_still : (image1 : List ℕ) → ((s : ℕ) → ¬ IsMapSector g0 s → sector image1 s ≡ sector image0 s) → file_at (sector image1) n ≡ file_at (sector image0) n
  named_still image1 others = file_same (sector image0) (sector image1) n (λ s h. others s (lost_no_map s (its_lost s h)))

  module _ (count : ℕ) (counted : count ≡ place_clusters v dir place) where
    module _ (taken : List ℕ) (chosen : IsChosenGrowth k count (is_free_in v) dir.segments taken) where
      within_place : place / 8 < length (sectors_of (with_clusters k dir.segments taken))
      within_place =
          let end = may.end in
          let there = room in
          let had = length (sectors_of dir.segments) in
          let missing = sector_count (32 * (place + 1)) - had in
          let q = clusters_needed k dir.segments (32 * (place + 1)) in
          let up : missing + (k - 1) < q * k + k = lt-div-mul-add positive in
          let many : length taken * k ≡ q * k = ap (λ m. m * k) (chosen.counted ∙ counted) in
          let all : length (sectors_of (with_clusters k dir.segments taken)) ≡ had + length taken * k = length-with k dir.segments taken in
          let some = positive in
          omega arith

      -- the entry's sector is one of the directory's or of those that were taken
      its_sector : has (sectors_of (with_clusters k dir.segments taken)) (sector_of_place (with_clusters k dir.segments taken) place) ≡ true
      its_sector = has_place (sectors_of (with_clusters k dir.segments taken)) (place / 8) within_place

      at_no_map : ¬ IsMapSector g0 (sector_of_place (with_clusters k dir.segments taken) place)
      at_no_map map =
          let at = sector_of_place (with_clusters k dir.segments taken) place in
          let within = map.within in
          ⊎_elim
          (λ own. let past = own_after g0 (sector image0) v may.on.vol.sound d dir at may.is (or_right (d == at) (has (sectors_of dir.segments) at) own) in absurd (omega arith))
          (λ new. free_no_map at (has_free k (is_free_in v) dir.segments taken (at / k) chosen.gained (in_taken k taken at positive new)) map)
          (has_cases (sectors_of dir.segments) (cluster_sectors k taken) at (subst (λ xs. has xs at ≡ true) (sectors_with k dir.segments taken) its_sector))

    -- a fault while it was taken
    pub growth_stops : (mid : Option (List ℕ)) → GrowthEnds v count m0 mid dir.segments → EntryStops v dir a m0 mid
    growth_stops mid ends = record {
      image = ends.image;
      now = ends.now;
      was = ends.was;
      is = ends.is;
      taken = ends.taken;
      choice = choice_of count ends.taken counted ends.chosen;
      left = ends.left;
      vol = ends.vol;
      lose = ends.lose;
      others = λ s none differ. ends.changes.others s none;
      order =
          inl (ends.changes.others (sector_of_place (with_clusters k dir.segments ends.taken) place)
          (subst (λ i. ¬ IsMapSector (image_geometry i) (sector_of_place (with_clusters k dir.segments ends.taken)
          place)) (same_Some image0 ends.image (sym may.on.is ∙ ends.was)) (at_no_map ends.taken ends.chosen)));
      named =
          let same : image0 ≡ ends.image = same_Some image0 ends.image (sym may.on.is ∙ ends.was) in
          subst (λ i. file_at (sector ends.now) n ≡ file_at (sector i) n) same
          (named_still ends.now (λ s none. subst (λ i. sector ends.now s ≡ sector i s) (sym same) (ends.changes.others s (subst (λ i. ¬ IsMapSector (image_geometry i) s) same none))));
      end = ends.changes.end;
    }

    -- the room was there
    pub growth_answers : (mid : Option (List ℕ)) (fault : FileFault) → Grows v count dir.segments m0 mid (Err fault)
        → (IsSome (file_fault {A = Unit {0}} (Err fault))) × AnswersEntry v dir a m0 mid (Err fault)
    growth_answers mid (Device x) grows = (refl, growth_stops mid grows.ends)
    growth_answers mid NoCluster grows =
        let enough = may.room.enough in
        let low = grows.full.0 refl in
        absurd (omega arith)
    growth_answers mid TooManyRuns grows =
        let many = grows.runs refl in
        let least = many.needed in
        let full = many.full in
        let few = needs_few in
        let fits = fits_with k dir.segments many.taken (omega arith) few_runs (λ one. may.room.few (omega arith)) in
        absurd (omega arith)

    -- the clusters have been taken
    module _ (mid : Option (List ℕ)) (longer : List (ℕ × ℕ)) (grown : IsGrown v count m0 mid dir.segments longer) where
      abbrev taken : List ℕ
      taken = grown.taken

      abbrev segments : List (ℕ × ℕ)
      segments = with_clusters k dir.segments taken

      abbrev more : List ℕ
      more = cluster_sectors k taken

      abbrev lost : ℕ → Bool
      lost c = v.lost c || has taken c

      abbrev u : DiskVolume
      u = with_lost v lost

      abbrev image1 : List ℕ
      image1 = grown.now

      abbrev g : Geometry
      g = image_geometry image1

      abbrev lsn : ℕ
      lsn = sector_of_place segments place

      shape_u : shape v ≡ g
      shape_u = shape-image image1 u grown.vol

      same_k : k ≡ g.cluster
      same_k = ap (λ (h : Geometry). h.cluster) shape_u

      abbrev pub on_mid : RepresentsVolume mid u
      on_mid = record { image = image1; is = grown.is; vol = grown.vol }

      sectors_are : sectors_of segments ≡ sectors_of dir.segments ++ more
      sectors_are = sectors_with k dir.segments taken

      pub place_there : place / 8 < length (sectors_of longer)
      place_there = subst (λ xs. place / 8 < length (sectors_of xs)) (sym grown.segments) (within_place taken grown.chosen)

      taken_lost : (c : ℕ) → has taken c ≡ true → lost c ≡ true
      taken_lost c h = or_right (v.lost c) (has taken c) h

      abbrev old_bytes : List ℕ
      old_bytes = sector image1 lsn

      abbrev news : List ℕ
      news = put_at old_bytes (32 * (place % 8)) entry

      past : map_sectors g < lsn
      past = after_map image1 v lost taken grown.vol taken_lost d dir may.is (is_free_in v) grown.chosen.gained lsn (its_sector taken grown.chosen)

      in_dir : place / 8 < length (sectors_of dir.segments) → IsFileSector u d dir (place / 8) lsn
      in_dir low = record {
        is = may.is;
        within = low;
        at = sym (ap (λ xs. get_or xs (place / 8) 0) sectors_are ∙ get_or_append_left (sectors_of dir.segments) more 0 (place / 8) low);
      }

      in_more : length (sectors_of dir.segments) ≤ place / 8 → has more lsn ≡ true
      in_more high =
          let had = length (sectors_of dir.segments) in
          let all : length (sectors_of segments) ≡ had + length more = ap length sectors_are ∙ length-append (sectors_of dir.segments) more in
          let within = within_place taken grown.chosen in
          let there : get_or more (place / 8 - had) 0 ≡ lsn =
          sym (ap (λ xs. get_or xs (place / 8) 0) sectors_are ∙ get_or-append_right (sectors_of dir.segments) more had (place / 8) 0 refl high) in
          subst (λ s. has more s ≡ true) there (has_place more (place / 8 - had) (omega arith))

      lost_in_more : (s : ℕ) → has more s ≡ true → u.lost (s / g.cluster) ≡ true
      lost_in_more s h = subst (λ m. u.lost (s / m) ≡ true) same_k (taken_lost (s / k) (in_taken k taken s positive h))

      below_all : (s : ℕ) → has (sectors_of segments) s ≡ true → s < g.total
      below_all s h = ⊎_elim
          (λ own. own_below g (sector image1) u grown.vol.sound d dir s may.is (or_right (d == s) (has (sectors_of dir.segments) s) own))
          (λ new. whole_sector_below g s (cluster_positive g.cluster grown.vol.sound.shape.header.clusters) ((grown.vol.sound.mapped.lost_are (s / g.cluster)).0 (lost_in_more s new)).whole)
          (has_cases (sectors_of dir.segments) more s (subst (λ xs. has xs s ≡ true) sectors_are h))

      pub below : lsn < g.total
      below = below_all lsn (its_sector taken grown.chosen)

      old_whole : length old_bytes ≡ 256
      old_whole = grown.vol.sound.sectors lsn below

      news_whole : length news ≡ 256
      news_whole = let size = old_whole in length-put_at old_bytes entry (32 * (place % 8)) (omega arith) ∙ size

      -- the write of the entry's sector is not seen
      unseen : IsUnseen (disk_of g (sector image1)) u lsn news
      unseen = ⊎_elim
          (λ low. past_size (in_dir low) front)
          (λ high. idle (inr (lost_in_more lsn (in_more high))))
          (cases_lt (place / 8) (length (sectors_of dir.segments)))
        where
          front : take (length dir.contents - 256 * (place / 8)) news ≡ take (length dir.contents - 256 * (place / 8)) old_bytes
          front =
              let end = may.end in
              let size = old_whole in
              let at : length dir.contents - 256 * (place / 8) ≡ 32 * (place % 8) = omega arith in
              ap (λ m. take m news) at ∙ front_of_put old_bytes entry (32 * (place % 8)) (omega arith) ∙ ap (λ m. take m old_bytes) (sym at)

      fits_image : 256 * (lsn + 1) ≤ length image1
      fits_image =
          let low = below in
          let all : 256 * (lsn + 1) ≤ 256 * g.total = mul-le-mul_left 256 (omega arith) in
          let there = grown.vol.header.fits in
          omega arith

      abbrev image2 : List ℕ
      image2 = put_sector image1 lsn news

      sectors2 : sector image2 ≡ put (sector image1) lsn news
      sectors2 = sector_put image1 lsn news news_whole fits_image

      beside2 : (s : ℕ) → s ≢ lsn → sector image2 s ≡ sector image1 s
      beside2 s differ = ap (λ (x : ℕ → List ℕ). x s) sectors2 ∙ put_beside (sector image1) lsn news s differ

      here2 : sector image2 lsn ≡ news
      here2 = ap (λ (x : ℕ → List ℕ). x lsn) sectors2 ∙ put_here (sector image1) lsn news

      vol2 : Vol image2 u
      vol2 = unseen_image image1 u grown.vol lsn news news_whole unseen

      pub on_drive : lsn < drive_sectors mid
      on_drive = below_total mid u on_mid lsn below

      -- what has changed so far
      same_image : grown.image ≡ image0
      same_image = same_Some grown.image image0 (sym grown.was ∙ may.on.is)

      changes : ChangesMap image0 image1
      changes = subst (λ i. ChangesMap i image1) same_image grown.changes

      shape1 : g0 ≡ g
      shape1 = sym shape_is ∙ shape_u

      lsn_no_map : ¬ IsMapSector g0 lsn
      lsn_no_map map =
          let within = map.within in
          let same : map_sectors g0 ≡ map_sectors g = ap map_sectors shape1 in
          let low = past in
          absurd (omega arith)

      lsn_filled : sector image2 lsn ≡ put_at (sector image0 lsn) (32 * (place % 8)) entry
      lsn_filled = here2 ∙ ap (λ b. put_at b (32 * (place % 8)) entry) (changes.others lsn lsn_no_map)

      end1 : KeepsMapEnd image0 image1 (λ _. false)
      end1 = changes.end

      end2 : KeepsMapEnd image0 image2 (λ _. false)
      end2 c behind =
          let in_map = behind.in_map in
          let same : map_sectors g0 ≡ map_sectors g = ap map_sectors shape1 in
          let low = past in
          same_mark (sector image2) (sector image1) c (beside2 (1 + c / 8 / 256) (λ e. absurd (omega arith))) ∙ end1 c behind

      lose : MayLose v u (has taken)
      lose = record { same = refl; still = λ c h. or_left (v.lost c) (has taken c) h; only = λ c h. h }

      -- a fault came before the entry's sector was written
      pub unput : (now : Option (List ℕ)) → now ≡ mid → EntryStops v dir a m0 now
      unput now same = record {
        image = image0;
        now = image1;
        was = may.on.is;
        is = same ∙ grown.is;
        taken = taken;
        choice = choice_of count taken counted grown.chosen;
        left = u;
        vol = grown.vol;
        lose = lose;
        others = λ s none differ. changes.others s none;
        order = inl (changes.others lsn lsn_no_map);
        named = named_still image1 (λ s none. changes.others s none);
        end = end1;
      }

      -- the entry's sector is written
      module _ (mid2 : Option (List ℕ)) (put_is : mid2 ≡ with_piece mid lsn (32 * (place % 8)) entry) where
        mid2_is : mid2 ≡ Some image2
        mid2_is = put_is ∙ ap (λ m. with_piece m lsn (32 * (place % 8)) entry) grown.is

        abbrev on2 : RepresentsVolume mid2 u
        on2 = record { image = image2; is = mid2_is; vol = vol2 }

        pub put_stored : IsStored mid mid2 u u
        put_stored = record {
          on = on_mid;
          lsn = lsn;
          bytes = news;
          whole = news_whole;
          past = past;
          below = below;
          is = put_is ∙ ap (λ m. with_sector mid lsn (put_at (sector_at m lsn) (32 * (place % 8)) entry)) grown.is;
          vol = vol2;
        }

        abbrev g2 : Geometry
        g2 = image_geometry image2

        shape2 : shape v ≡ g2
        shape2 = shape-image image2 u vol2

        same_k2 : k ≡ g2.cluster
        same_k2 = ap (λ (h : Geometry). h.cluster) shape2

        d_below : d < g2.total
        d_below = number_below g2 (sector image2) u vol2.sound d dir may.is

        d_past : map_sectors g2 < d
        d_past = own_after g2 (sector image2) u vol2.sound d dir d may.is (or_left (d == d) (has (sectors_of dir.segments) d) (eq-eqb d d refl))

        pub descriptor_on_drive : d < drive_sectors mid2
        descriptor_on_drive = below_total mid2 u on2 d d_below

        -- the new file is where it was
        not_lost : (c : ℕ) → has taken c ≡ true → v.lost c ≡ false
        not_lost c h =
            let free = has_free k (is_free_in v) dir.segments taken c grown.chosen.gained h in
            (free_parts g0 (sector image0) v may.on.vol.sound c (subst (λ s. is_free s v c ≡ true) shape_is free)).1

        lost_apart_lsn : v.lost (lsn / g0.cluster) ≡ true → ⊥
        lost_apart_lsn gone = ⊎_elim
            (λ low.
            let own : has (sectors_of dir.segments) lsn ≡ true = subst (λ s. has (sectors_of dir.segments) s ≡ true) (in_dir low).at (has_place (sectors_of dir.segments) (place / 8) low) in
            both_ways (has_cluster g0 d dir (lsn / g0.cluster)) (lost_apart g0 (sector image0) v may.on.vol.sound d dir may.is (lsn / g0.cluster) gone)
            (cluster_from_owns g0 d dir lsn (owns_own g0 d dir lsn (or_right (d == lsn) (has (sectors_of dir.segments) lsn) own))))
            (λ high.
            both_ways (v.lost (lsn / k)) (not_lost (lsn / k) (in_taken k taken lsn positive (in_more high)))
            (subst (λ m. v.lost (lsn / m) ≡ true) (sym (ap (λ (h : Geometry). h.cluster) shape_is)) gone))
            (cases_lt (place / 8) (length (sectors_of dir.segments)))

        file_stays : (s : ℕ) → has (own_sectors n (file_at (sector image0) n)) s ≡ true → sector image2 s ≡ sector image0 s
        file_stays s h =
            let gone = its_lost s h in
            beside2 s (λ same. lost_apart_lsn (subst (λ t. v.lost (t / g0.cluster) ≡ true) same gone)) ∙ changes.others s (lost_no_map s gone)

        -- a fault came before the descriptor was written
        pub unnamed : (now : Option (List ℕ)) → now ≡ mid2 → EntryStops v dir a m0 now
        unnamed now same = record {
          image = image0;
          now = image2;
          was = may.on.is;
          is = same ∙ mid2_is;
          taken = taken;
          choice = choice_of count taken counted grown.chosen;
          left = u;
          vol = vol2;
          lose = lose;
          others = λ s none differ. beside2 s differ ∙ changes.others s none;
          order = inr (record { end = may.end; filled = lsn_filled }, taken_lost);
          named = file_same (sector image0) (sector image2) n file_stays;
          end = end2;
        }

        -- the descriptor is written
        module _ (loaded : Loaded) (says : IsFdOf dir loaded.file) (descriptor : loaded.descriptor ≡ sector_at m0 d)
            (bytes : List ℕ) (resized : IsResized loaded longer (32 * (place + 1)) a.now bytes) where
          abbrev new_dir : DiskFile
          new_dir = file_from (sector image2) bytes

          list_is : segments_field bytes ≡ segments
          list_is = resized.list ∙ grown.segments

          list2 : segments_field bytes ≡ with_clusters g2.cluster dir.segments taken
          list2 = list_is ∙ ap (λ m. with_clusters m dir.segments taken) same_k2

          gained2 : Gains g2.cluster (is_free_in v) dir.segments taken
          gained2 = subst (λ m. Gains m (is_free_in v) dir.segments taken) same_k2 grown.chosen.gained

          room2 : has_room (segments_field bytes) (size_field bytes) ≡ true
          room2 =
              let low = within_place taken grown.chosen in
              ap (λ xs. has_room xs (size_field bytes)) list_is ∙ ap (has_room segments) resized.fields.size_is
              ∙ le-leb (32 * (place + 1)) (256 * length (sectors_of segments)) (omega arith)

          old_contents : dir.contents ≡ take (length dir.contents) (segment_bytes (sector image2) dir.segments)
          old_contents = contents_are (Some image2) u (record { image = image2; is = refl; vol = vol2 }) d dir may.is

          entry_there : directory_entry (sector image2 (get_or (sectors_of dir.segments ++ more) (place / 8) 0)) (place % 8) ≡ entry
          entry_there =
              let size = old_whole in
              ap (λ xs. directory_entry (sector image2 (get_or xs (place / 8) 0)) (place % 8)) (sym sectors_are)
              ∙ ap (λ b. directory_entry b (place % 8)) here2
              ∙ entry_put old_bytes entry (place % 8) whole (omega arith)

          total_same : g.total ≡ g2.total
          total_same = ap (λ (h : Geometry). h.total) (sym shape_u ∙ shape2)

          contents_then : new_dir.contents ≡ dir.contents ++ entry
          contents_then =
              let end = may.end in
              let long : 32 * place ≤ length (segment_bytes (sector image2) dir.segments) =
              omega (
                arith,
                ap length old_contents,
                length-take (length dir.contents) (segment_bytes (sector image2) dir.segments),
              ) in
              let within : place / 8 < length (sectors_of dir.segments ++ more) = subst (λ xs. place / 8 < length xs) sectors_are (within_place taken grown.chosen) in
              ap (λ s. take s (segment_bytes (sector image2) (segments_field bytes))) resized.fields.size_is
              ∙ ap (λ xs. take (32 * (place + 1)) (segment_bytes (sector image2) xs)) list_is
              ∙ ap (λ xs. take (32 * (place + 1)) (flat_map (sector image2) xs)) sectors_are
              ∙ contents_of_added (sector image2) (sectors_of dir.segments) more place entry
              (λ s h. vol2.sound.sectors s (subst (λ t. s < t) total_same (below_all s (subst (λ xs. has xs s ≡ true) (sym sectors_are) h))))
              long within entry_there
              ∙ ap (λ m. take m (segment_bytes (sector image2) dir.segments) ++ entry) (sym end)
              ∙ ap (λ c. c ++ entry) (sym old_contents)

          kind : is_directory new_dir ≡ true
          kind = ap (λ x. bit_at x 7 == 1) (resized.fields.attributes_are ∙ says.attributes_are) ∙ may.directory

          abbrev then_dir : DiskVolume
          then_dir = with_file g2 u d (Some new_dir)

          lost_there : (c : ℕ) → then_dir.lost c ≡ v.lost c
          lost_there = lost_then image2 v lost taken vol2 (λ c. refl) not_lost d dir may.is (is_free_in v) gained2 bytes list2 room2

          ready2 : IsReady (disk_of g2 (sector image2)) then_dir d n
          ready2 = ready_same (sector image0) (sector image2) n file_stays g2 v then_dir d (λ c h. lost_there c ∙ h)
              (subst (λ h. IsReady (disk_of h (sector image0)) v d n) (sym shape_is ∙ shape2) may.ready)

          abbrev put_entry : DirectoryEntry
          put_entry = record { directory = d; file = dir; place = place; bytes = entry }

          law : AppendsEntry (disk_of g2 (sector image2)) u put_entry bytes n
          law = record {
            describes = describes image2 v lost taken vol2 (λ c. refl) not_lost d dir may.is (is_free_in v) gained2 bytes list2 room2;
            directory = may.directory;
            kind = kind;
            end = may.end;
            whole = whole;
            contents = contents_then;
            new = may.new;
            ready = ready2;
          }

          abbrev after : DiskVolume
          after = with_file (shape v) (replaced v d (Some new_dir)) n (Some (file_at (sector image0) n))

          abbrev with_both : Geometry → DiskVolume → DiskFile → DiskVolume
          with_both h x f = with_file h x n (Some f)

          after_is : with_both g2 then_dir (file_at (sector image2) n) ≡ after
          after_is =
              ap (λ x. with_both g2 x (file_at (sector image2) n)) (with_longer image2 v lost taken vol2 (λ c. refl) not_lost d dir may.is (is_free_in v) gained2 bytes list2 room2)
              ∙ ap (with_both g2 (replaced v d (Some new_dir))) (file_same (sector image0) (sector image2) n file_stays)
              ∙ ap (λ h. with_both h (replaced v d (Some new_dir)) (file_at (sector image0) n)) (sym shape2)

          abbrev image3 : List ℕ
          image3 = put_sector image2 d bytes

          vol3 : Vol image3 after
          vol3 = subst (Vol image3) after_is (append_image image2 u vol2 d dir bytes place entry n resized.whole law)

          fits3 : 256 * (d + 1) ≤ length image2
          fits3 =
              let low = d_below in
              let all : 256 * (d + 1) ≤ 256 * g2.total = mul-le-mul_left 256 (omega arith) in
              let there = vol2.header.fits in
              omega arith

          sectors3 : sector image3 ≡ put (sector image2) d bytes
          sectors3 = sector_put image2 d bytes resized.whole fits3

          beside3 : (s : ℕ) → s ≢ d → sector image3 s ≡ sector image2 s
          beside3 s differ = ap (λ (x : ℕ → List ℕ). x s) sectors3 ∙ put_beside (sector image2) d bytes s differ

          new_file : new_dir ≡ written_file dir (32 * place) entry a.now segments
          new_file =
              let f = resized.fields in
              let end = may.end in
              let size = size_then in
              same_file new_dir (written_file dir (32 * place) entry a.now segments)
              (f.attributes_are ∙ says.attributes_are)
              (f.owner_is ∙ says.owner_is)
              (f.modified_is ∙ sym (cond-false (length (written dir.contents (32 * place) entry) == length dir.contents) dir.modified (minute_of a.now)
              (false_from_ne_true (length (written dir.contents (32 * place) entry) == length dir.contents)
              (λ h. let same = eqb-true (length (written dir.contents (32 * place) entry)) (length dir.contents) h in absurd (omega arith)))))
              (f.links_are ∙ says.links_are)
              (f.created_is ∙ says.created_is)
              list_is
              (contents_then ∙ sym (written_at_end dir.contents entry (32 * place) (omega arith) may.end))

          entry_put_in : EntryIsPut v after (sector image0) d place entry a.now
          entry_put_in = record {
            old = dir;
            new = new_dir;
            is = may.is;
            written = record { gained = taken; choice = choice_of count taken counted grown.chosen; file = new_file };
            volume = refl;
          }

          lsn_apart : lsn ≢ d
          lsn_apart same = both_ways (has (sectors_of segments) lsn)
              (subst (λ s. has (sectors_of segments) s ≡ false) (sym same) (descriptor_apart image1 v lost taken grown.vol taken_lost d dir may.is (is_free_in v) grown.chosen.gained))
              (its_sector taken grown.chosen)

          writes : WritesEntry image0 image3 segments a
          writes = record {
            filled = beside3 lsn lsn_apart ∙ lsn_filled;
            others = λ s none other differ. beside3 s other ∙ beside2 s differ ∙ changes.others s none;
            list = subst (KeepsListEnd (sector image0 d)) (sym (ap (λ (x : ℕ → List ℕ). x d) sectors3 ∙ put_here (sector image2) d bytes))
                (subst (λ b. KeepsListEnd b bytes) (descriptor ∙ ap (λ m. sector_at m d) may.on.is) resized.end);
            end = λ c behind.
                let in_map = behind.in_map in
                let same : map_sectors g0 ≡ map_sectors g2 = ap map_sectors (sym shape_is ∙ shape2) in
                let low = d_past in
                same_mark (sector image3) (sector image2) c (beside3 (1 + c / 8 / 256) (λ e. absurd (omega arith))) ∙ end2 c behind;
          }

          pub appended : (now : Option (List ℕ)) → now ≡ with_sector mid2 d bytes → IsEntryWritten v a m0 now
          unfolding entry_put_in
          appended now is = record {
            image = image0;
            now = image3;
            was = may.on.is;
            is = is ∙ ap (λ m. with_sector m d bytes) mid2_is;
            after = after;
            vol = vol3;
            put = entry_put_in;
            writes = subst (λ xs. WritesEntry image0 image3 xs a) (sym list_is) writes;
          }

          pub descriptor_stored : (now : Option (List ℕ)) → now ≡ with_sector mid2 d bytes → IsStored mid2 now u after
          descriptor_stored now is = record { on = on2; lsn = d; bytes = bytes; whole = resized.whole; past = d_past; below = d_below; is = is; vol = vol3 }
