-- The steps of a call that lays bytes over a file, each with what the call answers there.
use Rattle.std.proofs.Common.{◌≡◌, ℕ, ◌+◌, ◌*◌, ◌<◌, ◌≤◌, min, Bool, true, false, ◌==◌, Option, Some, None, IsSome, Result, Ok, Err, List, [], length, refl, sym, ap, ◌∙◌, subst, ⊎_elim, arith, rules}
use Rattle.std.specs.Prelude.{IsNone, map, nat_lt, if◌then◌else◌}
use Rattle.std.specs.List.{range_with_len}
use Rattle.std.proofs.Math.Nat.{mul-le-mul_left, mul-le-mul_right}
use Rattle.std.proofs.lemmas.Bool.{both_ways, false_from_ne_true, cases_lt}
use Rattle.std.proofs.lemmas.List.{nil_from_length}
use Rattle.std.proofs.lemmas.List.FromFn.{length-range_with_len, length-map-range_with_len}
use Rattle.std.proofs.lemmas.List.Folds.{length-prefix_len}
use Rattle.std.proofs.lemmas.List.Sums.{length-filter, count_by-le-length, prefix_len-le-length}
use Rattle.os9_base.specs.declared.registers.TimePacket.{TimePacket}
use Rattle.os9_outer.specs.Drive.{sector_at}
use Rattle.rbf_model.specs.Fields.{segments_field, segment_field, has_sectors}
use Rattle.rbf_model.specs.Geometry.{Geometry, image_geometry, sector, map_sectors}
use Rattle.rbf_model.specs.Segments.{sectors_of}
use Rattle.rbf_model.specs.File.{DiskFile, is_directory, segment_bytes}
use Rattle.rbf_model.specs.Space.{has_cluster}
use Rattle.rbf_model.specs.Volume.{DiskVolume, Vol, is_free}
use Rattle.rbf_model.proofs.Free.{free_parts}
use Rattle.rbf_model.proofs.Owners.{cluster_positive}
use Rattle.rbf_model.proofs.Unique.{vol_is_unique}
use Rattle.rbf_model.specs.ClusterMap.{mark, map_free_clusters}
use Rattle.rbf_change.specs.Agrees.{Agrees}
use Rattle.rbf_change.specs.Calls.{shape, cluster_size, is_free_in, free_total, replaced}
use Rattle.rbf_change.specs.Contents.{sector_span}
use Rattle.rbf_change.specs.Growth.{uses, with_clusters, clusters_needed}
use Rattle.rbf_change.proofs.LawfulWrites.{shape-image}
use Rattle.rbf_access.specs.declared.volume.Volume.{Volume}
use Rattle.rbf_access.specs.declared.faults.FileFault.{FileFault}
use Rattle.rbf_access.specs.declared.faults.FileFault.TheVariants.{Device, NoCluster, TooManyRuns}
use Rattle.rbf_access.specs.Drive.{DriveCounts, MovesCounts}
use Rattle.rbf_access.specs.Faults.{file_fault}
use Rattle.rbf_access.specs.MapMarks.{marking_sectors}
use Rattle.rbf_access.specs.Cached.{IsCacheOf}
use Rattle.rbf_access.specs.Mounted.{mounted_part, RepresentsVolume, IsMounted, IsSoundMedia, HasFile}
use Rattle.rbf_access.specs.Reading.{IsFdOf}
use Rattle.rbf_access.proofs.Counting.{no_calls, counts_most, counts_then, counts_within}
use Rattle.rbf_access.proofs.MapMarks.{marking_most}
use Rattle.rbf_access.proofs.Mounting.{free_total_is}
use Rattle.rbf_access.proofs.Reading.{mounted_still}
use Rattle.rbf_alloc.specs.Grown.{IsGrown, Grows, is_gained, growth_calls}
use Rattle.rbf_alloc.proofs.Chosen.{length-with}
use Rattle.rbf_alloc.proofs.NoneGrown.{none_grown}
use Rattle.rbf_alloc.proofs.Growing.{agrees_on, sizes_are, k_is, enough_free}
use Rattle.rbf_write.specs.Laid.{IsDataOf, IsLaid, IsPartLaid, MayLay, Fills, laid_bytes}
use Rattle.rbf_write.proofs.Segments.{used_is}
use Rattle.rbf_write.proofs.FilledFile.{put_here}
use Rattle.rbf_write.specs.declared.loaded.Loaded.{Loaded}
use Rattle.rbf_write.specs.Files.{HasDataFile, IsDescriptorLoaded, IsClusterCount, IsPastVolumes}
use Rattle.rbf_write.specs.Finished.{IsFinished, stays, resized}
use Rattle.rbf_write.specs.Laying.{Laying, laid_file, laying_needs, IsLaidOver, LayingEnds, AnswersLaying}
use Rattle.rbf_write.specs.Outcomes.{AreMarked, laying_calls}
use Rattle.rbf_write.proofs.Laid.{needs_is, growth_ends, volume_grown, has_room_then, known, on_grown, part_ends, all_ends, done_inside, done_longer, list_inside, list_longer, mounted_last, sound_last}

-- a file that is no directory, in whichever volume the media represents
pub data_in : (media : Option (List ℕ)) (n : ℕ) → HasDataFile media n → (v : DiskVolume) (file : DiskFile) → RepresentsVolume media v → v.files n ≡ Some file → is_directory file ≡ false
data_in media n has v file on is =
    let both : Some has.on.image ≡ Some on.image = sym has.on.is ∙ on.is in
    let image : has.on.image ≡ on.image = cc in
    let same : has.content ≡ v = vol_is_unique on.image has.content v (subst (λ i. Vol i has.content) image has.on.vol) on.vol in
    let there : Some has.file ≡ Some file = sym has.is ∙ ap (λ (w : DiskVolume). w.files n) same ∙ is in
    let one : has.file ≡ file = cc in
    ap is_directory (sym one) ∙ has.not_directory

pub has_file : (media : Option (List ℕ)) (n : ℕ) → HasDataFile media n → HasFile media n
has_file media n has = record { content = has.content; on = has.on; file = has.file; is = has.is }

-- and the file itself
pub file_of : (media : Option (List ℕ)) (n : ℕ) → HasDataFile media n → (v : DiskVolume) → RepresentsVolume media v → (file : DiskFile) × (v.files n ≡ Some file)
file_of media n has v on =
    let both : Some has.on.image ≡ Some on.image = sym has.on.is ∙ on.is in
    let image : has.on.image ≡ on.image = cc in
    let same : has.content ≡ v = vol_is_unique on.image has.content v (subst (λ i. Vol i has.content) image has.on.vol) on.vol in
    (has.file, ap (λ (w : DiskVolume). w.files n) (sym same) ∙ has.is)

-- a list of segments has 48 at most
pub few_segments : (descriptor : List ℕ) → length (segments_field descriptor) ≤ 48
unfolding segments_field
few_segments descriptor =
    let pairs = map (segment_field descriptor) (range_with_len 0 48) in
    omega (arith, length-prefix_len has_sectors pairs, prefix_len-le-length has_sectors pairs, length-map-range_with_len (segment_field descriptor) 0 48)

-- a file that gains no cluster keeps its segments, and no call of the drive is made
pub none_grows : (media : Option (List ℕ)) (loaded : Loaded) → IsDescriptorLoaded media loaded.number loaded → (count : ℕ) → count ≡ 0
    → (v : DiskVolume) → RepresentsVolume media v → Grows v count loaded.file.segs media media (Ok loaded.file.segs)
none_grows media loaded is_loaded count zero v on = record {
  grown = none_grown v media on count zero loaded.file.segs (subst (λ xs. length xs ≤ 48) is_loaded.list_is (few_segments loaded.descriptor));
  full = (λ is. cc, λ low. absurd (omega (arith, low, zero)));
  runs = search rules;
  ends = search rules;
}

pub no_counts : (n : ℕ) (s : DriveCounts) → MovesCounts None n s s
no_counts n s = counts_most None 0 n s s (omega arith) (no_calls s)

-- the clusters of a file are not free
pub own_not_free : (media : Option (List ℕ)) (v : DiskVolume) → (on : RepresentsVolume media v) → (n : ℕ) (old : DiskFile)
    → v.files n ≡ Some old → (c : ℕ) → uses (cluster_size v) old.segments c ≡ true → is_free_in v c ≡ false
own_not_free media v on n old is c used =
    let g = image_geometry on.image in
    let same : shape v ≡ g = shape-image on.image v on.vol in
    let own : has_cluster g n old c ≡ true = used_is g (sector on.image) v on.vol.sound n old is old.segments c (subst (λ h. uses h.cluster old.segments c ≡ true) same used) in
    false_from_ne_true (is_free_in v c) (λ free.
    both_ways (has_cluster g n old c) ((free_parts g (sector on.image) v on.vol.sound c (subst (λ h. is_free h v c ≡ true) same free)).2 n old is) own)

-- no volume has more free sectors than 524,280
pub free_few : (volume : Volume) (image : List ℕ) (v : DiskVolume) → Vol image v → Agrees (mounted_part volume) image → free_total v * volume.ident.cluster ≤ 524280
free_few volume image v vol agrees =
    let sizes = sizes_are volume image v vol agrees in
    let total = free_total_is volume image v agrees vol in
    let test : ℕ → Bool = λ c. mark volume.map.bytes c == 0 in
    let few : length (map_free_clusters volume.map) ≤ volume.map.whole =
    omega (arith, length-filter test (range_with_len 0 volume.map.whole), count_by-le-length test (range_with_len 0 volume.map.whole), length-range_with_len 0 volume.map.whole) in
    let most : free_total v * volume.ident.cluster ≤ volume.map.whole * volume.ident.cluster = mul-le-mul_right volume.ident.cluster (omega (arith, total, few)) in
    let all = sizes.sectors in
    omega arith

-- where the call has failed the number is that of all sectors of the map
pub all_marks : (v : DiskVolume) (file : DiskFile) (n : ℕ) (after : Option (List ℕ)) (r : Result (Unit {0}) FileFault) (fault : FileFault)
    → r ≡ Err fault → (marks : ℕ) → AreMarked v file n after r marks → marks ≡ map_sectors (shape v)
all_marks v file n after r fault is marks are = subst (λ x. AreMarked v file n after x marks) is are

-- a fault of the drive is what the call answers
pub answers_fault : (v : DiskVolume) (old : DiskFile) (laying : Laying) (before after : Option (List ℕ)) (fault : FileFault)
    → IsSome (file_fault {A = Unit {0}} (Err fault)) → LayingEnds v old laying before after
    → AnswersLaying v old laying before after (Err fault)
answers_fault v old laying before after (Device n) is ends = ends
answers_fault v old laying before after NoCluster is ends = absurd (both_ways false refl is)
answers_fault v old laying before after TooManyRuns is ends = absurd (both_ways false refl is)

growth_fault : (v : DiskVolume) (old : DiskFile) (laying : Laying) (count : ℕ) (before after : Option (List ℕ)) (fault : FileFault) → count ≡ laying_needs v old laying
    → (count ≡ clusters_needed (cluster_size v) old.segments (laying.at + length laying.bytes)) → RepresentsVolume before v → v.files laying.number ≡ Some old
    → Grows v count old.segments before after (Err fault) → (IsNone (file_fault {A = List (ℕ × ℕ)} (Err fault)) → after ≡ before) → AnswersLaying v old laying before after (Err fault)
growth_fault v old laying count before after (Device n) needs counted on is grows refused = growth_ends before v on laying old is count after counted grows.ends
growth_fault v old laying count before after NoCluster needs counted on is grows refused =
    record { few = subst (λ c. free_total v < c) needs (grows.full.0 refl); media_kept = refused refl }
growth_fault v old laying count before after TooManyRuns needs counted on is grows refused =
    let many = grows.runs refl in
    record {
      enough = subst (λ c. c ≤ free_total v) needs
          (⊎_elim (λ low. let e = grows.full.1 low in absurd (cc e)) (λ enough. enough) (cases_lt (free_total v) count));
      chosen = many.taken;
      full = record { needed = subst (λ c. length many.taken ≤ c) needs many.needed; gained = many.gained; full = many.full };
      media_kept = refused refl;
    }

module _ (before : Option (List ℕ)) (loaded : Loaded) (at : ℕ) (from : List ℕ) (now : TimePacket)
    (is_loaded : IsDescriptorLoaded before loaded.number loaded) (has : HasDataFile before loaded.number) (volume : Volume)
    (mounted : IsMounted volume before) where
  abbrev n : ℕ
  n = loaded.number

  abbrev laying : Laying
  laying = record { number = loaded.number; at = at; bytes = from; now = now }

  abbrev end : ℕ
  end = at + length from

  -- more clusters are needed than any volume has
  pub past_answers : IsPastVolumes volume.ident.cluster loaded.file.segs end → (v : DiskVolume) (old : DiskFile)
      → RepresentsVolume before v → v.files n ≡ Some old → AnswersLaying v old laying before before (Err NoCluster)
  past_answers past v old on is =
      let agrees = agrees_on volume before v mounted on in
      let fd = is_loaded.says v old on is in
      let needs : laying_needs v old laying ≡ clusters_needed volume.ident.cluster loaded.file.segs end =
      needs_is before v on laying old is ∙ ap (λ k. clusters_needed k old.segments end)
      (sym (k_is volume on.image v on.vol agrees)) ∙ ap (λ xs. clusters_needed volume.ident.cluster xs end)
      (sym fd.segments_are) in
      let few = free_few volume on.image v on.vol agrees in
      record {
        few = ⊎_elim (λ low. low)
            (λ high.
            let more : laying_needs v old laying * volume.ident.cluster ≤ free_total v * volume.ident.cluster = mul-le-mul_right volume.ident.cluster high in
            let same : laying_needs v old laying * volume.ident.cluster ≡ clusters_needed volume.ident.cluster loaded.file.segs end * volume.ident.cluster = ap (λ m. m * volume.ident.cluster) needs in
            absurd (omega arith))
            (cases_lt (free_total v) (laying_needs v old laying));
        media_kept = refl;
      }

  pub apart_all : (v : DiskVolume) → RepresentsVolume before v → (c : ℕ) → uses (cluster_size v) loaded.file.segs c ≡ true → is_free_in v c ≡ false
  apart_all v on c used =
      let f = file_of before n has v on in
      own_not_free before v on n f.0 f.1 c (subst (λ xs. uses (cluster_size v) xs c ≡ true) (is_loaded.says v f.0 on f.1).segments_are used)

  module _ (count : ℕ) (counted : IsClusterCount volume.ident.cluster loaded.file.segs end count) where
    module _ (v : DiskVolume) (old : DiskFile) (on : RepresentsVolume before v) (is : v.files n ≡ Some old) where
      fd : IsFdOf old loaded.file
      fd = is_loaded.says v old on is

      pub count_on : count ≡ clusters_needed (cluster_size v) old.segments end
      count_on =
          counted.count_is ∙ ap (λ k. clusters_needed k loaded.file.segs end)
          (k_is volume on.image v on.vol (agrees_on volume before v mounted on)) ∙ ap
          (λ xs. clusters_needed (cluster_size v) xs end) fd.segments_are

      needs_on : count ≡ laying_needs v old laying
      needs_on = count_on ∙ sym (needs_is before v on laying old is)

      -- the growth was refused, or a fault has ended it
      pub growth_answers : (after : Option (List ℕ)) (fault : FileFault)
          → Grows v count loaded.file.segs before after (Err fault)
          → (IsNone (file_fault {A = List (ℕ × ℕ)} (Err fault)) → after ≡ before)
          → AnswersLaying v old laying before after (Err fault)
      growth_answers after fault grows refused =
          growth_fault v old laying count before after fault needs_on count_on on is (subst (λ xs. Grows v count xs before after (Err fault)) fd.segments_are grows) refused

      -- how many calls of the drive have been made
      abbrev last_calls : ℕ
      last_calls = if nat_lt loaded.file.size end then 1 else 0

      calls_are : (marks : ℕ) → min count marks + 2 * sector_span (min loaded.file.size at) end + last_calls ≡ laying_calls v old marks at end
      calls_are marks = ap (λ m. min m marks + 2 * sector_span (min loaded.file.size at) end + last_calls) count_on
          ∙ ap (λ s. min (clusters_needed (cluster_size v) old.segments end) marks + 2 * sector_span (min s at) end + (if nat_lt s end then 1 else 0)) fd.size_is

      pub calls_growth : (marks : ℕ) → marks ≡ map_sectors (shape v) → (f : Option ℕ) (s t : DriveCounts)
          → MovesCounts f (min count (map_sectors (shape v))) s t → MovesCounts f (laying_calls v old marks at end) s t
      calls_growth marks all_marks f s t one =
          let all = calls_are marks in counts_most f (min count (map_sectors (shape v))) (laying_calls v old marks at end) s t (omega arith) one

      -- the growth has written each sector of the map once
      pub most_marks : (longer : List (ℕ × ℕ)) (marks : ℕ) → marks ≡ map_sectors (shape v) → marking_sectors (shape v) (is_gained (cluster_size v) loaded.file.segs longer) ≤ marks
      most_marks longer marks all_marks = let most = marking_most (shape v) (is_gained (cluster_size v) loaded.file.segs longer) in omega arith

      grown_calls : (longer : List (ℕ × ℕ)) (marks : ℕ) → marking_sectors (shape v) (is_gained (cluster_size v) loaded.file.segs longer) ≤ marks → (s t : DriveCounts) → MovesCounts None count s t
          → MovesCounts None (growth_calls v count loaded.file.segs (Ok longer)) s t → MovesCounts None (min count marks) s t
      grown_calls longer marks enough s t one marked =
          let few = one.calls_made in
          let sectors = marked.calls_made in
          counts_within None count (min count marks) s t (omega arith) one

      pub calls_fill : (longer : List (ℕ × ℕ)) (marks : ℕ)
          → marking_sectors (shape v) (is_gained (cluster_size v) loaded.file.segs longer) ≤ marks
          → (f : Option ℕ) (s t u : DriveCounts) → MovesCounts None count s t
          → MovesCounts None (growth_calls v count loaded.file.segs (Ok longer)) s t
          → MovesCounts f (2 * sector_span (min loaded.file.size at) end) t u
          → MovesCounts f (laying_calls v old marks at end) s u
      calls_fill longer marks enough f s t u one marked other =
          let all = calls_are marks in
          let span = 2 * sector_span (min loaded.file.size at) end in
          counts_most f (min count marks + span) (laying_calls v old marks at end) s u (omega arith) (counts_then f (min count marks) span s t u (grown_calls longer marks enough s t one marked) other)

      pub calls_finish : (longer : List (ℕ × ℕ)) (marks : ℕ)
          → marking_sectors (shape v) (is_gained (cluster_size v) loaded.file.segs longer) ≤ marks
          → (f : Option ℕ) (s t u w : DriveCounts) → MovesCounts None count s t
          → MovesCounts None (growth_calls v count loaded.file.segs (Ok longer)) s t → MovesCounts None (2 * sector_span (min loaded.file.size at) end) t u → MovesCounts f last_calls u w
          → MovesCounts f (laying_calls v old marks at end) s w
      calls_finish longer marks enough f s t u w one marked other last =
          let span = 2 * sector_span (min loaded.file.size at) end in
          subst (λ m. MovesCounts f m s w) (calls_are marks)
          (counts_then f (min count marks + span) last_calls s u w
          (counts_then None (min count marks) span s t u (grown_calls longer marks enough s t one marked) other) last)

    -- the clusters have been taken
    module _ (mid : Option (List ℕ)) (longer : List (ℕ × ℕ)) (grows : (v : DiskVolume) → RepresentsVolume before v → Grows v count loaded.file.segs before mid (Ok longer)) where
      module _ (v : DiskVolume) (old : DiskFile) (on : RepresentsVolume before v) (is : v.files n ≡ Some old) where
        says : IsFdOf old loaded.file
        says = is_loaded.says v old on is

        grown : IsGrown v count before mid old.segments longer
        grown = subst (λ xs. IsGrown v count before mid xs longer) says.segments_are (grows v on).grown

        enough : laying_needs v old laying ≤ free_total v
        enough = subst (λ c. c ≤ free_total v) (needs_on v old on is) (enough_free longer (free_total v) count NoCluster (grows v on).full)

        not_directory : is_directory old ≡ false
        not_directory = data_in before n has v old on is

        abbrev volume_then : DiskVolume
        volume_then = volume_grown before v on laying old is count (count_on v old on is) mid longer grown not_directory

        known_then : IsDataOf volume_then n old longer loaded.file.size
        known_then = subst (λ s. IsDataOf volume_then n old longer s) (sym says.size_is) (known before v on laying old is count (count_on v old on is) mid longer grown not_directory)

        on_then : RepresentsVolume mid volume_then
        on_then = on_grown before v on laying old is count (count_on v old on is) mid longer grown not_directory

        room_then : end ≤ 256 * length (sectors_of longer)
        room_then = has_room_then before v on laying old is count (count_on v old on is) mid longer grown not_directory

        same_then : length (sectors_of longer) ≡ length (sectors_of loaded.file.segs) → longer ≡ loaded.file.segs
        same_then same =
            let taken = grown.taken in
            let k = cluster_size v in
            let positive : 1 ≤ k =
            subst (λ (g : Geometry). 1 ≤ g.cluster) (sym (shape-image on.image v on.vol))
            (cluster_positive (image_geometry on.image).cluster on.vol.sound.shape.header.clusters) in
            let more : length (sectors_of longer) ≡ length (sectors_of old.segments) + length taken * k = ap (λ xs. length (sectors_of xs)) grown.segments ∙ length-with k old.segments taken in
            let was : length (sectors_of loaded.file.segs) ≡ length (sectors_of old.segments) = ap (λ xs. length (sectors_of xs)) says.segments_are in
            let least : length taken * 1 ≤ length taken * k = mul-le-mul_left (length taken) positive in
            let none : taken ≡ [] = nil_from_length taken (omega arith) in
            grown.segments ∙ ap (with_clusters k old.segments) none ∙ sym says.segments_are

      pub may_lay : min loaded.file.size at < end → MayLay mid longer loaded.file.size at from
      may_lay some =
          let f = file_of before n has has.content has.on in
          record {
            held =
                record {
                  volume = volume_then has.content has.file has.on has.is;
                  on = on_then has.content has.file has.on has.is;
                  number = n;
                  file = has.file;
                  is = known_then has.content has.file has.on has.is;
                };
            room = room_then has.content has.file has.on has.is;
            some = some;
            fits = counted.fits;
          }

      pub same_list : length (sectors_of longer) ≡ length (sectors_of loaded.file.segs) → longer ≡ loaded.file.segs
      same_list = same_then has.content has.file has.on has.is

      -- a fault among the sectors
      pub fill_answers : (after : Option (List ℕ)) (fault : FileFault) → IsSome (file_fault {A = Unit {0}} (Err fault))
          → ((u : DiskVolume) (m : ℕ) (file : DiskFile) → RepresentsVolume mid u → IsDataOf u m file longer loaded.file.size → Fills u m file longer loaded.file.size at from mid after (Err fault))
          → (v : DiskVolume) (old : DiskFile) → RepresentsVolume before v → v.files n ≡ Some old → AnswersLaying v old laying before after (Err fault)
      fill_answers after fault device fills v old on is =
          let part = (fills (volume_then v old on is) n old (on_then v old on is) (known_then v old on is)).part in
          answers_fault v old laying before after fault device
          (part_ends before v on laying old is count (count_on v old on is) mid longer (grown v old on is) (not_directory v old on is) after
          (subst (λ s. IsPartLaid (volume_then v old on is) n old longer mid after s at from) (says v old on is).size_is part))

      -- all sectors have been written
      module _ (after : Option (List ℕ)) (fills : (u : DiskVolume) (m : ℕ) (file : DiskFile) → RepresentsVolume mid u
          → IsDataOf u m file longer loaded.file.size → Fills u m file longer loaded.file.size at from mid after (Ok tt)) where
        laid_then : (v : DiskVolume) (old : DiskFile) (on : RepresentsVolume before v) (is : v.files n ≡ Some old)
            → IsLaid (volume_then v old on is) n old longer mid after (laid_bytes (segment_bytes (sector_at mid) longer) (length old.contents) at from)
        laid_then v old on is =
            subst (λ s. IsLaid (volume_then v old on is) n old longer mid after (laid_bytes (segment_bytes (sector_at mid) longer) s at from)) (says v old on is).size_is
            (fills (volume_then v old on is) n old (on_then v old on is) (known_then v old on is)).laid

        pub file_after : HasFile after n
        file_after =
            let laid = laid_then has.content has.file has.on has.is in
            record { content = _; on = record { image = laid.now; is = laid.is; vol = laid.vol }; file = _; is = put_here (volume_then has.content has.file has.on has.is).files n _ }

        -- a fault at the descriptor
        pub finish_answers : (last : Option (List ℕ)) (fault : FileFault) → last ≡ after → loaded.file.size < end → IsSome (file_fault {A = Unit {0}} (Err fault))
            → (v : DiskVolume) (old : DiskFile) → RepresentsVolume before v → v.files n ≡ Some old → AnswersLaying v old laying before last (Err fault)
        finish_answers last fault same later device v old on is =
            subst (λ m. AnswersLaying v old laying before m (Err fault)) (sym same)
            (answers_fault v old laying before after fault device
            (all_ends before v on laying old is count (count_on v old on is) mid longer (grown v old on is) (not_directory v old on is) after (laid_then v old on is)
            (subst (λ s. s < end) (says v old on is).size_is later)))

        pub done_answers : (last : Option (List ℕ)) → IsFinished loaded longer end now after last
            → (v : DiskVolume) (old : DiskFile) → RepresentsVolume before v → v.files n ≡ Some old
            → IsLaidOver v old laying before last
        done_answers last (stays inside same) v old on is =
            subst (λ m. IsLaidOver v old laying before m) (sym same)
            (done_inside before v on laying old is count (count_on v old on is) mid longer (grown v old on is) (not_directory v old on is) after (laid_then v old on is) (enough v old on is)
            (subst (λ s. end ≤ s) (says v old on is).size_is inside))
        done_answers last (resized {bytes = new} later is_new written) v old on is =
            done_longer before v on laying old is count (count_on v old on is) mid longer (grown v old on is)
            (not_directory v old on is) after (laid_then v old on is) loaded (says v old on is) is_loaded.bytes_are new
            is_new
            (subst (λ s. s < end) (says v old on is).size_is later) last written (enough v old on is)

        -- the file that is there then has these segments
        pub list_then : (last : Option (List ℕ)) → IsFinished loaded longer end now after last → (v : DiskVolume) (old : DiskFile) (on : RepresentsVolume before v) (is : v.files n ≡ Some old)
            → (w : DiskVolume) (new : DiskFile) → RepresentsVolume last w → w.files n ≡ Some new → new.segments ≡ longer
        list_then last (stays inside same) v old on is w new there at =
            list_inside before v on laying old is count (count_on v old on is) mid longer (grown v old on is) (not_directory v old on is) after (laid_then v old on is)
            (subst (λ s. end ≤ s) (says v old on is).size_is inside) w new (subst (λ m. RepresentsVolume m w) same there) at
        list_then last (resized {bytes = bytes} later is_new written) v old on is w new there at =
            list_longer before v on laying old is count (count_on v old on is) mid longer (grown v old on is)
            (not_directory v old on is) after (laid_then v old on is) loaded (says v old on is) is_loaded.bytes_are
            bytes is_new
            (subst (λ s. s < end) (says v old on is).size_is later) last written w new there at

        -- the file that it has made
        file_made : (last : Option (List ℕ)) (v : DiskVolume) (old : DiskFile) → IsLaidOver v old laying before last
            → (w : DiskVolume) × (new : DiskFile) × RepresentsVolume last w × (w.files n ≡ Some new)
        file_made last v old done =
            let new = laid_file old laying (with_clusters (cluster_size v) old.segments done.gained) in
            (replaced v n (Some new), new, done.on, put_here v.files n (Some new))

        pub marks_then : (last : Option (List ℕ)) → IsFinished loaded longer end now after last → (v : DiskVolume) (old : DiskFile) (on : RepresentsVolume before v) (is : v.files n ≡ Some old)
            → (marks : ℕ) → AreMarked v old n last (Ok tt) marks → marking_sectors (shape v) (is_gained (cluster_size v) loaded.file.segs longer) ≤ marks
        marks_then last finished v old on is marks are =
            let m = file_made last v old (done_answers last finished v old on is) in
            let list = list_then last finished v old on is m.0 m.1 m.2 m.3 in
            let counted : marks ≡ marking_sectors (shape v) (is_gained (cluster_size v) loaded.file.segs longer) =
            are m.0 m.1 m.2 m.3 ∙ ap (λ xs. marking_sectors (shape v) (is_gained (cluster_size v) old.segments xs)) list
            ∙ ap (λ xs. marking_sectors (shape v) (is_gained (cluster_size v) xs longer))
            (sym (says v old on is).segments_are) in
            omega arith

        pub done_mounted : (last : Option (List ℕ)) → IsFinished loaded longer end now after last → (one other : Volume)
            → IsMounted one after → mounted_part other ≡ mounted_part one → IsCacheOf last other.cache → IsMounted other last
        done_mounted last (stays inside same) one other is_mounted kept_same cached = mounted_still one other after last kept_same same cached is_mounted
        done_mounted last (resized {bytes = new} later is_new written) one other is_mounted kept_same cached =
            let v = has.content in
            let old = has.file in
            let on = has.on in
            let is = has.is in
            mounted_last before v on laying old is count (count_on v old on is) mid longer (grown v old on is)
            (not_directory v old on is) after (laid_then v old on is) loaded (says v old on is) is_loaded.bytes_are new
            is_new
            (subst (λ s. s < end) (says v old on is).size_is later) last written one other is_mounted kept_same cached

        -- the media is sound at that write
        pub done_sound : (last : Option (List ℕ)) → IsFinished loaded longer end now after last → IsSoundMedia last
        done_sound last (stays inside same) =
            let laid = laid_then has.content has.file has.on has.is in
            (_, record { image = laid.now; is = same ∙ laid.is; vol = laid.vol })
        done_sound last (resized {bytes = new} later is_new written) =
            let v = has.content in
            let old = has.file in
            let on = has.on in
            let is = has.is in
            sound_last before v on laying old is count (count_on v old on is) mid longer (grown v old on is)
            (not_directory v old on is) after (laid_then v old on is) loaded (says v old on is) is_loaded.bytes_are new
            is_new
            (subst (λ s. s < end) (says v old on is).size_is later) last written
