-- A file that has gained clusters and over which bytes are laid: what the media represents at each answer.
use Rattle.std.proofs.Common.{◌≡◌, ◌≢◌, ℕ, ◌+◌, ◌-◌, ◌*◌, ◌/◌, ◌%◌, ◌<◌, ◌≤◌, min, max, Bool, true, false, ◌==◌, ◌||◌, Option, Some, List, [], ◌∷◌, ◌++◌, length, take, get_or, refl, sym, ap, ap₂, ◌∙◌, subst, inl, inr, ◌⊎◌, ⊎_elim, arith, slice_index, eq-eqb, eqb-true, le-leb, length-take, length-append}
use Rattle.std.specs.Prelude.{if◌then◌else◌, flat_map}
use Rattle.std.specs.Int.{bit_at}
use mathlib.Core.Path.{fun_ext}
use Rattle.std.proofs.lemmas.Bool.{or_left, or_right, both_ways, false_from_ne_true, cond-true, cond-false, cases_lt}
use Rattle.std.proofs.lemmas.Grind.{flat_map-append}
use Rattle.std.proofs.lemmas.List.{take-append-le, nil_from_length}
use Rattle.std.proofs.Math.Nat.{lt-div-mul-add, div-eq_of_lt}
use Rattle.os9_outer.specs.Drive.{sector_at, with_sector}
use Rattle.rbf_model.specs.Fields.{segments_field, size_field}
use Rattle.rbf_model.specs.Geometry.{Geometry, image_geometry, sector, map_sectors}
use Rattle.rbf_model.specs.Segments.{sectors_of, has}
use Rattle.rbf_model.specs.File.{DiskFile, file_from, is_directory, has_room, segment_bytes}
use Rattle.rbf_model.specs.Space.{is_marked, has_cluster}
use Rattle.rbf_model.specs.Volume.{DiskVolume, Vol, is_free}
use Rattle.rbf_model.specs.Writes.{put_at, put_file, put_sector, with_lost, with_file_in_place}
use Rattle.rbf_model.specs.Laws.{IsMapSector}
use Rattle.rbf_model.proofs.Free.{free_parts}
use Rattle.rbf_model.proofs.Owners.{cluster_positive, own_after, owns_own, owns_system, root_file}
use Rattle.rbf_model.proofs.Segments.{has_cases, has_range}
use Rattle.rbf_model.proofs.Space.{cluster_from_owns}
use Rattle.rbf_model.proofs.Unique.{vol_is_unique}
use Rattle.rbf_change.specs.Agrees.{Agrees}
use Rattle.rbf_change.specs.Calls.{shape, free_total, cluster_size, is_free_in, replaced, minute_of}
use Rattle.rbf_change.specs.Growth.{clusters_needed, with_clusters, Gains, IsChoice}
use Rattle.rbf_change.specs.Faults.{MayLose, IsWriteFront, none, with_front}
use Rattle.rbf_change.specs.Tidy.{KeepsListEnd}
use Rattle.rbf_change.specs.Contents.{sector_count}
use Rattle.rbf_change.proofs.LawfulWrites.{shape-image}
use Rattle.rbf_access.specs.declared.volume.Volume.{Volume}
use Rattle.rbf_access.specs.Cached.{IsCacheOf}
use Rattle.rbf_access.specs.Mounted.{mounted_part, RepresentsVolume, IsMounted, IsSoundMedia}
use Rattle.rbf_access.specs.Reading.{IsFdOf}
use Rattle.rbf_access.proofs.ReadFile.{contents_are, room_for}
use Rattle.rbf_alloc.specs.Grown.{ChangesMap, IsChosenGrowth, IsGrown, GrowthEnds}
use Rattle.rbf_alloc.proofs.Chosen.{has_free, length-with}
use Rattle.rbf_alloc.proofs.Growing.{agrees_on}
use Rattle.rbf_write.specs.Laid.{IsDataOf, IsLaid, IsPartLaid, laid_bytes, laid_front}
use Rattle.rbf_write.proofs.Described.{described}
use Rattle.rbf_write.proofs.FilledFile.{all_of_none, put_here, put_twice, put_same_file}
use Rattle.rbf_write.proofs.Redated.{same_file, beside_put, here_put, agrees_put}
use Rattle.rbf_write.proofs.LaidBytes.{front_byte, rest_byte, length-front, length-target, target_byte, laid_after}
use Rattle.rbf_write.specs.declared.loaded.Loaded.{Loaded}
use Rattle.rbf_write.specs.Finished.{IsResized}
use Rattle.rbf_write.specs.Laying.{Laying, laid_contents, laid_file, laying_needs, KeepsBytesFrom, AllAreMarked, IsTidyChange, IsTidyStop, IsLaidOver, LayingEnds}
use Rattle.rbf_write.proofs.Contents.{put_none, laid_all, laid_part, length-laid, front_of_sectors, front_of_all}
use Rattle.rbf_write.proofs.Gained.{data_gained, descriptor_apart, cluster_sectors, sectors_with, in_taken}

-- a mark rests on one sector of the map
pub same_mark : (one other : ℕ → List ℕ) (c : ℕ) → one (1 + c / 8 / 256) ≡ other (1 + c / 8 / 256) → is_marked one c ≡ is_marked other c
unfolding is_marked
same_mark one other c same = ap (λ b. bit_at (slice_index b (c / 8 % 256)) (7 - c % 8) == 1) same

pub same_end : (one other : List ℕ) → other ≡ one → KeepsListEnd one other
same_end one other same = record {
  same = λ _ i past. ap (λ b. slice_index b i) same;
  ended = inl (ap segments_field same);
  behind = λ i past. ap (λ b. slice_index b i) same;
}

-- the media has one file of a number
file_of_volume : (media : Option (List ℕ)) (v w : DiskVolume) → RepresentsVolume media v → RepresentsVolume media w
    → (n : ℕ) (one other : DiskFile) → v.files n ≡ Some one → w.files n ≡ Some other → other.segments ≡ one.segments
file_of_volume media v w first second n one other is at =
    let images : Some first.image ≡ Some second.image = sym first.is ∙ second.is in
    let image : first.image ≡ second.image = cc in
    let same : v ≡ w = vol_is_unique second.image v w (subst (λ i. Vol i v) image first.vol) second.vol in
    let both : Some other ≡ Some one = sym at ∙ ap (λ (x : DiskVolume). x.files n) (sym same) ∙ is in
    let file : other ≡ one = cc in
    ap (λ (x : DiskFile). x.segments) file

-- the same sectors have the same bytes
pub same_bytes : (one other : ℕ → List ℕ) (xs : List ℕ) → ((s : ℕ) → has xs s ≡ true → one s ≡ other s) → flat_map one xs ≡ flat_map other xs
same_bytes one other [] same = refl
same_bytes one other (x ∷ xs) same =
    ap₂ (λ a b. a ++ b) (same x (or_left (x == x) (has xs x) (eq-eqb x x refl))) (same_bytes one other xs (λ s h. same s (or_right (x == s) (has xs s) h)))

-- what has stayed
pub tidy_of : (before after : Option (List ℕ)) (image mid now : List ℕ) (n : ℕ) (segments : List (ℕ × ℕ)) (end : ℕ) → before ≡ Some image → after ≡ Some now → ChangesMap image mid
    → ((s : ℕ) → s ≤ map_sectors (image_geometry image) → sector now s ≡ sector mid s)
    → ((s : ℕ) → ¬ IsMapSector (image_geometry image) s → s ≢ n → has (sectors_of segments) s ≡ false → sector now s ≡ sector mid s)
    → KeepsBytesFrom end segments image now → KeepsListEnd (sector image n) (sector now n) → IsTidyChange before after n segments end
tidy_of before after image mid now n segments end was is changes map_same beside behind list = record {
  image = image;
  now = now;
  was = was;
  is = is;
  others = λ s not_map differ none. beside s not_map differ none ∙ changes.others s not_map;
  behind = behind;
  map_end = λ c past. same_mark (sector now) (sector mid) c (map_same (1 + c / 8 / 256) (let low = past.in_map in omega arith)) ∙ changes.end c past;
  list = list;
}

-- and where a fault came before the descriptor was written
pub stop_of : (before after : Option (List ℕ)) (image mid now : List ℕ) (n : ℕ) (segments : List (ℕ × ℕ)) (end : ℕ) → before ≡ Some image → after ≡ Some now → ChangesMap image mid
    → ((s : ℕ) → s ≤ map_sectors (image_geometry image) → sector now s ≡ sector mid s) → ((s : ℕ) → has (sectors_of segments) s ≡ false → sector now s ≡ sector mid s)
    → KeepsBytesFrom end segments image now → sector now n ≡ sector image n
    → ((s : ℕ) → ¬ IsMapSector (image_geometry image) s → (sector now s ≡ sector image s) ⊎ AllAreMarked now segments)
    → IsTidyStop before after n segments end
stop_of before after image mid now n segments end was is changes map_same beside behind here marks = record {
  image = image;
  now = now;
  was = was;
  is = is;
  descriptor = here;
  marks = marks;
  others = λ s not_map none. beside s none ∙ changes.others s not_map;
  behind = behind;
  map_end = λ c past. same_mark (sector now) (sector mid) c (map_same (1 + c / 8 / 256) (let low = past.in_map in omega arith)) ∙ changes.end c past;
}

-- a size that was there needs no clusters
pub needed_is : (k size end : ℕ) (segments : List (ℕ × ℕ)) → size ≤ 256 * length (sectors_of segments) → clusters_needed k segments (max size end) ≡ clusters_needed k segments end
needed_is k size end segments room =
    let same : sector_count (max size end) - length (sectors_of segments) ≡ sector_count end - length (sectors_of segments) = omega arith in
    ap (λ m. (m + (k - 1)) / k) same

pub no_clusters : (k missing : ℕ) → 1 ≤ k → missing ≡ 0 → (missing + (k - 1)) / k ≡ 0
no_clusters k missing some nothing =
    let low : k - 1 < k = omega arith in
    let same : missing + (k - 1) ≡ k - 1 = omega arith in
    ap (λ m. m / k) same ∙ div-eq_of_lt low

module _ (before : Option (List ℕ)) (v : DiskVolume) (on : RepresentsVolume before v) (laying : Laying) (old : DiskFile) (is : v.files laying.number ≡ Some old) where
  abbrev n : ℕ
  n = laying.number

  abbrev k : ℕ
  k = cluster_size v

  abbrev size : ℕ
  size = length old.contents

  abbrev end : ℕ
  end = laying.at + length laying.bytes

  pub room : size ≤ 256 * length (sectors_of old.segments)
  room = room_for before v on n old is

  pub needs_is : laying_needs v old laying ≡ clusters_needed k old.segments end
  needs_is = ap (clusters_needed k old.segments) (length-laid old.contents laying.bytes laying.at) ∙ needed_is k size end old.segments room

  pub choice_is : (count : ℕ) (taken : List ℕ) → count ≡ clusters_needed k old.segments end → IsChosenGrowth k count (is_free_in v) old.segments taken
      → IsChoice k (is_free_in v) old.segments (length (laid_contents old.contents laying)) taken
  choice_is count taken counted chosen = record { enough = chosen.counted ∙ counted ∙ sym needs_is; gained = chosen.gained; fits = chosen.fits }

  pub same_volume : replaced v n (Some (with_front old laying.at laying.bytes 0)) ≡ v
  same_volume =
      ap (λ c. replaced v n (Some (record old { contents = c }))) (put_none old.contents laying.at)
      ∙ ap (λ fs. record { ident = v.ident; files = fs; lost = v.lost; rest = v.rest }) (put_same_file v.files n old is)

  at_image : (image : List ℕ) → before ≡ Some image → Vol image v
  at_image image was =
      let both : Some on.image ≡ Some image = sym on.is ∙ was in
      let same : on.image ≡ image = cc in
      subst (λ i. Vol i v) same on.vol

  not_map : (image : List ℕ) → before ≡ Some image → ¬ IsMapSector (image_geometry image) n
  not_map image was map =
      let vol = at_image image was in
      let low = map.within in
      let past = own_after (image_geometry image) (sector image) v vol.sound n old n is (or_left (n == n) (has (sectors_of old.segments) n) (eq-eqb n n refl)) in
      absurd (omega arith)

  positive : 1 ≤ k
  positive = subst (λ (g : Geometry). 1 ≤ g.cluster) (sym (shape-image on.image v on.vol)) (cluster_positive (image_geometry on.image).cluster on.vol.sound.shape.header.clusters)

  -- a sector of a free cluster lies behind the map
  free_past : (image : List ℕ) → before ≡ Some image → (s : ℕ) → is_free_in v (s / k) ≡ true → map_sectors (image_geometry image) < s
  free_past image was s free = ⊎_elim
      (λ past. past)
      (λ in_system.
      let g : Geometry = image_geometry image in
      let vol = at_image image was in
      let r = root_file g (sector image) v vol.sound in
      let facts = free_parts g (sector image) v vol.sound (s / g.cluster) (subst (λ h. is_free h v (s / h.cluster) ≡ true) (shape-image image v vol) free) in
      absurd (both_ways (has_cluster g g.root r.0 (s / g.cluster)) (facts.2 g.root r.0 r.1)
      (cluster_from_owns g g.root r.0 s (owns_system g r.0 s (has_range 0 (1 + map_sectors g) s (omega arith) (omega arith))))))
      (cases_lt (map_sectors (image_geometry image)) s)

  -- a change of the map leaves the bytes of the file and of the clusters that it gains
  map_kept : (image now : List ℕ) → before ≡ Some image → ChangesMap image now → (taken : List ℕ) → Gains k (is_free_in v) old.segments taken
      → segment_bytes (sector now) (with_clusters k old.segments taken) ≡ segment_bytes (sector image) (with_clusters k old.segments taken)
  map_kept image now was changes taken gained =
      same_bytes (sector now) (sector image) (sectors_of (with_clusters k old.segments taken))
      (λ s h. changes.others s (λ map. let past = past_map s h in let low = map.within in absurd (omega arith)))
    where
      past_map : (s : ℕ) → has (sectors_of (with_clusters k old.segments taken)) s ≡ true → map_sectors (image_geometry image) < s
      past_map s h = ⊎_elim
          (λ own. own_after (image_geometry image) (sector image) v (at_image image was).sound n old s is (or_right (n == s) (has (sectors_of old.segments) s) own))
          (λ new. free_past image was s (has_free k (is_free_in v) old.segments taken (s / k) gained (in_taken k taken s positive new)))
          (has_cases (sectors_of old.segments) (cluster_sectors k taken) s (subst (λ xs. has xs s ≡ true) (sectors_with k old.segments taken) h))

  -- a fault while clusters were taken
  pub growth_ends : (count : ℕ) (after : Option (List ℕ)) → count ≡ clusters_needed k old.segments end → GrowthEnds v count before after old.segments → LayingEnds v old laying before after
  growth_ends count after counted ends = record {
    count = 0;
    front = none;
    taken = ends.taken;
    choice = choice_is count ends.taken counted ends.chosen;
    left = ends.left;
    on = record { image = ends.now; is = ends.is; vol = ends.vol };
    lose = subst (λ x. MayLose x ends.left (has ends.taken)) (sym same_volume) ends.lose;
    order = inl refl;
    tidy = stop_of before after ends.image ends.now ends.now n (with_clusters k old.segments ends.taken) end ends.was ends.is ends.changes (λ s low. refl) (λ s out. refl)
        (λ p high. ap (λ b. get_or b p 0) (map_kept ends.image ends.now ends.was ends.changes ends.taken ends.chosen.gained))
        (ends.changes.others n (not_map ends.image ends.was)) (λ s not_map_sector. inl (ends.changes.others s not_map_sector));
  }

  -- the clusters have been taken
  module _ (count : ℕ) (counted : count ≡ clusters_needed k old.segments end) (mid : Option (List ℕ))
      (longer : List (ℕ × ℕ)) (grown : IsGrown v count before mid old.segments longer)
      (not_directory : is_directory old ≡ false) where
    abbrev taken : List ℕ
    taken = grown.taken

    abbrev segments : List (ℕ × ℕ)
    segments = with_clusters k old.segments taken

    abbrev lost : ℕ → Bool
    lost c = v.lost c || has taken c

    abbrev pub volume_grown : DiskVolume
    volume_grown = with_lost v lost

    choice : IsChoice k (is_free_in v) old.segments (length (laid_contents old.contents laying)) taken
    choice = choice_is count taken counted grown.chosen

    pub has_room_then : end ≤ 256 * length (sectors_of longer)
    has_room_then =
        let missing = sector_count end - length (sectors_of old.segments) in
        let size_then : length (sectors_of longer) ≡ length (sectors_of old.segments) + length taken * k = ap (λ xs. length (sectors_of xs)) grown.segments ∙ length-with k old.segments taken in
        let q = clusters_needed k old.segments end in
        let up : missing + (k - 1) < q * k + k = lt-div-mul-add positive in
        let many : length taken * k ≡ q * k = ap (λ m. m * k) (grown.chosen.counted ∙ counted) in
        let some = positive in
        omega arith

    pub known : IsDataOf volume_grown n old longer size
    known = subst (λ xs. IsDataOf volume_grown n old xs size) (sym grown.segments)
        (data_gained grown.now v lost taken grown.vol (λ c h. or_right (v.lost c) (has taken c) h) n old is (is_free_in v) grown.chosen.gained not_directory)

    pub on_grown : RepresentsVolume mid volume_grown
    on_grown = record { image = grown.now; is = grown.is; vol = grown.vol }

    abbrev whole : List ℕ
    whole = segment_bytes (sector_at mid) longer

    length_whole : length whole ≡ 256 * length (sectors_of longer)
    length_whole = all_of_none volume_grown n old longer size known mid on_grown

    in_size : size ≤ length whole
    in_size =
        let all = length_whole in
        let there = room in
        let more = ap (λ xs. length xs) known.sectors_are ∙ length-append (sectors_of old.segments) known.more in
        omega arith

    in_whole : end ≤ length whole
    in_whole = let all = length_whole in let there = has_room_then in omega arith

    first : old.contents ≡ take size whole
    first = sym
        (ap (λ ys. take size (flat_map (sector_at mid) ys)) known.sectors_are
        ∙ ap (take size) (flat_map-append (sector_at mid) (sectors_of old.segments) known.more)
        ∙ take-append-le size (segment_bytes (sector_at mid) old.segments) (flat_map (sector_at mid) known.more)
        (omega (arith, ap length (contents_are mid volume_grown on_grown n old is), length-take size (segment_bytes (sector_at mid) old.segments)))
        ∙ sym (contents_are mid volume_grown on_grown n old is))

    abbrev target : List ℕ
    target = laid_bytes whole size laying.at laying.bytes

    apart : has (sectors_of longer) n ≡ false
    apart = subst (λ xs. has (sectors_of xs) n ≡ false) (sym grown.segments)
        (descriptor_apart grown.now v lost taken grown.vol (λ c h. or_right (v.lost c) (has taken c) h) n old is (is_free_in v) grown.chosen.gained)

    map_apart : (s : ℕ) → s ≤ map_sectors (image_geometry grown.image) → has (sectors_of longer) s ≡ false
    map_apart s low =
        let same : map_sectors (shape v) ≡ map_sectors (image_geometry grown.image) = ap map_sectors (shape-image grown.image v (at_image grown.image grown.was)) in
        false_from_ne_true (has (sectors_of longer) s) (λ h. let past : map_sectors (shape v) < s = known.past_map s h in absurd (omega arith))

    -- bytes have been laid over its sectors
    module _ (after : Option (List ℕ)) (bytes : List ℕ) (laid : IsLaid volume_grown n old longer mid after bytes) where
      same_mid : laid.image ≡ grown.now
      same_mid = let both : Some laid.image ≡ Some grown.now = sym laid.was ∙ grown.is in cc

      beside : (s : ℕ) → has (sectors_of longer) s ≡ false → sector laid.now s ≡ sector grown.now s
      beside s out = laid.others s out ∙ ap (λ i. sector i s) same_mid

      here : sector laid.now n ≡ sector grown.image n
      here = beside n apart ∙ grown.changes.others n (not_map grown.image grown.was)

      beside_segments : (s : ℕ) → has (sectors_of segments) s ≡ false → sector laid.now s ≡ sector grown.now s
      beside_segments s out = beside s (subst (λ xs. has (sectors_of xs) s ≡ false) (sym grown.segments) out)

      abbrev KeptBehind : Type 0
      KeptBehind = (p : ℕ) → end ≤ p → get_or bytes p 0 ≡ get_or whole p 0

      behind_laid : KeptBehind → KeepsBytesFrom end segments grown.image laid.now
      behind_laid keeps p high =
          ap (λ xs. get_or (segment_bytes (sector laid.now) xs) p 0) (sym grown.segments)
          ∙ ap (λ b. get_or b p 0) laid.bytes_are
          ∙ keeps p high
          ∙ ap (λ m. get_or (segment_bytes (sector_at m) longer) p 0) grown.is
          ∙ ap (λ xs. get_or (segment_bytes (sector grown.now) xs) p 0) grown.segments
          ∙ ap (λ b. get_or b p 0) (map_kept grown.image grown.now grown.was grown.changes taken grown.chosen.gained)

      tidy_laid : KeptBehind → IsTidyChange before after n segments end
      tidy_laid keeps = tidy_of before after grown.image grown.now laid.now n segments end grown.was laid.is grown.changes
          (λ s low. beside s (map_apart s low)) (λ s map differ out. beside_segments s out) (behind_laid keeps) (same_end (sector grown.image n) (sector laid.now n) here)

      -- all clusters are marked
      all_marked : AllAreMarked laid.now segments
      all_marked s h =
          let there : DiskFile = record old { contents = take size bytes } in
          let now_shape = image_geometry laid.now in
          let same_k : k ≡ now_shape.cluster = ap (λ (g : Geometry). g.cluster) (shape-image laid.now (with_file_in_place volume_grown n there) laid.vol) in
          ⊎_elim
          (λ own.
          laid.vol.sound.mapped.marks n there (s / now_shape.cluster) (put_here v.files n (Some there))
          (cluster_from_owns now_shape n there s (owns_own now_shape n there s (or_right (n == s) (has (sectors_of old.segments) s) own))))
          (λ new. ((laid.vol.sound.mapped.lost_are (s / now_shape.cluster)).0 (subst (λ m. lost (s / m) ≡ true) same_k (known.behind s new))).marked_in)
          (has_cases (sectors_of old.segments) known.more s (subst (λ xs. has xs s ≡ true) (ap sectors_of (sym grown.segments) ∙ known.sectors_are) h))

      stop_laid : KeptBehind → IsTidyStop before after n segments end
      stop_laid keeps =
          stop_of before after grown.image grown.now laid.now n segments end grown.was laid.is grown.changes
          (λ s low. beside s (map_apart s low)) (λ s out. beside_segments s out) (behind_laid keeps) here
          (λ s not_map_sector. inr all_marked)

      -- and then a fault
      pub laid_ends : KeptBehind → (so_far : ℕ) → IsWriteFront size laying.at laying.bytes so_far
          → take size bytes ≡ put_at old.contents laying.at (take so_far laying.bytes)
          → LayingEnds v old laying before after
      laid_ends keeps so_far front contents = record {
        count = so_far;
        front = front;
        taken = taken;
        choice = choice;
        left = with_file_in_place volume_grown n (record old { contents = take size bytes });
        on = record { image = laid.now; is = laid.is; vol = laid.vol };
        lose = record {
          same = ap (λ c. record { ident = v.ident; files = put_file v.files n (Some (record old { contents = c })); lost = lost; rest = v.rest }) contents;
          still = λ c was. or_left (v.lost c) (has taken c) was;
          only = λ c now. now;
        };
        order = inr (λ c gained. or_right (v.lost c) (has taken c) gained);
        tidy = stop_laid keeps;
      }

    -- the bytes behind those that are laid stay
    target_behind : (p : ℕ) → end ≤ p → get_or target p 0 ≡ get_or whole p 0
    target_behind p high = target_byte whole size laying.at laying.bytes in_size in_whole p ∙ laid_after size laying.at laying.bytes p (get_or whole p 0) high

    -- a fault among the sectors
    pub part_ends : (after : Option (List ℕ)) → IsPartLaid volume_grown n old longer mid after size laying.at laying.bytes → LayingEnds v old laying before after
    part_ends after part =
        let j = part.place in
        let few = part.unfinished in
        let whole_is = length_whole in
        let there = has_room_then in
        let in_place : 256 * j ≤ length whole = omega arith in
        laid_ends after (laid_front target whole j) part.laid
        (λ p high. ⊎_elim
        (λ low. front_byte whole size laying.at laying.bytes in_size in_whole j in_place p low ∙ target_behind p high)
        (λ past. rest_byte whole size laying.at laying.bytes in_size in_whole j in_place p past)
        (cases_lt p (256 * j)))
        (min (256 * j) size - laying.at) (front_of_sectors size laying.at j laying.bytes few)
        (laid_part whole old.contents laying.at laying.bytes first in_size in_whole (laid_front target whole j) (256 * j)
        (length-front whole size laying.at laying.bytes in_size in_whole j in_place)
        (λ p low. front_byte whole size laying.at laying.bytes in_size in_whole j in_place p low)
        (λ p high. rest_byte whole size laying.at laying.bytes in_size in_whole j in_place p high)
        (omega arith))

    -- all bytes are there
    module _ (after : Option (List ℕ)) (laid : IsLaid volume_grown n old longer mid after target) where
      -- but not the descriptor
      pub all_ends : size < end → LayingEnds v old laying before after
      all_ends later =
          laid_ends after target laid target_behind (min end size - laying.at) (front_of_all size laying.at laying.bytes later)
          (laid_part whole old.contents laying.at laying.bytes first in_size in_whole target end
          (length-target whole size laying.at laying.bytes in_size in_whole)
          (λ p low. refl)
          target_behind
          (omega arith))

      -- the descriptor stays
      pub done_inside : laying_needs v old laying ≤ free_total v → end ≤ size → IsLaidOver v old laying before after
      done_inside enough inside =
          let none_missing : sector_count end - length (sectors_of old.segments) ≡ 0 = (let there = room in omega arith) in
          let nothing : clusters_needed k old.segments end ≡ 0 = no_clusters k (sector_count end - length (sectors_of old.segments)) positive none_missing in
          let none_taken : taken ≡ [] = nil_from_length taken (grown.chosen.counted ∙ counted ∙ nothing) in
          let contents : take size target ≡ laid_contents old.contents laying = laid_all whole old.contents laying.at laying.bytes first in_size in_whole size (omega arith) in
          let sized : length (laid_contents old.contents laying) ≡ size = length-laid old.contents laying.bytes laying.at ∙ omega arith in
          let same_segments : old.segments ≡ segments = ap (with_clusters k old.segments) (sym none_taken) in
          let dated : old.modified ≡ (if length (laid_contents old.contents laying) == size then old.modified else minute_of laying.now) =
          sym (cond-true (length (laid_contents old.contents laying) == size) old.modified (minute_of laying.now) (eq-eqb (length (laid_contents old.contents laying)) size sized)) in
          let file : record old { contents = take size target } ≡ laid_file old laying segments =
          same_file (record old { contents = take size target }) (laid_file old laying segments) refl refl dated refl refl same_segments contents in
          let lost_none : lost ≡ v.lost = fun_ext (λ c. ap (λ xs. v.lost c || has xs c) none_taken ∙ or_false (v.lost c)) in
          record {
            enough = enough;
            gained = taken;
            choice = choice;
            on = record {
              image = laid.now;
              is = laid.is;
              vol = subst (λ f. Vol laid.now (replaced v n (Some f))) file
                  (subst (λ l. Vol laid.now (record { ident = v.ident; files = put_file v.files n (Some (record old { contents = take size target })); lost = l; rest = v.rest })) lost_none laid.vol);
            };
            tidy = tidy_laid after target laid target_behind;
          }
        where
          or_false : (t : Bool) → (t || false) ≡ t
          or_false true = refl
          or_false false = refl

      pub list_inside : end ≤ size → (w : DiskVolume) (f : DiskFile) → RepresentsVolume after w → w.files n ≡ Some f → f.segments ≡ longer
      list_inside inside w f there at =
          let none_missing : sector_count end - length (sectors_of old.segments) ≡ 0 = (let room_there = room in omega arith) in
          let nothing : clusters_needed k old.segments end ≡ 0 = no_clusters k (sector_count end - length (sectors_of old.segments)) positive none_missing in
          let none_taken : taken ≡ [] = nil_from_length taken (grown.chosen.counted ∙ counted ∙ nothing) in
          let file_now : DiskFile = record old { contents = take size target } in
          file_of_volume after (with_file_in_place volume_grown n file_now) w (record { image = laid.now; is = laid.is; vol = laid.vol }) there n file_now f (put_here v.files n (Some file_now)) at
          ∙ sym (grown.segments ∙ ap (with_clusters k old.segments) none_taken)

      -- the descriptor is written
      module _ (loaded : Loaded) (says : IsFdOf old loaded.file) (descriptor : loaded.descriptor ≡ sector_at before n)
          (new : List ℕ) (resized : IsResized loaded longer end laying.now new) (later : size < end)
          (last : Option (List ℕ))
          (written : last ≡ with_sector after n new) where
        abbrev now : List ℕ
        now = laid.now

        abbrev file_then : DiskFile
        file_then = record old { contents = take size target }

        abbrev volume_then : DiskVolume
        volume_then = replaced v n (Some file_then)

        is_then : volume_then.files n ≡ Some file_then
        is_then = put_here v.files n (Some file_then)

        same_k : k ≡ (image_geometry now).cluster
        same_k = ap (λ (g : Geometry). g.cluster) (shape-image now (with_lost volume_then lost) laid.vol)

        not_lost : (c : ℕ) → has taken c ≡ true → v.lost c ≡ false
        not_lost c h =
            let free = has_free k (is_free_in v) old.segments taken c grown.chosen.gained h in
            (free_parts (image_geometry on.image) (sector on.image) v on.vol.sound c (subst (λ g. is_free g v c ≡ true) (shape-image on.image v on.vol) free)).1

        new_file : file_from (sector now) new ≡ laid_file old laying segments
        new_file =
            let f = resized.fields in
            let sized : length (laid_contents old.contents laying) ≡ end = length-laid old.contents laying.bytes laying.at ∙ omega arith in
            let dated : minute_of laying.now ≡ (if length (laid_contents old.contents laying) == size then old.modified else minute_of laying.now) =
            sym (cond-false (length (laid_contents old.contents laying) == size) old.modified (minute_of laying.now)
            (false_from_ne_true (length (laid_contents old.contents laying) == size) (λ h. let same = eqb-true (length (laid_contents old.contents laying)) size h in absurd (omega arith)))) in
            same_file (file_from (sector now) new) (laid_file old laying segments)
            (f.attributes_are ∙ says.attributes_are)
            (f.owner_is ∙ says.owner_is)
            (f.modified_is ∙ dated)
            (f.links_are ∙ says.links_are)
            (f.created_is ∙ says.created_is)
            (resized.list ∙ grown.segments)
            (ap (λ s. take s (segment_bytes (sector now) (segments_field new))) f.size_is ∙ ap (λ xs. take end (segment_bytes (sector now) xs)) resized.list ∙ ap (take end) laid.bytes_are
            ∙ laid_all whole old.contents laying.at laying.bytes first in_size in_whole end (omega arith))

        room_new : has_room (segments_field new) (size_field new) ≡ true
        room_new =
            ap (λ xs. has_room xs (size_field new)) resized.list ∙ ap (has_room longer) resized.fields.size_is
            ∙ le-leb end (256 * length (sectors_of longer)) has_room_then

        vol_last : Vol (put_sector now n new) (replaced v n (Some (laid_file old laying segments)))
        vol_last =
            subst (λ f. Vol (put_sector now n new) (replaced v n (Some f))) new_file
            (subst (λ fs. Vol (put_sector now n new) (record { ident = v.ident; files = fs; lost = v.lost; rest = v.rest }))
            (put_twice v.files n (Some file_then) (Some (file_from (sector now) new)))
            (described now volume_then lost taken laid.vol (λ c. refl) not_lost n file_then is_then (is_free_in v)
            (subst (λ m. Gains m (is_free_in v) old.segments taken) same_k grown.chosen.gained) new resized.whole
            (resized.list ∙ grown.segments ∙ ap (λ m. with_clusters m old.segments taken) same_k)
            (ap (λ a. bit_at a 7 == 1) (resized.fields.attributes_are ∙ says.attributes_are)) room_new
            (λ h. absurd (both_ways (is_directory old) not_directory h))))

        last_is : last ≡ Some (put_sector now n new)
        last_is = written ∙ ap (λ m. with_sector m n new) laid.is

        pub list_longer : (w : DiskVolume) (f : DiskFile) → RepresentsVolume last w → w.files n ≡ Some f → f.segments ≡ longer
        list_longer w f there at =
            file_of_volume last (replaced v n (Some (laid_file old laying segments))) w
            (record { image = put_sector now n new; is = last_is; vol = vol_last }) there n
            (laid_file old laying segments) f
            (put_here v.files n (Some (laid_file old laying segments))) at
            ∙ sym grown.segments

        beside_last : (s : ℕ) → s ≢ n → sector (put_sector now n new) s ≡ sector now s
        beside_last s differ = beside_put now (with_lost volume_then lost) laid.vol n file_then is_then new resized.whole s differ

        list_then : KeepsListEnd (sector grown.image n) (sector (put_sector now n new) n)
        list_then =
            let was : loaded.descriptor ≡ sector grown.image n = descriptor ∙ ap (λ m. sector_at m n) grown.was in
            subst (KeepsListEnd (sector grown.image n)) (sym (here_put now (with_lost volume_then lost) laid.vol n file_then is_then new resized.whole))
            (subst (λ b. KeepsListEnd b new) was resized.end)

        map_low : (s : ℕ) → s ≤ map_sectors (image_geometry grown.image) → s ≢ n
        map_low s low same =
            let past = own_after (image_geometry grown.image) (sector grown.image) v
            (at_image grown.image grown.was).sound n old n is
            (or_left (n == n) (has (sectors_of old.segments) n) (eq-eqb n n refl)) in absurd (omega arith)

        last_bytes : segment_bytes (sector (put_sector now n new)) segments ≡ segment_bytes (sector now) segments
        last_bytes = same_bytes (sector (put_sector now n new)) (sector now) (sectors_of segments)
            (λ s h. beside_last s (λ same. both_ways (has (sectors_of segments) s)
            (subst (λ m. has (sectors_of segments) m ≡ false) (sym same)
            (subst (λ xs. has (sectors_of xs) n ≡ false) grown.segments apart)) h))

        pub done_longer : laying_needs v old laying ≤ free_total v → IsLaidOver v old laying before last
        done_longer enough = record {
          enough = enough;
          gained = taken;
          choice = choice;
          on = record { image = put_sector now n new; is = last_is; vol = vol_last };
          tidy = tidy_of before last grown.image grown.now (put_sector now n new) n segments end grown.was last_is grown.changes
              (λ s low. beside_last s (map_low s low) ∙ beside after target laid s (map_apart s low))
              (λ s map differ out. beside_last s differ ∙ beside_segments after target laid s out)
              (λ p high. ap (λ b. get_or b p 0) last_bytes ∙ behind_laid after target laid target_behind p high)
              list_then;
        }

        -- the media is sound
        pub sound_last : IsSoundMedia last
        sound_last = (_, record { image = put_sector now n new; is = last_is; vol = vol_last })

        -- the volume stays mounted
        pub mounted_last : (volume later_volume : Volume) → IsMounted volume after → mounted_part later_volume ≡ mounted_part volume → IsCacheOf last later_volume.cache → IsMounted later_volume last
        mounted_last volume later_volume mounted same cached =
            let agrees : Agrees (mounted_part volume) now = agrees_on volume after (with_lost volume_then lost) mounted (record { image = now; is = laid.is; vol = laid.vol }) in
            record {
              content = replaced v n (Some (laid_file old laying segments));
              on = record { image = put_sector now n new; is = last_is; vol = vol_last };
              agrees = agrees_put now (with_lost volume_then lost) laid.vol n file_then is_then new resized.whole (mounted_part later_volume) (subst (λ kv. Agrees kv now) (sym same) agrees);
              cached = cached;
            }
