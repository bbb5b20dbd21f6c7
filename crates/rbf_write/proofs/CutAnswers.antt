-- A file that is cut: what the call answers when its descriptor has been written, and when clusters have been given back.
use Rattle.std.proofs.Common.{◌≡◌, ◌≢◌, ℕ, ◌+◌, ◌-◌, ◌*◌, ◌/◌, ◌<◌, ◌≤◌, Bool, true, false, not, ◌&&◌, ◌||◌, Option, Some, None, IsSome, Err, List, [], length, get_or, refl, sym, ap, ◌∙◌, subst, inl, inr, ⊎_elim, arith, length-take}
use Rattle.std.specs.Prelude.{nat_lt}
use mathlib.Core.Path.{fun_ext}
use Rattle.std.proofs.lemmas.Bool.{and_parts, and_from, both_ways, cond-true, cond-false, false_from_ne_true, lt-ltb, ltb-true, cases_Bool, false≢true}
use Rattle.os9_base.specs.declared.registers.TimePacket.{TimePacket}
use Rattle.os9_outer.specs.Drive.{sector_at, with_sector}
use Rattle.rbf_model.specs.Fields.{segments_field}
use Rattle.rbf_model.specs.Geometry.{Geometry, geometry, image_geometry, sector, map_sectors}
use Rattle.rbf_model.specs.Segments.{sectors_of, shortened_segments, has}
use Rattle.rbf_model.specs.File.{DiskFile, is_directory, segment_bytes}
use Rattle.rbf_model.specs.Space.{is_whole, is_marked, has_cluster}
use Rattle.rbf_model.specs.Volume.{DiskVolume, Vol}
use Rattle.rbf_model.specs.Writes.{put_sector, put_file, with_file, with_lost}
use Rattle.rbf_model.specs.Laws.{IsMapSector}
use Rattle.rbf_model.proofs.Owners.{cluster_positive, mark_sector, file_cluster_below}
use Rattle.rbf_segs.proofs.Runs.{sectors_of-shortened}
use Rattle.rbf_change.specs.Agrees.{MountedPart, Agrees}
use Rattle.rbf_change.specs.Calls.{shape, cluster_size, free_total, replaced, minute_of, cuts}
use Rattle.rbf_change.specs.Contents.{sector_count}
use Rattle.rbf_change.specs.Cut.{cut_file}
use Rattle.rbf_change.specs.Faults as ends
use Rattle.rbf_change.specs.Tidy.{KeepsListEnd}
use Rattle.rbf_change.proofs.LawfulWrites.{shape-image}
use Rattle.rbf_access.specs.declared.volume.Volume.{Volume}
use Rattle.rbf_access.specs.declared.faults.FileFault.{FileFault}
use Rattle.rbf_access.specs.declared.faults.FileFault.TheVariants.{Device, NoCluster, TooManyRuns}
use Rattle.rbf_access.specs.MapMarks.{marking_sectors}
use Rattle.rbf_access.specs.Drive.{DriveCounts, MovesCounts}
use Rattle.rbf_access.specs.Faults.{file_fault}
use Rattle.rbf_access.specs.Cached.{IsCacheOf}
use Rattle.rbf_access.specs.Mounted.{mounted_part, RepresentsVolume, IsMounted, IsSoundMedia}
use Rattle.rbf_access.specs.Reading.{IsFdOf}
use Rattle.rbf_access.proofs.Counting.{counts_then}
use Rattle.rbf_access.proofs.ReadFile.{room_for}
use Rattle.rbf_alloc.proofs.Growing.{agrees_on, k_is}
use Rattle.rbf_write.specs.Changed.{HasFields}
use Rattle.rbf_write.proofs.Redated.{behind_map, beside_put, here_put, agrees_put}
use Rattle.rbf_alloc.specs.Cleared.{MayClear, AreMarksCleared, before}
use Rattle.rbf_alloc.proofs.FileClusters.{AreSome, fields_some}
use Rattle.rbf_alloc.specs.declared.rest.CutSectors.{CutSectors}
use Rattle.rbf_alloc.specs.Rest.{in_rest}
use Rattle.rbf_alloc.specs.Release.{MayRelease, IsReleasing, ReleaseEnds}
use Rattle.rbf_write.specs.declared.loaded.Loaded.{Loaded}
use Rattle.rbf_write.specs.Files.{HasDataFile, IsDescriptorLoaded}
use Rattle.rbf_write.specs.Sizes.{Sizing, size_needs, giving_up, given_up, giving_calls, zeroed_segments, IsFileSized, SizeIsEnded, AnswersSize}
use Rattle.rbf_write.proofs.Laid.{no_clusters}
use Rattle.rbf_write.proofs.Steps.{data_in}
use Rattle.rbf_write.specs.Kept.{kept_sectors, IsStored}
use Rattle.rbf_write.proofs.Beside.{shortened_whole}
use Rattle.rbf_write.proofs.CutFile.{cut_volume, new_in_old}
use Rattle.rbf_write.proofs.CutDone.{rest_is, lost_then, given_up_lost, lost_from, same_marks, may_clear}

and_true : (t : Bool) → (t && true) ≡ t
and_true true = refl
and_true false = refl

and_false : (t : Bool) → (t && false) ≡ false
and_false true = refl
and_false false = refl

not_one : (a b : Bool) → not a ≡ true → not (a && b) ≡ true
not_one true b h = absurd (false≢true h)
not_one false b h = refl

-- a file has the sectors that a lesser size needs
pub cut_room : (media : Option (List ℕ)) (loaded : Loaded) (size : ℕ) → IsDescriptorLoaded media loaded.number loaded
    → HasDataFile media loaded.number → size < loaded.file.size → sector_count size ≤ length (sectors_of loaded.file.segs)
cut_room media loaded size is_loaded has shorter =
    let fd = is_loaded.says has.content has.file has.on has.is in
    let room = room_for media has.content has.on loaded.number has.file has.is in
    let same : length (sectors_of loaded.file.segs) ≡ length (sectors_of has.file.segments) = ap (λ xs. length (sectors_of xs)) fd.segments_are in
    let long = fd.size_is in
    omega arith

-- where all its sectors are kept, its segments are
pub cut_same : (media : Option (List ℕ)) (loaded : Loaded) (m : ℕ) (segs : List (ℕ × ℕ))
    → IsDescriptorLoaded media loaded.number loaded → segs ≡ shortened_segments m loaded.file.segs
    → length (sectors_of segs) ≡ length (sectors_of loaded.file.segs)
    → segs ≡ loaded.file.segs
cut_same media loaded m segs is_loaded segs_are same =
    let some : AreSome loaded.file.segs = subst AreSome is_loaded.list_is (fields_some loaded.descriptor) in
    let front : length (sectors_of segs) ≡ length (sectors_of (shortened_segments m loaded.file.segs)) = ap (λ xs. length (sectors_of xs)) segs_are in
    let shorter = ap length (sectors_of-shortened m loaded.file.segs) in
    let taken = length-take m (sectors_of loaded.file.segs) in
    segs_are ∙ shortened_whole m loaded.file.segs some.some (omega arith)

module _ (media mid : Option (List ℕ)) (loaded : Loaded) (size : ℕ) (now : TimePacket)
    (is_loaded : IsDescriptorLoaded media loaded.number loaded) (has_file : HasDataFile media loaded.number) (volume half : Volume)
    (mounted : IsMounted volume media)
    (volume_kept : mounted_part half ≡ mounted_part volume) (shorter : size < loaded.file.size) (segs : List (ℕ × ℕ))
    (segs_are : segs ≡ shortened_segments (kept_sectors volume.ident.cluster loaded.number loaded.file.segs size)
    loaded.file.segs)
    (stored : IsStored loaded segs size now media mid) (v : DiskVolume) (old : DiskFile) (on : RepresentsVolume media v) (is : v.files loaded.number ≡ Some old) where
  abbrev n : ℕ
  n = loaded.number

  abbrev image : List ℕ
  image = on.image

  abbrev g : Geometry
  g = image_geometry image

  abbrev bytes : List ℕ
  bytes = stored.bytes

  abbrev middle : List ℕ
  middle = put_sector image n bytes

  abbrev sizing : Sizing
  sizing = record { number = loaded.number; size = size; now = now }

  abbrev new : DiskFile
  new = cut_file (cluster_size v) n old size (minute_of now)

  abbrev lessened : DiskVolume
  lessened = with_file g v n (Some new)

  abbrev sectors : CutSectors
  sectors = record { old = record { fd = loaded.number; segs = loaded.file.segs }; kept = record { fd = loaded.number; segs = segs } }

  abbrev file_sectors : CutSectors
  file_sectors = record { old = record { fd = n; segs = old.segments }; kept = record { fd = n; segs = new.segments } }

  abbrev gone : ℕ → Bool
  gone = in_rest g.cluster file_sectors

  fd : IsFdOf old loaded.file
  fd = is_loaded.says v old on is

  less : size < length old.contents
  less = let long = fd.size_is in omega arith

  agrees : Agrees (mounted_part volume) image
  agrees = agrees_on volume media v mounted on

  segs_is : segs ≡ new.segments
  segs_is =
      segs_are ∙ ap (λ k. shortened_segments (kept_sectors k n loaded.file.segs size) loaded.file.segs) (k_is volume image v on.vol agrees)
      ∙ ap (λ xs. shortened_segments (kept_sectors (cluster_size v) n xs size) xs) fd.segments_are

  not_directory : is_directory old ≡ false
  not_directory = data_in media n has_file v old on is

  fields : HasFields (record loaded.file { size = size; modified = minute_of now; segs = new.segments }) bytes
  fields = subst (λ xs. HasFields (record loaded.file { size = size; modified = minute_of now; segs = xs }) bytes) segs_is stored.says.fields

  list_is : segments_field bytes ≡ new.segments
  list_is = stored.says.list ∙ segs_is

  inside : (c : ℕ) → has_cluster g n new c ≡ true → has_cluster g n old c ≡ true
  inside = new_in_old image v on.vol n old is not_directory (cluster_size v) size (minute_of now) less loaded.file fd bytes stored.says.whole fields list_is

  mid_is : mid ≡ Some middle
  mid_is = stored.written ∙ ap (λ m. with_sector m n bytes) on.is

  gone_is : in_rest half.ident.cluster sectors ≡ gone
  gone_is =
      ap (λ k. in_rest k sectors) (ap (λ (kv : MountedPart). kv.sizes.cluster) volume_kept ∙ ap (λ (h : Geometry). h.cluster) agrees.sizes_are)
      ∙ ap (λ xs. in_rest g.cluster (record { old = record { fd = n; segs = xs }; kept = record { fd = n; segs = segs } })) fd.segments_are
      ∙ ap (λ xs. in_rest g.cluster (record { old = record { fd = n; segs = old.segments }; kept = record { fd = n; segs = xs } })) segs_is

  pub releasing : IsReleasing lessened middle half.ident.cluster sectors mid (mounted_part half)
  releasing = record {
    is = mid_is;
    vol = cut_volume image v on.vol n old is not_directory (cluster_size v) size (minute_of now) less loaded.file fd bytes stored.says.whole fields list_is;
    agrees = subst (λ kv. Agrees kv middle) (sym volume_kept) (agrees_put image v on.vol n old is bytes stored.says.whole (mounted_part volume) agrees);
    may = subst (MayClear lessened middle) (sym gone_is) (may_clear image v on.vol n old new is not_directory bytes stored.says.whole list_is inside);
  }

  -- the media is sound once the descriptor is written
  pub cut_sound : IsSoundMedia mid
  cut_sound = (lessened, record { image = middle; is = releasing.is; vol = releasing.vol })

  pub may_release : MayRelease half.ident.cluster sectors mid (mounted_part half)
  may_release = record { volume = lessened; old = middle; is = releasing }

  -- which clusters are given up
  rest : (c : ℕ) → gone c ≡ (has_cluster g n old c && not (has_cluster g n new c))
  rest = rest_is image v on.vol n old new is not_directory bytes stored.says.whole list_is inside

  shaped : shape v ≡ g
  shaped = shape-image image v on.vol

  giving_is : (c : ℕ) → giving_up v old sizing c ≡ gone c
  giving_is c =
      cond-true (nat_lt size (length old.contents)) (given_up v old sizing c) false (lt-ltb size (length old.contents) less)
      ∙ ap (λ h. has_cluster h n old c && not (has_cluster h n new c)) shaped ∙ sym (rest c)

  same_sectors : marking_sectors (mounted_part half).sizes (in_rest half.ident.cluster sectors) ≡ giving_calls v old sizing
  same_sectors =
      ap (λ (kv : MountedPart). marking_sectors kv.sizes (in_rest half.ident.cluster sectors)) volume_kept
      ∙ ap (λ s. marking_sectors s (in_rest half.ident.cluster sectors)) (agrees.sizes_are ∙ sym shaped)
      ∙ ap (marking_sectors (shape v)) (gone_is ∙ fun_ext (λ c. rest c ∙ sym (ap (λ h. has_cluster h n old c && not (has_cluster h n new c)) shaped)))

  pub cut_calls : (f : Option ℕ) (s t u : DriveCounts) → MovesCounts None 1 s t
      → MovesCounts f (marking_sectors (mounted_part half).sizes (in_rest half.ident.cluster sectors)) t u
      → MovesCounts f (1 + giving_calls v old sizing) s u
  cut_calls f s t u one more =
      subst (λ x. MovesCounts f (1 + x) s u) same_sectors (counts_then f 1 (marking_sectors (mounted_part half).sizes (in_rest half.ident.cluster sectors)) s t u one more)

  behind : map_sectors g < n
  behind = behind_map image v on.vol n old is bytes stored.says.whole

  shape_kept : image_geometry middle ≡ g
  shape_kept = ap geometry (beside_put image v on.vol n old is bytes stored.says.whole 0 (λ same. let past = behind in absurd (omega arith)))

  module _ (cleared : ℕ → Bool) (after : Option (List ℕ)) (last : MountedPart) (clear : AreMarksCleared lessened middle cleared after last) where
    marks_then : (c : ℕ) → c < 2048 * map_sectors g → is_marked (sector clear.now) c ≡ (is_marked (sector image) c && not (cleared c))
    marks_then c low =
        clear.marks c (subst (λ h. c < 2048 * map_sectors h) (sym shape_kept) low)
        ∙ ap (λ t. t && not (cleared c)) (same_marks image v on.vol n old new is not_directory bytes stored.says.whole list_is inside c low)

    others_then : (s : ℕ) → ¬ IsMapSector g s → s ≢ n → sector clear.now s ≡ sector image s
    others_then s none differ =
        clear.others s (λ there. none (subst (λ h. IsMapSector h s) shape_kept there)) ∙ beside_put image v on.vol n old is bytes stored.says.whole s differ

    list_then : KeepsListEnd (sector image n) (sector clear.now n)
    list_then =
        let here : sector clear.now n ≡ bytes =
        clear.others n (λ there. let low = subst (λ h. IsMapSector h n) shape_kept there in let past = behind in let
        high = low.within in absurd (omega arith)) ∙ here_put image v on.vol n old is bytes stored.says.whole in
        let was : loaded.descriptor ≡ sector image n = is_loaded.bytes_are ∙ ap (λ m. sector_at m n) on.is in
        subst (λ b. KeepsListEnd (sector image n) b) (sym here) (subst (λ b. KeepsListEnd b bytes) was stored.says.end)

    pub cut_mounted : (other : Volume) → mounted_part other ≡ last → IsCacheOf after other.cache → IsMounted other after
    cut_mounted other same cached = record {
      content = with_lost lessened (λ c. lessened.lost c && not (cleared c));
      on = record { image = clear.now; is = clear.is; vol = clear.vol };
      agrees = subst (λ kv. Agrees kv clear.now) (sym same) clear.agrees;
      cached = cached;
    }

  -- all have been given back
  module _ (after : Option (List ℕ)) (last : MountedPart) (all : AreMarksCleared lessened middle (in_rest half.ident.cluster sectors) after last) where
    clear : AreMarksCleared lessened middle gone after last
    clear = subst (λ t. AreMarksCleared lessened middle t after last) gone_is all

    lost_all : (c : ℕ) → (lessened.lost c && not (gone c)) ≡ v.lost c
    lost_all c = ap (λ t. lessened.lost c && not t) (rest c) ∙ lost_then image v on.vol n old new is not_directory bytes stored.says.whole list_is inside c

    enough : size_needs v old sizing ≤ free_total v
    enough =
        let room = room_for media v on n old is in
        let positive : 1 ≤ cluster_size v = subst (λ (h : Geometry). 1 ≤ h.cluster) (sym shaped) (cluster_positive g.cluster on.vol.sound.shape.header.clusters) in
        let fewer = less in
        let missing : sector_count size - length (sectors_of old.segments) ≡ 0 = omega arith in
        let none : size_needs v old sizing ≡ 0 = no_clusters (cluster_size v) (sector_count size - length (sectors_of old.segments)) positive missing in
        omega arith

    none_zeroed : zeroed_segments old sizing new.segments ≡ []
    none_zeroed =
        let shorter_then = less in
        cond-false (nat_lt (length old.contents) size) new.segments []
        (false_from_ne_true (nat_lt (length old.contents) size) (λ h. let more = ltb-true (length old.contents) size h in absurd (omega arith)))

    pub cut_done : IsFileSized v old sizing media after
    cut_done = record {
      enough = enough;
      volume = replaced v n (Some new);
      on = record {
        image = clear.now;
        is = clear.is;
        vol = subst (λ lost. Vol clear.now (record { ident = v.ident; files = put_file v.files n (Some new); lost = lost; rest = v.rest })) (fun_ext lost_all) clear.vol;
      };
      sets = record { old = old; new = new; is = is; changed = cuts less; volume = refl };
      tidy = record {
        image = image;
        now = clear.now;
        was = on.is;
        is = clear.is;
        others = λ s none differ outside. others_then gone after last clear s none differ;
        behind = λ p high. subst (λ xs. get_or (segment_bytes (sector clear.now) xs) p 0 ≡ get_or (segment_bytes (sector image) xs) p 0) (sym none_zeroed) refl;
        map_end = λ c past. marks_then gone after last clear c past.in_map ∙ ap (λ t. is_marked (sector image) c && not t) (sym (giving_is c));
        list = list_then gone after last clear;
      };
      same = λ stays_so. let shorter_then = less in absurd (omega arith);
    }

  -- a fault came before all had been
  module _ (after : Option (List ℕ)) (last : MountedPart) (stop : ReleaseEnds lessened middle (in_rest half.ident.cluster sectors) after last) where
    ended : ReleaseEnds lessened middle gone after last
    ended = subst (λ t. ReleaseEnds lessened middle t after last) gone_is stop

    abbrev place : ℕ
    place = ended.place

    so_far : AreMarksCleared lessened middle (before gone place) after last
    so_far = ended.cleared

    abbrev left : DiskVolume
    left = with_lost lessened (λ c. lessened.lost c && not (before gone place c))

    lose : ends.MayLose (replaced v n (Some new)) left (λ c. is_whole (shape v) c && (has_cluster (shape v) n old c && not (has_cluster (shape v) n new c)))
    lose = record {
      same = refl;
      still = λ c h.
          let parts =
          and_parts (lessened.lost c) (not (has_cluster g n old c && not (has_cluster g n new c)))
          (lost_then image v on.vol n old new is not_directory bytes stored.says.whole list_is inside c ∙ h) in
          and_from (lessened.lost c) (not (before gone place c)) parts.0
          (ap (λ t. not (t && nat_lt (c / 2048) place)) (rest c) ∙ not_one (has_cluster g n old c && not (has_cluster g n new c)) (nat_lt (c / 2048) place) parts.1);
      only = λ c h.
          let parts = and_parts (lessened.lost c) (not (before gone place c)) h in
          subst (λ s. (v.lost c || (is_whole s c && (has_cluster s n old c && not (has_cluster s n new c)))) ≡ true) (sym shaped)
          (lost_from image v on.vol n old new is not_directory bytes stored.says.whole list_is inside c parts.0);
    }

    still_marked : ends.OneIsMarked so_far.now (λ c. has_cluster (shape v) n old c && not (has_cluster (shape v) n new c))
    still_marked =
        let given : (has_cluster g n old ended.some && not (has_cluster g n new ended.some)) ≡ true = sym (rest ended.some) ∙ ended.given_up in
        let had : has_cluster g n old ended.some ≡ true = (and_parts (has_cluster g n old ended.some) (not (has_cluster g n new ended.some)) given).0 in
        let place_of_mark = mark_sector g on.vol.sound.shape ended.some (file_cluster_below g (sector image) v on.vol.sound n old ended.some is had) in
        let below : ended.some < 2048 * map_sectors g = omega arith in (
          ended.some,
          subst (λ s. (has_cluster s n old ended.some && not (has_cluster s n new ended.some)) ≡ true) (sym shaped) given,
          marks_then (before gone place) after last so_far ended.some below
              ∙ and_from (is_marked (sector image) ended.some) (not (before gone place ended.some)) (on.vol.sound.mapped.marks n old ended.some is had) (ap not ended.still),
        )

    cut_ended : SizeIsEnded v old sizing media after
    cut_ended = record {
      volume = left;
      on = record { image = so_far.now; is = so_far.is; vol = so_far.vol };
      ends = ends.cut (record { old = old; is = is; shorter = less; new = new; cut = refl; volume = lose; unfinished = still_marked });
      tidy = record {
        image = image;
        now = so_far.now;
        was = on.is;
        is = so_far.is;
        others = λ s none differ. others_then (before gone place) after last so_far s none differ;
        map_end = λ c past. ⊎_elim
            (λ low. inr (marks_then (before gone place) after last so_far c past.in_map ∙ ap (λ t. is_marked (sector image) c && not (gone c && t)) low
            ∙ ap (λ t. is_marked (sector image) c && not t) (and_true (gone c) ∙ sym (giving_is c))))
            (λ high. inl (marks_then (before gone place) after last so_far c past.in_map ∙ ap (λ t. is_marked (sector image) c && not (gone c && t)) high
            ∙ ap (λ t. is_marked (sector image) c && not t) (and_false (gone c)) ∙ and_true (is_marked (sector image) c)))
            (cases_Bool (nat_lt (c / 2048) place));
        list = list_then (before gone place) after last so_far;
      };
    }

    pub cut_stopped : (fault : FileFault) → IsSome (file_fault {A = Unit {0}} (Err fault)) → AnswersSize v old sizing media after (Err fault)
    cut_stopped (Device m) is_fault = cut_ended
    cut_stopped NoCluster is_fault = absurd (both_ways false refl is_fault)
    cut_stopped TooManyRuns is_fault = absurd (both_ways false refl is_fault)

    pub stopped_mounted : (other : Volume) → mounted_part other ≡ last → IsCacheOf after other.cache → IsMounted other after
    stopped_mounted other same cached = cut_mounted (before gone place) after last so_far other same cached
