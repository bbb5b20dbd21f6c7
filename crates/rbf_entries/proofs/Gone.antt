-- A file whose entry has been made free has gone, and then its clusters are given back.
use Rattle.std.proofs.Common.{◌≡◌, ◌≢◌, ℕ, ◌+◌, ◌*◌, ◌/◌, ◌%◌, ◌<◌, ◌≤◌, Bool, true, false, not, ◌&&◌, Option, Some, None, List, [], ◌∷◌, length, refl, sym, ap, ap₂, ◌∙◌, subst, ⊎_elim, inl, inr, arith}
use Rattle.std.specs.Prelude.{if◌then◌else◌}
use mathlib.Core.Path.{fun_ext}
use Rattle.std.proofs.Math.Nat.{mul-le-mul_left}
use Rattle.std.proofs.lemmas.Bool.{both_ways, false_from_ne_true}
use Rattle.std.proofs.lemmas.Option.{same_Some, none-some}
use Rattle.os9_outer.specs.Drive.{sector_at, with_sector}
use Rattle.rbf_model.specs.Fields.{directory_entry, descriptor_field, segments_field}
use Rattle.rbf_model.specs.File.{DiskFile, file_at, is_directory}
use Rattle.rbf_model.specs.Geometry.{Geometry, geometry, image_geometry, sector, map_sectors, LieWithin}
use Rattle.rbf_model.specs.Laws.{IsFileSector, IsMapSector, with_directory_entry}
use Rattle.rbf_model.specs.Segments.{has}
use Rattle.rbf_model.specs.Space.{is_marked, is_whole, own_sectors, has_cluster}
use Rattle.rbf_model.specs.Volume.{DiskVolume, Vol, in_file}
use Rattle.rbf_model.specs.Writes.{put, put_at, put_file, put_sector}
use Rattle.rbf_model.proofs.Bytes.{put_here, put_beside, marked_beside, file_at_beside}
use Rattle.rbf_model.proofs.Change.{put_file_here, put_file_beside, put_file_cases, has_cluster_is}
use Rattle.rbf_model.proofs.Data.{own_sector, past_map}
use Rattle.rbf_model.proofs.Free.{number_below, in_file_at}
use Rattle.rbf_model.proofs.Lifted.{sector_put}
use Rattle.rbf_model.proofs.Owners.{own_below, own_apart, marks_stay, file_cluster_below}
use Rattle.rbf_model.proofs.Placed.{news_full}
use Rattle.rbf_change.specs.Calls.{shape}
use Rattle.rbf_change.specs.Names.{freed_entry}
use Rattle.rbf_change.specs.NewFiles.{Deletes}
use Rattle.rbf_change.specs.Tidy.{IsMapEnd, KeepsMapEnd, MayKeepMapEnd}
use Rattle.rbf_change.proofs.LawfulWrites.{shape-image}
use Rattle.rbf_access.specs.Drive.{DriveCounts, MovesCounts}
use Rattle.rbf_access.specs.MapMarks.{marking_sectors}
use Rattle.rbf_access.specs.Mounted.{RepresentsVolume}
use Rattle.rbf_access.proofs.ReadFile.{room_for}
use Rattle.rbf_alloc.specs.Cleared.{before}
use Rattle.rbf_alloc.specs.Dropped.{IsGone, FileHasGone, OnlyMap, freed, IsDropped, StopsAtPlace, DropEnds}
use Rattle.rbf_entries.specs.Becomes.{RepresentsOne}
use Rattle.rbf_entries.specs.Deletions.{FreesOn}
use Rattle.rbf_entries.specs.declared.deletion.Deletable.{Deletable}
use Rattle.rbf_entries.specs.Entries.{sector_of_entry}
use Rattle.rbf_entries.proofs.Puts.{free_stored, without}
use Rattle.rbf_entries.proofs.Stored.{becomes_now}
use Rattle.rbf_walk.proofs.Stepping.{same_content}
use Rattle.rbf_entries.specs.Deleted.{ClearsEntry, IsDeleted, IsHalfDeleted}

module _ (media mid : Option (List ℕ)) (d : ℕ) (name : List ℕ) (found : Deletable) (frees : FreesOn media mid d name found) where
  abbrev n : ℕ
  n = found.descriptor

  abbrev place : ℕ
  place = found.place

  abbrev dir : DiskFile
  dir = frees.at.free.place.dir

  abbrev v : DiskVolume
  v = frees.at.free.place.content

  abbrev on : RepresentsVolume media v
  on = frees.at.free.place.on

  pub on_before : RepresentsVolume media v
  on_before = on

  abbrev image : List ℕ
  image = on.image

  abbrev g : Geometry
  g = image_geometry image

  abbrev file : DiskFile
  file = frees.at.free.file

  abbrev lsn : ℕ
  lsn = sector_of_entry dir place

  number : descriptor_field (directory_entry dir.contents place) ≡ n
  number = sym frees.at.descriptor_is

  pub file_there : v.files n ≡ Some file
  file_there = ap v.files (sym number) ∙ frees.at.free.names

  -- the sector of the entry
  at_sector : IsFileSector v d dir (place / 8) lsn
  at_sector =
      let room = room_for media v on d dir frees.at.free.place.is in
      let within = frees.at.free.place.within in
      record { is = frees.at.free.place.is; within = omega arith; at = refl }

  abbrev news : List ℕ
  news = put_at (sector image lsn) (32 * (place % 8)) (0 ∷ [])

  whole : length news ≡ 256
  whole = news_full g (sector image) v on.vol.sound d (place / 8) lsn dir at_sector (32 * (place % 8)) (0 ∷ []) (omega arith)

  its_own : has (own_sectors d dir) lsn ≡ true
  its_own = own_sector g (sector image) v on.vol.sound d (place / 8) lsn dir news whole at_sector

  past : map_sectors g < lsn
  past = past_map g (sector image) v on.vol.sound d (place / 8) lsn dir news whole at_sector

  below : lsn < g.total
  below = own_below g (sector image) v on.vol.sound d dir lsn frees.at.free.place.is its_own

  fits : 256 * (lsn + 1) ≤ length image
  fits =
      let low = below in
      let more : 256 * (lsn + 1) ≤ 256 * g.total = mul-le-mul_left 256 (omega arith) in
      let room = on.vol.header.fits in
      omega arith

  abbrev half : List ℕ
  half = put_sector image lsn news

  half_sectors : sector half ≡ put (sector image) lsn news
  half_sectors = sector_put image lsn news whole fits

  half_shape : image_geometry half ≡ g
  half_shape = ap geometry (ap (λ (x : ℕ → List ℕ). x 0) half_sectors ∙ put_beside (sector image) lsn news 0 (λ same. let low = past in absurd (omega arith)))

  mid_is : mid ≡ Some half
  mid_is = frees.written ∙ ap (λ m. with_sector m lsn (put_at (sector_at m lsn) (32 * (place % 8)) (0 ∷ []))) on.is

  -- the volume without the file
  abbrev w : DiskVolume
  w = without media mid d place frees.at.free frees.written

  one_without : RepresentsOne mid (λ u. u ≡ w)
  one_without = becomes_now media mid v w (free_stored media mid d place frees.at.free frees.written) (λ a b. b ≡ w) refl v on

  half_vol : Vol half w
  half_vol =
      let found = one_without in
      let same : found.on.image ≡ half = same_Some found.on.image half (sym found.on.is ∙ mid_is) in
      subst (λ i. Vol i w) same (subst (λ u. Vol found.on.image u) found.changed found.on.vol)

  on_half : RepresentsVolume mid w
  on_half = record { image = half; is = mid_is; vol = half_vol }

  -- the file is no directory, so it is not the one that had the entry
  apart : n ≢ d
  apart same =
      let both : Some file ≡ Some dir = sym file_there ∙ ap v.files same ∙ frees.at.free.place.is in
      let one : file ≡ dir = same_Some file dir both in
      absurd (both_ways (is_directory file) frees.at.free.not_directory (ap is_directory one ∙ frees.at.free.place.directory))

  not_own : has (own_sectors n file) lsn ≡ false
  not_own = false_from_ne_true (has (own_sectors n file) lsn) (λ h. apart (own_apart g (sector image) v on.vol.sound n d file dir lsn file_there frees.at.free.place.is h its_own))

  shown : file ≡ file_at (sector image) n
  shown = on.vol.sound.shows.shown n file file_there

  -- its descriptor is still in its sector
  shown_half : file ≡ file_at (sector half) n
  shown_half = shown ∙ sym (ap (λ disk. file_at disk n) half_sectors ∙ file_at_beside (sector image) lsn news n (subst (λ f. has (own_sectors n f) lsn ≡ false) shown not_own))

  pub list_there : found.file.segs ≡ segments_field (sector_at mid n)
  list_there = frees.at.says.segments_are ∙ ap (λ (f : DiskFile). f.segments) shown_half ∙ sym (ap (λ m. segments_field (sector_at m n)) mid_is)

  clusters_apart : (m c : ℕ) (other : DiskFile) → m ≢ n → v.files m ≡ Some other → has_cluster g n file c ≡ true → has_cluster g m other c ≡ false
  clusters_apart m c other differ is h = false_from_ne_true (has_cluster g m other c) (λ too. differ (on.vol.sound.mapped.apart m n other file c is file_there too h))

  volume_shape : shape w ≡ g
  volume_shape = shape-image image v on.vol

  gone_number : (k : ℕ) → k ≡ n → (put_file (put_file v.files d (Some (with_directory_entry dir place (freed_entry (directory_entry dir.contents place))))) k None) n ≡ None
  gone_number k same = ap (λ j. put_file (put_file v.files d (Some (with_directory_entry dir place (freed_entry (directory_entry dir.contents place))))) j None n) same
      ∙ put_file_here (put_file v.files d (Some (with_directory_entry dir place (freed_entry (directory_entry dir.contents place))))) n None

  others_without : (m : ℕ) (other : DiskFile) → w.files m ≡ Some other
      → (m ≢ n) × (put_file v.files d (Some (with_directory_entry dir place (freed_entry (directory_entry dir.contents place)))) m ≡ Some other)
  others_without m other is = ⊎_elim
      (λ here. absurd (none-some other here.1))
      (λ there. (λ same. there.0 (same ∙ sym number), there.1))
      (put_file_cases (put_file v.files d (Some (with_directory_entry dir place
      (freed_entry (directory_entry dir.contents place))))) (descriptor_field (directory_entry dir.contents place)) None
      m other is)

  -- the file has gone
  pub gone : IsGone mid w n file
  unfolding on_half
  gone = record {
    on = on_half;
    none = gone_number (descriptor_field (directory_entry dir.contents place)) number;
    number = subst (λ h. n < h.total) (sym half_shape) (let low = number_below g (sector image) v on.vol.sound n file file_there in omega arith);
    shown = shown_half;
    within = subst (λ h. LieWithin h file.segments) (sym half_shape) (on.vol.sound.mapped.within n file file_there);
    marked = λ c h.
        let has_it : has_cluster g n file c ≡ true = subst (λ s. has_cluster s n file c ≡ true) volume_shape h in
        ap (λ disk. is_marked disk c) half_sectors
        ∙ marks_stay g (sector image) v on.vol.sound lsn news c past (file_cluster_below g (sector image) v on.vol.sound n file c file_there has_it)
        ∙ on.vol.sound.mapped.marks n file c file_there has_it;
    unused = λ c h m other is.
        let has_it : has_cluster g n file c ≡ true = subst (λ s. has_cluster s n file c ≡ true) volume_shape h in
        let there = others_without m other is in
        ap (λ s. has_cluster s m other c) volume_shape
        ∙ ⊎_elim
        (λ changed.
        let same : with_directory_entry dir place (freed_entry (directory_entry dir.contents place)) ≡ other =
        same_Some (with_directory_entry dir place (freed_entry (directory_entry dir.contents place))) other changed.1 in
        has_cluster_is g m other dir c (sym (ap (λ (f : DiskFile). f.segments) same)) ∙ clusters_apart m c dir there.0 (ap v.files changed.0 ∙ frees.at.free.place.is) has_it)
        (λ still. clusters_apart m c other there.0 still.1 has_it)
        (put_file_cases v.files d (Some (with_directory_entry dir place (freed_entry (directory_entry dir.contents place)))) m other there.1);
  }

  -- Its clusters are given back: the lost ones are then as they were.

  abbrev fewer : ℕ → Option DiskFile
  fewer = put_file v.files d (Some (with_directory_entry dir place (freed_entry (directory_entry dir.contents place))))

  lost_again : (c : ℕ) → (freed w n file).lost c ≡ v.lost c
  lost_again c =
      let k = descriptor_field (directory_entry dir.contents place) in
      let differ : k ≢ d = λ same. apart (sym number ∙ same) in
      let there : fewer k ≡ Some file = put_file_beside v.files d (Some (with_directory_entry dir place (freed_entry (directory_entry dir.contents place)))) k differ ∙ frees.at.free.names in
      let his : in_file g k (fewer k) c ≡ has_cluster (shape w) n file c =
      in_file_at g k (fewer k) file c there ∙ ap (λ j. has_cluster g j file c) number ∙ ap (λ s. has_cluster s n file c)
      (sym volume_shape) in
      ap (λ t. (if t then is_whole g c else v.lost c) && not (has_cluster (shape w) n file c)) his
      ∙ pick (has_cluster (shape w) n file c) (is_whole g c) (v.lost c)
      (λ h. false_from_ne_true (v.lost c) (λ lost.
      both_ways (has_cluster g n file c) (((on.vol.sound.mapped.lost_are c).0 lost).unused n file file_there) (subst (λ s. has_cluster s n file c ≡ true) volume_shape h)))
    where
      pick : (has_it whole_one was : Bool) → (has_it ≡ true → was ≡ false) → ((if has_it then whole_one else was) && not has_it) ≡ was
      pick true true was none = sym (none refl)
      pick true false was none = sym (none refl)
      pick false whole_one true none = refl
      pick false whole_one false none = refl

  deletes : Deletes v (freed w n file) d n name
  deletes = record {
    dir = dir;
    is = frees.at.free.place.is;
    place = place;
    there = frees.at.there;
    drops = record {
      old = dir;
      is = frees.at.free.place.is;
      named = number;
      volume = ap₂ (λ files lost. record { ident = v.ident; files = files; lost = lost; rest = v.rest }) (ap (λ j. put_file fewer j None) number) (fun_ext lost_again);
    };
  }

  -- what has changed on the media
  clears : (now : List ℕ) → OnlyMap half now → ClearsEntry image now dir place
  clears now only = record {
    entry =
        only lsn (λ map. let within = map.within in let low = past in let same : map_sectors (image_geometry half) ≡ map_sectors g = ap map_sectors half_shape in absurd (omega arith))
        ∙ ap (λ (x : ℕ → List ℕ). x lsn) half_sectors ∙ put_here (sector image) lsn news;
    others = λ s differ none. only s (λ map. none (subst (λ h. IsMapSector h s) half_shape map)) ∙ ap (λ (x : ℕ → List ℕ). x s) half_sectors ∙ put_beside (sector image) lsn news s differ;
  }

  mark_stays : (c : ℕ) → c < 2048 * map_sectors g → is_marked (sector half) c ≡ is_marked (sector image) c
  mark_stays c in_map =
      ap (λ x. is_marked x c) half_sectors
      ∙ marked_beside (sector image) lsn news c (λ same. let low = past in absurd (omega arith))

  end_mark : (c : ℕ) → IsMapEnd image c → is_marked (sector half) c ≡ is_marked (sector image) c
  end_mark c behind = mark_stays c behind.in_map

  end_half : (c : ℕ) → IsMapEnd image c → IsMapEnd half c
  end_half c behind = record {
    not_whole = subst (λ (h : Geometry). h.total / h.cluster ≤ c) (sym half_shape) behind.not_whole;
    in_map = subst (λ h. c < 2048 * map_sectors h) (sym half_shape) behind.in_map;
  }

  pub deleted : (new : Option (List ℕ)) → IsDropped w n file mid new → IsDeleted v d n name media new
  unfolding deletes
  deleted new drop =
      let same : drop.image ≡ half = same_Some drop.image half (sym drop.was ∙ mid_is) in
      let end : KeepsMapEnd half drop.now (has_cluster (shape w) n file) = subst (λ i. KeepsMapEnd i drop.now (has_cluster (shape w) n file)) same drop.end in
      record {
        image = image;
        now = drop.now;
        was = on.is;
        is = drop.is;
        file = file;
        there = file_there;
        after = freed w n file;
        vol = drop.vol;
        deletes = deletes;
        writes = clears drop.now (subst (λ i. OnlyMap i drop.now) same drop.others);
        end = λ c behind. end c (end_half c behind) ∙ ap (λ t. t && not (has_cluster (shape w) n file c)) (end_mark c behind);
      }

  pub half_deleted : (new : Option (List ℕ)) → DropEnds w n file mid new → IsHalfDeleted v d n name media new
  unfolding deletes
  half_deleted new drop =
      let same : drop.image ≡ half = same_Some drop.image half (sym drop.was ∙ mid_is) in
      let end : MayKeepMapEnd half drop.now (has_cluster (shape w) n file) = subst (λ i. MayKeepMapEnd i drop.now (has_cluster (shape w) n file)) same drop.end in
      let stops : StopsAtPlace (shape w) (freed w n file) drop.left (has_cluster (shape w) n file) half drop.now =
      subst (λ i. StopsAtPlace (shape w) (freed w n file) drop.left (has_cluster (shape w) n file) i drop.now) same drop.stops in
      record {
        image = image;
        now = drop.now;
        was = on.is;
        is = drop.is;
        file = file;
        there = file_there;
        after = freed w n file;
        deletes = deletes;
        left = drop.left;
        vol = drop.vol;
        lose = drop.lose;
        unfinished = drop.unfinished;
        writes = clears drop.now (subst (λ i. OnlyMap i drop.now) same drop.others);
        end = λ c behind. ⊎_elim
            (λ still. inl (still ∙ end_mark c behind))
            (λ cleared. inr (cleared ∙ ap (λ t. t && not (has_cluster (shape w) n file c)) (end_mark c behind)))
            (end c (end_half c behind));
        stops = record {
          place = stops.place;
          marks = λ c low. stops.marks c (subst (λ h. c < 2048 * map_sectors h) (sym half_shape) low)
              ∙ ap (λ t. t && not (before (has_cluster (shape w) n file) stops.place c)) (mark_stays c low);
          lost_are = stops.lost_are;
        };
      }

  -- how many sectors of the map have a mark of its clusters
  pub calls_of_file : (f : Option ℕ) (s t : DriveCounts) → MovesCounts f (marking_sectors (shape w) (has_cluster (shape w) n file)) s t
      → (same : DiskFile) → v.files n ≡ Some same → MovesCounts f (marking_sectors (shape v) (has_cluster (shape v) n same)) s t
  calls_of_file f s t moves same is = subst (λ x. MovesCounts f (marking_sectors (shape v) (has_cluster (shape v) n x)) s t) (same_Some file same (sym file_there ∙ is)) moves

pub has_gone : (media mid : Option (List ℕ)) (d : ℕ) (name : List ℕ) (found : Deletable) → FreesOn media mid d name found → FileHasGone mid found.descriptor
has_gone media mid d name found frees = record { content = w media mid d name found frees; file = file media mid d name found frees; gone = gone media mid d name found frees }

-- of whichever volume the media represents
module _ (media mid : Option (List ℕ)) (d : ℕ) (name : List ℕ) (found : Deletable) (frees : FreesOn media mid d name found) (u : DiskVolume) (on_u : RepresentsVolume media u) where
  same_volume : v media mid d name found frees ≡ u
  same_volume = same_content media (v media mid d name found frees) u (on_before media mid d name found frees) on_u

  pub calls_on_file : (same : DiskFile) → u.files found.descriptor ≡ Some same → (f : Option ℕ) (s t : DriveCounts)
      → ((x : DiskVolume) (g : DiskFile) → IsGone mid x found.descriptor g → MovesCounts f (marking_sectors (shape x) (has_cluster (shape x) found.descriptor g)) s t)
      → MovesCounts f (marking_sectors (shape u) (has_cluster (shape u) found.descriptor same)) s t
  calls_on_file same is f s t moves =
      subst (λ x. (y : DiskFile) → x.files found.descriptor ≡ Some y → MovesCounts f (marking_sectors (shape x) (has_cluster (shape x) found.descriptor y)) s t) same_volume
      (calls_of_file media mid d name found frees f s t (moves (w media mid d name found frees) (file media mid d name found frees) (gone media mid d name found frees)))
      same is

  pub deleted_on : (new : Option (List ℕ)) → ((x : DiskVolume) (f : DiskFile) → IsGone mid x found.descriptor f
      → IsDropped x found.descriptor f mid new) → IsDeleted u d found.descriptor name media new
  deleted_on new drops =
      subst (λ x. IsDeleted x d found.descriptor name media new) same_volume
      (deleted media mid d name found frees new (drops (w media mid d name found frees) (file media mid d name found frees) (gone media mid d name found frees)))

  pub half_deleted_on : (new : Option (List ℕ)) → ((x : DiskVolume) (f : DiskFile) → IsGone mid x found.descriptor f
      → DropEnds x found.descriptor f mid new) → IsHalfDeleted u d found.descriptor name media new
  half_deleted_on new ends =
      subst (λ x. IsHalfDeleted x d found.descriptor name media new) same_volume
      (half_deleted media mid d name found frees new (ends (w media mid d name found frees) (file media mid d name found frees) (gone media mid d name found frees)))
