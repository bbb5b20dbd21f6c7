-- Writes to the sectors of a file, and to sectors that nothing owns.
use Rattle.std.proofs.Common.{◌⊎◌, ◌≡◌, ◌≢◌, ℕ, ◌+◌, ◌-◌, ◌*◌, ◌/◌, ◌<◌, ◌≤◌, ◌==◌, true, false, List, [], length, take, get_or, Some, refl, sym, ap, ◌∙◌, subst, ⊎_elim, arith, leb-true}
use Rattle.std.specs.Prelude.{flat_map, if◌then◌else◌}
use Rattle.std.proofs.lemmas.Bool.{both_ways, false_from_ne_true, or_right, cases_eq, cases_lt}
use Rattle.std.proofs.lemmas.Option.{same_Some}
use Rattle.rbf_model.specs.Disk.{disk_of}
use Rattle.rbf_model.specs.Fields.{size_field, segments_field}
use Rattle.rbf_model.specs.Geometry.{Geometry, map_sectors}
use Rattle.rbf_model.specs.Segments.{has, sectors_of, AreDistinct}
use Rattle.rbf_model.specs.File.{DiskFile, file_from, file_at, segment_bytes, has_room}
use Rattle.rbf_model.specs.Space.{is_whole, is_marked, Unused, system_sectors, own_sectors, owned, owns, IsMapped}
use Rattle.rbf_model.specs.Volume.{DiskVolume, Sound, is_free}
use Rattle.rbf_model.specs.Writes.{put, put_at, with_file_in_place}
use Rattle.rbf_model.specs.Laws.{IsFileSector, IsUnseen, idle, unowned, past_size, with_sector_bytes, Overwrites}
use Rattle.rbf_model.proofs.Segments.{has_range, sectors_within, length-joined}
use Rattle.rbf_model.proofs.Keeps.{segments_are, room_is, size_is}
use Rattle.rbf_model.proofs.Free.{number_below, free_parts}
use Rattle.rbf_model.proofs.Change.{put_file_cases, mapped_same}
use Rattle.rbf_model.proofs.Entries.{listing_file}
use Rattle.rbf_model.proofs.Kept.{tree_kept}
use Rattle.rbf_model.proofs.Pieces.{take_put_at, front_same}
use Rattle.rbf_model.proofs.Bytes.{put_beside, put_same, joined_put, distinct_first, distinct_rest, distinct_second, has_place}
use Rattle.rbf_model.proofs.Owners.{own_below, owns_own, owns_system, root_file, own_after, own_apart, marks_stay, mapped_by_marks, unowned_of_unused, whole_sector_below, cluster_positive}
use Rattle.rbf_model.proofs.Shown.{IsShown, disk_put, shown_beside, ident_beside}

-- a file's own sectors are distinct
pub own_distinct : (g : Geometry) (n : ℕ) (file : DiskFile) → AreDistinct (owned g n file) → AreDistinct (own_sectors n file)
unfolding owned
own_distinct g n file h = distinct_second (if n == g.root then system_sectors g else []) (own_sectors n file) h

module _ (g : Geometry) (disk : ℕ → List ℕ) (v : DiskVolume) (sound : Sound (disk_of g disk) v) (s : ℕ) (bytes : List ℕ) (whole : length bytes ≡ 256) where
  -- a write past the map leaves the space
  pub marks_kept : map_sectors g < s → IsMapped g (is_marked (put disk s bytes)) v.files v.lost
  marks_kept past =
      mapped_by_marks g (is_marked disk) (is_marked (put disk s bytes)) v.files v.lost sound.shape (number_below g disk v sound)
      (λ c low. marks_stay g disk v sound s bytes c past low) sound.mapped

  -- a write that no file shows
  unseen_write : map_sectors g < s → ((n : ℕ) (file : DiskFile) → v.files n ≡ Some file → IsShown (put disk s bytes) n file) → Sound (disk_of g (put disk s bytes)) v
  unseen_write past shown = record {
    shape = sound.shape;
    sectors = disk_put g disk s bytes sound.sectors whole;
    shows = record {
      ident = ident_beside g disk v sound s bytes (omega arith);
      shown = λ n file is. (shown n file is).same;
      room = λ n file is. (shown n file is).room;
    };
    mapped = marks_kept past;
    tree = sound.tree;
  }

  -- what nothing owns is no sector of the map
  pub unowned_past : ((n : ℕ) (file : DiskFile) → v.files n ≡ Some file → owns g n file s ≡ false) → map_sectors g < s
  unowned_past free =
      ⊎_elim (λ after. after)
      (λ within.
      let r = root_file g disk v sound in
      absurd (both_ways (owns g g.root r.0 s) (free g.root r.0 r.1) (owns_system g r.0 s (has_range 0 (1 + map_sectors g) s (omega arith) (omega arith)))))
      (cases_lt (map_sectors g) s)

  pub unowned_law : ((n : ℕ) (file : DiskFile) → v.files n ≡ Some file → owns g n file s ≡ false) → Sound (disk_of g (put disk s bytes)) v
  unowned_law free =
      unseen_write (unowned_past free)
      (λ n file is. shown_beside g disk v sound n file s bytes is
      (false_from_ne_true (has (own_sectors n file) s) (λ own. both_ways (owns g n file s) (free n file is) (owns_own g n file s own))))

module _ (g : Geometry) (disk : ℕ → List ℕ) (v : DiskVolume) (sound : Sound (disk_of g disk) v) (n j s : ℕ) (file : DiskFile) (bytes : List ℕ) (whole : length bytes ≡ 256)
    (sector : IsFileSector v n file j s) where
  is_at : file ≡ file_at disk n
  is_at = sound.shows.shown n file sector.is

  sectors : List ℕ
  sectors = sectors_of (segments_field (disk n))

  sectors_are : sectors_of file.segments ≡ sectors_of (segments_field (disk n))
  sectors_are = ap (λ f. sectors_of f.segments) is_at

  pub place : j < length (sectors_of (segments_field (disk n)))
  place = subst (λ xs. j < length xs) sectors_are sector.within

  pub there : get_or (sectors_of (segments_field (disk n))) j 0 ≡ s
  there = subst (λ xs. get_or xs j 0 ≡ s) sectors_are sector.at

  has_sector : has (sectors_of (segments_field (disk n))) s ≡ true
  has_sector = subst (λ x. has (sectors_of (segments_field (disk n))) x ≡ true) there (has_place (sectors_of (segments_field (disk n))) j place)

  -- the sector is one of the file's own, and not its descriptor
  pub own_sector : has (own_sectors n file) s ≡ true
  own_sector = or_right (n == s) (has (sectors_of file.segments) s) (subst (λ xs. has xs s ≡ true) (sym sectors_are) has_sector)

  distinct_at : AreDistinct (own_sectors n (file_at disk n))
  distinct_at = subst (λ f. AreDistinct (own_sectors n f)) is_at (own_distinct g n file (sound.mapped.once n file sector.is))

  pub not_descriptor : n ≢ s
  not_descriptor same =
      both_ways (has (sectors_of (segments_field (disk n))) n) (distinct_first n (sectors_of (segments_field (disk n))) distinct_at)
      (subst (λ x. has (sectors_of (segments_field (disk n))) x ≡ true) (sym same) has_sector)

  pub full : (x : ℕ) → has (sectors_of (segments_field (disk n))) x ≡ true → length (disk x) ≡ 256
  full x h = sound.sectors x (sectors_within g (segments_field (disk n)) (segments_are g disk v sound n file sector.is) x h).1

  -- its bytes in the file's
  pub bytes_written : (news : List ℕ) → length news ≡ 256 → segment_bytes (put disk s news) (segments_field (disk n)) ≡ put_at (segment_bytes disk (segments_field (disk n))) (256 * j) news
  bytes_written news fills =
      subst (λ x. flat_map (put disk x news) (sectors_of (segments_field (disk n))) ≡ put_at (segment_bytes disk (segments_field (disk n))) (256 * j) news) there
      (joined_put disk news (sectors_of (segments_field (disk n))) j (distinct_rest n (sectors_of (segments_field (disk n))) distinct_at) full fills place)

  -- what the descriptor then stands for
  pub file_written : file_at (put disk s bytes) n
      ≡ record file { contents = take (size_field (disk n)) (put_at (segment_bytes disk (segments_field (disk n))) (256 * j) bytes) }
  file_written =
      ap (file_from (put disk s bytes)) (put_beside disk s bytes n not_descriptor)
      ∙ ap (λ w. record (file_from disk (disk n)) { contents = take (size_field (disk n)) w }) (bytes_written bytes whole)
      ∙ ap (λ (f : DiskFile). record f { contents = take (size_field (disk n)) (put_at (segment_bytes disk (segments_field (disk n))) (256 * j) bytes) }) (sym is_at)

  pub contents_are : file.contents ≡ take (size_field (disk n)) (segment_bytes disk (segments_field (disk n)))
  contents_are = ap (λ f. f.contents) is_at

  pub size_are : length file.contents ≡ size_field (disk n)
  size_are = ap length contents_are ∙ size_is g disk v sound n file sector.is

  pub room_at : (news : DiskFile) → news.segments ≡ file.segments → has_room news.segments (size_field (put disk s bytes n)) ≡ true
  room_at news same =
      subst (λ x. has_room x (size_field (put disk s bytes n)) ≡ true) (sym same)
      (subst (λ d. has_room file.segments (size_field d) ≡ true) (sym (put_beside disk s bytes n not_descriptor)) (sound.shows.room n file sector.is))

  pub past_map : map_sectors g < s
  past_map = own_after g disk v sound n file s sector.is own_sector

  -- the sector is no other file's
  pub shown_other : (m : ℕ) (other : DiskFile) → m ≢ n → v.files m ≡ Some other → IsShown (put disk s bytes) m other
  shown_other m other differ is =
      shown_beside g disk v sound m other s bytes is
      (false_from_ne_true (has (own_sectors m other) s) (λ own. differ (own_apart g disk v sound m n other file s is sector.is own own_sector)))

  self_written : put_at (segment_bytes disk (segments_field (disk n))) (256 * j) (disk s) ≡ segment_bytes disk (segments_field (disk n))
  self_written =
      sym (bytes_written (disk s) (full s has_sector)) ∙ ap (λ d. segment_bytes d (segments_field (disk n))) (put_same disk s)

  -- the sector's place is within the file's sectors
  pub fits : 256 * j + 256 ≤ length (segment_bytes disk (segments_field (disk n)))
  fits = let p = place in omega (arith, length-joined disk (sectors_of (segments_field (disk n))) full)

  past_size_law : take (length file.contents - 256 * j) bytes ≡ take (length file.contents - 256 * j) (disk s) → Sound (disk_of g (put disk s bytes)) v
  past_size_law agree =
      unseen_write g disk v sound s bytes whole past_map
      (λ m other is. ⊎_elim
      (λ same. record {
        same = same_Some other file (sym is ∙ ap v.files same ∙ sector.is) ∙ sym unchanged ∙ ap (file_at (put disk s bytes)) (sym same);
        room = subst (λ k. has_room other.segments (size_field (put disk s bytes k)) ≡ true) (sym same)
            (room_at other (ap (λ f. f.segments) (same_Some other file (sym is ∙ ap v.files same ∙ sector.is))));
      })
      (λ differ. shown_other m other differ is)
      (cases_eq m n))
    where
      agree_at : take (size_field (disk n) - 256 * j) bytes ≡ take (size_field (disk n) - 256 * j) (disk s)
      agree_at = subst (λ size. take (size - 256 * j) bytes ≡ take (size - 256 * j) (disk s)) size_are agree

      unchanged : file_at (put disk s bytes) n ≡ file
      unchanged =
          file_written
          ∙ ap (λ c. record file { contents = c })
          (front_same (segment_bytes disk (segments_field (disk n))) bytes (disk s) (256 * j) (size_field (disk n)) (omega (arith, fits)) (whole ∙ sym (full s has_sector)) agree_at
          ∙ ap (take (size_field (disk n))) self_written ∙ sym contents_are)

  -- bytes below the size change in the contents
  pub with_bytes_written : 256 * j < length file.contents → file_at (put disk s bytes) n ≡ with_sector_bytes file j bytes
  with_bytes_written below =
      let size = size_are in
      let room : size_field (disk n) ≤ length (segment_bytes disk (segments_field (disk n))) = room_fits in
      file_written
      ∙ ap (λ c. record file { contents = c })
      (take_put_at (segment_bytes disk (segments_field (disk n))) bytes (256 * j) (size_field (disk n)) (omega arith) room (omega (arith, fits))
      ∙ ap (λ k. put_at (take (size_field (disk n)) (segment_bytes disk (segments_field (disk n)))) (256 * j) (take (k - 256 * j) bytes)) (sym size)
      ∙ ap (λ c. put_at c (256 * j) (take (length file.contents - 256 * j) bytes)) (sym contents_are))
    where
      room_fits : size_field (disk n) ≤ length (segment_bytes disk (segments_field (disk n)))
      room_fits =
          omega (
            arith,
            length-joined disk (sectors_of (segments_field (disk n))) full,
            leb-true (size_field (disk n))
                (256 * length (sectors_of (segments_field (disk n)))) (room_is g disk v sound n file sector.is),
          )

-- a free or lost cluster is whole, and no file has it
pub idle_parts : (g : Geometry) (disk : ℕ → List ℕ) (v : DiskVolume) → Sound (disk_of g disk) v → (c : ℕ) → (is_free g v c ≡ true) ⊎ (v.lost c ≡ true) → (is_whole g c ≡ true) × Unused g v.files c
idle_parts g disk v sound c h =
    ⊎_elim (λ free. let w = free_parts g disk v sound c free in (w.0, w.2)) (λ lost. let l = (sound.mapped.lost_are c).0 lost in (l.whole, l.unused)) h

-- so what is unseen is within the volume and past the map
pub unseen_within : (g : Geometry) (disk : ℕ → List ℕ) (v : DiskVolume) → Sound (disk_of g disk) v
    → (s : ℕ) (bytes : List ℕ) → length bytes ≡ 256 → IsUnseen (disk_of g disk) v s bytes → (map_sectors g < s) ×
    (s < g.total)
unseen_within g disk v sound s bytes whole (idle h) =
    let w = idle_parts g disk v sound (s / g.cluster) h in
    (unowned_past g disk v sound s bytes whole (unowned_of_unused g v.files s w.1), whole_sector_below g s (cluster_positive g.cluster sound.shape.header.clusters) w.0)
unseen_within g disk v sound s bytes whole (unowned below free) = (unowned_past g disk v sound s bytes whole free, below)
unseen_within g disk v sound s bytes whole (past_size {n = n} {j = j} {file = file} sector agree) =
    (past_map g disk v sound n j s file bytes whole sector, own_below g disk v sound n file s sector.is (own_sector g disk v sound n j s file bytes whole sector))

pub unseen_law : (g : Geometry) (disk : ℕ → List ℕ) (v : DiskVolume) → Sound (disk_of g disk) v
    → (s : ℕ) (bytes : List ℕ) → length bytes ≡ 256 → IsUnseen (disk_of g disk) v s bytes
    → Sound (disk_of g (put disk s bytes)) v
unseen_law g disk v sound s bytes whole (idle h) =
    unowned_law g disk v sound s bytes whole (unowned_of_unused g v.files s (idle_parts g disk v sound (s / g.cluster) h).1)
unseen_law g disk v sound s bytes whole (unowned below free) = unowned_law g disk v sound s bytes whole free
unseen_law g disk v sound s bytes whole (past_size {n = n} {j = j} {file = file} sector agree) = past_size_law g disk v sound n j s file bytes whole sector agree

pub overwrite_law : (g : Geometry) (disk : ℕ → List ℕ) (v : DiskVolume) → Sound (disk_of g disk) v → (n j s : ℕ) (file : DiskFile) (bytes : List ℕ) → length bytes ≡ 256 → Overwrites v n file j s
    → Sound (disk_of g (put disk s bytes)) (with_file_in_place v n (with_sector_bytes file j bytes))
overwrite_law g disk v sound n j s file bytes whole over = record {
  shape = sound.shape;
  sectors = disk_put g disk s bytes sound.sectors whole;
  shows = record {
    ident = ident_beside g disk v sound s bytes (let p = past in omega arith);
    shown = λ m other is. ⊎_elim
        (λ here. sym (same_Some (with_sector_bytes file j bytes) other here.1) ∙ sym written ∙ ap (file_at (put disk s bytes)) (sym here.0))
        (λ there. (shown_other g disk v sound n j s file bytes whole over.sector m other there.0 there.1).same)
        (put_file_cases v.files n (Some (with_sector_bytes file j bytes)) m other is);
    room = λ m other is. ⊎_elim
        (λ here. subst (λ k. has_room other.segments (size_field (put disk s bytes k)) ≡ true) (sym here.0)
        (room_at g disk v sound n j s file bytes whole over.sector other (ap (λ f. f.segments) (sym (same_Some (with_sector_bytes file j bytes) other here.1)))))
        (λ there. (shown_other g disk v sound n j s file bytes whole over.sector m other there.0 there.1).room)
        (put_file_cases v.files n (Some (with_sector_bytes file j bytes)) m other is);
  };
  mapped = mapped_same g (is_marked (put disk s bytes)) v.files v.lost (marks_kept g disk v sound s bytes whole past) n file (with_sector_bytes file j bytes) over.sector.is refl;
  tree = tree_kept g v.files sound.tree n file (with_sector_bytes file j bytes) over.sector.is refl
      (listing_file (with_sector_bytes file j bytes) over.not_directory ∙ sym (listing_file file over.not_directory));
}
  where
    past : map_sectors g < s
    past = past_map g disk v sound n j s file bytes whole over.sector

    written : file_at (put disk s bytes) n ≡ with_sector_bytes file j bytes
    written = with_bytes_written g disk v sound n j s file bytes whole over.sector over.below
