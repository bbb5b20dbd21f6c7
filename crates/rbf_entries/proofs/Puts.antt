-- Entries that are written in their places.
use Rattle.std.proofs.Common.{◌≡◌, ◌==◌, ℕ, map, append_assoc, eq-eqb, ◌+◌, ◌-◌, ◌*◌, ◌/◌, ◌%◌, ◌<◌, ◌≤◌, Option, Some, None, List, [], ◌∷◌, ◌++◌, length, take, drop, get_or, refl, ap, ap₂, sym, subst, ◌∙◌, arith, length-take, length-drop, drop-drop}
use Rattle.std.specs.Prelude.{replicate, if◌then◌else◌}
use Rattle.std.specs.List.{range_with_len}
use Rattle.std.proofs.Math.Nat.{div-eq_of_lt}
use Rattle.std.proofs.lemmas.Bool.{cond-true}
use Rattle.std.proofs.lemmas.List.{append-nil, drop-append-le, take-append-drop}
use Rattle.std.proofs.lemmas.List.Sums.{prefix_len-le-length}
use Rattle.std.proofs.lemmas.List.Folds.{length-prefix_len}
use Rattle.std.proofs.lemmas.List.FromFn.{length-map-range_with_len}
use Rattle.os9_base.specs.declared.registers.TimePacket.{TimePacket}
use Rattle.os9_outer.specs.Drive.{sector_at, with_sector}
use Rattle.rbf_model.specs.Fields.{directory_entry, descriptor_field, segments_field, segment_field, has_sectors}
use Rattle.rbf_model.specs.File.{DiskFile, file_at}
use Rattle.rbf_model.specs.Geometry.{image_geometry, sector, map_sectors}
use Rattle.rbf_model.specs.Laws.{IsFileSector, PutsEntry, with_directory_entry}
use Rattle.rbf_model.specs.Segments.{sectors_of}
use Rattle.rbf_model.specs.Volume.{DiskVolume, Vol}
use Rattle.rbf_model.specs.Writes.{put_at, put_sector, with_file, with_file_in_place}
use Rattle.rbf_model.proofs.Data.{own_sector, past_map}
use Rattle.rbf_model.proofs.ImageLaws.{enter_image, leave_image}
use Rattle.rbf_model.proofs.Owners.{cluster_positive, own_below}
use Rattle.rbf_model.proofs.Pieces.{length-put_at}
use Rattle.rbf_model.proofs.Placed.{contents_of_entry, news_full}
use Rattle.rbf_model.proofs.SectorBytes.{entry_of_file}
use Rattle.rbf_change.specs.Calls.{cluster_size, is_free_in, minute_of, written_file, WritesFile}
use Rattle.rbf_change.specs.Contents.{sector_count, written}
use Rattle.rbf_change.specs.Names.{freed_entry}
use Rattle.rbf_change.specs.Parts.{EntryIsPut, EntryIsFreed}
use Rattle.rbf_change.proofs.LawfulWrites.{shape-image}
use Rattle.rbf_access.specs.Reading.{IsFdOf}
use Rattle.rbf_sector.specs.declared.fd.Fd.{Fd}
use Rattle.std.specs.List.{slice_get}
use Rattle.std.proofs.lemmas.Option.{get_or_from_slice_get}
use Rattle.rbf_access.proofs.ReadFile.{room_for}
use Rattle.rbf_entries.specs.Becomes.{with_piece}
use Rattle.rbf_entries.specs.Entries.{sector_of_entry, IsEntryPlace, MayFill, MayFree, with_entry_bytes}
use Rattle.rbf_entries.proofs.Stored.{IsStored}

-- A write inside a file changes neither its size nor its segments.

inside : (contents bytes : List ℕ) (at : ℕ) → 1 ≤ length bytes → at + length bytes ≤ length contents → written contents at bytes ≡ put_at contents at bytes
inside contents [] at some fits = absurd (omega arith)
inside contents (b ∷ bytes) at some fits =
    let none : at - length contents ≡ 0 = omega arith in
    ap (λ c. put_at c at (b ∷ bytes)) (ap (λ n. contents ++ replicate n 0) none ∙ append-nil contents)

file_inside : (file : DiskFile) (bytes : List ℕ) (at : ℕ) (now : TimePacket) → 1 ≤ length bytes → at + length bytes ≤ length file.contents
    → record file { contents = put_at file.contents at bytes } ≡ written_file file at bytes now file.segments
file_inside file bytes at now some fits =
    let news : put_at file.contents at bytes ≡ written file.contents at bytes = sym (inside file.contents bytes at some fits) in
    let sized : length (written file.contents at bytes) ≡ length file.contents = ap length (sym news) ∙ length-put_at file.contents bytes at fits in
    ap₂ (λ c m. record file { contents = c; modified = m }) news (same_time (length (written file.contents at bytes)) (length file.contents) sized)
  where
    same_time : (a b : ℕ) → a ≡ b → file.modified ≡ (if a == b then file.modified else minute_of now)
    same_time a b same = sym (cond-true (a == b) file.modified (minute_of now) (eq-eqb a b same))

few_segments : (descriptor : List ℕ) → length (segments_field descriptor) ≤ 48
unfolding segments_field
few_segments descriptor =
    let pairs = map (segment_field descriptor) (range_with_len 0 48) in
    omega (arith, length-prefix_len has_sectors pairs, prefix_len-le-length has_sectors pairs, length-map-range_with_len (segment_field descriptor) 0 48)

no_clusters : (k size sectors : ℕ) → 1 ≤ k → size ≤ 256 * sectors → 0 ≡ (sector_count size - sectors + (k - 1)) / k
no_clusters k size sectors some fits =
    let none : sector_count size - sectors + (k - 1) ≡ k - 1 = omega arith in
    let low : k - 1 < k = omega arith in
    sym (ap (λ n. n / k) none ∙ div-eq_of_lt low)

module _ (media : Option (List ℕ)) (d i : ℕ) (place : IsEntryPlace media d i) where
  abbrev pub image : List ℕ
  image = place.on.image

  abbrev pub lsn : ℕ
  lsn = sector_of_entry place.dir i

  -- the sector that has the entry is one of the directory's
  at_sector : IsFileSector place.content d place.dir (i / 8) lsn
  at_sector =
      let room = room_for media place.content place.on d place.dir place.is in
      let within = place.within in
      record { is = place.is; within = omega arith; at = refl }

  module _ (bytes : List ℕ) (whole : length bytes ≡ 32) where
    abbrev pub news : List ℕ
    news = put_at (sector image lsn) (32 * (i % 8)) bytes

    news_whole : length news ≡ 256
    news_whole = news_full (image_geometry image) (sector image) place.content place.on.vol.sound d (i / 8) lsn place.dir at_sector (32 * (i % 8)) bytes (omega arith)

    past : map_sectors (image_geometry image) < lsn
    past = past_map (image_geometry image) (sector image) place.content place.on.vol.sound d (i / 8) lsn place.dir news news_whole at_sector

    below : lsn < (image_geometry image).total
    below =
        own_below (image_geometry image) (sector image) place.content place.on.vol.sound d place.dir lsn place.is
        (own_sector (image_geometry image) (sector image) place.content place.on.vol.sound d (i / 8) lsn place.dir news news_whole at_sector)

    puts : PutsEntry (sector image) place.content (record { directory = d; file = place.dir; place = i; bytes = bytes }) (record { place = i / 8; lsn = lsn; bytes = news })
    puts = record {
      sector = at_sector;
      directory = place.directory;
      after = place.after;
      within = place.within;
      whole = whole;
      contents =
          contents_of_entry (image_geometry image) (sector image) place.content place.on.vol.sound d (i / 8) lsn (i % 8)
          i place.dir bytes at_sector (omega arith) (omega arith) whole place.within;
    }

    abbrev pub with_bytes : Option DiskFile → ℕ → DiskVolume
    with_bytes file n = with_file (image_geometry image) (with_file_in_place place.content d (with_directory_entry place.dir i bytes)) n file

    stored_as : (now : Option (List ℕ)) (file : Option DiskFile) (n : ℕ)
        → now ≡ with_sector media lsn (put_at (sector_at media lsn) (32 * (i % 8)) bytes)
        → Vol (put_sector image lsn news) (with_bytes file n)
        → IsStored media now place.content (with_bytes file n)
    stored_as now file n is vol = record {
      on = place.on;
      lsn = lsn;
      bytes = news;
      whole = news_whole;
      past = past;
      below = below;
      is = is ∙ ap (λ m. with_sector media lsn (put_at (sector_at m lsn) (32 * (i % 8)) bytes)) place.on.is;
      vol = vol;
    }

    -- the write of the entry, as a write to its directory
    pub entry_write : (now : TimePacket) → WritesFile (cluster_size place.content) (is_free_in place.content) (32 * i) bytes now place.dir (with_directory_entry place.dir i bytes)
    entry_write now =
        let within = place.within in
        let fits : 32 * i + length bytes ≤ length place.dir.contents = omega arith in
        let size : length (written place.dir.contents (32 * i) bytes) ≡ length place.dir.contents =
        ap length (inside place.dir.contents bytes (32 * i) (omega arith) fits) ∙ length-put_at place.dir.contents bytes (32 * i) fits in
        let room = room_for media place.content place.on d place.dir place.is in
        let positive : 1 ≤ cluster_size place.content =
        subst (λ g. 1 ≤ g.cluster) (sym (shape-image image place.content place.on.vol)) (cluster_positive (image_geometry image).cluster place.on.vol.header.header.clusters) in
        let few : length place.dir.segments ≤ 48 =
        subst (λ f. length f.segments ≤ 48) (sym (place.on.vol.sound.shows.shown d place.dir place.is)) (few_segments (sector image d)) in
        record {
          gained = [];
          choice = record {
            enough = no_clusters (cluster_size place.content) (length (written place.dir.contents (32 * i) bytes)) (length (sectors_of place.dir.segments)) positive (omega arith);
            gained = tt;
            fits = few;
          };
          file = file_inside place.dir bytes (32 * i) now (omega arith) fits;
        }

-- a free place is filled
module _ (media now : Option (List ℕ)) (d i : ℕ) (entry : List ℕ) (may : MayFill media d i entry) (whole : length entry ≡ 32) (is : now ≡ with_entry_bytes media may.place.dir i entry) where
  abbrev pub filled : DiskVolume
  filled = with_bytes media d i may.place entry whole (Some (file_at (sector may.place.on.image) (descriptor_field entry))) (descriptor_field entry)

  pub fill_stored : IsStored media now may.place.content filled
  fill_stored =
      stored_as media d i may.place entry whole now (Some (file_at (sector may.place.on.image) (descriptor_field entry))) (descriptor_field entry) is
      (enter_image may.place.on.image may.place.content may.place.on.vol d may.place.dir (i / 8) (lsn media d i may.place) (news media d i may.place entry whole) i entry (descriptor_field entry)
      (news_whole media d i may.place entry whole)
      (record { puts = puts media d i may.place entry whole; free = may.free; new = may.new; ready = may.ready }))

  pub fill_changes : (time : TimePacket) → EntryIsPut may.place.content filled (sector_at media) d i entry time
  fill_changes time =
      let P : (ℕ → List ℕ) → Type 0 = λ disk. EntryIsPut may.place.content filled disk d i entry time in
      subst P (sym (ap sector_at may.place.on.is)) (record {
        old = may.place.dir;
        new = with_directory_entry may.place.dir i entry;
        is = may.place.is;
        written = entry_write media d i may.place entry whole time;
        volume =
            ap (λ g. with_file g (with_file_in_place may.place.content d (with_directory_entry may.place.dir i entry))
            (descriptor_field entry) (Some (file_at (sector may.place.on.image) (descriptor_field entry))))
            (sym (shape-image may.place.on.image may.place.content may.place.on.vol));
      })

-- a used entry is made free by its first byte
front_put : (xs : List ℕ) (at : ℕ) → at + 32 ≤ length xs → put_at xs at (freed_entry (take 32 (drop at xs))) ≡ put_at xs at (0 ∷ [])
front_put xs at fits =
    let zs = drop at xs in
    let long : 32 ≤ length zs = omega (arith, length-drop at xs) in
    let rest : length (drop 1 (take 32 zs)) ≡ 31 = omega (arith, length-drop 1 (take 32 zs), length-take 32 zs) in
    let count : at + length (freed_entry (take 32 zs)) ≡ at + 32 = omega arith in
    let behind : drop 1 (take 32 zs) ++ drop (at + 32) xs ≡ drop (at + 1) xs =
    ap (λ r. drop 1 (take 32 zs) ++ r) (ap (λ n. drop n xs) (omega arith) ∙ sym (drop-drop 32 at xs))
    ∙ sym (drop-append-le 1 (take 32 zs) (drop 32 zs) (omega (arith, length-take 32 zs)))
    ∙ ap (drop 1) (take-append-drop 32 zs) ∙ drop-drop 1 at xs in
    let joined : (take at xs ++ freed_entry (take 32 zs)) ++ drop (at + 32) xs ≡ (take at xs ++ 0 ∷ []) ++ (drop 1 (take 32 zs) ++ drop (at + 32) xs) = simp append_assoc in
    ap (λ n. (take at xs ++ freed_entry (take 32 zs)) ++ drop n xs) count ∙ joined ∙ ap (λ r. (take at xs ++ 0 ∷ []) ++ r) behind

module _ (media now : Option (List ℕ)) (d i : ℕ) (may : MayFree media d i) (is : now ≡ with_entry_bytes media may.place.dir i (0 ∷ [])) where
  abbrev pub old_entry : List ℕ
  old_entry = directory_entry may.place.dir.contents i

  abbrev pub number : ℕ
  number = descriptor_field (directory_entry may.place.dir.contents i)

  pub freed_whole : length (freed_entry old_entry) ≡ 32
  freed_whole =
      let within = may.place.within in
      omega (arith, length-drop 1 (take 32 (drop (32 * i) may.place.dir.contents)), length-take 32 (drop (32 * i) may.place.dir.contents), length-drop (32 * i) may.place.dir.contents)

  -- the entry in its sector
  entry_here : old_entry ≡ take 32 (drop (32 * (i % 8)) (sector_at media (lsn media d i may.place)))
  entry_here =
      entry_of_file (image_geometry may.place.on.image) (sector may.place.on.image) may.place.content may.place.on.vol.sound d may.place.dir may.place.is i may.place.within
      ∙ ap (λ m. take 32 (drop (32 * (i % 8)) (sector_at m (lsn media d i may.place)))) (sym may.place.on.is)

  sector_whole : length (sector_at media (lsn media d i may.place)) ≡ 256
  sector_whole =
      ap (λ m. length (sector_at m (lsn media d i may.place))) may.place.on.is
      ∙ may.place.on.vol.sound.sectors (lsn media d i may.place) (below media d i may.place (freed_entry old_entry) freed_whole)

  is_freed : now ≡ with_entry_bytes media may.place.dir i (freed_entry old_entry)
  is_freed =
      is ∙ ap (with_sector media (lsn media d i may.place))
      (sym (ap (λ e. put_at (sector_at media (lsn media d i may.place)) (32 * (i % 8)) (freed_entry e)) entry_here
      ∙ front_put (sector_at media (lsn media d i may.place)) (32 * (i % 8)) (let size = sector_whole in omega arith)))

  abbrev pub without : DiskVolume
  without = with_bytes media d i may.place (freed_entry old_entry) freed_whole None number

  pub free_stored : IsStored media now may.place.content without
  free_stored =
      stored_as media d i may.place (freed_entry old_entry) freed_whole now None number is_freed
      (leave_image may.place.on.image may.place.content may.place.on.vol d may.place.dir (i / 8)
      (lsn media d i may.place) (news media d i may.place (freed_entry old_entry) freed_whole) i (freed_entry old_entry)
      number may.file
      (news_whole media d i may.place (freed_entry old_entry) freed_whole)
      (record {
        puts = puts media d i may.place (freed_entry old_entry) freed_whole;
        free = refl;
        names = record { after = may.place.after; entry = record { within = may.place.within; used = may.used }; descriptor = refl };
        is = may.names;
        not_directory = may.not_directory;
      }))

  pub free_changes : EntryIsFreed may.place.content without d i
  free_changes = record {
    old = may.place.dir;
    is = may.place.is;
    volume =
        ap (λ g. with_file g (with_file_in_place may.place.content d
        (with_directory_entry may.place.dir i (freed_entry old_entry))) number None)
        (sym (shape-image may.place.on.image may.place.content may.place.on.vol));
  }

-- the sector of that entry is one of the volume's
pub freed_below : (media : Option (List ℕ)) (d i : ℕ) (may : MayFree media d i) → lsn media d i may.place < (image_geometry may.place.on.image).total
freed_below media d i may = below media d i may.place (freed_entry (directory_entry may.place.dir.contents i)) (freed_whole media (with_entry_bytes media may.place.dir i (0 ∷ [])) d i may refl)

-- The sector of an entry, found by the directory's descriptor.

pub listed_place : (media : Option (List ℕ)) (d i : ℕ) (place : IsEntryPlace media d i) (fd : Fd) → IsFdOf place.dir fd → i / 8 < length (sectors_of fd.segs)
listed_place media d i place fd known =
    let room = room_for media place.content place.on d place.dir place.is in
    let within = place.within in
    let same : length (sectors_of fd.segs) ≡ length (sectors_of place.dir.segments) = ap (λ s. length (sectors_of s)) known.segments_are in
    omega arith

pub entry_lsn : (dir : DiskFile) (fd : Fd) → IsFdOf dir fd → (i lsn : ℕ) → slice_get (sectors_of fd.segs) (i / 8) ≡ Some lsn → lsn ≡ sector_of_entry dir i
entry_lsn dir fd known i lsn there =
    sym (get_or_from_slice_get (sectors_of fd.segs) (i / 8) lsn 0 there) ∙ ap (λ s. get_or (sectors_of s) (i / 8) 0) known.segments_are

-- what is written then
pub piece_written : (media mid now : Option (List ℕ)) (lsn at : ℕ) (read bytes piece : List ℕ)
    → read ≡ sector_at media lsn → mid ≡ media → bytes ≡ put_at read at piece → now ≡ with_sector mid lsn bytes
    → now ≡ with_piece media lsn at piece
piece_written media mid now lsn at read bytes piece here same put is =
    is ∙ ap (λ m. with_sector m lsn bytes) same ∙ ap (with_sector media lsn) (put ∙ ap (λ b. put_at b at piece) here)
