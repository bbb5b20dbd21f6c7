-- An entry that is written into a free place of a directory whose descriptor has been read.
use Rattle.std.proofs.Common.{◌≡◌, ◌≢◌, ℕ, ◌+◌, ◌*◌, ◌/◌, ◌%◌, ◌<◌, ◌≤◌, Bool, true, false, not, ◌&&◌, Option, Some, IsSome, is_some, Ok, Err, List, [], length, inl, refl, sym, ap, ◌∙◌, subst, arith}
use Rattle.std.specs.Prelude.{slice_get, Result, OnOk, OnErr}
use Rattle.std.proofs.Math.Nat.{mul-le-mul_left}
use Rattle.std.proofs.lemmas.Bool.{both_ways, or_left}
use Rattle.std.proofs.lemmas.List.{nil_from_length}
use Rattle.std.proofs.lemmas.Option.{same_Some, slice_get-get_or}
use Rattle.os9_base.specs.declared.registers.TimePacket.{TimePacket}
use Rattle.os9_outer.specs.Drive.{sector_count as drive_sectors, sector_at, with_sector}
use Rattle.rbf_model.specs.File.{DiskFile}
use Rattle.rbf_model.specs.Geometry.{Geometry, image_geometry, sector, map_sectors}
use Rattle.rbf_model.specs.Laws.{IsFileSector}
use Rattle.rbf_model.specs.Segments.{has, sectors_of}
use Rattle.rbf_model.specs.Space.{is_marked, own_sectors}
use Rattle.rbf_model.specs.Volume.{DiskVolume, Vol}
use Rattle.rbf_model.specs.Writes.{put, put_at, put_sector}
use Rattle.rbf_model.proofs.Bytes.{put_here, put_beside, has_place, distinct_first}
use Rattle.rbf_model.proofs.Data.{own_distinct, own_sector, past_map}
use Rattle.rbf_model.proofs.Lifted.{sector_put}
use Rattle.rbf_model.proofs.Owners.{cluster_positive, own_below}
use Rattle.rbf_model.proofs.Placed.{news_full}
use Rattle.rbf_change.specs.Calls.{cluster_size, is_free_in}
use Rattle.rbf_change.specs.Contents.{written}
use Rattle.rbf_change.specs.Growth.{with_clusters, clusters_needed, IsChoice}
use Rattle.rbf_change.specs.Parts.{EntryIsPut}
use Rattle.rbf_change.proofs.LawfulWrites.{shape-image}
use Rattle.rbf_access.specs.Faults.{file_fault}
use Rattle.rbf_access.specs.Cached.{IsCacheOf}
use Rattle.rbf_access.specs.Mounted.{mounted_part, RepresentsVolume, IsMounted, IsSoundMedia}
use Rattle.rbf_access.specs.Reading.{IsFdOf}
use Rattle.rbf_access.specs.declared.faults.FileFault.{FileFault}
use Rattle.rbf_access.specs.declared.volume.Volume.{Volume}
use Rattle.rbf_access.proofs.ReadFile.{room_for, listed_on}
use Rattle.rbf_access.proofs.Reading.{mounted_still}
use Rattle.rbf_access.proofs.ReadPieces.{place_on}
use Rattle.rbf_entries.specs.Becomes.{with_piece}
use Rattle.rbf_entries.specs.Entries.{MayFill, sector_of_entry, with_entry_bytes}
use Rattle.rbf_entries.proofs.Puts.{filled, fill_stored, fill_changes, listed_place, entry_lsn}
use Rattle.rbf_entries.proofs.Stored.{IsStored, mounted_now, stored_sound}
use Rattle.rbf_walk.proofs.Stepping.{same_content}
use Rattle.rbf_write.specs.declared.loaded.Loaded.{Loaded}
use Rattle.rbf_write.specs.Files.{IsDescriptorLoaded}
use Rattle.rbf_write.proofs.Laid.{same_mark, same_end}
use Rattle.rbf_write.proofs.Steps.{few_segments}
use Rattle.rbf_entries.specs.NewEntry.{EntryWrite, WritesEntry, IsEntryWritten, EntryStops, AnswersEntry, sector_of_place}
use Rattle.rbf_entries.proofs.Answered.{fault_answers}
use Rattle.rbf_entries.proofs.Needs.{needs_entry, needs_none}

and_not_false : (t : Bool) → (t && not false) ≡ t
and_not_false true = refl
and_not_false false = refl

module _ (m0 : Option (List ℕ)) (d place : ℕ) (entry : List ℕ) (may : MayFill m0 d place entry) (whole : length entry ≡ 32) where
  abbrev a : TimePacket → EntryWrite
  a now = record { directory = d; place = place; entry = entry; now = now }

  abbrev v : DiskVolume
  v = may.place.content

  abbrev dir : DiskFile
  dir = may.place.dir

  abbrev image0 : List ℕ
  image0 = may.place.on.image

  abbrev k : ℕ
  k = cluster_size v

  -- whichever volume the media represents
  any_file : (now : TimePacket) (m1 : Option (List ℕ)) (r : Result (Unit {0}) FileFault)
      → AnswersEntry v dir (a now) m0 m1 r → (w : DiskVolume) (file : DiskFile) → RepresentsVolume m0 w → w.files d ≡ Some file
      → AnswersEntry w file (a now) m0 m1 r
  any_file now m1 r answer w file on is =
      let same : v ≡ w = same_content m0 v w may.place.on on in
      let one : dir ≡ file = same_Some dir file (sym may.place.is ∙ ap (λ (x : DiskVolume). x.files d) same ∙ is) in
      subst (λ f. AnswersEntry w f (a now) m0 m1 r) one (subst (λ x. AnswersEntry x dir (a now) m0 m1 r) same answer)

  positive : 1 ≤ k
  positive = subst (λ (g : Geometry). 1 ≤ g.cluster) (sym (shape-image image0 v may.place.on.vol)) (cluster_positive (image_geometry image0).cluster may.place.on.vol.sound.shape.header.clusters)

  fits_dir : length dir.contents ≤ 256 * length (sectors_of dir.segments)
  fits_dir = room_for m0 v may.place.on d dir may.place.is

  -- the directory gains no cluster
  no_need : clusters_needed k dir.segments (length (written dir.contents (32 * place) entry)) ≡ 0
  no_need = needs_entry v dir place entry whole fits_dir ∙ needs_none v dir place positive fits_dir may.place.within

  no_choice : IsChoice k (is_free_in v) dir.segments (length (written dir.contents (32 * place) entry)) []
  no_choice = record {
    enough = sym no_need;
    gained = tt;
    fits = subst (λ f. length f.segments ≤ 48) (sym (may.place.on.vol.sound.shows.shown d dir may.place.is)) (few_segments (sector image0 d));
  }

  unfilled : (now : TimePacket) (m1 : Option (List ℕ)) → m1 ≡ m0 → EntryStops v dir (a now) m0 m1
  unfilled now m1 same = record {
    image = image0;
    now = image0;
    was = may.place.on.is;
    is = same ∙ may.place.on.is;
    taken = [];
    choice = no_choice;
    left = v;
    vol = may.place.on.vol;
    lose = record { same = refl; still = λ x h. h; only = λ x h. or_left (v.lost x) false h };
    others = λ s none differ. refl;
    order = inl refl;
    named = refl;
    end = λ x h. sym (and_not_false (is_marked (sector image0) x));
  }

  unfilled_answers : (now : TimePacket) (m1 : Option (List ℕ)) (e : FileFault)
      → IsSome (file_fault {A = Unit {0}} (Err e)) → m1 ≡ m0 → (w : DiskVolume) (file : DiskFile) → RepresentsVolume m0 w
      → w.files d ≡ Some file → AnswersEntry w file (a now) m0 m1 (Err e)
  unfilled_answers now m1 e device same = any_file now m1 (Err e) (fault_answers v dir (a now) m0 m1 e device (unfilled now m1 same))

  module _ (loaded : Loaded) (is_loaded : IsDescriptorLoaded m0 d loaded) where
    says : IsFdOf dir loaded.file
    says = is_loaded.says v dir may.place.on may.place.is

    pub lsn_there : is_some (slice_get (sectors_of loaded.file.segs) (place / 8)) ≡ true
    lsn_there = ap is_some (slice_get-get_or (sectors_of loaded.file.segs) (place / 8) 0 (listed_place m0 d place may.place loaded.file says))

    module _ (lsn : ℕ) (there : slice_get (sectors_of loaded.file.segs) (place / 8) ≡ Some lsn) where
      pub put_on_drive : lsn < drive_sectors m0
      put_on_drive =
          let on_drive = listed_on m0 v may.place.on d dir may.place.is loaded.file says _ refl in
          place_on _ loaded.file.segs on_drive (place / 8) lsn _ there (listed_place m0 d place may.place loaded.file says) refl

      lsn_is : lsn ≡ sector_of_entry dir place
      lsn_is = entry_lsn dir loaded.file says place lsn there

      module _ (m1 : Option (List ℕ)) (written_to : m1 ≡ with_piece m0 lsn (32 * (place % 8)) entry) where
        entry_at : m1 ≡ with_entry_bytes m0 dir place entry
        entry_at = written_to ∙ ap (λ s. with_piece m0 s (32 * (place % 8)) entry) lsn_is

        abbrev after : DiskVolume
        after = filled m0 m1 d place entry may whole entry_at

        stored : IsStored m0 m1 v after
        stored = fill_stored m0 m1 d place entry may whole entry_at

        pub fill_sound : IsSoundMedia m1
        fill_sound = stored_sound m0 m1 v after stored

        fill_mounted : (old new : Volume) → mounted_part new ≡ mounted_part old → IsCacheOf m1 new.cache → IsMounted old m0 → IsMounted new m1
        fill_mounted = mounted_now m0 m1 v after stored

        abbrev at : ℕ
        at = sector_of_place dir.segments place

        abbrev news : List ℕ
        news = put_at (sector image0 at) (32 * (place % 8)) entry

        abbrev image1 : List ℕ
        image1 = put_sector image0 at news

        m1_is : m1 ≡ Some image1
        m1_is = entry_at ∙ ap (λ m. with_entry_bytes m dir place entry) may.place.on.is

        vol1 : Vol image1 after
        vol1 =
            subst (λ i. Vol i after)
            (same_Some (put_sector stored.on.image stored.lsn stored.bytes) image1 (sym (stored.is ∙ ap (λ m. with_sector m stored.lsn stored.bytes) stored.on.is) ∙ m1_is))
            stored.vol

        put_in : (now : TimePacket) → EntryIsPut v after (sector image0) d place entry now
        put_in now = subst (λ m. EntryIsPut v after (sector_at m) d place entry now) may.place.on.is (fill_changes m0 m1 d place entry may whole entry_at now)

        segments_stay : (now : TimePacket) → (put_in now).new.segments ≡ dir.segments
        segments_stay now =
            let p = put_in now in
            let old_is : p.old ≡ dir = same_Some p.old dir (sym p.is ∙ may.place.is) in
            let none : p.written.gained ≡ [] = nil_from_length p.written.gained
            (p.written.choice.enough ∙ ap (λ f. clusters_needed k f.segments (length (written f.contents (32 * place) entry))) old_is ∙ no_need) in
            ap (λ f. f.segments) p.written.file ∙ ap (with_clusters k p.old.segments) none ∙ ap (λ f. f.segments) old_is

        abbrev g0 : Geometry
        g0 = image_geometry image0

        at_sector : IsFileSector v d dir (place / 8) at
        at_sector = let fits = fits_dir in let within = may.place.within in record { is = may.place.is; within = omega arith; at = refl }

        news_whole : length news ≡ 256
        news_whole = news_full g0 (sector image0) v may.place.on.vol.sound d (place / 8) at dir at_sector (32 * (place % 8)) entry (omega arith)

        its_own : has (own_sectors d dir) at ≡ true
        its_own = own_sector g0 (sector image0) v may.place.on.vol.sound d (place / 8) at dir news news_whole at_sector

        past : map_sectors g0 < at
        past = past_map g0 (sector image0) v may.place.on.vol.sound d (place / 8) at dir news news_whole at_sector

        below : at < g0.total
        below = own_below g0 (sector image0) v may.place.on.vol.sound d dir at may.place.is its_own

        fits : 256 * (at + 1) ≤ length image0
        fits =
            let less = below in
            let more : 256 * (at + 1) ≤ 256 * g0.total = mul-le-mul_left 256 (omega arith) in
            let there_is = may.place.on.vol.header.fits in
            omega arith

        sectors1 : sector image1 ≡ put (sector image0) at news
        sectors1 = sector_put image0 at news news_whole fits

        beside : (s : ℕ) → s ≢ at → sector image1 s ≡ sector image0 s
        beside s differ = ap (λ (x : ℕ → List ℕ). x s) sectors1 ∙ put_beside (sector image0) at news s differ

        apart_at : d ≢ at
        apart_at same =
            both_ways (has (sectors_of dir.segments) d) (distinct_first d (sectors_of dir.segments) (own_distinct g0 d dir (may.place.on.vol.sound.mapped.once d dir may.place.is)))
            (subst (λ s. has (sectors_of dir.segments) s ≡ true) (sym same) (has_place (sectors_of dir.segments) (place / 8) at_sector.within))

        writes : (now : TimePacket) → WritesEntry image0 image1 dir.segments (a now)
        writes now = record {
          filled = ap (λ (x : ℕ → List ℕ). x at) sectors1 ∙ put_here (sector image0) at news;
          others = λ s none other differ. beside s differ;
          list = same_end (sector image0 d) (sector image1 d) (beside d apart_at);
          end = λ c behind.
              let in_map = behind.in_map in
              let low_map = past in
              same_mark (sector image1) (sector image0) c (beside (1 + c / 8 / 256) (λ same. absurd (omega arith))) ∙ sym (and_not_false (is_marked (sector image0) c));
        }

        is_written : (now : TimePacket) → IsEntryWritten v (a now) m0 m1
        is_written now = record {
          image = image0;
          now = image1;
          was = may.place.on.is;
          is = m1_is;
          after = after;
          vol = vol1;
          put = put_in now;
          writes = subst (λ xs. WritesEntry image0 image1 xs (a now)) (sym (segments_stay now)) (writes now);
        }

        filled_answers : (now : TimePacket) (w : DiskVolume) (file : DiskFile) → RepresentsVolume m0 w → w.files d ≡ Some file → AnswersEntry w file (a now) m0 m1 (Ok tt)
        filled_answers now = any_file now m1 (Ok tt) (is_written now)

  -- as it is written, or is not
  pub entry_answers : (now : TimePacket) (loaded : Loaded) → IsDescriptorLoaded m0 d loaded → (lsn : ℕ)
      → slice_get (sectors_of loaded.file.segs) (place / 8) ≡ Some lsn
      → (m1 : Option (List ℕ)) (r : Result (Unit {0}) FileFault)
      → OnOk r (m1 ≡ with_piece m0 lsn (32 * (place % 8)) entry) → OnErr r (m1 ≡ m0) → OnErr r (IsSome (file_fault r))
      → (w : DiskVolume) (file : DiskFile) → RepresentsVolume m0 w → w.files d ≡ Some file
      → AnswersEntry w file (a now) m0 m1 r
  entry_answers now loaded is_loaded lsn there m1 (Ok x) written_to still device = filled_answers loaded is_loaded lsn there m1 written_to now
  entry_answers now loaded is_loaded lsn there m1 (Err e) written_to still device = unfilled_answers now m1 e device still

  pub entry_mounted : (loaded : Loaded) → IsDescriptorLoaded m0 d loaded → (lsn : ℕ)
      → slice_get (sectors_of loaded.file.segs) (place / 8) ≡ Some lsn → (m1 : Option (List ℕ))
      (r : Result (Unit {0}) FileFault)
      → OnOk r (m1 ≡ with_piece m0 lsn (32 * (place % 8)) entry) → OnErr r (m1 ≡ m0) → (old new : Volume)
      → mounted_part new ≡ mounted_part old → IsCacheOf m1 new.cache → IsMounted old m0 → IsMounted new m1
  entry_mounted loaded is_loaded lsn there m1 (Ok x) written_to still old new same cached mounted = fill_mounted loaded is_loaded lsn there m1 written_to old new same cached mounted
  entry_mounted loaded is_loaded lsn there m1 (Err e) written_to still old new same cached mounted = mounted_still _ _ _ _ same still cached mounted
