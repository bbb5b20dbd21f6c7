-- What an entry that is appended answers, step by step.
use Rattle.std.proofs.Common.{◌≡◌, ℕ, ◌+◌, ◌*◌, ◌/◌, ◌%◌, ◌^◌, ◌<◌, ◌≤◌, true, false, Option, Some, None, IsSome, is_some, Ok, Err, List, [], length, refl, sym, ap, ◌∙◌, subst, arith}
use Rattle.std.specs.Prelude.{slice_get, Result}
use Rattle.std.proofs.Math.Nat.{mul-le-mul_left}
use Rattle.std.proofs.lemmas.Bool.{both_ways}
use Rattle.std.proofs.lemmas.List.{nil_from_length}
use Rattle.std.proofs.lemmas.Option.{same_Some, slice_get-get_or, get_or_from_slice_get}
use Rattle.os9_base.specs.declared.registers.TimePacket.{TimePacket}
use Rattle.os9_outer.specs.Drive.{sector_count as drive_sectors, with_sector}
use Rattle.rbf_model.specs.File.{DiskFile}
use Rattle.rbf_model.specs.Segments.{sectors_of}
use Rattle.rbf_model.specs.Volume.{DiskVolume}
use Rattle.rbf_change.specs.Calls.{cluster_size, is_free_in}
use Rattle.rbf_change.specs.Growth.{uses, with_clusters, clusters_needed}
use Rattle.rbf_access.specs.Drive.{DriveCounts, MovesCounts}
use Rattle.rbf_access.specs.Faults.{file_fault}
use Rattle.rbf_access.specs.Cached.{IsCacheOf}
use Rattle.rbf_access.specs.Mounted.{mounted_part, RepresentsVolume, IsMounted, IsSoundMedia}
use Rattle.rbf_access.specs.Reading.{IsFdOf}
use Rattle.rbf_access.specs.declared.faults.FileFault.{FileFault}
use Rattle.rbf_access.specs.declared.faults.FileFault.TheVariants.{Device, NoCluster, TooManyRuns}
use Rattle.rbf_access.specs.declared.volume.Volume.{Volume}
use Rattle.rbf_access.proofs.Counting.{counts_most, counts_then}
use Rattle.rbf_access.proofs.ReadFile.{room_for}
use Rattle.rbf_alloc.specs.Grown.{IsGrown, Grows}
use Rattle.rbf_alloc.proofs.Chosen.{length-with}
use Rattle.rbf_alloc.proofs.Growing.{agrees_on, k_is}
use Rattle.rbf_entries.specs.Becomes.{with_piece}
use Rattle.rbf_entries.proofs.Stored.{mounted_now, stored_sound}
use Rattle.rbf_walk.proofs.Stepping.{same_content}
use Rattle.rbf_write.specs.declared.loaded.Loaded.{Loaded}
use Rattle.rbf_write.specs.Files.{IsDescriptorLoaded}
use Rattle.rbf_write.specs.Finished.{IsResized}
use Rattle.rbf_write.proofs.Steps.{own_not_free}
use Rattle.rbf_entries.specs.Rooms.{place_clusters}
use Rattle.rbf_entries.specs.NewEntry.{EntryWrite, MayAppend, EntryStops, AnswersEntry, sector_of_place}
use Rattle.rbf_entries.proofs.Appending.{positive, few_runs, needs_few, growth_answers, place_there, on_drive, unput, put_stored, unnamed, descriptor_on_drive, appended, descriptor_stored}

abbrev pub appending : ℕ → ℕ → List ℕ → TimePacket → EntryWrite
appending d place entry now = record { directory = d; place = place; entry = entry; now = now }

-- the drive's fault
pub fault_answers : (v : DiskVolume) (dir : DiskFile) (a : EntryWrite) (m0 m1 : Option (List ℕ)) (e : FileFault)
    → IsSome (file_fault {A = Unit {0}} (Err e)) → EntryStops v dir a m0 m1 → AnswersEntry v dir a m0 m1 (Err e)
fault_answers v dir a m0 m1 (Device x) is stops = stops
fault_answers v dir a m0 m1 NoCluster is stops = absurd (both_ways false refl is)
fault_answers v dir a m0 m1 TooManyRuns is stops = absurd (both_ways false refl is)

module _ (m0 : Option (List ℕ)) (a : EntryWrite) (may : MayAppend m0 a.directory a.place a.entry) (whole : length a.entry ≡ 32) where
  -- whichever volume the media represents
  pub any_file : (m1 : Option (List ℕ)) (r : Result (Unit {0}) FileFault) → AnswersEntry may.content may.dir a m0 m1 r
      → (v : DiskVolume) (file : DiskFile) → RepresentsVolume m0 v → v.files a.directory ≡ Some file
      → AnswersEntry v file a m0 m1 r
  any_file m1 r answer v file on is =
      let same : may.content ≡ v = same_content m0 may.content v may.on on in
      let one : may.dir ≡ file = same_Some may.dir file (sym may.is ∙ ap (λ (w : DiskVolume). w.files a.directory) same ∙ is) in
      subst (λ f. AnswersEntry v f a m0 m1 r) one (subst (λ x. AnswersEntry x may.dir a m0 m1 r) same answer)

  module _ (m1 : Option (List ℕ)) (same : m1 ≡ m0) (loaded : Loaded) (is_loaded : IsDescriptorLoaded m0 a.directory loaded) where
    says : IsFdOf may.dir loaded.file
    says = is_loaded.says may.content may.dir may.on may.is

    pub few_listed : length loaded.file.segs ≤ 48
    few_listed = subst (λ xs. length xs ≤ 48) (sym says.segments_are) (few_runs m0 a may whole)

    pub apart_all : (v : DiskVolume) → RepresentsVolume m1 v → (c : ℕ) → uses (cluster_size v) loaded.file.segs c ≡ true → is_free_in v c ≡ false
    apart_all v on c used =
        let here : RepresentsVolume m0 v = record { image = on.image; is = sym same ∙ on.is; vol = on.vol } in
        let one : may.content ≡ v = same_content m0 may.content v may.on here in
        own_not_free m0 v here a.directory may.dir (ap (λ (w : DiskVolume). w.files a.directory) (sym one) ∙ may.is) c
        (subst (λ xs. uses (cluster_size v) xs c ≡ true) says.segments_are used)

    -- the size of a directory is a number of 32 bits
    pub place_low : length (sectors_of loaded.file.segs) ≤ 48 * 65535 → 32 * (a.place + 1) < 2 ^ 32
    place_low few =
        let room = room_for m0 may.content may.on a.directory may.dir may.is in
        let end = may.end in
        let counted : length (sectors_of loaded.file.segs) ≡ length (sectors_of may.dir.segments) = ap (λ xs. length (sectors_of xs)) says.segments_are in
        omega arith

    module _ (volume : Volume) (mounted : IsMounted volume m1) (count : ℕ) (counts : count ≡ clusters_needed volume.ident.cluster loaded.file.segs (32 * (a.place + 1))) where
      counted : count ≡ place_clusters may.content may.dir a.place
      counted =
          let here : RepresentsVolume m1 may.content = record { image = may.on.image; is = same ∙ may.on.is; vol = may.on.vol } in
          counts ∙ ap (λ k. clusters_needed k loaded.file.segs (32 * (a.place + 1))) (k_is volume may.on.image may.content may.on.vol (agrees_on volume m1 may.content mounted here))
          ∙ ap (λ xs. clusters_needed (cluster_size may.content) xs (32 * (a.place + 1))) says.segments_are

      count_few : count ≤ 1
      count_few = let few = needs_few m0 a may whole in let same_count = counted in omega arith

      grows_here : (mid : Option (List ℕ)) (r : Result (List (ℕ × ℕ)) FileFault)
          → ((v : DiskVolume) → RepresentsVolume m1 v → Grows v count loaded.file.segs m1 mid r)
          → Grows may.content count may.dir.segments m0 mid r
      grows_here mid r grows =
          subst (λ m. Grows may.content count may.dir.segments m mid r) same
          (subst (λ xs. Grows may.content count xs m1 mid r) says.segments_are (grows may.content (record { image = may.on.image; is = same ∙ may.on.is; vol = may.on.vol })))

      module _ (mid : Option (List ℕ)) (e : FileFault) (grows : (v : DiskVolume) → RepresentsVolume m1 v → Grows v count loaded.file.segs m1 mid (Err e)) where
        both : (IsSome (file_fault {A = Unit {0}} (Err e))) × AnswersEntry may.content may.dir a m0 mid (Err e)
        both = growth_answers m0 a may whole count counted mid e (grows_here mid (Err e) grows)

        pub grow_device : IsSome (file_fault {A = Unit {0}} (Err e))
        grow_device = both.0

        pub grow_answers : (v : DiskVolume) (file : DiskFile) → RepresentsVolume m0 v → v.files a.directory ≡ Some file → AnswersEntry v file a m0 mid (Err e)
        grow_answers = any_file mid (Err e) both.1

      -- the calls of the drive
      count_is : (v : DiskVolume) (file : DiskFile) → RepresentsVolume m0 v → v.files a.directory ≡ Some file → count ≡ place_clusters v file a.place
      count_is v file on is =
          let one_volume : may.content ≡ v = same_content m0 may.content v may.on on in
          let one : may.dir ≡ file = same_Some may.dir file (sym may.is ∙ ap (λ (w : DiskVolume). w.files a.directory) one_volume ∙ is) in
          subst (λ f. count ≡ place_clusters v f a.place) one (subst (λ x. count ≡ place_clusters x may.dir a.place) one_volume counted)

      module _ (v : DiskVolume) (file : DiskFile) (on : RepresentsVolume m0 v) (is : v.files a.directory ≡ Some file) (f : Option ℕ) where
        pub calls_grow : (t u : DriveCounts) → MovesCounts f count t u → MovesCounts f (3 + place_clusters v file a.place) t u
        calls_grow t u other = let known = count_is v file on is in counts_most f count (3 + place_clusters v file a.place) t u (omega arith) other

        pub calls_put : (t u w : DriveCounts) → MovesCounts None count t u → MovesCounts f 2 u w → MovesCounts f (3 + place_clusters v file a.place) t w
        calls_put t u w other third =
            let known = count_is v file on is in
            counts_most f (count + 2) (3 + place_clusters v file a.place) t w (omega arith) (counts_then f count 2 t u w other third)

        pub calls_store : (t u w x : DriveCounts) → MovesCounts None count t u → MovesCounts None 2 u w → MovesCounts f 1 w x → MovesCounts f (3 + place_clusters v file a.place) t x
        calls_store t u w x other third last =
            let known = count_is v file on is in
            counts_most f (count + 2 + 1) (3 + place_clusters v file a.place) t x (omega arith) (counts_then f (count + 2) 1 t w x (counts_then None count 2 t u w other third) last)

      module _ (mid : Option (List ℕ)) (longer : List (ℕ × ℕ)) (grows : (v : DiskVolume) → RepresentsVolume m1 v → Grows v count loaded.file.segs m1 mid (Ok longer)) where
        grown : IsGrown may.content count m0 mid may.dir.segments longer
        grown = (grows_here mid (Ok longer) grows).grown

        pub lsn_there : is_some (slice_get (sectors_of longer) (a.place / 8)) ≡ true
        lsn_there = ap is_some (slice_get-get_or (sectors_of longer) (a.place / 8) 0 (place_there m0 a may whole count counted mid longer grown))

        -- no sector more is no cluster more
        pub same_list : length (sectors_of longer) ≡ length (sectors_of loaded.file.segs) → longer ≡ loaded.file.segs
        same_list size =
            let k = cluster_size may.content in
            let all : length (sectors_of longer) ≡ length (sectors_of may.dir.segments) + length grown.taken * k =
            ap (λ xs. length (sectors_of xs)) grown.segments ∙ length-with k may.dir.segments grown.taken in
            let had : length (sectors_of loaded.file.segs) ≡ length (sectors_of may.dir.segments) = ap (λ xs. length (sectors_of xs)) says.segments_are in
            let some : length grown.taken * 1 ≤ length grown.taken * k = mul-le-mul_left (length grown.taken) (positive m0 a may whole) in
            let none : grown.taken ≡ [] = nil_from_length grown.taken (omega arith) in
            grown.segments ∙ ap (with_clusters k may.dir.segments) none ∙ sym says.segments_are

        module _ (lsn : ℕ) (there : slice_get (sectors_of longer) (a.place / 8) ≡ Some lsn) where
          abbrev at : ℕ
          at = sector_of_place (with_clusters (cluster_size may.content) may.dir.segments grown.taken) a.place

          lsn_is : lsn ≡ at
          lsn_is = sym (get_or_from_slice_get (sectors_of longer) (a.place / 8) lsn 0 there) ∙ ap (λ xs. sector_of_place xs a.place) grown.segments

          pub put_on_drive : lsn < drive_sectors mid
          put_on_drive = subst (λ s. s < drive_sectors mid) (sym lsn_is) (on_drive m0 a may whole count counted mid longer grown)

          pub put_answers : (m2 : Option (List ℕ)) (e : FileFault) → IsSome (file_fault {A = Unit {0}} (Err e))
              → m2 ≡ mid → (v : DiskVolume) (file : DiskFile) → RepresentsVolume m0 v → v.files a.directory ≡ Some file
              → AnswersEntry v file a m0 m2 (Err e)
          put_answers m2 e device still =
              any_file m2 (Err e) (fault_answers may.content may.dir a m0 m2 e device (unput m0 a may whole count counted mid longer grown m2 still))

          module _ (m2 : Option (List ℕ)) (written : m2 ≡ with_piece mid lsn (32 * (a.place % 8)) a.entry) where
            written_at : m2 ≡ with_piece mid at (32 * (a.place % 8)) a.entry
            written_at = written ∙ ap (λ s. with_piece mid s (32 * (a.place % 8)) a.entry) lsn_is

            pub put_mounted : (old new : Volume) → mounted_part new ≡ mounted_part old → IsCacheOf m2 new.cache → IsMounted old mid → IsMounted new m2
            put_mounted = mounted_now mid m2 _ _ (put_stored m0 a may whole count counted mid longer grown m2 written_at)

            pub put_sound : IsSoundMedia m2
            put_sound = stored_sound mid m2 _ _ (put_stored m0 a may whole count counted mid longer grown m2 written_at)

            pub store_on_drive : a.directory < drive_sectors m2
            store_on_drive = descriptor_on_drive m0 a may whole count counted mid longer grown m2 written_at

            pub store_answers : (m3 : Option (List ℕ)) (e : FileFault) → IsSome (file_fault {A = Unit {0}} (Err e))
                → m3 ≡ m2 → (v : DiskVolume) (file : DiskFile) → RepresentsVolume m0 v → v.files a.directory ≡ Some file
                → AnswersEntry v file a m0 m3 (Err e)
            store_answers m3 e device still =
                any_file m3 (Err e) (fault_answers may.content may.dir a m0 m3 e device (unnamed m0 a may whole count counted mid longer grown m2 written_at m3 still))

            module _ (bytes : List ℕ) (resized : IsResized loaded longer (32 * (a.place + 1)) a.now bytes) (m3 : Option (List ℕ)) (stored : m3 ≡ with_sector m2 a.directory bytes) where
              pub done_answers : (v : DiskVolume) (file : DiskFile) → RepresentsVolume m0 v → v.files a.directory ≡ Some file → AnswersEntry v file a m0 m3 (Ok tt)
              done_answers = any_file m3 (Ok tt) (appended m0 a may whole count counted mid longer grown m2 written_at loaded says is_loaded.bytes_are bytes resized m3 stored)

              pub done_mounted : (old new : Volume) → mounted_part new ≡ mounted_part old → IsCacheOf m3 new.cache → IsMounted old m2 → IsMounted new m3
              done_mounted = mounted_now m2 m3 _ _ (descriptor_stored m0 a may whole count counted mid longer grown m2 written_at loaded says is_loaded.bytes_are bytes resized m3 stored)

              pub store_sound : IsSoundMedia m3
              store_sound = stored_sound m2 m3 _ _ (descriptor_stored m0 a may whole count counted mid longer grown m2 written_at loaded says is_loaded.bytes_are bytes resized m3 stored)
