-- What the making of a directory answers, step by step.
use Rattle.std.proofs.Common.{◌≡◌, ℕ, ◌+◌, ◌<◌, min, false, Option, Some, None, IsSome, Ok, Err, List, refl, sym, ap, ◌∙◌, subst, arith}
use Rattle.std.specs.Prelude.{Result}
use Rattle.std.proofs.lemmas.Bool.{both_ways}
use Rattle.std.proofs.lemmas.Option.{same_Some}
use Rattle.os9_base.specs.declared.registers.TimePacket.{TimePacket}
use Rattle.rbf_model.specs.File.{DiskFile}
use Rattle.rbf_model.specs.Space.{has_cluster}
use Rattle.rbf_model.specs.Volume.{DiskVolume, Vol}
use Rattle.rbf_change.specs.Agrees.{Agrees}
use Rattle.rbf_change.specs.Calls.{shape, cluster_size, free_total}
use Rattle.rbf_change.specs.Names.{new_entry}
use Rattle.rbf_change.specs.NewFiles.{directory_plan, file_clusters}
use Rattle.rbf_access.specs.Drive.{DriveCounts, MovesCounts}
use Rattle.rbf_access.proofs.Counting.{counts_then}
use Rattle.rbf_access.specs.Faults.{file_fault}
use Rattle.rbf_access.specs.MapMarks.{marking_sectors}
use Rattle.rbf_access.specs.Mounted.{mounted_part, RepresentsVolume, HasFile, IsMounted}
use Rattle.rbf_access.specs.Reading.{IsFdOf, OnFile, OnVolumeFile}
use Rattle.rbf_access.specs.declared.faults.FileFault.{FileFault}
use Rattle.rbf_access.specs.declared.faults.FileFault.TheVariants.{Device, NoCluster, TooManyRuns}
use Rattle.rbf_access.specs.declared.volume.Volume.{Volume}
use Rattle.rbf_alloc.proofs.Growing.{agrees_on}
use Rattle.rbf_walk.specs.declared.error.DirError.{DirError}
use Rattle.rbf_walk.specs.declared.error.DirError.TheVariants.{NotAllowed, BadPath, NotFound, Exists, File}
use Rattle.rbf_walk.proofs.Stepping.{same_content}
use Rattle.rbf_write.specs.declared.loaded.Loaded.{Loaded}
use Rattle.rbf_write.specs.Files.{IsDescriptorLoaded}
use Rattle.rbf_entries.specs.NewEntry.{MayEnter, AnswersEntry}
use Rattle.rbf_entries.specs.Entering.{AnswersEntering, unchanged, entry_calls, entering_calls, widened}
use Rattle.rbf_entries.specs.Rooms.{AnswersRoom, HasClusterRoom}
use Rattle.rbf_entries.specs.declared.place.NewPlace.{NewPlace}
use Rattle.rbf_entries.specs.Places.{AnswersPlace, IsNewPlace, IsFoundFor, IsPlaceForName}
use Rattle.rbf_entries.proofs.FoundPlace.{asked}
use Rattle.rbf_entries.specs.Asked.{folder_request}
use Rattle.rbf_entries.specs.FolderMade.{IsFolderMade, MakesFolder, folder_calls}
use Rattle.rbf_entries.proofs.FolderMaking.{need, kept_size}
use Rattle.rbf_entries.proofs.FolderEntered.{number_below_all, full, no_segment, unmade, low, may_enter_it, read_still, calls_left, unnamed, file_stays, named}

-- what the call answers of any volume that the media represents
abbrev pub Answered : Option (List ℕ) → Option (List ℕ) → ℕ → List ℕ → ℕ → ℕ → TimePacket → Result ℕ DirError → Type 0
Answered m0 m1 d name attr user now r =
    (v : DiskVolume) (file : DiskFile) → RepresentsVolume m0 v → v.files d ≡ Some file → AnswersEntering v file (folder_request d name attr user now) m0 m1 r

-- there is no place
pub no_place : (m0 m1 : Option (List ℕ)) → m1 ≡ m0 → (d : ℕ) (name : List ℕ) (attr user : ℕ) (now : TimePacket) (e : DirError)
    → OnFile m0 d (λ file. AnswersPlace file name user false (Err e)) → Answered m0 m1 d name attr user now (Err e)
no_place m0 m1 same d name attr user now e answer v file on is = by_error e (answer v file on is)
  where
    by_error : (f : DirError) → AnswersPlace file name user false (Err f) → AnswersEntering v file (folder_request d name attr user now) m0 m1 (Err f)
    by_error NotAllowed refused = record { because = refused (cluster_size v) (free_total v) 64; media_kept = same }
    by_error BadPath refused = record { because = refused (cluster_size v) (free_total v) 64; media_kept = same }
    by_error NotFound refused = absurd refused
    by_error Exists refused = record { because = refused (cluster_size v) (free_total v) 64; media_kept = same }
    by_error (File (Device x)) proper = (proper, unchanged same)
    by_error (File NoCluster) refused = absurd refused
    by_error (File TooManyRuns) refused = absurd refused

-- a place that was found by a search to read
pub reading_place : (media : Option (List ℕ)) (name : List ℕ) (found : NewPlace) → IsPlaceForName media name found
    → found.by.execute ≡ false → OnFile media found.dir.number (λ file. AnswersPlace file name found.by.user false (Ok found.place))
reading_place media name found place reading v file on is = subst (λ x. IsNewPlace file name found.by.user x found.place) reading (place.new v file on is)

-- the parent's number is one of a sector
pub parent_low : (media : Option (List ℕ)) (d : ℕ) → HasFile media d → d < 16777216
parent_low media d has = number_below_all media has.content has.on d has.file has.is

module _ (m0 : Option (List ℕ)) (d place : ℕ) (name : List ℕ) (attr user : ℕ) (now : TimePacket) (has : HasFile m0 d)
    (found : OnFile m0 d (λ file. AnswersPlace file name user false (Ok place))) where
  spot : IsNewPlace has.file name user false place
  spot = found has.content has.file has.on has.is

  -- whichever volume the media represents
  any : (P : DiskVolume → DiskFile → Type 0) → P has.content has.file → (v : DiskVolume) (file : DiskFile) → RepresentsVolume m0 v → v.files d ≡ Some file → P v file
  any P here v file on is =
      let same : has.content ≡ v = same_content m0 has.content v has.on on in
      let one : has.file ≡ file = same_Some has.file file (sym has.is ∙ ap (λ (w : DiskVolume). w.files d) same ∙ is) in
      subst (P v) one (subst (λ x. P x has.file) same here)

  answered : (m1 : Option (List ℕ)) (r : Result ℕ DirError) → AnswersEntering has.content has.file (folder_request d name attr user now) m0 m1 r → Answered m0 m1 d name attr user now r
  answered m1 r here = any (λ v file. AnswersEntering v file (folder_request d name attr user now) m0 m1 r) here

  module _ (m1 : Option (List ℕ)) (same : m1 ≡ m0) (loaded : Loaded) (read : IsDescriptorLoaded m0 d loaded) (volume : Volume)
      (mounted : IsMounted volume m1) (clusters : ℕ) (value : clusters ≡ file_clusters volume.ident.cluster 64) where
    on1 : RepresentsVolume m1 has.content
    on1 = record { image = has.on.image; is = same ∙ has.on.is; vol = has.on.vol }

    agrees : Agrees (mounted_part volume) has.on.image
    unfolding on1
    agrees = agrees_on volume m1 has.content mounted on1

    needed : clusters ≡ need has.content
    needed = value ∙ ap (λ x. file_clusters x 64) (kept_size volume m1 has.content mounted on1)

    room_of : (r : Result (Unit {0}) FileFault) → ((image : List ℕ) (on : DiskVolume) (file : DiskFile)
        → Agrees (mounted_part volume) image → Vol image on → IsFdOf file loaded.file → AnswersRoom on file place clusters r)
        → AnswersRoom has.content has.file place (need has.content) r
    room_of r answers = subst (λ n. AnswersRoom has.content has.file place n r) needed (answers has.on.image has.content has.file agrees has.on.vol (read.says has.content has.file has.on has.is))

    -- there is no room
    pub no_room : (e : FileFault) → ((image : List ℕ) (on : DiskVolume) (file : DiskFile) → Agrees (mounted_part volume) image
        → Vol image on → IsFdOf file loaded.file → AnswersRoom on file place clusters (Err e))
        → (file_fault {A = ℕ} (Err e) ≡ None) × Answered m0 m1 d name attr user now (Err (File e))
    no_room (Device x) answers = absurd (room_of (Err (Device x)) answers)
    no_room NoCluster answers = (
      refl,
      answered m1 (Err (File NoCluster)) (record {
        because = full m0 has.content has.on d place has.file has.is name attr user now spot (room_of (Err NoCluster) answers);
        media_kept = same;
      }),
    )
    no_room TooManyRuns answers = (
      refl,
      answered m1 (Err (File TooManyRuns)) (record {
        because = no_segment m0 has.content has.on d place has.file has.is name attr user now spot (room_of (Err TooManyRuns) answers);
        media_kept = same;
      }),
    )

    module _ (answers : (image : List ℕ) (on : DiskVolume) (file : DiskFile) → Agrees (mounted_part volume) image
        → Vol image on → IsFdOf file loaded.file → AnswersRoom on file place clusters (Ok tt)) where
      room : HasClusterRoom has.content has.file place (need has.content)
      room = room_of (Ok tt) answers

      makes_here : (mid : Option (List ℕ)) (r : Result ℕ FileFault)
          → ((v : DiskVolume) → RepresentsVolume m1 v → MakesFolder v d (directory_plan attr user now d) m1 mid r)
          → MakesFolder has.content d (directory_plan attr user now d) m0 mid r
      makes_here mid r makes = subst (λ m. MakesFolder has.content d (directory_plan attr user now d) m mid r) same (makes has.content on1)

      pub folder_calls_here : (most : DiskVolume → ℕ) (f : Option ℕ) (t u : DriveCounts)
          → ((v : DiskVolume) → RepresentsVolume m1 v → MovesCounts f (most v) t u) → (v : DiskVolume) (file : DiskFile)
          → RepresentsVolume m0 v → v.files d ≡ Some file → MovesCounts f (most v) t u
      folder_calls_here most f t u moved v file on is = moved v (record { image = on.image; is = same ∙ on.is; vol = on.vol })

      -- the directory was not made
      pub not_made : (mid : Option (List ℕ)) (e : FileFault)
          → ((v : DiskVolume) → RepresentsVolume m1 v → MakesFolder v d (directory_plan attr user now d) m1 mid (Err e))
          → (IsSome (file_fault {A = ℕ} (Err e))) × Answered m0 mid d name attr user now (Err (File e))
      not_made mid e makes = by_fault e (makes_here mid (Err e) makes)
        where
          by_fault : (f : FileFault) → MakesFolder has.content d (directory_plan attr user now d) m0 mid (Err f)
              → (IsSome (file_fault {A = ℕ} (Err f))) × Answered m0 mid d name attr user now (Err (File f))
          by_fault (Device x) here = (
            refl,
            answered mid (Err (File (Device x))) (spot.proper, unmade m0 has.content has.on d place has.file has.is name attr user now spot room mid here.ends),
          )
          by_fault NoCluster here = let less = here.full.0 refl in let enough = room.enough in absurd (omega arith)
          by_fault TooManyRuns here = absurd (here.runs refl)

      module _ (mid : Option (List ℕ)) (n : ℕ) (makes : (v : DiskVolume) → RepresentsVolume m1 v → MakesFolder v d (directory_plan attr user now d) m1 mid (Ok n)) where
        made : IsFolderMade has.content d n (directory_plan attr user now d n) m0 mid
        made = (makes_here mid (Ok n) makes).made

        pub number_low : n < 16777216
        number_low = low m0 has.content has.on d place has.file has.is name attr user now spot room mid n made

        pub read_there : IsDescriptorLoaded mid loaded.number loaded
        read_there = subst (λ m. IsDescriptorLoaded mid m loaded) (sym read.number_is) (read_still m0 has.content has.on d place has.file has.is name attr user now spot room mid n made loaded read)

        on_mid : RepresentsVolume mid made.left
        on_mid = record { image = made.now; is = made.is; vol = made.vol }

        left_file : made.left.files d ≡ Some has.file
        left_file = ap (λ (x : DiskVolume). x.files d) made.made.volume ∙ has.is

        pub entry_calls_here : (f : Option ℕ) (t u : DriveCounts)
            → OnVolumeFile mid loaded.number (λ on file. MovesCounts f (entry_calls on file) t u)
            → (v : DiskVolume) (file : DiskFile) → RepresentsVolume m0 v → v.files d ≡ Some file
            → MovesCounts f (entry_calls v file) t u
        entry_calls_here f t u moved = any (λ v file. MovesCounts f (entry_calls v file) t u)
            (subst (λ m. MovesCounts f m t u) (calls_left m0 has.content has.on d place has.file has.is name attr user now spot room mid n made)
            (moved made.left has.file on_mid (ap made.left.files read.number_is ∙ left_file)))

        module _ (bytes : List ℕ) (bytes_are : bytes ≡ new_entry name n) where
          pub enter_may : MayEnter mid loaded.number place bytes
          enter_may = subst (λ m. MayEnter mid m place bytes) (sym read.number_is) (may_enter_it m0 has.content has.on d place has.file has.is name attr user now spot room mid n made bytes bytes_are)

          module _ (m2 : Option (List ℕ)) where
            here : (r : Result (Unit {0}) FileFault) → OnVolumeFile mid loaded.number
                (λ on file. AnswersEntry on file (record {
                  directory = loaded.number;
                  place = place;
                  entry = bytes;
                  now = now;
                }) mid m2 r)
                → AnswersEntry made.left has.file (record { directory = d; place = place; entry = new_entry name n; now = now }) mid m2 r
            here r answer =
                subst (λ m. AnswersEntry made.left has.file (record { directory = m; place = place; entry = new_entry name n; now = now }) mid m2 r) read.number_is
                (subst (λ b. AnswersEntry made.left has.file (record { directory = loaded.number; place = place; entry = b; now = now }) mid m2 r) bytes_are
                (answer made.left has.file on_mid (ap made.left.files read.number_is ∙ left_file)))

            pub not_entered : (e : FileFault) → IsSome (file_fault {A = Unit {0}} (Err e))
                → OnVolumeFile mid loaded.number (λ on file. AnswersEntry on file (record { directory = loaded.number; place = place; entry = bytes; now = now }) mid m2 (Err e))
                → Answered m0 m2 d name attr user now (Err (File e))
            not_entered (Device x) device answer =
                answered m2 (Err (File (Device x))) (spot.proper, unnamed m0 has.content has.on d place has.file has.is name attr user now spot room mid n made m2 (here (Err (Device x)) answer))
            not_entered NoCluster device answer = absurd (both_ways false refl device)
            not_entered TooManyRuns device answer = absurd (both_ways false refl device)

            -- its clusters stay those of its descriptor
            pub entered_calls : OnVolumeFile mid loaded.number (λ on file. AnswersEntry on file (record { directory = loaded.number; place = place; entry = bytes; now = now }) mid m2 (Ok tt))
                → (v : DiskVolume) (file : DiskFile) (s t u : DriveCounts)
                → MovesCounts None (folder_calls {E = FileFault} v mid (Ok n)) s t
                → MovesCounts None (entry_calls v file) t u → MovesCounts None (folder_calls {E = FileFault} v m2 (Ok n) + entry_calls v file) s u
            entered_calls answer v file s t u one other =
                let stays : folder_calls {E = FileFault} v mid (Ok n) ≡ folder_calls {E = FileFault} v m2 (Ok n) =
                ap (λ f. min (file_clusters (cluster_size v) 64) (marking_sectors (shape v) (has_cluster (shape v) n f)) + 2)
                (sym (file_stays m0 has.content has.on d place has.file has.is name attr user now spot room mid n made m2 (here (Ok tt) answer))) in
                subst (λ m. MovesCounts None (m + entry_calls v file) s u) stays (counts_then None (folder_calls {E = FileFault} v mid (Ok n)) (entry_calls v file) s t u one other)

            pub is_entered : OnVolumeFile mid loaded.number (λ on file. AnswersEntry on file (record { directory = loaded.number; place = place; entry = bytes; now = now }) mid m2 (Ok tt))
                → Answered m0 m2 d name attr user now (Ok n)
            is_entered answer = answered m2 (Ok n) (named m0 has.content has.on d place has.file has.is name attr user now spot room mid n made m2 (here (Ok tt) answer))

-- the place was found before
module _ (m0 m1 : Option (List ℕ)) (same : m1 ≡ m0) (d : ℕ) (name : List ℕ) (user : ℕ) (found : NewPlace) (is : IsFoundFor m0 d user false found) where
  pub answer_there : (attr : ℕ) (now : TimePacket) (r : Result ℕ FileFault) (m2 : Option (List ℕ))
      → ((v : DiskVolume) (file : DiskFile) → RepresentsVolume m1 v → v.files found.dir.number ≡ Some file
      → AnswersEntering v file (folder_request found.dir.number name attr found.by.user now) m1 m2 (widened r))
      → Answered m0 m2 d name attr user now (widened r)
  answer_there attr now r m2 = asked m0 m1 same d name user false found is (λ m n u x v file. AnswersEntering v file (folder_request n name attr u now) m m2 (widened r))

  pub calls_there : (most : DiskVolume → ℕ) (r : Result ℕ FileFault) (t u : DriveCounts)
      → ((v : DiskVolume) (file : DiskFile) → RepresentsVolume m1 v → v.files found.dir.number ≡ Some file
      → MovesCounts (file_fault r) (entering_calls v file (most v) (widened r)) t u)
      → (v : DiskVolume) (file : DiskFile) → RepresentsVolume m0 v → v.files d ≡ Some file → MovesCounts (file_fault r) (entering_calls v file (most v) (widened r)) t u
  calls_there most r t u = asked m0 m1 same d name user false found is (λ m n w x v file. MovesCounts (file_fault r) (entering_calls v file (most v) (widened r)) t u)
