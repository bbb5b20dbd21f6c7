-- The entry of a file that may be deleted.
use Rattle.std.proofs.Common.{◌≡◌, ℕ, zero, suc, ◌+◌, ◌*◌, ◌/◌, ◌%◌, ◌<◌, ◌≤◌, Bool, true, false, not, ◌&&◌, Option, Some, None, is_some, Result, Err, List, [], ◌∷◌, length, ◌==◌, refl, ap, ap₂, sym, subst, ◌∙◌, arith}
use Rattle.std.specs.Prelude.{if◌then◌else◌}
use Rattle.std.specs.Int.{bit_at}
use Rattle.std.specs.List.{slice_get}
use Rattle.std.proofs.lemmas.Bool.{and_parts, cond-true, cond-false, both_ways, false≢true}
use Rattle.std.proofs.lemmas.Option.{same_Some}
use Rattle.os9_outer.specs.Drive.{sector_count}
use Rattle.rbf_model.specs.Segments.{sectors_of}
use Rattle.rbf_model.specs.Fields.{directory_entry, descriptor_field, is_used}
use Rattle.rbf_model.specs.File.{DiskFile, is_directory}
use Rattle.rbf_model.specs.Geometry.{Geometry, image_geometry}
use Rattle.rbf_model.specs.Tree.{HasEntry, IsParent, of_root, of_other, HasDots, self_first, parent_first}
use Rattle.rbf_model.specs.Volume.{DiskVolume, IsTree, directories, listing}
use Rattle.rbf_model.specs.Walk.{WalkEnd, arrives, not_allowed, not_found, permits, may_search, file_permits, same_names, look_up}
use Rattle.rbf_model.specs.Fields.{entry_name_field}
use Rattle.rbf_model.proofs.Entries.{listing_directory, listing_file}
use Rattle.rbf_change.specs.Names.{may_change, may_delete, deletion_of, deletion_end}
use Rattle.rbf_sector.specs.declared.fd.Fd.{Fd}
use Rattle.rbf_access.specs.Drive.{DriveCounts, MovesCounts}
use Rattle.rbf_access.specs.declared.volume.Volume.{Volume}
use Rattle.rbf_access.specs.Cached.{IsCacheOf}
use Rattle.rbf_access.specs.Mounted.{mounted_part, RepresentsVolume, HasFile, IsMounted, IsSoundMedia}
use Rattle.rbf_access.specs.Reading.{IsFdOf, OnFile}
use Rattle.rbf_access.proofs.Counting.{counts_then, counts_most, counts_within}
use Rattle.rbf_access.proofs.ReadFile.{room_for}
use Rattle.rbf_access.proofs.Reading.{below_total}
use Rattle.rbf_walk.specs.Search.{OnFd, IsNameFoundAt, IsAbsentName, IsSearched, sectors_searched}
use Rattle.rbf_access.specs.declared.faults.FileFault.TheVariants.{Device, NoCluster, TooManyRuns}
use Rattle.rbf_change.specs.Parts.{EntryIsFreed}
use Rattle.rbf_walk.specs.declared.error.DirError.{DirError}
use Rattle.rbf_walk.specs.declared.error.DirError.TheVariants.{NotAllowed, BadPath, NotFound, Exists, File}
use Rattle.rbf_walk.specs.Walk.{AnswersWalk, calls_on, directory_fault}
use Rattle.rbf_entries.specs.Becomes.{Becomes, with_piece}
use Rattle.rbf_walk.specs.declared.directory.Searched.{Searched}
use Rattle.rbf_walk.specs.declared.directory.Searched.TheVariants.{Found, Absent}
use Rattle.rbf_walk.proofs.Stepping.{same_content, file_in, found_walked, arrives_on}
use Rattle.rbf_entries.specs.Entries.{sector_of_entry}
use Rattle.rbf_entries.specs.Deletions.{IsDeletable, FreesName, FreesOn, deletion_calls}
use Rattle.rbf_entries.specs.declared.deletion.Deletable.{Deletable}
use Rattle.rbf_entries.proofs.Puts.{entry_lsn, freed_below, without, free_stored, free_changes}
use Rattle.rbf_entries.proofs.Stored.{becomes_now, mounted_now, stored_sound}

-- The first two entries of a directory name directories.
module _ (g : Geometry) (files : ℕ → Option DiskFile) (tree : IsTree g files) where
  -- what has an entry is a directory
  lists : (n : ℕ) (file : DiskFile) (j : ℕ) → files n ≡ Some file → HasEntry (directories files n) j → is_directory file ≡ false → ⊥
  lists n file j is has plain =
      let none : directories files n ≡ [] = ap listing is ∙ listing_file file plain in
      let within = has.within in
      let empty : length (directories files n) ≡ 0 = ap length none in
      absurd (omega arith)

  parent_lists : (d p : ℕ) (file : DiskFile) → IsParent g (directories files) d p → files p ≡ Some file → is_directory file ≡ false → ⊥
  parent_lists d p file (of_root a b) is plain = both_ways (is_directory file) plain (tree.root file (ap files (sym b) ∙ is))
  parent_lists d p file (of_other {i = j} a link) is plain = lists p file j is link.names.entry plain

  module _ (d : ℕ) (dir file : DiskFile) (is : files d ≡ Some dir) (directory : is_directory dir ≡ true) (plain : is_directory file ≡ false) where
    own : (n : ℕ) → n ≡ d → files n ≡ Some file → ⊥
    own n here names =
        let same : dir ≡ file = same_Some dir file (sym is ∙ ap files (sym here) ∙ names) in
        both_ways (is_directory file) plain (ap is_directory (sym same) ∙ directory)

    first_two : HasDots g (directories files) d
        → (files (descriptor_field (directory_entry (directories files d) 0)) ≡ Some file → ⊥) × (files (descriptor_field (directory_entry (directories files d) 1)) ≡ Some file → ⊥)
    first_two (self_first {p = p} one two parent) =
        (λ names. own _ one.descriptor names, λ names. parent_lists d p file parent (ap files (sym two.descriptor) ∙ names) plain)
    first_two (parent_first {p = p} one two parent) =
        (λ names. parent_lists d p file parent (ap files (sym one.descriptor) ∙ names) plain, λ names. own _ two.descriptor names)

    -- so the entry of another file is behind them
    pub behind_dots : (i : ℕ) → files (descriptor_field (directory_entry dir.contents i)) ≡ Some file → 2 ≤ i
    behind_dots i names = by_place i (ap (λ c. files (descriptor_field (directory_entry c i))) (ap listing is ∙ listing_directory dir directory) ∙ names)
      where
        by_place : (j : ℕ) → files (descriptor_field (directory_entry (directories files d) j)) ≡ Some file → 2 ≤ j
        by_place zero h = absurd ((first_two (tree.dots d dir is directory)).0 h)
        by_place (suc zero) h = absurd ((first_two (tree.dots d dir is directory)).1 h)
        by_place (suc (suc j)) h = omega arith

module _ (media : Option (List ℕ)) (dir : ℕ) (has : HasFile media dir) (fd : Fd) (known : OnFile media dir (λ file. IsFdOf file fd)) (name : List ℕ) (user : ℕ) (execute : Bool)
    (test : Bool) (tested : (file : DiskFile) → IsFdOf file fd → test ≡ may_change file user execute) where
  -- a directory that may not be changed
  pub closed_end : (v : DiskVolume) (file : DiskFile) → RepresentsVolume media v → v.files dir ≡ Some file → test ≡ false → deletion_end v.files file name user execute ≡ not_allowed
  closed_end v file on is fails =
      cond-false (may_change file user execute) (deletion_of v.files user (look_up file.contents name)) not_allowed (sym (tested file (known v file on is)) ∙ fails)

  module _ (passes : test ≡ true) (now : Option (List ℕ)) (same : now ≡ media) (answer : Searched) (searched : OnFd now fd (λ file. IsSearched file.contents name answer)) where
    abbrev by_fd : Bool
    by_fd = (bit_at fd.attr 7 == 1) && permits fd.attr fd.owner user (if execute then 4 else 1)

    by_fields : (file : DiskFile) → IsFdOf file fd → by_fd ≡ may_search file user execute
    by_fields file of = ap₂ (λ a o. (bit_at a 7 == 1) && permits a o user (if execute then 4 else 1)) of.attributes_are of.owner_is

    on_now : (v : DiskVolume) → RepresentsVolume media v → RepresentsVolume now v
    on_now v on = record { image = on.image; is = same ∙ on.is; vol = on.vol }

    pub absent_end : (v : DiskVolume) (file : DiskFile) → RepresentsVolume media v → v.files dir ≡ Some file
        → (free : ℕ) → answer ≡ Absent free → deletion_end v.files file name user execute ≡ not_found
    absent_end v file on is free absent =
        let fields = known v file on is in
        let none : IsAbsentName file.contents name free = subst (IsSearched file.contents name) absent (searched v dir file (on_now v on) is fields) in
        cond-true (may_change file user execute) (deletion_of v.files user (look_up file.contents name)) not_allowed (sym (tested file fields) ∙ passes)
        ∙ ap (deletion_of v.files user) none.names_none

    module _ (place n : ℕ) (found : answer ≡ Found place n) where
      at : (v : DiskVolume) (file : DiskFile) → RepresentsVolume media v → v.files dir ≡ Some file → IsNameFoundAt file.contents name place n
      at v file on is = subst (IsSearched file.contents name) found (searched v dir file (on_now v on) is (known v file on is))

      pub name_found : (v : DiskVolume) (file : DiskFile) → RepresentsVolume media v → v.files dir ≡ Some file → is_some (look_up file.contents name) ≡ true
      name_found v file on is = ap is_some (at v file on is).names

      -- its sector is one of the directory's
      pub place_listed : place / 8 < length (sectors_of fd.segs)
      place_listed =
          let fields = known has.content has.file has.on has.is in
          let room = room_for media has.content has.on dir has.file has.is in
          let within = (at has.content has.file has.on has.is).within in
          let same : length (sectors_of fd.segs) ≡ length (sectors_of has.file.segments) = ap (λ s. length (sectors_of s)) fields.segments_are in
          omega arith

      -- the entry that is found names a file
      pub names_file : HasFile media n
      names_file =
          let fields = known has.content has.file has.on has.is in
          let open_to : by_fd ≡ true = by_fields has.file fields ∙ (and_parts (may_search has.file user execute) (file_permits has.file user 2) (sym (tested has.file fields) ∙ passes)).0 in
          arrives_on media dir n user execute name has
          (found_walked media dir has fd known user execute name by_fd by_fields has.content has.on now same answer searched open_to place n found)

      found_end : (v : DiskVolume) (file : DiskFile) → RepresentsVolume media v → v.files dir ≡ Some file
          → deletion_end v.files file name user execute ≡ (if may_delete (v.files n) user then arrives n else not_allowed)
      found_end v file on is =
          cond-true (may_change file user execute) (deletion_of v.files user (look_up file.contents name)) not_allowed (sym (tested file (known v file on is)) ∙ passes)
          ∙ ap (deletion_of v.files user) (at v file on is).names

      module _ (target : Fd) (read : OnFile media n (λ file. IsFdOf file target)) (may : Bool) (asked : (file : DiskFile) → IsFdOf file target → may ≡ may_delete (Some file) user) where
        may_is : (v : DiskVolume) → RepresentsVolume media v → may ≡ may_delete (v.files n) user
        may_is v on =
            let there = file_in media n names_file v on in
            asked names_file.file (read v names_file.file on there) ∙ ap (λ o. may_delete o user) (sym there)

        pub kept_end : may ≡ false → (v : DiskVolume) (file : DiskFile) → RepresentsVolume media v → v.files dir ≡ Some file → deletion_end v.files file name user execute ≡ not_allowed
        kept_end fails v file on is = found_end v file on is ∙ cond-false (may_delete (v.files n) user) (arrives n) not_allowed (sym (may_is v on) ∙ fails)

        pub deleted_end : may ≡ true → (v : DiskVolume) (file : DiskFile) → RepresentsVolume media v → v.files dir ≡ Some file → deletion_end v.files file name user execute ≡ arrives n
        deleted_end goes v file on is = found_end v file on is ∙ cond-true (may_delete (v.files n) user) (arrives n) not_allowed (sym (may_is v on) ∙ goes)

        pub may_be_freed : may ≡ true → (lsn : ℕ) → slice_get (sectors_of fd.segs) (place / 8) ≡ Some lsn
            → IsDeletable media dir name (record { place = place; lsn = lsn; descriptor = n; file = target })
        may_be_freed goes lsn there_is =
            let v = has.content in
            let found_here = at v has.file has.on has.is in
            let fields = known v has.file has.on has.is in
            let changes = and_parts (may_search has.file user execute) (file_permits has.file user 2) (sym (tested has.file fields) ∙ passes) in
            let directory = (and_parts (is_directory has.file) (file_permits has.file user (if execute then 4 else 1)) changes.0).0 in
            let there = file_in media n names_file v has.on in
            let plain =
            not_true (is_directory names_file.file) (and_parts (not (is_directory names_file.file))
            (file_permits names_file.file user 2) (sym (asked names_file.file (read v names_file.file has.on there))
            ∙ goes)).0 in
            let named : v.files (descriptor_field (directory_entry has.file.contents place)) ≡ Some names_file.file = ap v.files (sym found_here.descriptor_is) ∙ there in
            record {
              free = record {
                place = record {
                  content = v;
                  on = has.on;
                  dir = has.file;
                  is = has.is;
                  directory = directory;
                  after = behind_dots (image_geometry has.on.image) v.files has.on.vol.sound.tree dir has.file names_file.file has.is directory plain place named;
                  within = found_here.within;
                };
                used = (and_parts (is_used (directory_entry has.file.contents place)) (same_names name (entry_name_field (directory_entry has.file.contents place))) found_here.has).0;
                file = names_file.file;
                names = named;
                not_directory = plain;
              };
              there = found_here.there;
              lsn_is = entry_lsn has.file fd fields place lsn there_is;
              descriptor_is = found_here.descriptor_is;
              says = read v names_file.file has.on there;
            }
          where
            not_true : (b : Bool) → not b ≡ true → b ≡ false
            not_true true h = absurd (false≢true h)
            not_true false h = refl

-- How many calls that takes.
module _ (dir : DiskFile) (name : List ℕ) (user : ℕ) (execute : Bool) (f : Option ℕ) (s t : DriveCounts) where
  abbrev sectors : ℕ
  sectors = sectors_searched dir.contents name

  abbrev last_look : ℕ
  last_look = if is_some (look_up dir.contents name) then 1 else 0

  pub one_look : MovesCounts f 1 s t → MovesCounts f (deletion_calls dir name user execute) s t
  one_look one = counts_most f 1 (deletion_calls dir name user execute) s t (either (may_change dir user execute) last_look) one
    where
      either : (b : Bool) (x : ℕ) → 1 ≤ (if b then 1 + sectors + x else 1)
      either true x = omega arith
      either false x = omega arith

  module _ (allowed : may_change dir user execute ≡ true) where
    open_is : deletion_calls dir name user execute ≡ 1 + sectors + last_look
    open_is = cond-true (may_change dir user execute) (1 + sectors + last_look) 1 allowed

    pub two_looks : (most : ℕ) (mid : DriveCounts) → MovesCounts None 1 s mid → MovesCounts f most mid t → t.calls ≤ mid.calls + sectors → MovesCounts f (deletion_calls dir name user execute) s t
    two_looks most mid one other few =
        subst (λ n. MovesCounts f n s t) (sym open_is)
        (counts_most f (1 + sectors) (1 + sectors + last_look) s t (omega arith) (counts_then f 1 sectors s mid t one (counts_within f most sectors mid t few other)))

    pub three_looks : is_some (look_up dir.contents name) ≡ true → (most : ℕ) (mid half : DriveCounts) → MovesCounts None 1 s mid → MovesCounts None most mid half → half.calls ≤ mid.calls + sectors
        → MovesCounts f 1 half t → MovesCounts f (deletion_calls dir name user execute) s t
    three_looks found most mid half one other few last =
        subst (λ n. MovesCounts f n s t)
        (ap (λ b. 1 + sectors + b) (sym (cond-true (is_some (look_up dir.contents name)) 1 0 found)) ∙ sym open_is)
        (counts_then f (1 + sectors) 1 s half t (counts_then None 1 sectors s mid half one (counts_within None most sectors mid half few other)) last)

-- Facts of a media that has only been read since.

pub file_still : (media now : Option (List ℕ)) (n : ℕ) → now ≡ media → HasFile media n → HasFile now n
file_still media now n same has = subst (λ m. HasFile m n) (sym same) has

pub read_before : (media now : Option (List ℕ)) (n : ℕ) (fd : Fd) → now ≡ media → OnFile now n (λ file. IsFdOf file fd) → OnFile media n (λ file. IsFdOf file fd)
read_before media now n fd same read = subst (λ m. OnFile m n (λ file. IsFdOf file fd)) same read

pub read_here : (media now : Option (List ℕ)) (n : ℕ) (fd : Fd) (v : DiskVolume) (file : DiskFile) (fact : DiskFile
    → Type 0) → now ≡ media → RepresentsVolume media v → v.files n ≡ Some file → IsFdOf file fd → OnFd now fd fact → fact file
read_here media now n fd v file fact same on is known read = read v n file (record { image = on.image; is = same ∙ on.is; vol = on.vol }) is known

pub same_answer : (end : WalkEnd) (e : DirError) (r : Result ℕ DirError) → r ≡ Err e → AnswersWalk end (Err e) → AnswersWalk end r
same_answer end e r is answers = subst (AnswersWalk end) (sym is) answers

-- the entry that has been made free is that of the name
pub frees_name : (media now : Option (List ℕ)) (d : ℕ) (name : List ℕ) (found : Deletable) → IsDeletable media d name found → Becomes media now (λ v w. EntryIsFreed v w d found.place)
    → Becomes media now (λ v w. FreesName v w d name)
frees_name media now d name found at becomes v on =
    let done = becomes v on in
    record {
      volume = done.volume;
      on = done.on;
      changed = record {
        dir = at.free.place.dir;
        is = ap (λ (w : DiskVolume). w.files d) (same_content media v at.free.place.content on at.free.place.on) ∙ at.free.place.is;
        place = found.place;
        there = at.there;
        freed = done.changed;
      };
    }

-- and nothing else has changed on the media
pub frees_on : (media mid now : Option (List ℕ)) (d : ℕ) (name : List ℕ) (found : Deletable) → IsDeletable media d name found → mid ≡ media
    → now ≡ with_piece mid found.lsn (32 * (found.place % 8)) (0 ∷ []) → FreesOn media now d name found
frees_on media mid now d name found at same is = record {
  at = at;
  written = is ∙ ap (λ m. with_piece m found.lsn (32 * (found.place % 8)) (0 ∷ [])) same ∙ ap (λ s. with_piece media s (32 * (found.place % 8)) (0 ∷ [])) at.lsn_is;
}

module _ (media now : Option (List ℕ)) (d : ℕ) (name : List ℕ) (found : Deletable) (frees : FreesOn media now d name found) where
  pub freed_becomes : Becomes media now (λ v w. FreesName v w d name)
  freed_becomes =
      let may = frees.at.free in
      frees_name media now d name found frees.at
      (becomes_now media now may.place.content (without media now d found.place may frees.written) (free_stored media now d found.place may frees.written) (λ v w. EntryIsFreed v w d found.place)
      (free_changes media now d found.place may frees.written))

  pub freed_mounted : (old new : Volume) → mounted_part new ≡ mounted_part old → IsCacheOf now new.cache → IsMounted old media → IsMounted new now
  freed_mounted =
      let may = frees.at.free in
      mounted_now media now may.place.content (without media now d found.place may frees.written) (free_stored media now d found.place may frees.written)

-- so the media is sound
pub freed_sound : (media now : Option (List ℕ)) (d : ℕ) (name : List ℕ) (found : Deletable) → FreesOn media now d name found → IsSoundMedia now
freed_sound media now d name found frees =
    let may = frees.at.free in
    stored_sound media now may.place.content (without media now d found.place may frees.written) (free_stored media now d found.place may frees.written)

-- its sector is on the drive
pub entry_on_drive : (media mid : Option (List ℕ)) (d : ℕ) (name : List ℕ) (found : Deletable) → IsDeletable media d name found → mid ≡ media → found.lsn < sector_count mid
entry_on_drive media mid d name found at same =
    let low = below_total media at.free.place.content at.free.place.on (sector_of_entry at.free.place.dir found.place) (freed_below media d found.place at.free) in
    subst (λ m. found.lsn < sector_count m) (sym same) (subst (λ s. s < sector_count media) (sym at.lsn_is) low)

pub all_calls : (end : WalkEnd) (k : ℕ) → end ≡ arrives k → (f : Option ℕ) (n : ℕ) (s t u : DriveCounts) → MovesCounts None n s t → MovesCounts f 2 t u → MovesCounts f (n + calls_on end (λ i. 2)) s u
all_calls end k is f n s t u one other = subst (λ e. MovesCounts f (n + calls_on e (λ i. 2)) s u) (sym is) (counts_then f n 2 s t u one other)

pub same_calls : (A B : Type 0) (n : ℕ) (e : DirError) (r : Result A DirError) (s t : DriveCounts) → r ≡ Err e
    → MovesCounts (directory_fault {A = B} (Err e)) n s t → MovesCounts (directory_fault r) n s t
same_calls A B n e r s t is moved = subst (λ f. MovesCounts f n s t) (sym (ap directory_fault is ∙ same e)) moved
  where
    same : (x : DirError) → directory_fault {A = A} (Err x) ≡ directory_fault {A = B} (Err x)
    same NotAllowed = refl
    same BadPath = refl
    same NotFound = refl
    same Exists = refl
    same (File (Device k)) = refl
    same (File NoCluster) = refl
    same (File TooManyRuns) = refl

pub fewer_calls : (A B : Type 0) (n more : ℕ) (e : DirError) (r : Result A DirError) (s t : DriveCounts) → r ≡ Err e
    → MovesCounts (directory_fault {A = B} (Err e)) n s t → MovesCounts (directory_fault r) (n + more) s t
fewer_calls A B n more e r s t is moved = same_calls A B (n + more) e r s t is (counts_most (directory_fault {A = B} (Err e)) n (n + more) s t (omega arith) moved)
