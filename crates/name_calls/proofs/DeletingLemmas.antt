-- A file that is deleted from a directory that was found.
use Rattle.std.proofs.Common.{◌≡◌, ◌∙◌, ℕ, ◌+◌, ◌%◌, not, Bool, true, false, Option, Some, None, List, Result, Ok, Err, inl, inr, refl, ap, sym, subst, if◌then◌else◌, ltb, arith}
use Rattle.std.proofs.lemmas.Bool.{false≢true}
use borrow.Author.Tests.{ltb-true}
use Rattle.std.specs.Option.{option_map_or}
use Rattle.os9_base.specs.declared.errors.TheConstants.{E_FNA, E_PNNF, E_SHARE}
use Rattle.rbf_model.specs.File.{DiskFile}
use Rattle.rbf_model.specs.Volume.{DiskVolume}
use Rattle.rbf_model.specs.Walk.{WalkEnd, arrives, look_up, not_allowed, not_found}
use Rattle.rbf_change.specs.Calls.{free_total}
use Rattle.rbf_change.specs.Names.{deletion_end, deletion_of, may_change, may_delete}
use Rattle.rbf_access.specs.Faults.{file_error}
use Rattle.rbf_access.specs.declared.faults.FileFault.{FileFault}
use Rattle.rbf_access.specs.declared.faults.FileFault.TheVariants.{Device, NoCluster, TooManyRuns}
use Rattle.rbf_entries.specs.Deletions.{deletion_calls, descriptor_found}
use Rattle.rbf_entries.specs.declared.deletion.Deletable.{Deletable}
use Rattle.rbf_walk.specs.Walk.{AnswersWalk, directory_error, directory_fault}
use Rattle.rbf_walk.specs.declared.error.DirError.{DirError}
use Rattle.rbf_walk.specs.declared.error.DirError.TheVariants.{NotAllowed, BadPath, NotFound, Exists, File}
use Rattle.file_rules.specs.Change.{deletes}
use Rattle.file_rules.specs.Files.{Asker, Files, volume_at, with_drives}
use Rattle.file_rules.specs.MakDir.{past_list}
use Rattle.file_rules.specs.Sharing.{is_open}
use Rattle.file_rules.specs.Step.{FileStep, Step, VolumeChange, comes, changes, deed_of, drive_of, leaves, leaves_so, needs, refuses, refuses_so}
use Rattle.lock_model.specs.declared.place.FilePlace.{FilePlace}
use Rattle.io_model.specs.Step.{answers}
use Rattle.file_drives.specs.Calls as drives
use Rattle.file_drives.specs.Changed.{Asked, ChangesVolume, file_answer}
use Rattle.file_drives.specs.Drives.{DriveView, drive_states}
use Rattle.file_drives.specs.Entries.{IsDeletableOn, IsDeletionOn}
use Rattle.file_drives.specs.Mounted.{OnDisks, ReadsFile}
use Rattle.file_state.proofs.EndLemmas.{WritesNothing, asked_of}
use Rattle.file_state.proofs.CountLemmas.{called-more, called-then}
use Rattle.file_state.specs.Counted.{CalledAtMost}
use Rattle.file_state.specs.Reached.{HasReadDrive}
use Rattle.file_state.proofs.ReachedLemmas.{HasChanged}
use Rattle.file_state.specs.Tie.{RepresentsFiles}
use Rattle.file_state.specs.declared.state.FileState.{FileState}
use Rattle.file_routes.specs.Routes.{next_step}
use Rattle.file_routes.specs.declared.route.Purpose.TheVariants.{Existing}
use Rattle.name_calls.proofs.AgainLemmas as again
use Rattle.name_calls.proofs.LookLemmas.{found-calls, found-read}
use Rattle.name_calls.proofs.TryLemmas.{refuses-quiet, tries-broken, tries-broken-change, tries-changed, tries-refused}
use Rattle.name_calls.specs.Delete.{deletes_it, deletes_it_calls}
use Rattle.name_calls.specs.Looks.{HasFoundInSearch}
use Rattle.name_calls.specs.Naming.{IsNameLocated, NamedBy}
use Rattle.name_calls.specs.Tries.{TriesNameCall}
use Rattle.name_calls.specs.declared.naming.LastLocated.{LastLocated}

-- ---- in the order of the call

abbrev ladder : Bool → Option ℕ → (ℕ → Bool) → (ℕ → FileStep) → FileStep
ladder may named wanted next = refuses (not may) E_FNA (needs named E_PNNF (λ n. refuses (not (wanted n)) E_FNA (next n)))

abbrev end-of : Option ℕ → (ℕ → Bool) → WalkEnd
end-of None wanted = not_found
end-of (Some n) wanted = if wanted n then arrives n else not_allowed

abbrev ladder-end : Bool → Option ℕ → (ℕ → Bool) → WalkEnd
ladder-end may named wanted = if may then end-of named wanted else not_allowed

module _ (wanted : ℕ → Bool) (next : ℕ → FileStep) (files : Files) where
  unwanted-deed : (n : ℕ) (b : Bool) → (if b then arrives n else not_allowed) ≡ not_allowed → deed_of (refuses (not b) E_FNA (next n)) files ≡ leaves_so (refuses_so E_FNA files)
  unwanted-deed n true is = absurd (let no : arrives n ≡ not_allowed = is in cc)
  unwanted-deed n false is = refl

  forbidden-deed : (may : Bool) (named : Option ℕ) → ladder-end may named wanted ≡ not_allowed → deed_of (ladder may named wanted next) files ≡ leaves_so (refuses_so E_FNA files)
  forbidden-deed false named is = refl
  forbidden-deed true None is = absurd (let no : not_found ≡ not_allowed = is in cc)
  forbidden-deed true (Some n) is = unwanted-deed n (wanted n) is

  never-unfound : (n : ℕ) (b : Bool) → (if b then arrives n else not_allowed) ≡ not_found → ⊥
  never-unfound n true is = let no : arrives n ≡ not_found = is in cc
  never-unfound n false is = let no : not_allowed ≡ not_found = is in cc

  unfound-deed : (may : Bool) (named : Option ℕ) → ladder-end may named wanted ≡ not_found → deed_of (ladder may named wanted next) files ≡ leaves_so (refuses_so E_PNNF files)
  unfound-deed false named is = absurd (let no : not_allowed ≡ not_found = is in cc)
  unfound-deed true None is = refl
  unfound-deed true (Some n) is = absurd (never-unfound n (wanted n) is)

  wanted-deed : (n m : ℕ) (b : Bool) → (if b then arrives n else not_allowed) ≡ arrives m → deed_of (refuses (not b) E_FNA (next n)) files ≡ deed_of (next m) files
  wanted-deed n m true is =
      let same : n ≡ m = (let e : arrives n ≡ arrives m = is in cc) in ap (λ (n : ℕ). deed_of (next n) files) same
  wanted-deed n m false is = absurd (let no : not_allowed ≡ arrives m = is in cc)

  found-named : (may : Bool) (named : Option ℕ) (m : ℕ) → ladder-end may named wanted ≡ arrives m → named ≡ Some m
  found-named false named m is = absurd (let no : not_allowed ≡ arrives m = is in cc)
  found-named true None m is = absurd (let no : not_found ≡ arrives m = is in cc)
  found-named true (Some n) m is = by (wanted n) is
    where
      by : (b : Bool) → (if b then arrives n else not_allowed) ≡ arrives m → Some n ≡ Some m
      by true is =
          let same : n ≡ m = (let e : arrives n ≡ arrives m = is in cc) in ap (λ (n : ℕ). Some n) same
      by false is = absurd (let no : not_allowed ≡ arrives m = is in cc)

  found-deed : (may : Bool) (named : Option ℕ) (m : ℕ) → ladder-end may named wanted ≡ arrives m → deed_of (ladder may named wanted next) files ≡ deed_of (next m) files
  found-deed false named m is = absurd (let no : not_allowed ≡ arrives m = is in cc)
  found-deed true None m is = absurd (let no : not_found ≡ arrives m = is in cc)
  found-deed true (Some n) m is = wanted-deed n m (wanted n) is

  quiet-named : (named : Option ℕ) → ((n : ℕ) → WritesNothing (deed_of (next n) files)) → WritesNothing (deed_of (needs named E_PNNF (λ n. refuses (not (wanted n)) E_FNA (next n))) files)
  quiet-named None quiet = tt
  quiet-named (Some n) quiet = refuses-quiet (not (wanted n)) E_FNA (next n) files (quiet n)

  quiet-deed : (may : Bool) (named : Option ℕ) → ((n : ℕ) → WritesNothing (deed_of (next n) files)) → WritesNothing (deed_of (ladder may named wanted next) files)
  quiet-deed may named quiet = refuses-quiet (not may) E_FNA (needs named E_PNNF (λ n. refuses (not (wanted n)) E_FNA (next n))) files (quiet-named named quiet)

-- ---- what is deleted

module _ (asker : Asker) (files : Files) (execute : Bool) (it : NamedBy) where
  abbrev deletion : ℕ → VolumeChange
  deletion n = record {
    drive = it.directory.place.drive;
    change = deletes it.directory.place.number n it.name;
    effect = λ new. leaves (answers (past_list asker.caller.regs it.list)) files;
  }

  abbrev deleted : ℕ → FileStep
  deleted n = refuses (is_open files (record { drive = it.directory.place.drive; number = n })) E_SHARE (comes (changes (deletion n)))

  abbrev is_wanted : ℕ → Bool
  is_wanted n = may_delete (it.directory.volume.files n) asker.user

  -- whatever was found, a fault before the change may leave the volume as it was
  pub deletes-quiet : WritesNothing (deed_of (deletes_it asker files execute it) files)
  deletes-quiet =
      quiet-deed is_wanted deleted files (may_change it.directory.file asker.user execute) (look_up it.directory.file.contents it.name)
      (λ n. refuses-quiet (is_open files (record { drive = it.directory.place.drive; number = n })) E_SHARE (comes (changes (deletion n))) files tt)

  module _ (end : WalkEnd) (is : deletion_end it.directory.volume.files it.directory.file it.name asker.user execute ≡ end) where
    by-end : ladder-end (may_change it.directory.file asker.user execute) (look_up it.directory.file.contents it.name) is_wanted ≡ end
    by-end = by (may_change it.directory.file asker.user execute) (look_up it.directory.file.contents it.name) is
      where
        by : (may : Bool) (named : Option ℕ) → (if may then deletion_of it.directory.volume.files asker.user named else not_allowed) ≡ end → ladder-end may named is_wanted ≡ end
        by false named is = is
        by true None is = is
        by true (Some n) is = is

-- ---- by what was answered

module _ (user : ℕ) (execute : Bool) (located : LastLocated) (look : Step NamedBy) (seen : ℕ) (asker : Asker)
    (files : Files) (old new : FileState) (before between now : List DriveView) (who : asker.user ≡ user)
    (loc : HasFoundInSearch (IsNameLocated Existing look files) look seen located files old before between)
    (called : CalledAtMost (deletes_it_calls seen asker execute loc.it) before now) where
  abbrev it : NamedBy
  it = loc.it

  abbrev v : DiskVolume
  v = it.directory.volume

  abbrev dir : DiskFile
  dir = it.directory.file

  abbrev may : Bool
  may = may_change dir asker.user execute

  abbrev named : Option ℕ
  named = look_up dir.contents it.name

  pub volume-is : volume_at files located.last.directory.drive ≡ Some v
  volume-is = ap (λ (at : FilePlace). volume_at files at.drive) (sym loc.is.place_is) ∙ loc.is.there.volume_is

  pub file-is : v.files located.last.directory.number ≡ Some dir
  file-is = ap (λ (at : FilePlace). v.files at.number) (sym loc.is.place_is) ∙ loc.is.there.file_is

  pub at : drive_of look ≡ Some located.last.directory.drive
  at = loc.is.reached ∙ ap (λ (place : FilePlace). Some place.drive) loc.is.place_is

  abbrev step : FileStep
  step = next_step look (deletes_it asker files execute)

  abbrev most : ℕ
  most = deletes_it_calls seen asker execute it

  refused-by : (number : ℕ) → HasReadDrive None located.last.directory.drive files new before now
      → deed_of (deletes_it asker files execute it) files ≡ leaves_so (refuses_so number files)
      → TriesNameCall step most asker files (Err number) new before now
  refused-by number read deed = tries-refused look (deletes_it asker files execute) most asker files it loc.answer new before now called located.last.directory.drive at number read deed

  -- the name is looked for
  pub entry-answers : (result : Result ℕ DirError) → AnswersWalk (deletion_end v.files dir located.last.name user execute) result → AnswersWalk
      (deletion_end v.files dir it.name asker.user execute) result
  entry-answers result fact =
      subst (λ (user : ℕ). AnswersWalk (deletion_end v.files dir it.name user execute) result) (sym who)
      (subst (λ (name : List ℕ). AnswersWalk (deletion_end v.files dir name user execute) result) (sym loc.is.name_is) fact)

  pub no-entry : (error : DirError) → AnswersWalk (deletion_end v.files dir it.name asker.user execute) (Err error)
      → HasReadDrive (directory_fault {A = Deletable} (Err error)) located.last.directory.drive files new before now
      → TriesNameCall step most asker files (Err (directory_error error)) new before now
  no-entry NotAllowed fact read =
      refused-by E_FNA read (forbidden-deed (is_wanted asker files execute it) (deleted asker files execute it) files may named (by-end asker files execute it not_allowed fact))
  no-entry BadPath fact read = absurd fact
  no-entry NotFound fact read =
      refused-by E_PNNF read (unfound-deed (is_wanted asker files execute it) (deleted asker files execute it) files may named (by-end asker files execute it not_found fact))
  no-entry Exists fact read = absurd fact
  no-entry (File (Device number)) fact read =
      tries-broken look (deletes_it asker files execute) most asker files it loc.answer new before now called located.last.directory.drive at v volume-is number
      (deletes-quiet asker files execute it) read
  no-entry (File NoCluster) fact read = absurd fact
  no-entry (File TooManyRuns) fact read = absurd fact

  -- the file that the entry names
  module _ (n : ℕ) (ends : deletion_end v.files dir it.name asker.user execute ≡ arrives n) (shared : Bool)
      (shared_is : shared ≡ is_open files (record { drive = located.last.directory.drive; number = n })) where
    pub names-it : named ≡ Some n
    names-it = found-named (is_wanted asker files execute it) (deleted asker files execute it) files may named n (by-end asker files execute it (arrives n) ends)

    deed : deed_of (deletes_it asker files execute it) files ≡ deed_of (refuses shared E_SHARE (comes (changes (deletion asker files execute it n)))) files
    deed =
        found-deed (is_wanted asker files execute it) (deleted asker files execute it) files may named n (by-end asker files execute it (arrives n) ends)
        ∙ ap (λ (b : Bool). deed_of (refuses b E_SHARE (comes (changes (deletion asker files execute it n)))) files)
        (ap (λ (at : FilePlace). is_open files (record { drive = at.drive; number = n })) loc.is.place_is ∙ sym shared_is)

    -- a path is on it
    pub is-shared : shared ≡ true → HasReadDrive None located.last.directory.drive files new before now → TriesNameCall step most asker files (Err E_SHARE) new before now
    is-shared is read = refused-by E_SHARE read (deed ∙ ap (λ (b : Bool). deed_of (refuses b E_SHARE (comes (changes (deletion asker files execute it n)))) files) is)

    -- no path is
    module _ (is : shared ≡ false) where
      abbrev change : VolumeChange
      change = deletion asker files execute it n

      changing : deed_of (deletes_it asker files execute it) files ≡ changes change
      changing = deed ∙ ap (λ (b : Bool). deed_of (refuses b E_SHARE (comes (changes change))) files) is

      abbrev pub asked : Asked
      asked = asked_of change asker

      pub asked-is : asked.change ≡ deletes located.last.directory.number n located.last.name
      asked-is =
          ap (λ (at : FilePlace). deletes at.number n it.name) loc.is.place_is
          ∙ ap (λ (name : List ℕ). deletes located.last.directory.number n name) loc.is.name_is

      as-asked : (answer : Result ℕ DirError) → HasChanged asked answer located.last.directory.drive v dir files new before now → HasChanged asked answer change.drive v dir files new before now
      as-asked answer changed = subst (λ (drive : ℕ). HasChanged asked answer drive v dir files new before now) (ap (λ (at : FilePlace). at.drive) (sym loc.is.place_is)) changed

      pub is-deleted : HasChanged asked (Ok 0) located.last.directory.drive v dir files new before now → TriesNameCall step most asker files (Ok located.next) new before now
      is-deleted changed =
          tries-changed look (deletes_it asker files execute) most asker files it loc.answer new before now called
          change v dir loc.is.reached loc.is.there.volume_is loc.is.there.file_is changing 0 located.next
          (ap (λ (next : ℕ). leaves (answers (record asker.caller.regs { x = next % 65536 })) files) (sym loc.is.next_is))
          (as-asked (Ok 0) changed)

      pub not-deleted : (fault : FileFault) → HasChanged asked (file_answer (Err fault)) located.last.directory.drive v dir
          files new before now → TriesNameCall step most asker files (Err (file_error fault)) new before now
      not-deleted (Device number) changed =
          tries-broken-change look (deletes_it asker files execute) most asker files it loc.answer new before now
          called change v dir loc.is.reached loc.is.there.volume_is loc.is.there.file_is changing number
          loc.drives_are
          (as-asked (Err (File (Device number))) changed)
      not-deleted NoCluster changed = absurd (never-below (free_total v) changed.answers.few)
        where
          never-below : (n : ℕ) → ltb n 0 ≡ true → ⊥
          never-below n is = omega (arith, ltb-true n 0 is)
      not-deleted TooManyRuns changed = elim (changed.answers.full) [
        | inl none ↦ absurd (false≢true none)
        | inr none ↦ absurd none
      ]

-- ---- as the calls of the drive answered

module _ (user : ℕ) (execute : Bool) (located : LastLocated) (look : Step NamedBy) (seen : ℕ) (asker : Asker)
    (files : Files) (old mid : FileState) (before between views : List DriveView) (who : asker.user ≡ user)
    (loc : HasFoundInSearch (IsNameLocated Existing look files) look seen located files old before between)
    (found : Result Deletable DirError) (io : mid.io ≡ old.io) (directories : mid.directories ≡ old.directories)
    (records : mid.records ≡ old.records) (answer : OnDisks old.disks between located.last.directory
    (λ v file. AnswersWalk (deletion_end v.files file located.last.name user execute) (descriptor_found found)))
    (reads : ReadsFile located.last.directory (directory_fault found) (λ v file. deletion_calls file located.last.name user execute)
    old.disks between mid.disks views) where
  abbrev way : FileStep
  way = next_step look (deletes_it asker files execute)

  abbrev volume : DiskVolume
  volume = loc.it.directory.volume

  abbrev folder : DiskFile
  folder = loc.it.directory.file

  abbrev bound : ℕ
  bound = deletes_it_calls seen asker execute loc.it

  volume-there : volume_at files located.last.directory.drive ≡ Some volume
  volume-there = ap (λ (at : FilePlace). volume_at files at.drive) (sym loc.is.place_is) ∙ loc.is.there.volume_is

  file-there : volume.files located.last.directory.number ≡ Some folder
  file-there = ap (λ (at : FilePlace). volume.files at.number) (sym loc.is.place_is) ∙ loc.is.there.file_is

  searched : HasReadDrive None located.last.directory.drive files old before between
  searched =
      found-read (IsNameLocated Existing look files) look seen files located old before between loc located.last.directory.drive
      (loc.is.reached ∙ ap (λ (place : FilePlace). Some place.drive) loc.is.place_is)

  -- the calls for the search and for the entry
  same-calls : deletion_calls folder located.last.name user execute ≡ deletion_calls folder loc.it.name asker.user execute
  same-calls =
      ap (λ (name : List ℕ). deletion_calls folder name user execute) (sym loc.is.name_is)
      ∙ ap (λ (u : ℕ). deletion_calls folder loc.it.name u execute) (sym who)

  entry-calls : CalledAtMost (seen + deletion_calls folder located.last.name user execute) before views
  entry-calls =
      called-then seen (deletion_calls folder located.last.name user execute) before between views
      (found-calls (IsNameLocated Existing look files) look seen files located old before between loc)
      (again.read-calls files located.last.directory volume folder volume-there file-there old mid before between views
      searched (directory_fault found) (λ v file. deletion_calls file located.last.name user execute) reads)

  called : CalledAtMost bound before views
  called = called-more (seen + deletion_calls folder located.last.name user execute) bound before views (omega (arith, same-calls)) entry-calls

  fact : AnswersWalk (deletion_end volume.files folder located.last.name user execute) (descriptor_found found)
  fact = again.of-found files located.last.directory volume folder volume-there file-there old mid before between views
      searched (λ v file. AnswersWalk (deletion_end v.files file located.last.name user execute) (descriptor_found found))
      answer

  was-read : HasReadDrive (directory_fault found) located.last.directory.drive files mid before views
  was-read = again.read-again files located.last.directory volume folder volume-there file-there old mid before between views
      searched (directory_fault found) (λ v file. deletion_calls file located.last.name user execute) io directories records
      reads

  -- no entry was found
  pub entry-refused : (error : DirError) (number : ℕ) → found ≡ Err error → number ≡ directory_error error → TriesNameCall way bound asker files (Err number) mid before views
  entry-refused error number is number_is =
      subst (λ (n : ℕ). TriesNameCall way bound asker files (Err n) mid before views) (sym number_is)
      (no-entry user execute located look seen asker files old mid before between views who loc called error
      (entry-answers user execute located look seen asker files old mid before between views who loc called (Err error)
      (subst (λ (r : Result Deletable DirError). AnswersWalk (deletion_end volume.files folder located.last.name user
      execute) (descriptor_found r)) is fact))
      (subst (λ (r : Result Deletable DirError). HasReadDrive (directory_fault r) located.last.directory.drive files mid before views) is was-read))

  module _ (entry : Deletable) (is : found ≡ Ok entry) (shared : Bool) (shared_so : (f : Files) → RepresentsFiles mid views
      f → shared ≡ is_open f (record { drive = located.last.directory.drive; number = entry.descriptor })) where
    shared_is : shared ≡ is_open files (record { drive = located.last.directory.drive; number = entry.descriptor })
    shared_is = shared_so (with_drives files (drive_states views)) was-read.stands

    ends : deletion_end volume.files folder loc.it.name asker.user execute ≡ arrives entry.descriptor
    ends = entry-answers user execute located look seen asker files old mid before between views who loc called
        (Ok entry.descriptor) (subst (λ (r : Result Deletable DirError). AnswersWalk (deletion_end volume.files folder
        located.last.name user execute) (descriptor_found r)) is fact)

    read : HasReadDrive None located.last.directory.drive files mid before views
    read = subst (λ (r : Result Deletable DirError). HasReadDrive (directory_fault r) located.last.directory.drive files mid before views) is was-read

    pub file-shared : shared ≡ true → TriesNameCall way bound asker files (Err E_SHARE) mid before views
    file-shared taken = is-shared user execute located look seen asker files old mid before between views who loc called entry.descriptor ends shared shared_is taken read

    module _ (quiet : shared ≡ false) (new : FileState) (now : List DriveView) (new_io : new.io ≡ mid.io)
        (new_directories : new.directories ≡ mid.directories) (new_records : new.records ≡ mid.records)
        (result : Result (Unit {0}) FileFault) (at : IsDeletableOn views located.last.directory located.last.name entry)
        (deletes_so : (asked : Asked) → IsDeletionOn located.last.directory entry asked views → ChangesVolume located.last.directory
        asked (file_answer result) (drives.deleting_calls entry.descriptor) mid.disks views new.disks now) where
      abbrev wanted : Asked
      wanted = asked user execute located look seen asker files old mid before between views who loc called entry.descriptor ends shared shared_is quiet

      deleting-it : ChangesVolume located.last.directory wanted (file_answer result) (drives.deleting_calls entry.descriptor) mid.disks views new.disks now
      deleting-it =
          deletes_so wanted (record {
            name = located.last.name;
            is = at;
            change_is = asked-is user execute located look seen asker files old mid before between views who loc called entry.descriptor ends shared shared_is quiet;
          })

      changed : HasChanged wanted (file_answer result) located.last.directory.drive volume folder files new before now
      changed = again.changed-again files located.last.directory volume folder volume-there file-there mid new before views
          now read wanted (file_answer result) (drives.deleting_calls entry.descriptor) new_io new_directories
          new_records deleting-it

      -- the calls for the deletion besides
      abbrev freeing : ℕ
      freeing = drives.deleting_calls entry.descriptor volume folder volume

      freeing-is : option_map_or (λ n. drives.deleting_calls n volume folder volume) (look_up folder.contents loc.it.name) 0 ≡ freeing
      freeing-is =
          ap (λ (named : Option ℕ). option_map_or (λ n. drives.deleting_calls n volume folder volume) named 0)
          (names-it user execute located look seen asker files old mid before between views who loc called entry.descriptor ends shared shared_is)

      all-called : CalledAtMost bound before now
      all-called =
          called-more (seen + deletion_calls folder located.last.name user execute + freeing) bound before now (omega (arith, same-calls, freeing-is))
          (called-then (seen + deletion_calls folder located.last.name user execute) freeing before views now entry-calls
          (again.change-calls files located.last.directory volume folder volume-there file-there mid new before views now read
          wanted (file_answer result) (drives.deleting_calls entry.descriptor) freeing (λ left. omega arith)
          deleting-it))

      pub file-deleted : result ≡ Ok tt → TriesNameCall way bound asker files (Ok located.next) new before now
      file-deleted done =
          is-deleted user execute located look seen asker files old new before between now who loc all-called entry.descriptor ends shared shared_is quiet
          (subst (λ (r : Result (Unit {0}) FileFault). HasChanged wanted (file_answer r) located.last.directory.drive volume folder files new before now) done changed)

      pub file-kept : (fault : FileFault) (number : ℕ) → result ≡ Err fault → number ≡ file_error fault → TriesNameCall way bound asker files (Err number) new before now
      file-kept fault number failed number_is =
          subst (λ (n : ℕ). TriesNameCall way bound asker files (Err n) new before now) (sym number_is)
          (not-deleted user execute located look seen asker files old new before between now who loc all-called entry.descriptor ends shared shared_is quiet fault
          (subst (λ (r : Result (Unit {0}) FileFault). HasChanged wanted (file_answer r) located.last.directory.drive volume folder files new before now) failed changed))
