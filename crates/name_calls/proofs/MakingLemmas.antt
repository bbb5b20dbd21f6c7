-- A directory that is made in a directory that was found.
use Rattle.std.proofs.Common.{◌≡◌, ◌∙◌, ℕ, ◌+◌, ◌%◌, arith, ◌&&◌, ◌||◌, not, is_some, length, Bool, true, false, Option, Some, None, List, Result, Ok, Err, inl, inr, refl, ap, sym, subst, if◌then◌else◌}
use Rattle.std.specs.Prelude.{nat_lt, ◌==◌}
use Rattle.os9_base.specs.declared.errors.TheConstants.{E_CEF, E_FNA, E_FULL, E_SLF}
use Rattle.os9_base.specs.declared.registers.TimePacket.{TimePacket}
use Rattle.rbf_model.specs.File.{DiskFile}
use Rattle.rbf_model.specs.Volume.{DiskVolume}
use Rattle.rbf_model.specs.Walk.{look_up}
use Rattle.rbf_change.specs.Calls.{cluster_size, free_total}
use Rattle.rbf_change.specs.Names.{is_dots, may_change}
use Rattle.rbf_change.specs.NewFiles.{NewEntryRefusal, bad_path, entry_clusters, file_clusters, exists, no_cluster, not_allowed, too_many_runs}
use Rattle.rbf_access.specs.Faults.{file_error}
use Rattle.rbf_access.specs.declared.faults.FileFault.{FileFault}
use Rattle.rbf_access.specs.declared.faults.FileFault.TheVariants.{Device, NoCluster, TooManyRuns}
use Rattle.rbf_entries.specs.Entering.{entry_calls, widened}
use Rattle.rbf_entries.specs.Places.{AnswersPlace, IsNewPlace, place_calls, place_found}
use Rattle.rbf_entries.specs.declared.place.NewPlace.{NewPlace}
use Rattle.rbf_walk.specs.Walk.{directory_error, directory_fault}
use Rattle.rbf_walk.specs.declared.error.DirError.{DirError}
use Rattle.rbf_walk.specs.declared.error.DirError.TheVariants.{NotAllowed, BadPath, NotFound, Exists, File}
use Rattle.file_rules.specs.Change.{makes_directory}
use Rattle.file_rules.specs.Create.{clusters_for}
use Rattle.file_rules.specs.Files.{Asker, Files, volume_at}
use Rattle.file_rules.specs.MakDir.{new_directory_size, past_list}
use Rattle.file_rules.specs.Step.{FileStep, Step, VolumeChange, comes, changes, deed_of, drive_of, leaves, leaves_so, refuses, refuses_so}
use Rattle.lock_model.specs.declared.place.FilePlace.{FilePlace}
use Rattle.io_model.specs.Step.{answers}
use Rattle.file_drives.specs.Calls as drives
use Rattle.file_drives.specs.Changed.{Asked, ChangesVolume, is_refused}
use Rattle.file_drives.specs.Drives.{DriveView}
use Rattle.file_drives.specs.Mounted.{OnDisks, ReadsFile}
use Rattle.file_state.proofs.EndLemmas.{WritesNothing, asked_of}
use Rattle.file_state.proofs.CountLemmas.{called-more, called-then}
use Rattle.file_state.specs.Counted.{CalledAtMost}
use Rattle.file_state.specs.Reached.{HasReadDrive}
use Rattle.file_state.proofs.ReachedLemmas.{HasChanged}
use Rattle.file_state.specs.declared.state.FileState.{FileState}
use Rattle.file_routes.specs.Routes.{next_step}
use Rattle.file_routes.specs.declared.route.Purpose.TheVariants.{New}
use Rattle.io_state.specs.declared.requester.Requester.{Requester}
use Rattle.name_calls.proofs.AgainLemmas as again
use Rattle.name_calls.proofs.AgainLemmas.{unchanged}
use Rattle.name_calls.proofs.ListCallLemmas.{making-within}
use Rattle.name_calls.proofs.LookLemmas.{found-calls, found-read}
use Rattle.name_calls.proofs.TryLemmas.{refuses-quiet, tries-broken, tries-broken-change, tries-changed, tries-refused}
use Rattle.name_calls.specs.Looks.{HasFoundInSearch}
use Rattle.name_calls.specs.MakDir.{MakesFor, makes_it, makes_it_calls}
use Rattle.name_calls.specs.Naming.{IsNameLocated, NamedBy}
use Rattle.name_calls.specs.Tries.{TriesNameCall}
use Rattle.name_calls.specs.declared.naming.LastLocated.{LastLocated}

-- ---- why an entry is refused

abbrev refusal : Bool → Bool → Bool → Bool → Bool → Option NewEntryRefusal
refusal dots closed there full long =
    if dots then Some bad_path
    else (if closed then Some not_allowed
    else (if there then Some exists else (if full then Some no_cluster else (if long then Some too_many_runs else None))))

is-dots : (dots closed there full long : Bool) → refusal dots closed there full long ≡ Some bad_path → dots ≡ true
is-dots true closed there full long is = refl
is-dots false true there full long is = cc
is-dots false false true full long is = cc
is-dots false false false true long is = cc
is-dots false false false false true is = cc
is-dots false false false false false is = cc

is-closed : (dots closed there full long : Bool) → refusal dots closed there full long ≡ Some not_allowed → closed ≡ true
is-closed true closed there full long is = cc
is-closed false true there full long is = refl
is-closed false false true full long is = cc
is-closed false false false true long is = cc
is-closed false false false false true is = cc
is-closed false false false false false is = cc

is-there : (dots closed there full long : Bool) → refusal dots closed there full long ≡ Some exists → (closed ≡ false) × (there ≡ true)
is-there true closed there full long is = cc
is-there false true there full long is = cc
is-there false false true full long is = (refl, refl)
is-there false false false true long is = cc
is-there false false false false true is = cc
is-there false false false false false is = cc

-- ---- in the order of the call

abbrev ladder : Bool → Bool → Bool → Bool → VolumeChange → FileStep
ladder closed there full long change =
    refuses closed E_FNA (refuses there E_CEF (refuses full E_FULL (refuses long E_SLF (comes (changes change)))))

module _ (closed there full long : Bool) (change : VolumeChange) (files : Files) where
  closed-deed : closed ≡ true → deed_of (ladder closed there full long change) files ≡ leaves_so (refuses_so E_FNA files)
  closed-deed is = ap (λ (b : Bool). deed_of (ladder b there full long change) files) is

  allowed-deed : closed ≡ false → deed_of (ladder closed there full long change) files ≡ deed_of (ladder false there full long change) files
  allowed-deed is = ap (λ (b : Bool). deed_of (ladder b there full long change) files) is

  there-deed : closed ≡ false → there ≡ true → deed_of (ladder closed there full long change) files ≡ leaves_so (refuses_so E_CEF files)
  there-deed is named = allowed-deed is ∙ ap (λ (b : Bool). deed_of (ladder false b full long change) files) named

  absent-deed : closed ≡ false → there ≡ false → deed_of (ladder closed there full long change) files ≡ deed_of (ladder false false full long change) files
  absent-deed is absent = allowed-deed is ∙ ap (λ (b : Bool). deed_of (ladder false b full long change) files) absent

  full-deed : closed ≡ false → there ≡ false → full ≡ true → deed_of (ladder closed there full long change) files ≡ leaves_so (refuses_so E_FULL files)
  full-deed is absent few = absent-deed is absent ∙ ap (λ (b : Bool). deed_of (ladder false false b long change) files) few

  room-deed : (b : Bool) → closed ≡ false → there ≡ false → full ≡ false → long ≡ b → deed_of (ladder closed there full long change) files ≡ deed_of (ladder false false false b change) files
  room-deed b is absent enough list =
      absent-deed is absent ∙ ap (λ (few : Bool). deed_of (ladder false false few long change) files) enough ∙ ap (λ (b : Bool). deed_of (ladder false false false b change) files) list

  quiet-deed : WritesNothing (changes change) → WritesNothing (deed_of (ladder closed there full long change) files)
  quiet-deed none =
      refuses-quiet closed E_FNA (refuses there E_CEF (refuses full E_FULL (refuses long E_SLF (comes (changes change))))) files
      (refuses-quiet there E_CEF (refuses full E_FULL (refuses long E_SLF (comes (changes change)))) files
      (refuses-quiet full E_FULL (refuses long E_SLF (comes (changes change))) files
      (refuses-quiet long E_SLF (comes (changes change)) files none)))

-- whatever was found, a fault before the change may leave the volume as it was
pub makes-quiet : (asker : Asker) (files : Files) (it : NamedBy) → WritesNothing (deed_of (makes_it asker files it) files)
makes-quiet asker files it =
    quiet-deed (not (may_change it.directory.file asker.user false))
    (is_some (look_up it.directory.file.contents it.name)) (nat_lt (free_total it.directory.volume)
    (clusters_for it.directory new_directory_size)) (nat_lt 0 (entry_clusters (cluster_size it.directory.volume)
    it.directory.file) && (length it.directory.file.segments == 48))
    (record {
      drive = it.directory.place.drive;
      change = makes_directory it.directory.place.number it.name asker.caller.regs.b;
      effect = λ n. leaves (answers (past_list asker.caller.regs it.list)) files;
    })
    files tt

-- ---- by what was answered

module _ (requester : Requester) (user : ℕ) (located : LastLocated) (look : Step NamedBy) (seen : ℕ) (asker : Asker) (files : Files)
    (old new : FileState) (before between now : List DriveView) (who : MakesFor requester user asker)
    (loc : HasFoundInSearch (IsNameLocated New look files) look seen located files old before between)
    (called : CalledAtMost (makes_it_calls seen asker loc.it) before now) where
  abbrev it : NamedBy
  it = loc.it

  abbrev v : DiskVolume
  v = it.directory.volume

  abbrev dir : DiskFile
  dir = it.directory.file

  abbrev closed : Bool
  closed = not (may_change dir asker.user false)

  abbrev there : Bool
  there = is_some (look_up dir.contents it.name)

  abbrev full : Bool
  full = nat_lt (free_total v) (clusters_for it.directory new_directory_size)

  abbrev long : Bool
  long = nat_lt 0 (entry_clusters (cluster_size v) dir) && (length dir.segments == 48)

  abbrev change : VolumeChange
  change = record {
    drive = it.directory.place.drive;
    change = makes_directory it.directory.place.number it.name asker.caller.regs.b;
    effect = λ n. leaves (answers (past_list asker.caller.regs it.list)) files;
  }

  pub volume-is : volume_at files located.last.directory.drive ≡ Some v
  volume-is = ap (λ (at : FilePlace). volume_at files at.drive) (sym loc.is.place_is) ∙ loc.is.there.volume_is

  pub file-is : v.files located.last.directory.number ≡ Some dir
  file-is = ap (λ (at : FilePlace). v.files at.number) (sym loc.is.place_is) ∙ loc.is.there.file_is

  at : drive_of look ≡ Some located.last.directory.drive
  at = loc.is.reached ∙ ap (λ (place : FilePlace). Some place.drive) loc.is.place_is

  abbrev step : FileStep
  step = next_step look (makes_it asker files)

  abbrev most : ℕ
  most = makes_it_calls seen asker it

  refused-by : (number : ℕ) → HasReadDrive None located.last.directory.drive files new before now
      → deed_of (ladder closed there full long change) files ≡ leaves_so (refuses_so number files)
      → TriesNameCall step most asker files (Err number) new before now
  refused-by number read deed = tries-refused look (makes_it asker files) most asker files it loc.answer new before now called located.last.directory.drive at number read deed

  broken-by : (number : ℕ) → HasReadDrive (Some number) located.last.directory.drive files new before now → TriesNameCall step most asker files (Err number) new before now
  broken-by number read = tries-broken look (makes_it asker files) most asker files it loc.answer new before now
      called located.last.directory.drive at v volume-is number (quiet-deed closed there full long change files tt) read

  -- the place is looked for
  pub place-answers : (result : Result ℕ DirError) → AnswersPlace dir located.last.name user false result → AnswersPlace dir it.name asker.user false result
  place-answers result fact =
      subst (λ (user : ℕ). AnswersPlace dir it.name user false result) (sym who.user_is)
      (subst (λ (name : List ℕ). AnswersPlace dir name user false result) (sym loc.is.name_is) fact)

  pub no-place : (error : DirError) → AnswersPlace dir it.name asker.user false (Err error)
      → HasReadDrive (directory_fault {A = NewPlace} (Err error)) located.last.directory.drive files new before now
      → TriesNameCall step most asker files (Err (directory_error error)) new before now
  no-place NotAllowed fact read =
      refused-by E_FNA read (closed-deed closed there full long change files
      (is-closed (is_dots it.name) closed there full long (fact (cluster_size v) (free_total v) new_directory_size)))
  no-place BadPath fact read =
      let dots : is_dots it.name ≡ true = is-dots (is_dots it.name) closed there full long (fact (cluster_size v) (free_total v) new_directory_size) in
      let proper : is_dots it.name ≡ false = loc.is.proper refl in
      absurd (let no = sym dots ∙ proper in cc)
  no-place NotFound fact read = absurd fact
  no-place Exists fact read =
      let named : (closed ≡ false) × (there ≡ true) = is-there (is_dots it.name) closed there full long (fact (cluster_size v) (free_total v) new_directory_size) in
      refused-by E_CEF read (there-deed closed there full long change files named.0 named.1)
  no-place (File (Device number)) fact read = broken-by number read
  no-place (File NoCluster) fact read = absurd fact
  no-place (File TooManyRuns) fact read = absurd fact

  -- the directory is made at the place
  module _ (place : NewPlace) (user_is : place.by.user ≡ user) (found : IsNewPlace dir it.name asker.user false place.place) where
    abbrev asked : Asked
    asked = record { change = makes_directory located.last.directory.number located.last.name requester.regs.b; user = place.by.user; now = requester.time }

    abbrev asked-as : ℕ → List ℕ → ℕ → ℕ → TimePacket → Asked
    asked-as number name attributes user now = record { change = makes_directory number name attributes; user = user; now = now }

    asked-is : asked ≡ asked_of change asker
    asked-is =
        ap (λ (at : FilePlace). asked-as at.number located.last.name requester.regs.b place.by.user requester.time) (sym loc.is.place_is)
        ∙ ap (λ (name : List ℕ). asked-as it.directory.place.number name requester.regs.b place.by.user requester.time) (sym loc.is.name_is)
        ∙ ap (λ (attributes : ℕ). asked-as it.directory.place.number it.name attributes place.by.user requester.time) (sym who.attributes_are)
        ∙ ap (λ (user : ℕ). asked-as it.directory.place.number it.name asker.caller.regs.b user requester.time) (user_is ∙ sym who.user_is)
        ∙ ap (λ (now : TimePacket). asked-as it.directory.place.number it.name asker.caller.regs.b asker.user now) (sym who.now_is)

    may : closed ≡ false
    may = ap not found.allowed

    absent : there ≡ false
    absent = ap (λ (o : Option ℕ). is_some o) found.absent.names_none

    as-asked : (answer : Result ℕ DirError) → HasChanged asked answer located.last.directory.drive v dir files new before now
        → HasChanged (asked_of change asker) answer change.drive v dir files new before now
    as-asked answer changed =
        subst (λ (drive : ℕ). HasChanged (asked_of change asker) answer drive v dir files new before now) (ap (λ (at : FilePlace). at.drive) (sym loc.is.place_is))
        (subst (λ (asked : Asked). HasChanged asked answer located.last.directory.drive v dir files new before now) asked-is changed)

    -- the drive failed: where it was to be refused, nothing has changed
    broken-change : (number : ℕ) (few none : Bool) → full ≡ few → long ≡ none
        → HasChanged asked (Err (File (Device number))) located.last.directory.drive v dir files new before now
        → TriesNameCall step most asker files (Err number) new before now
    broken-change number true none is list changed =
        let refused : is_refused asked v dir ≡ true = ap (λ (b : Bool). b || long) is in
        broken-by number (unchanged asked (Err (File (Device number))) located.last.directory.drive v dir files new before now volume-is changed (inr refused) (changed.answers.refused refused))
    broken-change number false true is list changed =
        let refused : is_refused asked v dir ≡ true = ap (λ (b : Bool). b || long) is ∙ list in
        broken-by number (unchanged asked (Err (File (Device number))) located.last.directory.drive v dir files new before now volume-is changed (inr refused) (changed.answers.refused refused))
    broken-change number false false is list changed =
        tries-broken-change look (makes_it asker files) most asker files it loc.answer new before now called change v
        dir loc.is.reached loc.is.there.volume_is loc.is.there.file_is (room-deed closed there full long change
        files false may absent is list) number loc.drives_are
        (as-asked (Err (File (Device number))) changed)

    pub is-made : (n : ℕ) → HasChanged asked (Ok n) located.last.directory.drive v dir files new before now → TriesNameCall step most asker files (Ok located.next) new before now
    is-made n changed =
        tries-changed look (makes_it asker files) most asker files it loc.answer new before now called change v dir
        loc.is.reached loc.is.there.volume_is loc.is.there.file_is (room-deed closed there full long change files
        false may absent changed.answers.enough changed.answers.list) n located.next
        (ap (λ (next : ℕ). leaves (answers (record asker.caller.regs { x = next % 65536 })) files) (sym loc.is.next_is))
        (as-asked (Ok n) changed)

    pub not-made : (fault : FileFault) → HasChanged asked (widened (Err fault)) located.last.directory.drive v dir files new before now → TriesNameCall step most asker files
        (Err (file_error fault)) new before now
    not-made (Device number) changed = broken-change number full long refl refl changed
    not-made NoCluster changed =
        refused-by E_FULL (unchanged asked (Err (File NoCluster)) located.last.directory.drive v dir files new before now volume-is changed (inl tt) changed.answers.same)
        (full-deed closed there full long change files may absent changed.answers.few)
    not-made TooManyRuns changed =
        let list : long ≡ true = elim (changed.answers.full) [
          | inl list ↦ list
          | inr none ↦ absurd none
        ] in
        refused-by E_SLF (unchanged asked (Err (File TooManyRuns)) located.last.directory.drive v dir files new before now volume-is changed (inl tt) changed.answers.same)
        (room-deed closed there full long change files true may absent changed.answers.enough list)

-- ---- as the calls of the drive answered

module _ (requester : Requester) (user : ℕ) (located : LastLocated) (look : Step NamedBy) (seen : ℕ) (asker : Asker) (files : Files)
    (old mid : FileState) (before between views : List DriveView) (who : MakesFor requester user asker)
    (loc : HasFoundInSearch (IsNameLocated New look files) look seen located files old before between)
    (found : Result NewPlace DirError) (io : mid.io ≡ old.io) (directories : mid.directories ≡ old.directories)
    (records : mid.records ≡ old.records) (answer : OnDisks old.disks between located.last.directory
    (λ v file. AnswersPlace file located.last.name user false (place_found found))) (reads : ReadsFile located.last.directory
    (directory_fault found) (λ v file. place_calls file located.last.name user false) old.disks between mid.disks
    views) where
  abbrev way : FileStep
  way = next_step look (makes_it asker files)

  abbrev volume : DiskVolume
  volume = loc.it.directory.volume

  abbrev folder : DiskFile
  folder = loc.it.directory.file

  abbrev bound : ℕ
  bound = makes_it_calls seen asker loc.it

  volume-there : volume_at files located.last.directory.drive ≡ Some volume
  volume-there = ap (λ (at : FilePlace). volume_at files at.drive) (sym loc.is.place_is) ∙ loc.is.there.volume_is

  file-there : volume.files located.last.directory.number ≡ Some folder
  file-there = ap (λ (at : FilePlace). volume.files at.number) (sym loc.is.place_is) ∙ loc.is.there.file_is

  searched : HasReadDrive None located.last.directory.drive files old before between
  searched =
      found-read (IsNameLocated New look files) look seen files located old before between loc located.last.directory.drive
      (loc.is.reached ∙ ap (λ (place : FilePlace). Some place.drive) loc.is.place_is)

  -- the calls for the search and for the place
  same-calls : place_calls folder located.last.name user false ≡ place_calls folder loc.it.name asker.user false
  same-calls =
      ap (λ (name : List ℕ). place_calls folder name user false) (sym loc.is.name_is)
      ∙ ap (λ (u : ℕ). place_calls folder loc.it.name u false) (sym who.user_is)

  place-called : CalledAtMost (seen + place_calls folder located.last.name user false) before views
  place-called =
      called-then seen (place_calls folder located.last.name user false) before between views
      (found-calls (IsNameLocated New look files) look seen files located old before between loc)
      (again.read-calls files located.last.directory volume folder volume-there file-there old mid before between views
      searched (directory_fault found) (λ v file. place_calls file located.last.name user false) reads)

  called : CalledAtMost bound before views
  called = called-more (seen + place_calls folder located.last.name user false) bound before views (omega (arith, same-calls)) place-called

  fact : AnswersPlace folder located.last.name user false (place_found found)
  fact = again.of-found files located.last.directory volume folder volume-there file-there old mid before between views
      searched (λ v file. AnswersPlace file located.last.name user false (place_found found)) answer

  was-read : HasReadDrive (directory_fault found) located.last.directory.drive files mid before views
  was-read = again.read-again files located.last.directory volume folder volume-there file-there old mid before between views
      searched (directory_fault found) (λ v file. place_calls file located.last.name user false) io directories records
      reads

  -- no place was found
  pub place-refused : (error : DirError) (number : ℕ) → found ≡ Err error → number ≡ directory_error error → TriesNameCall way bound asker files (Err number) mid before views
  place-refused error number is number_is =
      subst (λ (n : ℕ). TriesNameCall way bound asker files (Err n) mid before views) (sym number_is)
      (no-place requester user located look seen asker files old mid before between views who loc called error
      (place-answers requester user located look seen asker files old mid before between views who loc called (Err error)
      (subst (λ (r : Result NewPlace DirError). AnswersPlace folder located.last.name user false (place_found r))
      is fact))
      (subst (λ (r : Result NewPlace DirError). HasReadDrive (directory_fault r) located.last.directory.drive files mid before views) is was-read))

  module _ (place : NewPlace) (is : found ≡ Ok place) (user_is : place.by.user ≡ user) (new : FileState)
      (now : List DriveView) (new_io : new.io ≡ mid.io) (new_directories : new.directories ≡ mid.directories)
      (new_records : new.records ≡ mid.records) (result : Result ℕ FileFault) (makes : ChangesVolume located.last.directory
      (record {
        change = makes_directory located.last.directory.number located.last.name requester.regs.b;
        user = place.by.user;
        now =
            requester.time;
      }) (widened result) (drives.making_calls (widened result)) mid.disks views new.disks now) where
    new-place : IsNewPlace folder loc.it.name asker.user false place.place
    new-place = place-answers requester user located look seen asker files old mid before between views who loc called
        (Ok place.place) (subst (λ (r : Result NewPlace DirError). AnswersPlace folder located.last.name user false
        (place_found r)) is fact)

    read : HasReadDrive None located.last.directory.drive files mid before views
    read = subst (λ (r : Result NewPlace DirError). HasReadDrive (directory_fault r) located.last.directory.drive files mid before views) is was-read

    abbrev wanted : Asked
    wanted = record { change = makes_directory located.last.directory.number located.last.name requester.regs.b; user = place.by.user; now = requester.time }

    changed : HasChanged wanted (widened result) located.last.directory.drive volume folder files new before now
    changed = again.changed-again files located.last.directory volume folder volume-there file-there mid new before views now
        read wanted (widened result) (drives.making_calls (widened result)) new_io new_directories new_records makes

    -- the calls for the new directory besides
    abbrev making-it : ℕ
    making-it = file_clusters (cluster_size volume) new_directory_size + 2 + entry_calls volume folder

    all-called : CalledAtMost bound before now
    all-called =
        called-more (seen + place_calls folder located.last.name user false + making-it) bound before now (omega (arith, same-calls))
        (called-then (seen + place_calls folder located.last.name user false) making-it before views now place-called
        (again.change-calls files located.last.directory volume folder volume-there file-there mid new before views now read
        wanted (widened result) (drives.making_calls (widened result)) making-it (making-within result volume
        folder) makes))

    pub directory-made : (n : ℕ) → result ≡ Ok n → TriesNameCall way bound asker files (Ok located.next) new before now
    directory-made n done =
        is-made requester user located look seen asker files old new before between now who loc all-called place user_is new-place n
        (subst (λ (r : Result ℕ FileFault). HasChanged wanted (widened r) located.last.directory.drive volume folder files new before now) done changed)

    pub directory-refused : (fault : FileFault) (number : ℕ) → result ≡ Err fault → number ≡ file_error fault → TriesNameCall way bound asker files (Err number) new before now
    directory-refused fault number failed number_is =
        subst (λ (n : ℕ). TriesNameCall way bound asker files (Err n) new before now) (sym number_is)
        (not-made requester user located look seen asker files old new before between now who loc all-called place user_is new-place fault
        (subst (λ (r : Result ℕ FileFault). HasChanged wanted (widened r) located.last.directory.drive volume folder files new before now) failed changed))
