-- The size of a file is set under a lock that was granted.
use Rattle.std.proofs.Common.{◌≡◌, ◌≢◌, ◌∙◌, ◌==◌, ℕ, ◌≤◌, nat_lt, Bool, true, false, Option, Some, None, List, [], Result, Ok, Err, OnOk, OnErr, is_err, refl, sym, ap, subst, ◌⊎◌, inl, inr, eq-eqb}
use Rattle.std.specs.Prelude.{if◌then◌else◌}
use Rattle.std.specs.Option.{option_map_or}
use Rattle.std.proofs.lemmas.Bool.{ne_eqb, or_left}
use Rattle.os9_base.specs.declared.call.CallEnd.{CallEnd}
use Rattle.os9_base.specs.declared.call.CallEnd.TheVariants.{Done, NoMemory}
use Rattle.os9_base.specs.declared.errors.TheConstants.{E_FULL, E_SLF}
use Rattle.os9_base.specs.declared.registers.Regs.{Regs}
use Rattle.os9_base.specs.declared.registers.TimePacket.{TimePacket}
use Rattle.os9_outer.specs.TerminalState.{TerminalState}
use Rattle.proc_model.specs.Processes.{Processes, regs_at, with_regs_of}
use Rattle.io_model.specs.Io.{Io, with_call}
use Rattle.io_model.specs.Step.{answers}
use Rattle.lock_model.specs.History.{dropped, put}
use Rattle.lock_model.specs.Locks.{lock_of}
use Rattle.lock_model.specs.Records.{Records, entered, with_waiting, without_lock, written_by}
use Rattle.lock_model.specs.declared.lock.Held.{Held}
use Rattle.proc_state.specs.Tie.{RepresentsProcesses}
use Rattle.proc_state.specs.declared.state.ProcState.{ProcState}
use Rattle.rbf_access.specs.Faults.{file_error}
use Rattle.rbf_access.specs.declared.faults.FileFault.{FileFault}
use Rattle.rbf_access.specs.declared.faults.FileFault.TheVariants.{Device, NoCluster, TooManyRuns}
use Rattle.rbf_change.specs.Calls.{cluster_size, free_total}
use Rattle.rbf_change.specs.Growth.{clusters_needed}
use Rattle.rbf_model.specs.File.{DiskFile}
use Rattle.rbf_model.specs.Volume.{DiskVolume}
use Rattle.rbf_write.specs.Sizes.{Sizing}
use Rattle.file_drives.specs.Calls.{sizing_calls as drive_calls}
use Rattle.file_drives.specs.Changed.{IsRefusedChange as IsNotMade, file_answer, is_refused}
use Rattle.file_drives.specs.Drives.{DriveView, drive_states}
use Rattle.file_drives.specs.Mounted.{AreMounted}
use Rattle.file_rules.specs.Attempts.{asker_of}
use Rattle.file_rules.specs.Change.{sizes}
use Rattle.file_rules.specs.Files.{Asker, DriveState, Files, OpenFile, volume_at, with_drives, with_io, with_records, with_volume}
use Rattle.file_rules.specs.Seek.{long_of}
use Rattle.file_rules.specs.Step.{FileEffect, FileStep, MayBeLeft, VolumeChange, changes, comes, deed_of, leaves, reaches, refuses, refuses_so, with_drives_after, with_volume_after}
use Rattle.file_state.proofs.CountLemmas.{called-more, HasChangedIn}
use Rattle.file_state.proofs.EndLemmas.{asked_of, breaks, goes-well, is-made, is-too-long}
use Rattle.file_state.proofs.KeepLemmas.{error-keeps, keeps-broken, keeps-made, keeps-refused, keeps-unentered}
use Rattle.file_state.proofs.ReachedLemmas.{same-volume}
use Rattle.file_state.proofs.RequestLemmas.{forgotten-again, lacks-none, stands-beside}
use Rattle.file_state.specs.Attempt.{without_request}
use Rattle.file_state.specs.Counted.{CalledAtMost}
use Rattle.file_state.specs.Ends.{EndsFileAttempt, EndsOrLacks}
use Rattle.file_state.specs.Media.{KeepsDrives}
use Rattle.file_state.specs.Opened.{path_of}
use Rattle.file_state.specs.Tie.{RepresentsFiles}
use Rattle.file_state.specs.declared.state.FileState.{FileState}
use Rattle.file_state.specs.declared.state.OpenFile.{OpenFile as KernelFile}
use Rattle.file_status.proofs.SetLemmas.{one-at-least, size-at-most}
use Rattle.file_status.specs.Status.{EndsSized, granted_size_calls, records_sized, sizes_granted, uncalled, unlocked}

-- the file of a path, as the rules of the calls have it
abbrev pub found_on : KernelFile → DiskVolume → DiskFile → OpenFile
found_on opened v file = record { opened = path_of opened; place = opened.place; volume = v; file = file }

-- ---- requests of a process stay apart

without-apart : (p path : ℕ) (records : Records) → without_lock (with_waiting records p None) path ≡ with_waiting (without_lock records path) p None
without-apart p path records = by (lock_of records.locks path)
  where
    by : (lock : Option Held) → option_map_or (λ (lock : Held). entered (with_waiting records p None) path None
        (dropped path lock)) lock (with_waiting records p None) ≡ with_waiting
        (option_map_or (λ (lock : Held). entered records path None (dropped path lock)) lock records) p None
    by None = refl
    by (Some lock) = refl

pub sized-apart : (p old size path : ℕ) (lock : Held) (records : Records) → records_sized old size path lock
    (with_waiting records p None) ≡ with_waiting (records_sized old size path lock records) p None
sized-apart p old size path lock records = by (old == size)
  where
    by : (same : Bool) → (if same then without_lock (with_waiting records p None) path else written_by
        (with_waiting records p None) path lock []) ≡ with_waiting (if same then without_lock records path else
        written_by records path lock []) p None
    by true = without-apart p path records
    by false = refl

-- ---- the call is done, or memory was wanting

module _ (old : ℕ) (lock : Held) (regs : Regs) (opened : KernelFile) (m : Processes) (p : ℕ) (state new : FileState)
    (end : CallEnd) (processes : ProcState) where
  -- by the size that the file had
  abbrev sized_by : Bool → Records
  sized_by same =
      if same then without_lock state.records opened.path.0 else written_by state.records opened.path.0 lock []

  done-so : (same : Bool) → (old == long_of regs) ≡ same → end ≡ Done → RepresentsProcesses processes (with_regs_of m p regs)
      → new ≡ record state { io = with_call state.io p None; records = sized_by same } → EndsSized old lock regs
      opened m p state end processes new
  done-so same is end_is tied new_is = record {
    done = λ some. (end_is, tied);
    entered = λ some. subst (λ (same : Bool). new ≡ record state {
      io = with_call state.io p None;
      records =
          sized_by same;
    }) (sym is) new_is;
    other = λ none. absurd (let e : Done ≡ NoMemory = sym end_is ∙ none in cc);
    lacks = λ none. absurd (let e : Done ≡ NoMemory = sym end_is ∙ none in cc);
  }

  pub same-done : old ≡ long_of regs → end ≡ Done → RepresentsProcesses processes (with_regs_of m p regs) → new ≡ unlocked state p opened.path.0 → EndsSized old lock regs
      opened m p state end processes new
  same-done same end_is tied new_is = done-so true (eq-eqb old (long_of regs) same) end_is tied new_is

  pub other-done : old ≢ long_of regs → end ≡ Done → RepresentsProcesses processes (with_regs_of m p regs) → new ≡ record state
      { io = with_call state.io p None; records = written_by state.records opened.path.0 lock [] } → EndsSized old
      lock regs opened m p state end processes new
  other-done other end_is tied new_is = done-so false (ne_eqb old (long_of regs) other) end_is tied new_is

  pub other-lacks : old ≢ long_of regs → end ≡ NoMemory → new ≡ state → EndsSized old lock regs opened m p state end processes new
  other-lacks other end_is new_is = record {
    done = λ some. absurd (some end_is);
    entered = λ some. absurd (some end_is);
    other = λ none. other;
    lacks = λ none. new_is;
  }

-- by what was answered to the entry
pub if-ok : {A E : Type 0} (result : Result A E) {P : Type 0} → OnOk result P → is_err result ≡ false → P
if-ok (Ok value) it none = it
if-ok (Err error) it none = absurd (let e : true ≡ false = none in cc)

pub if-err : {A E : Type 0} (result : Result A E) {P : Type 0} → OnErr result P → is_err result ≡ true → P
if-err (Ok value) it some = absurd (let e : false ≡ true = some in cc)
if-err (Err error) it some = it

-- ---- its result

module _ (old : ℕ) (lock : Held) (m : Processes) (files : Files) (v : DiskVolume) (file : DiskFile) (now : TimePacket)
    (p : ℕ) (opened : KernelFile) (end : CallEnd) (processes : ProcState) (mid new : FileState)
    (before after : List DriveView) (terms : List TerminalState) (is : volume_at files opened.place.drive ≡ Some v)
    (there : v.files opened.place.number ≡ Some file) (drives_are : files.drives ≡ drive_states before)
    (quiet : mid.records ≡ with_waiting files.records p None) where
  abbrev asker : Asker
  asker = asker_of m p now

  abbrev found : OpenFile
  found = found_on opened v file

  abbrev regs : Regs
  regs = regs_at m p

  abbrev size : ℕ
  size = long_of regs

  abbrev drive : ℕ
  drive = opened.place.drive

  abbrev drives : List DriveState
  drives = drive_states after

  abbrev sized : Records → Records
  sized records = records_sized old size opened.path.0 lock records

  -- the files as they are once the size was set, with the records of the machine
  abbrev sized_state : FileState
  sized_state = record mid { records = files.records }

  abbrev beside : FileEffect
  beside = leaves (answers regs) (with_records files (sized files.records))

  abbrev change : VolumeChange
  change = record { drive = drive; change = sizes opened.place.number size; effect = λ n. leaves (answers regs) (with_records files (sized files.records)) }

  abbrev full : Bool
  full = nat_lt (free_total v) (clusters_needed (cluster_size v) file.segments size)

  abbrev behind : Bool → FileStep
  behind test = refuses test E_FULL (comes (changes change))

  abbrev step : FileStep
  step = reaches drive (behind full)

  abbrev sizing : Sizing
  sizing = record { number = opened.place.number; size = size; now = now }

  abbrev most : ℕ
  most = granted_size_calls asker found

  abbrev Changed : Result (Unit {0}) FileFault → Type 0
  Changed result =
      HasChangedIn (drive_calls sizing result v file) (asked_of change asker) (file_answer result) drive v file files sized_state before after

  goes : full ≡ false → deed_of step files ≡ changes change
  goes enough = ap (λ (test : Bool). deed_of (behind test) files) enough

  few : (result : Result (Unit {0}) FileFault) (left : DiskVolume) → drive_calls sizing result v file left ≤ most
  few (Ok done) left = size-at-most v file _ sizing
  few (Err (Device number)) left = size-at-most v file _ sizing
  few (Err NoCluster) left = one-at-least v file _ sizing
  few (Err TooManyRuns) left = one-at-least v file _ sizing

  called : (result : Result (Unit {0}) FileFault) → Changed result → CalledAtMost most before after
  called result it = called-more _ most before after (few result it.changed.left) it.calls

  -- ---- what the state represents

  refused-on : (left : DiskVolume) → RepresentsFiles sized_state after (with_drives (with_volume files drive left) drives)
      → new ≡ uncalled mid p → RepresentsFiles (without_request p new) after
      (with_records (with_io (with_drives (with_volume files drive left) drives) (with_call files.io p None))
      (with_waiting files.records p None))
  refused-on left stands new_is =
      let records_are : new.records ≡ mid.records = ap (λ (state : FileState). state.records) new_is in
      let io_is : new.io ≡ with_call mid.io p None = ap (λ (state : FileState). state.io) new_is in
      stands-beside p sized_state after (with_drives (with_volume files drive left) drives) (with_call files.io p None) files.records new
      (new_is ∙ ap (λ (io : Io). record mid { io = io }) (sym io_is) ∙ ap (λ (records : Records). record mid { io = new.io; records = records }) (sym records_are))
      (ap (λ (io : Io). with_call io p None) stands.io ∙ sym io_is)
      (sym (forgotten-again p files.records) ∙ ap (λ (records : Records). with_waiting records p None) (sym quiet ∙ sym records_are)) stands

  refused-as-before : (left : DiskVolume) → left ≡ v → RepresentsFiles sized_state after
      (with_drives (with_volume files drive left) drives) → new ≡ uncalled mid p → RepresentsFiles (without_request p new)
      after (with_records (with_io (with_drives files drives) (with_call files.io p None)) (with_waiting files.records
      p None))
  refused-as-before left same stands new_is =
      subst (λ (f : Files). RepresentsFiles (without_request p new) after
      (with_records (with_io (with_drives f drives) (with_call f.io p None)) (with_waiting f.records p None)))
      (ap (λ (w : DiskVolume). with_volume files drive w) same ∙ same-volume files drive v is)
      (refused-on left stands new_is)

  made-on : (left : DiskVolume) → RepresentsFiles sized_state after (with_drives (with_volume files drive left) drives)
      → new ≡ record mid { io = with_call mid.io p None; records = sized mid.records }
      → RepresentsFiles (without_request p new) after
      (with_records (with_io (with_drives (with_volume files drive left) drives) (with_call files.io p None))
      (with_waiting (sized files.records) p None))
  made-on left stands new_is =
      let records_are : new.records ≡ sized mid.records = ap (λ (state : FileState). state.records) new_is in
      let io_is : new.io ≡ with_call mid.io p None = ap (λ (state : FileState). state.io) new_is in
      stands-beside p sized_state after (with_drives (with_volume files drive left) drives) (with_call files.io p None) (sized files.records) new
      (new_is ∙ ap (λ (io : Io). record mid { io = io; records = sized mid.records }) (sym io_is) ∙ ap (λ (records : Records). record mid { io = new.io; records = records }) (sym records_are))
      (ap (λ (io : Io). with_call io p None) stands.io ∙ sym io_is)
      (sym (forgotten-again p (sized files.records))
      ∙ ap (λ (records : Records). with_waiting records p None) (sym (sized-apart p old size opened.path.0 lock files.records) ∙ ap sized (sym quiet) ∙ sym records_are)) stands

  -- ---- what it leaves of the drives

  keeps-as : (made : CallEnd) → end ≡ made → KeepsDrives step asker files made before after → KeepsDrives step asker files end before after
  keeps-as made end_is keeps = subst (λ e. KeepsDrives step asker files e before after) (sym end_is) keeps

  keeps-all : (number : ℕ) (result : Result (Unit {0}) FileFault) → Changed result → IsNotMade (file_answer result) ⊎
      (is_refused (asked_of change asker) v file ≡ true) → end ≡ CallEnd.Error number → KeepsDrives step asker files
      end before after
  keeps-all number result it still end_is =
      keeps-as (CallEnd.Error number) end_is
      (keeps-refused step asker files (CallEnd.Error number) drive before after (inl refl)
      (error-keeps (deed_of step files) number) (asked_of change asker) (file_answer result) v file sized_state
      it.changed still)

  keeps-failed : (number : ℕ) → Changed (Err (Device number)) → end ≡ CallEnd.Error number → (test : Bool) → full ≡ test → KeepsDrives step asker files end before after
  keeps-failed number it end_is true e = keeps-all number (Err (Device number)) it (inr (or_left full false e)) end_is
  keeps-failed number it end_is false e =
      keeps-as (CallEnd.Error number) end_is (keeps-broken step asker files change v file sized_state before after refl (goes e) is there number drives_are it.changed)

  -- ---- its end

  whole : EndsFileAttempt step most m files now p end processes new before after terms → EndsOrLacks step most m files now p end processes new before after terms
  whole it = lacks-none step most m files now p end processes new before after terms it

  pub size-made : Changed (Ok tt) → EndsSized old lock regs opened m p mid end processes new
      → EndsOrLacks (sizes_granted old lock asker files found) most m files now p end processes new before after terms
  size-made it ends = record {
    ends = λ some. record {
      effect = with_drives_after (with_volume_after beside drive it.changed.left) drives;
      does = is-made step asker files change v it.changed.left file 0 drives terms (goes it.changed.answers.enough) is it.changed.answers it.changed.moved;
      comes = ends.done some;
      stands = inr (refl, made-on it.changed.left it.changed.stands (ends.entered some));
      calls = called (Ok tt) it;
      drives =
          keeps-as CallEnd.Done (ends.done some).0 (keeps-made step asker files change v file sized_state before after refl (goes it.changed.answers.enough) is there 0 it.changed);
    };
    lacks = λ none. record {
      effect = with_drives_after (with_volume_after beside drive it.changed.left) drives;
      does = is-made step asker files change v it.changed.left file 0 drives terms (goes it.changed.answers.enough) is it.changed.answers it.changed.moved;
      enters = record {
        entry = put opened.path.0 lock [];
        is =
            ap (λ (same : Bool). (if same then without_lock files.records opened.path.0 else written_by files.records opened.path.0 lock []).history) (ne_eqb old size (ends.other none));
        no_end = λ same. cc;
      };
      drives = refl;
      mounted =
          subst (λ (state : FileState). AreMounted state.disks after (with_volume files drive it.changed.left).volumes) (sym (ends.lacks none)) it.changed.stands.mounted;
      calls = called (Ok tt) it;
      images =
          keeps-as CallEnd.NoMemory none (keeps-unentered step asker files change v file sized_state before after refl (goes it.changed.answers.enough) is there 0 it.changed);
    };
  }

  pub size-broken : (fault : FileFault) → Changed (Err fault) → end ≡ CallEnd.Error (file_error fault)
      → RepresentsProcesses processes m → new ≡ uncalled mid p → EndsOrLacks (sizes_granted old lock asker files found) most m
      files now p end processes new before after terms
  size-broken (Device number) it end_is tied new_is = whole (record {
    effect = refuses_so number (with_drives (with_volume files drive it.changed.left) drives);
    does = breaks step asker files drive number v it.changed.left drives terms refl is (may full refl) it.changed.moved;
    comes = (end_is, tied);
    stands = inr (refl, refused-on it.changed.left it.changed.stands new_is);
    calls = called (Err (Device number)) it;
    drives = keeps-failed number it end_is full refl;
  })
    where
      may : (test : Bool) → full ≡ test → MayBeLeft (deed_of (behind test) files) asker v it.changed.left
      may true e = it.changed.answers.refused (or_left full false e)
      may false e = it.changed.answers.may_be
  size-broken NoCluster it end_is tied new_is = whole (record {
    effect = with_drives_after (refuses_so E_FULL files) drives;
    does = goes-well step asker files (refuses_so E_FULL files) drives terms (ap (λ (test : Bool). deed_of (behind test) files) it.changed.answers.few) it.changed.moved;
    comes = (end_is, tied);
    stands = inr (refl, refused-as-before it.changed.left it.changed.answers.same it.changed.stands new_is);
    calls = called (Err NoCluster) it;
    drives = keeps-all E_FULL (Err NoCluster) it (inl tt) end_is;
  })
  size-broken TooManyRuns it end_is tied new_is = whole (record {
    effect = with_drives_after (refuses_so E_SLF files) drives;
    does = is-too-long step asker files change v it.changed.left file drives terms (goes it.changed.answers.enough) is refl it.changed.answers it.changed.moved;
    comes = (end_is, tied);
    stands = inr (refl, refused-as-before it.changed.left it.changed.answers.same it.changed.stands new_is);
    calls = called (Err TooManyRuns) it;
    drives = keeps-all E_SLF (Err TooManyRuns) it (inl tt) end_is;
  })
