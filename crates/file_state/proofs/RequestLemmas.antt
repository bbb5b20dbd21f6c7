-- An attempt that reaches its drive to read a descriptor, and then asks for a record.
use Rattle.std.proofs.Common.{◌≡◌, ◌≢◌, ◌∙◌, ℕ, ◌+◌, Option, Some, None, List, Result, Ok, Err, refl, ap, sym, subst, inl, inr}
use Rattle.std.specs.Prelude.{IsSome, OnErr, unwrap_or}
use Rattle.std.proofs.lemmas.Bool.{false≢true}
use Rattle.std.proofs.lemmas.List.{set-set}
use Rattle.std.proofs.lemmas.Option.{none-some, same_Some}
use Rattle.os9_base.specs.declared.call.CallEnd.{CallEnd}
use Rattle.os9_base.specs.declared.call.CallEnd.TheVariants.{Done, Error, Wait, Ended, NoMemory}
use Rattle.os9_base.specs.declared.errors.TheConstants.{E_DEADLK, E_LOCK}
use Rattle.os9_base.specs.declared.registers.Pid.{Pid}
use Rattle.os9_base.specs.declared.registers.TimePacket.{TimePacket}
use Rattle.os9_outer.specs.TerminalState.{TerminalState}
use Rattle.rbf_model.specs.Volume.{DiskVolume}
use Rattle.rbf_access.specs.Faults.{file_error, file_fault}
use Rattle.rbf_access.specs.declared.faults.FileFault.{FileFault}
use Rattle.rbf_access.specs.declared.faults.FileFault.TheVariants.{Device, NoCluster, TooManyRuns}
use Rattle.rbf_walk.specs.declared.error.DirError.{DirError}
use Rattle.proc_model.specs.CallResult.{CallResult}
use Rattle.proc_model.specs.CallResult as came
use Rattle.proc_model.specs.Processes.{Processes}
use Rattle.lock_model.specs.Locks.{Locks, request_of}
use Rattle.lock_model.specs.Records.{Records, with_waiting}
use Rattle.lock_model.specs.declared.place.FilePlace.{FilePlace}
use Rattle.lock_model.specs.declared.lock.Grant.{Grant}
use Rattle.lock_model.specs.declared.lock.Grant.TheVariants.{Granted, Locked, Deadlock}
use Rattle.lock_model.specs.declared.lock.Grant.TheVariants as Grants
use Rattle.lock_model.specs.declared.lock.Request.{Request}
use Rattle.io_model.specs.Attempts.{result_of}
use Rattle.io_model.specs.Io.{Io, OpenPath, with_call}
use Rattle.io_model.specs.Step.{keeps}
use Rattle.proc_state.specs.Tie.{ReturnsCallEnd, RepresentsProcesses}
use Rattle.proc_state.specs.declared.state.ProcState.{ProcState}
use Rattle.file_rules.specs.Attempts.{asker_of, io_effect}
use Rattle.file_rules.specs.Files.{Asker, DriveState, Files, OneFailed, volume_at, with_drives, with_io, with_records, with_volume}
use Rattle.file_rules.specs.Files as rules
use Rattle.file_rules.specs.Locking.{answer_in, answer_to, asks_by, call_of, end_by, first_request, request_now, start_of, waiting_in}
use Rattle.file_rules.specs.declared.claim.Claim.{Claim}
use Rattle.file_rules.specs.Step.{Deed, FileStep, MayBeLeft, VolumeChange, as_io, changes, deed_of, leaves, leaves_so, reaches, refuses_so, with_drives_after}
use Rattle.file_drives.specs.Changed.{AnswersOnDisk}
use Rattle.file_drives.specs.Drives.{DriveView, KeepsIdent, drive_states, media_at}
use Rattle.file_drives.specs.Mounted.{AreMounted}
use Rattle.file_state.proofs.CountLemmas.{called-then}
use Rattle.file_state.proofs.EndLemmas.{breaks, goes-well}
use Rattle.file_state.proofs.KeepLemmas.{MayKeepAll, error-keeps, keeps-read}
use Rattle.file_state.proofs.MediaLemmas.{media-same}
use Rattle.file_state.proofs.ReachedLemmas.{same-volume}
use Rattle.file_state.specs.Asking.{asked, claimed}
use Rattle.file_state.specs.Opened.{path_of}
use Rattle.file_state.specs.declared.state.OpenFile.{OpenFile}
use Rattle.file_state.specs.Attempt.{unrequested, without_request}
use Rattle.file_state.specs.Counted.{CalledAtMost}
use Rattle.file_state.specs.Ends.{EndsFileAttempt, EndsOrLacks}
use Rattle.file_state.specs.Media.{ChangesDisk, KeepsDrives, MediaAfter, MediaAfterChange}
use Rattle.file_state.specs.Reached.{HasReadDrive}
use Rattle.file_state.specs.Tie.{RepresentsFiles}
use Rattle.file_state.specs.declared.state.FileState.{FileState}

-- ---- want of memory

-- an attempt has another result
pub not-memory : (m : Processes) (p : ℕ) (result : CallResult) (end : CallEnd) (processes : ProcState) → ReturnsCallEnd m p result end processes → end ≢ NoMemory
not-memory m p (came.done after) end processes told is = let e : Done ≡ NoMemory = sym told.0 ∙ is in cc
not-memory m p (came.refused number) end processes told is = let e : Error number ≡ NoMemory = sym told.0 ∙ is in cc
not-memory m p (came.waits after) end processes told is = let e : Wait ≡ NoMemory = sym told.0 ∙ is in cc
not-memory m p (came.ends status) end processes told is = let e : Ended ≡ NoMemory = sym told.0 ∙ is in cc

-- so an attempt that has come to an end lacks none
pub lacks-none : (step : FileStep) (most : ℕ) (m : Processes) (files : Files) (now : TimePacket) (p : ℕ) (end : CallEnd)
    (processes : ProcState) (new : FileState) (before after : List DriveView) (terms : List TerminalState)
    → EndsFileAttempt step most m files now p end processes new before after terms → EndsOrLacks step most m files now p end
    processes new before after terms
lacks-none step most m files now p end processes new before after terms it = record {
  ends = λ some. it;
  lacks = λ none. absurd (not-memory m p (result_of m p (io_effect it.effect)) end processes it.comes none);
}

-- ---- requests that are kept no longer

pub forgotten-again : (p : ℕ) (records : Records) → with_waiting (with_waiting records p None) p None ≡ with_waiting records p None
forgotten-again p records =
    ap (λ (requests : List (Option Request)). record records { locks = record records.locks { requests = requests } })
    (set-set records.locks.requests p None None)

-- files that stand for those of the machine without a request of a process, with the records of the machine
pub stands-restored : (p : ℕ) (state : FileState) (views : List DriveView) (files : Files) → RepresentsFiles state views
    (unrequested p files) → RepresentsFiles (record state { records = files.records }) views files
stands-restored p state views files stands =
    record { io = stands.io; directories = stands.directories; records = refl; drives = stands.drives; mounted = stands.mounted }

-- the state after an attempt, without a request of its process
pub stands-beside : (p : ℕ) (mid : FileState) (views : List DriveView) (files : Files) (io : Io) (records : Records)
    (new : FileState) → new ≡ record mid { io = new.io; records = new.records } → io ≡ new.io → with_waiting records p
    None ≡ with_waiting new.records p None → RepresentsFiles mid views files → RepresentsFiles (without_request p new) views
    (with_records (with_io files io) (with_waiting records p None))
stands-beside p mid views files io records new is io_is records_are stands = record {
  io = io_is;
  directories = stands.directories ∙ sym (ap (λ (state : FileState). state.directories) is);
  records = records_are;
  drives = stands.drives;
  mounted = subst (λ (state : FileState). AreMounted state.disks views files.volumes) (sym is) stands.mounted;
}

-- ---- what is left of the drives, behind a read

module _ (asker : Asker) (files : Files) (drive : ℕ) (mid : FileState) (before views after : List DriveView)
    (drives_are : files.drives ≡ drive_states before) (read : HasReadDrive None drive files mid before views) where
  states : drive_states views ≡ drive_states before
  states = read.moved ∙ drives_are

  disk-then : (it : VolumeChange) (answer : Result ℕ DirError) → ChangesDisk it asker files answer views after → ChangesDisk it asker files answer before after
  disk-then it answer disk = record {
    volume = disk.volume;
    is = disk.is;
    file = disk.file;
    there = disk.there;
    disk =
        subst (λ (media : Option (List ℕ)). AnswersOnDisk it.change asker.user asker.now disk.volume disk.file answer
        media (media_at after it.drive)) (media-same before views it.drive read.media_kept) disk.disk;
  }

  change-then : (it : VolumeChange) (end : CallEnd) → MediaAfterChange it asker files end views after → MediaAfterChange it asker files end before after
  change-then it Done (n, disk) = (n, disk-then it (Ok n) disk)
  change-then it (Error number) (inl same) = inl (same ∙ read.media_kept)
  change-then it (Error number) (inr broken) = inr (record {
    failed = subst (λ (was : List DriveState). OneFailed it.drive number was (drive_states after)) states broken.failed;
    left = disk-then it _ broken.left;
  })
  change-then it Wait none = absurd none
  change-then it Ended none = absurd none
  change-then it NoMemory (n, disk) = (n, disk-then it (Ok n) disk)

  media-then : (deed : Deed) (end : CallEnd) → MediaAfter deed asker files end views after → MediaAfter deed asker files end before after
  media-then (leaves_so it) end same = same ∙ read.media_kept
  media-then (as_io step) end same = same ∙ read.media_kept
  media-then (changes it) end media = change-then it end media

  pub keeps-then : (next : FileStep) (end : CallEnd) → KeepsDrives (reaches drive next) asker files end views after → KeepsDrives (reaches drive next) asker files end before after
  keeps-then next end it = record {
    others = λ n other. it.others n other ∙ read.others n (λ same. other (ap (λ (k : ℕ). Some k) (sym same)));
    media = media-then (deed_of next files) end it.media;
    ident = λ n. subst (λ (media : Option (List ℕ)). KeepsIdent media (media_at after n)) (media-same before views n read.media_kept) (it.ident n);
  }

-- ---- the result of an attempt after it

module _ (m : Processes) (files : Files) (now : TimePacket) (p : ℕ) (drive : ℕ) (next : FileStep) (mid : FileState)
    (before views : List DriveView) (terms : List TerminalState) (end : CallEnd) (processes : ProcState) (most : ℕ)
    (called : CalledAtMost most before views) where
  abbrev asker : Asker
  asker = asker_of m p now

  abbrev drives : List DriveState
  drives = drive_states views

  -- what is left if nothing is kept of the call
  left-over : (new : FileState) → RepresentsFiles mid views (with_drives files drives)
      → new ≡ record mid { io = with_call mid.io p None; records = new.records } → with_waiting files.records p None ≡
      with_waiting new.records p None → RepresentsFiles (without_request p new) views
      (with_records (with_io (with_drives files drives) (with_call files.io p None)) (with_waiting files.records p
      None))
  left-over new stands is records_are =
      let io : new.io ≡ with_call mid.io p None = ap (λ (state : FileState). state.io) is in
      stands-beside p mid views (with_drives files drives) (with_call files.io p None) files.records new
      (subst (λ (io : Io). new ≡ record mid { io = io; records = new.records }) (sym io) is)
      (ap (λ (io : Io). with_call io p None) stands.io ∙ sym io) records_are stands

  -- it is refused
  pub reached-refused : (number : ℕ) (new : FileState) → deed_of next files ≡ leaves_so (refuses_so number files)
      → HasReadDrive None drive files mid before views → end ≡ Error number → RepresentsProcesses processes m
      → new ≡ record mid { io = with_call mid.io p None; records = new.records } → with_waiting files.records p None ≡
      with_waiting new.records p None → EndsFileAttempt (reaches drive next) most m files now p end processes new before views
      terms
  reached-refused number new deed read end_is tied is records_are = record {
    effect = with_drives_after (refuses_so number files) drives;
    does = goes-well (reaches drive next) asker files (refuses_so number files) drives terms deed read.moved;
    comes = (end_is, tied);
    stands = inr (refl, left-over new read.stands is records_are);
    calls = called;
    drives = keeps-read (reaches drive next) asker files end drive before views (inl refl) (subst (λ (deed : Deed). MayKeepAll deed end) (sym deed) tt) None mid read;
  }

  -- the drive failed
  pub reached-fails : (number : ℕ) (v : DiskVolume) (new : FileState) → volume_at files drive ≡ Some v
      → MayBeLeft (deed_of next files) asker v v → HasReadDrive (Some number) drive files mid before views
      → end ≡ Error number → RepresentsProcesses processes m → new ≡ record mid {
        io = with_call mid.io p None;
        records =
            new.records;
      } → with_waiting files.records p None ≡ with_waiting new.records p None → EndsFileAttempt (reaches drive next)
      most m files now p end processes new before views terms
  reached-fails number v new volume may read end_is tied is records_are = record {
    effect = refuses_so number (with_drives (with_volume files drive v) drives);
    does = breaks (reaches drive next) asker files drive number v v drives terms refl volume may read.moved;
    comes = (end_is, tied);
    stands = inr (
      refl,
      subst (λ (f : Files). RepresentsFiles (without_request p new) views
          (with_records (with_io (with_drives f drives) (with_call f.io p None)) (with_waiting f.records p None)))
          (sym (same-volume files drive v volume))
          (left-over new read.stands is records_are),
    );
    calls = called;
    drives =
        keeps-read (reaches drive next) asker files end drive before views (inl refl)
        (subst (MayKeepAll (deed_of next files)) (sym end_is) (error-keeps (deed_of next files) number))
        (Some number) mid read;
  }

  -- it waits in a request
  pub reached-waits : (request : Request) (new : FileState) → request.lock.owner.0 ≡ p → deed_of next files ≡
      leaves_so (leaves (keeps (call_of request)) (waiting_in files request)) → HasReadDrive None drive files mid before
      views → end ≡ Wait → RepresentsProcesses processes m → new ≡ asked mid p request Grants.Wait → EndsFileAttempt (reaches drive next)
      most m files now p end processes new before views terms
  reached-waits request new owner deed read end_is tied is = record {
    effect = with_drives_after (leaves (keeps (call_of request)) (waiting_in files request)) drives;
    does = goes-well (reaches drive next) asker files (leaves (keeps (call_of request)) (waiting_in files request)) drives terms deed read.moved;
    comes = (end_is, tied);
    stands =
        inl (subst (λ (state : FileState). RepresentsFiles state views (with_drives (with_io (waiting_in files request) (with_call files.io p (Some (call_of request)))) drives)) (sym is) (record {
          io = ap (λ (io : Io). with_call io p (Some (call_of request))) read.stands.io;
          directories = read.stands.directories;
          records = ap (λ (q : ℕ). with_waiting files.records q (Some request)) owner ∙ ap (λ (records : Records). with_waiting records p (Some request)) read.stands.records;
          drives = refl;
          mounted = read.stands.mounted;
        }));
    calls = called;
    drives = keeps-read (reaches drive next) asker files end drive before views (inl refl) (subst (λ (deed : Deed). MayKeepAll deed end) (sym deed) tt) None mid read;
  }

  -- the records after a request that is kept no longer
  with-records : (new : FileState) (io : Io) → new ≡ record mid { io = io; records = with_waiting mid.records p None } → new ≡ record mid { io = io; records = new.records }
  with-records new io is =
      is ∙ ap (λ (records : Records). record mid { io = io; records = records }) (sym (ap (λ (state : FileState). state.records) is))

  forgets : (new : FileState) {io : Io} → HasReadDrive None drive files mid before views
      → new ≡ record mid { io = io; records = with_waiting mid.records p None } → with_waiting files.records p None ≡
      with_waiting new.records p None
  forgets new read is =
      sym (forgotten-again p files.records)
      ∙ ap (λ (records : Records). with_waiting (with_waiting records p None) p None) read.stands.records
      ∙ ap (λ (records : Records). with_waiting records p None) (sym (ap (λ (state : FileState). state.records) is))

  -- and it goes on
  pub reached-then : (more : ℕ) (after : List DriveView) (new : FileState) → files.drives ≡ drive_states before
      → HasReadDrive None drive files mid before views → EndsOrLacks (reaches drive next) more m files now p end processes
      new views after terms → EndsOrLacks (reaches drive next) (most + more) m files now p end processes new before
      after terms
  reached-then more after new drives_are read it = record {
    ends = λ some.
        let ends = it.ends some in record {
          effect = ends.effect;
          does = ends.does;
          comes = ends.comes;
          stands = ends.stands;
          calls = called-then most more before views after called ends.calls;
          drives = keeps-then asker files drive mid before views after drives_are read next end ends.drives;
        };
    lacks = λ none.
        let lacks = it.lacks none in record {
          effect = lacks.effect;
          does = lacks.does;
          enters = lacks.enters;
          drives = lacks.drives;
          mounted = lacks.mounted;
          calls = called-then most more before views after called lacks.calls;
          images = keeps-then asker files drive mid before views after drives_are read next end lacks.images;
        };
  }

  -- ---- by the answer to its request

  -- it is refused or waits
  pub asks-ends : (grant : Grant) (request : Request) (then : FileStep) (new : FileState) → next ≡ asks_by grant files
      request then → request.lock.owner.0 ≡ p → HasReadDrive None drive files mid before views → Some end ≡ end_by grant
      → RepresentsProcesses processes m → new ≡ asked mid p request grant → EndsFileAttempt (reaches drive next) most m files now p end
      processes new before views terms
  asks-ends Granted request then new next_is owner read end_is tied is = absurd (none-some end (sym end_is))
  asks-ends Locked request then new next_is owner read end_is tied is =
      reached-refused E_LOCK new (ap (λ (next : FileStep). deed_of next files) next_is) read
      (same_Some end (Error E_LOCK) end_is) tied (with-records new (with_call mid.io p None) is)
      (forgets new read is)
  asks-ends Deadlock request then new next_is owner read end_is tied is =
      reached-refused E_DEADLK new (ap (λ (next : FileStep). deed_of next files) next_is) read
      (same_Some end (Error E_DEADLK) end_is) tied (with-records new (with_call mid.io p None) is)
      (forgets new read is)
  asks-ends Grants.Wait request then new next_is owner read end_is tied is =
      reached-waits request new owner (ap (λ (next : FileStep). deed_of next files) next_is) read (same_Some end Wait end_is) tied is

-- ---- requests, as the kernel makes them

module _ (m : Processes) (was : Files) (now : TimePacket) (p : Pid) (found : rules.OpenFile) (opened : OpenFile)
    (locks : Locks) (tick : ℕ) (path_is : found.opened ≡ path_of opened) (place_is : found.place ≡ opened.place)
    (locks_are : was.records.locks ≡ locks) (tick_is : m.tick ≡ tick) where
  abbrev request-of : OpenPath → FilePlace → Claim → ℕ → Request
  request-of path place claim tick = record {
    code = claim.code;
    path = path.path.0;
    count = claim.count;
    lock = record { owner = record { 0 = p.0 }; file = place; range = claim.range };
    ticks = path.desc.ticks;
    since = tick;
  }

  first : (claim other : Claim) → claim ≡ other → first_request (asker_of m p.0 now) found claim ≡ claimed p opened other tick
  first claim other same =
      ap (λ (path : OpenPath). request-of path found.place claim m.tick) path_is
      ∙ ap (λ (place : FilePlace). request-of (path_of opened) place claim m.tick) place_is
      ∙ ap (λ (claim : Claim). request-of (path_of opened) opened.place claim m.tick) same
      ∙ ap (λ (tick : ℕ). request-of (path_of opened) opened.place other tick) tick_is

  pub same-request : (claim other : Claim) → claim ≡ other → request_now (asker_of m p.0 now) was found claim ≡ unwrap_or (request_of locks p.0) (claimed p opened other tick)
  same-request claim other same =
      ap (λ (locks : Locks). unwrap_or (request_of locks p.0) (first_request (asker_of m p.0 now) found claim)) locks_are
      ∙ ap (λ (request : Request). unwrap_or (request_of locks p.0) request) (first claim other same)

  pub same-answer : (request : Request) → answer_to (asker_of m p.0 now) was request ≡ answer_in locks p.0 tick request
  same-answer request =
      ap (λ (locks : Locks). answer_in locks p.0 m.tick request) locks_are
      ∙ ap (λ (tick : ℕ). answer_in locks p.0 tick request) tick_is

-- a request begins at the position of its call
pub start-same : (kept : Option Request) (first : Request) (at : ℕ) → first.lock.range.start ≡ start_of kept at → start_of kept at ≡ (unwrap_or kept first).lock.range.start
start-same None first at is = sym is
start-same (Some request) first at is = refl

-- the files once it is granted
pub granted-stands : (p : ℕ) (was : Files) (request : Request) (drive : ℕ) (mid new : FileState)
    (before views : List DriveView) → HasReadDrive None drive was mid before views → new ≡ asked mid p request Granted
    → RepresentsFiles new views (unrequested p was)
granted-stands p was request drive mid new before views read is =
    subst (λ (state : FileState). RepresentsFiles state views (unrequested p was)) (sym is) (record {
      io = read.stands.io;
      directories = read.stands.directories;
      records = ap (λ (records : Records). with_waiting records p None) read.stands.records;
      drives = sym read.moved;
      mounted = read.stands.mounted;
    })

-- ---- faults

-- the number of the fault that ended a call of a drive
pub record IsFault (found : Option ℕ) (fault : FileFault) : Type 0 where
  pub number : ℕ
  pub is : found ≡ Some number
  pub answer : file_error fault ≡ number

pub fault-of : {A : Type 0} (result : Result A FileFault) (fault : FileFault) → result ≡ Err fault → OnErr result (IsSome (file_fault result)) → IsFault (file_fault result) fault
fault-of {A} result fault is device =
    subst (λ (result : Result A FileFault). OnErr result (IsSome (file_fault result)) → IsFault (file_fault result) fault) (sym is) (by fault) device
  where
    by : (fault : FileFault) → IsSome (file_fault {A = A} (Err fault)) → IsFault (file_fault {A = A} (Err fault)) fault
    by (Device number) device = record { number = number; is = refl; answer = refl }
    by NoCluster device = absurd (false≢true device)
    by TooManyRuns device = absurd (false≢true device)
