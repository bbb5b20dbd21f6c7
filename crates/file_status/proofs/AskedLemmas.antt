-- What SS.Size and SS.Lock come to, from the read of the descriptor on.
use Rattle.std.proofs.Common.{◌≡◌, ◌∙◌, ◌==◌, ℕ, ◌+◌, min, true, false, Option, Some, None, List, [], length, Result, Err, IfSome, IsSome, refl, sym, ap, subst}
use Rattle.std.specs.Prelude.{unwrap_or}
use Rattle.std.proofs.lemmas.Option.{none-some}
use Rattle.os9_base.specs.declared.call.CallEnd.{CallEnd}
use Rattle.os9_base.specs.declared.errors.TheConstants.{E_DEADLK, E_LOCK}
use Rattle.os9_base.specs.declared.registers.Pid.{Pid}
use Rattle.os9_base.specs.declared.registers.TimePacket.{TimePacket}
use Rattle.os9_outer.specs.TerminalState.{TerminalState}
use Rattle.proc_model.specs.Processes.{Processes, regs_at, with_regs_of}
use Rattle.io_model.specs.declared.path.Desc.{Desc}
use Rattle.io_model.specs.declared.path.SysPath.{SysPath}
use Rattle.io_model.specs.Io.{OpenPath, pending_at, with_call}
use Rattle.io_model.specs.Modes.{can_write}
use Rattle.io_state.specs.Sound.{IsNoRead}
use Rattle.lock_model.specs.Locks.{Locks as LockTable, request_of}
use Rattle.lock_model.specs.Records.{Records, holding, with_waiting}
use Rattle.lock_model.specs.declared.lock.Grant.{Grant}
use Rattle.lock_model.specs.declared.lock.Grant.TheVariants.{Deadlock, Granted, Locked, Wait}
use Rattle.lock_model.specs.declared.lock.Range.{Range}
use Rattle.lock_model.specs.declared.lock.Request.{Request}
use Rattle.lock_model.specs.declared.place.FilePlace.{FilePlace}
use Rattle.proc_state.specs.Tie.{RepresentsProcesses}
use Rattle.proc_state.specs.declared.state.ProcState.{ProcState}
use Rattle.rbf_access.specs.Faults.{file_error, file_fault}
use Rattle.rbf_access.specs.Reading.{IsFdOf}
use Rattle.rbf_access.specs.declared.faults.FileFault.{FileFault}
use Rattle.rbf_access.specs.declared.faults.FileFault.TheVariants.{Device, NoCluster, TooManyRuns}
use Rattle.rbf_access.specs.declared.volume.Volume.{Volume}
use Rattle.rbf_sector.specs.declared.fd.Fd.{Fd}
use Rattle.file_drives.specs.Drives.{DriveView}
use Rattle.file_drives.specs.Mounted.{HasDataFileAt, ReadsFile}
use Rattle.file_rules.specs.Attempts.{asker_of}
use Rattle.file_rules.specs.Files.{Asker, Files, OpenFile}
use Rattle.file_rules.specs.Locking.{answer_in, answer_to, end_by, is_for_update, request_now}
use Rattle.file_rules.specs.Seek.{long_of}
use Rattle.file_rules.specs.Status.{lock_claim, range_locked, sets_lock, sets_size, size_claim, status_claim}
use Rattle.file_rules.specs.declared.claim.Claim.{Claim}
use Rattle.file_state.proofs.CountLemmas.{called-read}
use Rattle.file_state.proofs.ReachedLemmas.{file-there, has-read}
use Rattle.file_state.proofs.RequestLemmas.{granted-stands, same-answer, same-request}
use Rattle.file_state.specs.Asking.{asked, claimed}
use Rattle.file_state.specs.Attempt.{unrequested}
use Rattle.file_state.specs.Counted.{CalledAtMost}
use Rattle.file_state.specs.Ends.{EndsOrLacks}
use Rattle.file_state.specs.Opened.{path_of}
use Rattle.file_state.specs.Reached.{HasReadDrive}
use Rattle.file_state.specs.Tie.{RepresentsFiles}
use Rattle.file_state.specs.declared.state.FileState.{FileState}
use Rattle.file_state.specs.declared.state.OpenFile.{OpenFile as KernelFile}
use Rattle.file_status.proofs.OpenLemmas.{data-stays, mounted-on}
use Rattle.file_status.proofs.RequestingLemmas.{found-same, locking-asks, locking-fails, locking-holds, locking-lacks, sizing-asks, sizing-fails, sizing-goes}
use Rattle.file_status.proofs.SizingLemmas.{found_on}
use Rattle.file_status.proofs.StandLemmas.{with_disks}
use Rattle.file_status.specs.Status.{RepresentsOpenFile, granted_size_calls, sizes_granted, uncalled}

-- the path of an open file
pub path-is : (was : Files) (opened : KernelFile) (it : OpenFile) → RepresentsOpenFile was opened it → it.opened ≡ path_of opened
path-is was opened it open_is =
    ap (λ (path : SysPath). let o : OpenPath = record { path = path; desc = it.opened.desc } in o) open_is.path_is
    ∙ ap (λ (desc : Desc). let o : OpenPath = record { path = opened.path; desc = desc } in o) open_is.desc_is

-- ---- what the calls request

module _ (m : Processes) (was : Files) (now : TimePacket) (p : Pid) (opened : KernelFile) (it : OpenFile) (locks : LockTable)
    (tick : ℕ) (open_is : RepresentsOpenFile was opened it) (locks_are : was.records.locks ≡ locks) (tick_is : m.tick ≡ tick) where
  requested : (claim other : Claim) (request : Request) → claim ≡ other → request ≡ unwrap_or (request_of locks p.0)
      (claimed p opened other tick) → request_now (asker_of m p.0 now) was it claim ≡ request
  requested claim other request same is =
      same-request m was now p it opened locks tick (path-is was opened it open_is) open_is.place_is locks_are tick_is claim other same
      ∙ sym is

  -- the answer to their request
  pub answer-is : (request : Request) → answer_to (asker_of m p.0 now) was request ≡ answer_in locks p.0 tick request
  answer-is request =
      same-answer m was now p it opened locks tick (path-is was opened it open_is) open_is.place_is locks_are tick_is request

  module _ (fd : Fd) (fd_is : IsFdOf it.file fd) (size : ℕ) (size_is : size ≡ long_of (regs_at m p.0)) (claim : Claim)
      (request : Request) (is : request ≡ unwrap_or (request_of locks p.0) (claimed p opened claim tick)) where
    -- SS.Size
    pub size-requested : (start : ℕ) → start ≡ min fd.size size → claim ≡ status_claim
        (record { start = start; end = None }) → request_now (asker_of m p.0 now) was it
        (size_claim it (long_of (regs_at m p.0))) ≡ request
    size-requested start start_is claim_is =
        requested (size_claim it (long_of (regs_at m p.0))) claim request
        (ap (λ (start : ℕ). status_claim (record { start = start; end = None }))
        (ap (λ (old : ℕ). min old (long_of (regs_at m p.0))) (sym fd_is.size_is)
        ∙ ap (λ (size : ℕ). min fd.size size) (sym size_is) ∙ sym start_is) ∙ sym claim_is) is

    -- SS.Lock
    pub lock-requested : (range : Range) → range ≡ range_locked fd.size opened.desc.at size → claim ≡ status_claim range
        → request_now (asker_of m p.0 now) was it (lock_claim it (long_of (regs_at m p.0))) ≡ request
    lock-requested range range_is claim_is =
        requested (lock_claim it (long_of (regs_at m p.0))) claim request
        (ap (λ (range : Range). status_claim range)
        (ap (λ (old : ℕ). range_locked old it.opened.desc.at (long_of (regs_at m p.0))) (sym fd_is.size_is)
        ∙ ap (λ (desc : Desc). range_locked fd.size desc.at (long_of (regs_at m p.0))) open_is.desc_is
        ∙ ap (λ (count : ℕ). range_locked fd.size opened.desc.at count) (sym size_is) ∙ sym range_is) ∙ sym claim_is) is

-- ---- by the answer

-- it goes on
pub granted-by : (grant : Grant) → None ≡ end_by grant → grant ≡ Granted
granted-by Granted none = refl
granted-by Locked none = absurd (none-some (CallEnd.Error E_LOCK) none)
granted-by Deadlock none = absurd (none-some (CallEnd.Error E_DEADLK) none)
granted-by Wait none = absurd (none-some CallEnd.Wait none)

pub goes-on : (state new : FileState) (p : ℕ) (request : Request) (grant : Grant) → new ≡ asked state p request grant → None ≡ end_by grant → new ≡ asked state p request Granted
goes-on state new p request grant is none = is ∙ ap (asked state p request) (granted-by grant none)

-- what its pending call is on
pub no-read-on : (state new : FileState) (p : ℕ) (request : Request) → new ≡ asked state p request Granted
    → IfSome (pending_at state.io p) (IsNoRead state.io) → IfSome (pending_at new.io p) (IsNoRead new.io)
no-read-on state new p request is no_read =
    subst (λ (it : FileState). IfSome (pending_at it.io p) (IsNoRead it.io)) (sym is) no_read

-- the file that it is on is there still
pub data-on : (place : FilePlace) (state new : FileState) (p : ℕ) (request : Request) (disks : List (Option Volume))
    (before views : List DriveView) → new ≡ asked (with_disks state disks) p request Granted
    → ReadsFile place None (λ v file. 1) state.disks before disks views → HasDataFileAt state.disks before place
    → HasDataFileAt new.disks views place
data-on place state new p request disks before views is read has =
    subst (λ (it : FileState). HasDataFileAt it.disks views place) (sym is)
    (data-stays place None (λ v file. 1) state.disks disks before views has read)

-- what it represents
pub granted-on : (was : Files) (p : ℕ) (state new : FileState) (before views : List DriveView)
    (disks : List (Option Volume)) (opened : KernelFile) (it : OpenFile) (request : Request) → RepresentsFiles state before
    was → RepresentsOpenFile was opened it → ReadsFile opened.place None (λ v file. 1) state.disks before disks views
    → new ≡ asked (with_disks state disks) p request Granted → RepresentsFiles new views (unrequested p was)
granted-on was p state new before views disks opened it request stands open_is read is =
    granted-stands p was request opened.place.drive (with_disks state disks) new before views
    (has-read state (with_disks state disks) before views was opened.place it.file None (λ v file. 1) stands
    (file-there was opened.place it.volume it.file open_is.volume_is open_is.file_is) refl refl refl read) is

-- ---- what the kernel leaves

-- nothing is kept of a call that is refused, and the records stay
pub records-stay : (mid new : FileState) (p : ℕ) → new ≡ uncalled mid p → new ≡ record mid
    { io = with_call mid.io p None; records = new.records }
records-stay mid new p is =
    is ∙ ap (λ (records : Records). record mid { io = with_call mid.io p None; records = records }) (sym (ap (λ (state : FileState). state.records) is))

pub records-wait : (records : Records) (mid new : FileState) (p : ℕ) → records ≡ mid.records → new ≡ uncalled mid p → with_waiting records p None ≡ with_waiting new.records p None
records-wait records mid new p same is =
    ap (λ (it : Records). with_waiting it p None) (same ∙ sym (ap (λ (state : FileState). state.records) is))

module _ (m : Processes) (was : Files) (now : TimePacket) (p : ℕ) (end : CallEnd) (processes : ProcState)
    (state new : FileState) (before views : List DriveView) (terms : List TerminalState)
    (disks : List (Option Volume)) (opened : KernelFile) (it : OpenFile) (stands : RepresentsFiles state before was)
    (open_is : RepresentsOpenFile was opened it) where
  abbrev asker : Asker
  asker = asker_of m p now

  abbrev size : ℕ
  size = long_of (regs_at m p)

  abbrev mid : FileState
  mid = with_disks state disks

  abbrev Reading : Option ℕ → Type 0
  Reading fault = ReadsFile opened.place fault (λ v file. 1) state.disks before disks views

  reads : (fault : Option ℕ) → Reading fault → HasReadDrive fault opened.place.drive was mid before views
  reads fault read =
      has-read state mid before views was opened.place it.file fault (λ v file. 1) stands
      (file-there was opened.place it.volume it.file open_is.volume_is open_is.file_is) refl refl refl read

  calls : (fault : Option ℕ) → Reading fault → CalledAtMost 1 before views
  calls fault read =
      called-read state mid before views was opened.place it.volume it.file fault (λ v file. 1) stands open_is.volume_is open_is.file_is read

  found-is : found_on opened it.volume it.file ≡ it
  found-is = found-same opened it open_is.path_is open_is.desc_is open_is.place_is

  -- ---- SS.Size

  abbrev Sized : List DriveView → OpenFile → Type 0
  Sized after o =
      EndsOrLacks (sets_size asker was o) (1 + granted_size_calls asker o) m was now p end processes new before after terms

  pub sizing-failed : can_write opened.desc.mode ≡ true → (fault : FileFault) → let result : Result Fd FileFault = Err
      fault in Reading (file_fault result) → IsSome (file_fault result) → end ≡ CallEnd.Error (file_error fault)
      → RepresentsProcesses processes m → new ≡ uncalled mid p → Sized views it
  sizing-failed may (Device number) read is_fault end_is tied new_is =
      let on = mounted-on state.disks before was.volumes opened.place.drive it.volume stands.mounted open_is.volume_is in
      subst (Sized views) found-is
      (sizing-fails m was it.volume it.file now p opened open_is.volume_is before views terms mid
      (calls (Some number) read) stands.drives on.1.image on.1.vol may end processes new number
      (reads (Some number) read) end_is tied (records-stay mid new p new_is)
      (records-wait was.records mid new p stands.records new_is))
  sizing-failed may NoCluster read is_fault end_is tied new_is = absurd (cc is_fault)
  sizing-failed may TooManyRuns read is_fault end_is tied new_is = absurd (cc is_fault)

  -- its request
  module _ (request : Request) (same : request_now asker was it (size_claim it size) ≡ request)
      (may : can_write opened.desc.mode ≡ true) (read : Reading None) where
    found-request : request_now asker was (found_on opened it.volume it.file)
        (size_claim (found_on opened it.volume it.file) size) ≡ request
    found-request = ap (λ (o : OpenFile). request_now asker was o (size_claim o size)) found-is ∙ same

    pub sizing-asked : request.lock.owner.0 ≡ p → (grant : Grant) → answer_to asker was request ≡ grant → Some end ≡
        end_by grant → RepresentsProcesses processes m → new ≡ asked mid p request grant → Sized views it
    sizing-asked owner grant grant_is end_is tied new_is =
        let on = mounted-on state.disks before was.volumes opened.place.drive it.volume stands.mounted open_is.volume_is in
        subst (Sized views) found-is
        (sizing-asks m was it.volume it.file now p opened open_is.volume_is before views terms mid (calls None read)
        stands.drives on.1.image on.1.vol may end processes new
        (ap (λ (r : Request). r.lock.owner.0) found-request ∙ owner) (reads None read) grant
        (ap (λ (r : Request). answer_to asker was r) found-request ∙ grant_is) end_is tied
        (new_is ∙ ap (λ (r : Request). asked mid p r grant) (sym found-request)))

    pub sizing-granted : (after : List DriveView) (old : ℕ) → old ≡ length it.file.contents → answer_to asker was
        request ≡ Granted → EndsOrLacks (sizes_granted old request.lock asker was it) (granted_size_calls asker it) m
        was now p end processes new views after terms → Sized after it
    sizing-granted after old old_is granted ends =
        let on = mounted-on state.disks before was.volumes opened.place.drive it.volume stands.mounted open_is.volume_is in
        subst (Sized after) found-is
        (sizing-goes m was it.volume it.file now p opened open_is.volume_is before views terms mid (calls None read)
        stands.drives on.1.image on.1.vol may end processes new after
        (ap (λ (r : Request). answer_to asker was r) found-request ∙ granted) (reads None read)
        (subst (λ (o : OpenFile). EndsOrLacks (sizes_granted (length it.file.contents)
        (request_now asker was (found_on opened it.volume it.file) (size_claim (found_on opened it.volume it.file)
        size)).lock asker was o) (granted_size_calls asker o) m was now p end processes new views after terms)
        (sym found-is)
        (subst (λ (r : Request). EndsOrLacks (sizes_granted (length it.file.contents) r.lock asker was it)
        (granted_size_calls asker it) m was now p end processes new views after terms) (sym found-request)
        (subst (λ (old : ℕ). EndsOrLacks (sizes_granted old request.lock asker was it) (granted_size_calls asker it)
        m was now p end processes new views after terms) old_is ends))))

  -- ---- SS.Lock

  abbrev Locks : OpenFile → Type 0
  Locks o = EndsOrLacks (sets_lock asker was o) 1 m was now p end processes new before views terms

  module _ (update : is_for_update opened.desc.mode ≡ true) (some : (size == 0) ≡ false) where
    pub locking-failed : (fault : FileFault) → let result : Result Fd FileFault = Err fault in Reading
        (file_fault result) → IsSome (file_fault result) → end ≡ CallEnd.Error (file_error fault) → RepresentsProcesses
        processes m → new ≡ uncalled mid p → Locks it
    locking-failed (Device number) read is_fault end_is tied new_is =
        subst Locks found-is
        (locking-fails m was it.volume it.file now p opened open_is.volume_is before views terms mid
        (calls (Some number) read) stands.drives update some end processes new number (reads (Some number) read)
        end_is tied (records-stay mid new p new_is) (records-wait was.records mid new p stands.records new_is))
    locking-failed NoCluster read is_fault end_is tied new_is = absurd (cc is_fault)
    locking-failed TooManyRuns read is_fault end_is tied new_is = absurd (cc is_fault)

    -- its request
    module _ (request : Request) (same : request_now asker was it (lock_claim it size) ≡ request) (read : Reading None) where
      found-lock : request_now asker was (found_on opened it.volume it.file)
          (lock_claim (found_on opened it.volume it.file) size) ≡ request
      found-lock = ap (λ (o : OpenFile). request_now asker was o (lock_claim o size)) found-is ∙ same

      pub locking-asked : request.lock.owner.0 ≡ p → (grant : Grant) → answer_to asker was request ≡ grant
          → Some end ≡ end_by grant → RepresentsProcesses processes m → new ≡ asked mid p request grant → Locks it
      locking-asked owner grant grant_is end_is tied new_is =
          subst Locks found-is
          (locking-asks m was it.volume it.file now p opened open_is.volume_is before views terms mid
          (calls None read) stands.drives update some end processes new
          (ap (λ (r : Request). r.lock.owner.0) found-lock ∙ owner) (reads None read) grant
          (ap (λ (r : Request). answer_to asker was r) found-lock ∙ grant_is) end_is tied
          (new_is ∙ ap (λ (r : Request). asked mid p r grant) (sym found-lock)))

      pub locking-held : answer_to asker was request ≡ Granted → end ≡ CallEnd.Done → RepresentsProcesses processes
          (with_regs_of m p (regs_at m p)) → new ≡ record mid {
            io = with_call mid.io p None;
            records = holding (with_waiting mid.records p None) opened.path.0 request.lock [];
          } → Locks it
      locking-held granted end_is tied new_is =
          subst Locks found-is
          (locking-holds m was it.volume it.file now p opened open_is.volume_is before views terms mid
          (calls None read) stands.drives update some end processes new
          (ap (λ (r : Request). answer_to asker was r) found-lock ∙ granted) (reads None read) end_is tied
          (new_is ∙ ap (λ (r : Request). let left : FileState = record mid {
            io = with_call mid.io p None;
            records = holding (with_waiting mid.records p None) opened.path.0 r.lock [];
          } in left) (sym found-lock)))

      pub locking-lacking : answer_to asker was request ≡ Granted → end ≡ CallEnd.NoMemory → new ≡ record mid
          { records = with_waiting mid.records p None } → Locks it
      locking-lacking granted end_is new_is =
          subst Locks found-is
          (locking-lacks m was it.volume it.file now p opened open_is.volume_is before views terms mid
          (calls None read) stands.drives update some end processes new
          (ap (λ (r : Request). answer_to asker was r) found-lock ∙ granted) (reads None read) end_is new_is)
