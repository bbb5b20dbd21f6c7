-- SS.Size and SS.Lock request the bytes of a file that they concern.
use Rattle.std.proofs.Common.{◌≡◌, ◌∙◌, ℕ, ◌+◌, ◌==◌, not, nat_lt, Bool, true, false, Some, None, List, [], length, refl, sym, ap, subst, inl, inr, arith}
use Rattle.std.specs.Prelude.{if◌then◌else◌}
use Rattle.os9_base.specs.declared.call.CallEnd.{CallEnd}
use Rattle.os9_base.specs.declared.errors.TheConstants.{E_BMODE, E_FULL}
use Rattle.os9_base.specs.declared.registers.Regs.{Regs}
use Rattle.os9_base.specs.declared.registers.TimePacket.{TimePacket}
use Rattle.os9_outer.specs.TerminalState.{TerminalState}
use Rattle.proc_model.specs.Processes.{Processes, regs_at, with_regs_of}
use Rattle.io_model.specs.declared.path.Desc.{Desc}
use Rattle.io_model.specs.declared.path.SysPath.{SysPath}
use Rattle.io_model.specs.Io.{Io, with_call}
use Rattle.io_model.specs.Modes.{can_write}
use Rattle.io_model.specs.Step.{answers}
use Rattle.lock_model.specs.History.{got}
use Rattle.lock_model.specs.Records.{Records, holding, with_waiting, without_lock}
use Rattle.lock_model.specs.declared.lock.Grant.{Grant}
use Rattle.lock_model.specs.declared.lock.Grant.TheVariants.{Granted, Locked, Deadlock, Wait}
use Rattle.lock_model.specs.declared.lock.Request.{Request}
use Rattle.lock_model.specs.declared.place.FilePlace.{FilePlace}
use Rattle.proc_state.specs.Tie.{RepresentsProcesses}
use Rattle.proc_state.specs.declared.state.ProcState.{ProcState}
use Rattle.rbf_change.specs.Calls.{cluster_size, free_total}
use Rattle.rbf_change.specs.Faults as ends
use Rattle.rbf_change.specs.Growth.{clusters_needed}
use Rattle.rbf_model.specs.File.{DiskFile}
use Rattle.rbf_model.specs.Volume.{DiskVolume, Vol}
use Rattle.file_drives.specs.Drives.{DriveView, drive_states}
use Rattle.file_drives.specs.Mounted.{AreMounted}
use Rattle.file_rules.specs.Attempts.{asker_of}
use Rattle.file_rules.specs.Change.{sizes}
use Rattle.file_rules.specs.Files.{Asker, Files, OpenFile, volume_at, with_drives, with_records}
use Rattle.file_rules.specs.Locking.{answer_to, asks_by, end_by, is_for_update, request_now}
use Rattle.file_rules.specs.Seek.{long_of}
use Rattle.file_rules.specs.Status.{after_size, lock_claim, locks_bytes, sets_lock, sets_size, size_claim}
use Rattle.file_rules.specs.Step.{FileEffect, FileStep, MayBeLeft, VolumeChange, changes, comes, deed_of, done, leaves, leaves_so, reaches, refuses, with_drives_after}
use Rattle.file_state.proofs.EndLemmas.{goes-well}
use Rattle.file_state.proofs.KeepLemmas.{MayKeepAll, keeps-read}
use Rattle.file_state.proofs.RequestLemmas.{asks-ends, forgotten-again, lacks-none, reached-fails, reached-then, stands-beside}
use Rattle.file_state.specs.Asking.{asked}
use Rattle.file_state.specs.Counted.{CalledAtMost}
use Rattle.file_state.specs.Ends.{EndsOrLacks}
use Rattle.file_state.specs.Reached.{HasReadDrive}
use Rattle.file_state.specs.declared.state.FileState.{FileState}
use Rattle.file_state.specs.declared.state.OpenFile.{OpenFile as KernelFile}
use Rattle.file_status.proofs.SizingLemmas.{found_on}
use Rattle.file_status.specs.Status.{granted_size_calls, sizes_granted}

-- the path on a file is the one that the kernel has
pub found-same : (opened : KernelFile) (it : OpenFile) → it.opened.path ≡ opened.path → it.opened.desc ≡ opened.desc → it.place ≡ opened.place → found_on opened it.volume it.file ≡ it
found-same opened it path desc place =
    ap (λ (s : SysPath). let found : OpenFile = record { opened = record { path = s; desc = opened.desc }; place = opened.place; volume = it.volume; file = it.file } in found) (sym path)
    ∙ ap (λ (d : Desc). let found : OpenFile = record { opened = record { path = it.opened.path; desc = d }; place = opened.place; volume = it.volume; file = it.file } in found) (sym desc)
    ∙ ap (λ (at : FilePlace). let found : OpenFile = record { opened = it.opened; place = at; volume = it.volume; file = it.file } in found) (sym place)

module _ (m : Processes) (was : Files) (v : DiskVolume) (file : DiskFile) (now : TimePacket) (p : ℕ) (opened : KernelFile)
    (is : volume_at was opened.place.drive ≡ Some v) (before views : List DriveView) (terms : List TerminalState)
    (mid : FileState) (called : CalledAtMost 1 before views) (drives_are : was.drives ≡ drive_states before) where
  abbrev asker : Asker
  asker = asker_of m p now

  abbrev found : OpenFile
  found = found_on opened v file

  abbrev drive : ℕ
  drive = opened.place.drive

  abbrev regs : Regs
  regs = regs_at m p

  enough : (more : ℕ) → CalledAtMost (1 + more) before views
  enough more = record { as_many = called.as_many; each = λ n. let at = called.each n in omega (arith, at) }

  -- ---- SS.Size

  module _ (image : List ℕ) (vol : Vol image v) (may : can_write opened.desc.mode ≡ true) where
    abbrev size : ℕ
    size = long_of regs

    abbrev request : Request
    request = request_now asker was found (size_claim found size)

    abbrev change : VolumeChange
    change = record { drive = drive; change = sizes opened.place.number size; effect = λ n. leaves (answers regs) (after_size was found size request.lock) }

    abbrev behind : Grant → Bool → FileStep
    behind grant full = asks_by grant was request (refuses full E_FULL (comes (changes change)))

    abbrev full : Bool
    full = nat_lt (free_total v) (clusters_needed (cluster_size v) file.segments size)

    abbrev next : FileStep
    next = behind (answer_to asker was request) full

    abbrev more : ℕ
    more = granted_size_calls asker found

    abbrev Sized : CallEnd → ProcState → FileState → List DriveView → Type 0
    Sized end processes new after =
        EndsOrLacks (sets_size asker was found) (1 + more) m was now p end processes new before after terms

    stays : (grant : Grant) (full : Bool) → MayBeLeft (deed_of (behind grant full) was) asker v v
    stays Granted true = refl
    stays Granted false = (image, vol, ends.before refl)
    stays Locked _ = refl
    stays Deadlock _ = refl
    stays Wait _ = refl

    as-size : (end : CallEnd) (processes : ProcState) (new : FileState) (after : List DriveView)
        → EndsOrLacks (reaches drive next) (1 + more) m was now p end processes new before after terms
        → Sized end processes new after
    as-size end processes new after it =
        subst (λ (may : Bool). EndsOrLacks (refuses (not may) E_BMODE (reaches drive next)) (1 + more) m was now p end processes new before after terms) (sym may) it

    module _ (end : CallEnd) (processes : ProcState) (new : FileState) where
      -- a fault
      pub sizing-fails : (number : ℕ) → HasReadDrive (Some number) drive was mid before views → end ≡ CallEnd.Error number
          → RepresentsProcesses processes m → new ≡ record mid { io = with_call mid.io p None; records = new.records }
          → with_waiting was.records p None ≡ with_waiting new.records p None → Sized end processes new views
      sizing-fails number read end_is tied new_is records_are =
          as-size end processes new views
          (lacks-none (reaches drive next) (1 + more) m was now p end processes new before views terms
          (reached-fails m was now p drive next mid before views terms end processes (1 + more) (enough more) number v
          new is (stays (answer_to asker was request) full) read end_is tied new_is records_are))

      -- its request is not granted
      pub sizing-asks : request.lock.owner.0 ≡ p → HasReadDrive None drive was mid before views → (grant : Grant)
          → answer_to asker was request ≡ grant → Some end ≡ end_by grant → RepresentsProcesses processes m → new ≡ asked mid p
          request grant → Sized end processes new views
      sizing-asks owner read grant grant_is end_is tied new_is =
          as-size end processes new views
          (lacks-none (reaches drive next) (1 + more) m was now p end processes new before views terms
          (asks-ends m was now p drive next mid before views terms end processes (1 + more) (enough more) grant request (refuses full E_FULL (comes (changes change))) new
          (ap (λ (grant : Grant). behind grant full) grant_is) owner read end_is tied new_is))

      -- it is
      pub sizing-goes : (after : List DriveView) → answer_to asker was request ≡ Granted → HasReadDrive None drive was mid
          before views → EndsOrLacks (sizes_granted (length file.contents) request.lock asker was found) more m was
          now p end processes new views after terms → Sized end processes new after
      sizing-goes after granted read it =
          as-size end processes new after
          (reached-then m was now p drive next mid before views terms end processes 1 called more after new drives_are read
          (subst (λ (step : FileStep). EndsOrLacks step more m was now p end processes new views after terms)
          (ap (λ (grant : Grant). reaches drive (behind grant full)) (sym granted)) it))

  -- ---- SS.Lock

  module _ (update : is_for_update opened.desc.mode ≡ true) (some : (long_of regs == 0) ≡ false) where
    abbrev count : ℕ
    count = long_of regs

    abbrev lock_request : Request
    lock_request = request_now asker was found (lock_claim found count)

    abbrev held : Records
    held = holding was.records opened.path.0 lock_request.lock []

    abbrev locked : FileEffect
    locked = leaves (answers regs) (with_records was held)

    abbrev lock_behind : Grant → FileStep
    lock_behind grant = asks_by grant was lock_request (comes (leaves_so locked))

    abbrev lock_next : FileStep
    lock_next = lock_behind (answer_to asker was lock_request)

    abbrev Holds : CallEnd → ProcState → FileState → Type 0
    Holds end processes new = EndsOrLacks (sets_lock asker was found) 1 m was now p end processes new before views terms

    lock_stays : (grant : Grant) → MayBeLeft (deed_of (lock_behind grant) was) asker v v
    lock_stays Granted = refl
    lock_stays Locked = refl
    lock_stays Deadlock = refl
    lock_stays Wait = refl

    abbrev unlocked : FileStep
    unlocked = done regs (with_records was (without_lock was.records opened.path.0))

    as-lock : (end : CallEnd) (processes : ProcState) (new : FileState) → EndsOrLacks (reaches drive lock_next) 1 m was now p end processes new before views terms → Holds end processes new
    as-lock end processes new it =
        subst (λ (may : Bool). EndsOrLacks (refuses (not may) E_BMODE (locks_bytes asker was found count)) 1 m was now p end processes new before views terms) (sym update)
        (subst (λ (none : Bool). EndsOrLacks (if none then unlocked else reaches drive lock_next) 1 m was now p end processes new before views terms)
        (sym some) it)

    module _ (end : CallEnd) (processes : ProcState) (new : FileState) where
      -- a fault
      pub locking-fails : (number : ℕ) → HasReadDrive (Some number) drive was mid before views → end ≡ CallEnd.Error number
          → RepresentsProcesses processes m → new ≡ record mid { io = with_call mid.io p None; records = new.records }
          → with_waiting was.records p None ≡ with_waiting new.records p None → Holds end processes new
      locking-fails number read end_is tied new_is records_are =
          as-lock end processes new
          (lacks-none (reaches drive lock_next) 1 m was now p end processes new before views terms
          (reached-fails m was now p drive lock_next mid before views terms end processes 1 called number v new is (lock_stays (answer_to asker was lock_request)) read end_is tied new_is records_are))

      -- its request is not granted
      pub locking-asks : lock_request.lock.owner.0 ≡ p → HasReadDrive None drive was mid before views → (grant : Grant)
          → answer_to asker was lock_request ≡ grant → Some end ≡ end_by grant → RepresentsProcesses processes m
          → new ≡ asked mid p lock_request grant → Holds end processes new
      locking-asks owner read grant grant_is end_is tied new_is =
          as-lock end processes new
          (lacks-none (reaches drive lock_next) 1 m was now p end processes new before views terms
          (asks-ends m was now p drive lock_next mid before views terms end processes 1 called grant lock_request (comes (leaves_so locked)) new
          (ap lock_behind grant_is) owner read end_is tied new_is))

      goes : answer_to asker was lock_request ≡ Granted → deed_of (reaches drive lock_next) was ≡ leaves_so locked
      goes granted = ap (λ (grant : Grant). deed_of (lock_behind grant) was) granted

      -- it is, and the path holds the lock
      pub locking-holds : answer_to asker was lock_request ≡ Granted → HasReadDrive None drive was mid before views
          → end ≡ CallEnd.Done → RepresentsProcesses processes (with_regs_of m p regs)
          → new ≡ record mid {
            io = with_call mid.io p None;
            records = holding (with_waiting mid.records p None)
                opened.path.0 lock_request.lock [];
          } → Holds end processes new
      locking-holds granted read end_is tied new_is =
          let records_are : new.records ≡ holding (with_waiting mid.records p None) opened.path.0 lock_request.lock [] = ap (λ (state : FileState). state.records) new_is in
          let io_is : new.io ≡ with_call mid.io p None = ap (λ (state : FileState). state.io) new_is in
          as-lock end processes new
          (lacks-none (reaches drive lock_next) 1 m was now p end processes new before views terms (record {
            effect = with_drives_after locked (drive_states views);
            does = goes-well (reaches drive lock_next) asker was locked (drive_states views) terms (goes granted) read.moved;
            comes = (end_is, tied);
            stands = inr (
              refl,
              stands-beside p mid views (with_drives was (drive_states views)) (with_call was.io p None) held new
                  (new_is ∙ ap (λ (io : Io). record mid {
                    io = io;
                    records = holding (with_waiting mid.records p None)
                        opened.path.0 lock_request.lock [];
                  }) (sym io_is) ∙ ap (λ (records : Records). record mid
                  { io = new.io; records = records }) (sym records_are))
                  (ap (λ (io : Io). with_call io p None) read.stands.io ∙ sym io_is)
                  (sym (forgotten-again p held)
                  ∙ ap (λ (records : Records). with_waiting (holding (with_waiting records p None) opened.path.0 lock_request.lock []) p None) read.stands.records
                  ∙ ap (λ (records : Records). with_waiting records p None) (sym records_are)) read.stands,
            );
            calls = called;
            drives = keeps-read (reaches drive lock_next) asker was end drive before views (inl refl) (subst (λ d. MayKeepAll d end) (sym (goes granted)) tt) None mid read;
          }))

      -- memory was wanting for the entry
      pub locking-lacks : answer_to asker was lock_request ≡ Granted → HasReadDrive None drive was mid before views
          → end ≡ CallEnd.NoMemory → new ≡ record mid { records = with_waiting mid.records p None }
          → Holds end processes new
      locking-lacks granted read end_is new_is =
          as-lock end processes new
          (record {
            ends = λ some. absurd (some end_is);
            lacks = λ none. record {
              effect = with_drives_after locked (drive_states views);
              does = goes-well (reaches drive lock_next) asker was locked (drive_states views) terms (goes granted) read.moved;
              enters = record { entry = got opened.path.0 lock_request.lock []; is = refl; no_end = λ same. cc };
              drives = refl;
              mounted = subst (λ (state : FileState). AreMounted state.disks views was.volumes) (sym new_is) read.stands.mounted;
              calls = called;
              images = keeps-read (reaches drive lock_next) asker was end drive before views (inl refl) (subst (λ d. MayKeepAll d end) (sym (goes granted)) tt) None mid read;
            };
          })
