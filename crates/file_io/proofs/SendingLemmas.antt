-- A write to a file requests the range that it writes.
use Rattle.std.specs.Prelude.{unwrap_or}
use Rattle.os9_base.specs.declared.registers.Pid.{Pid}
use Rattle.lock_model.specs.Locks.{Locks, request_of}
use Rattle.lock_model.specs.declared.lock.Range.{Range}
use Rattle.file_rules.specs.declared.claim.Claim.{Claim}
use Rattle.std.proofs.Common.{◌≡◌, ◌∙◌, ℕ, ◌+◌, ◌<◌, nat_lt, Bool, true, false, Some, None, List, length, refl, sym, ap, subst, arith}
use Rattle.os9_base.specs.declared.call.CallEnd.{CallEnd}
use Rattle.os9_base.specs.declared.errors.TheConstants.{E_FULL}
use Rattle.os9_base.specs.declared.registers.Regs.{Regs}
use Rattle.os9_base.specs.declared.registers.TimePacket.{TimePacket}
use Rattle.os9_outer.specs.TerminalState.{TerminalState}
use Rattle.proc_model.specs.Processes.{Processes}
use Rattle.io_model.specs.Io.{with_call}
use Rattle.io_model.specs.Step.{answers}
use Rattle.lock_model.specs.Records.{with_waiting}
use Rattle.lock_model.specs.declared.lock.Grant.{Grant}
use Rattle.lock_model.specs.declared.lock.Grant.TheVariants.{Granted, Locked, Deadlock, Wait}
use Rattle.lock_model.specs.declared.lock.Request.{Request}
use Rattle.proc_state.specs.Tie.{RepresentsProcesses}
use Rattle.proc_state.specs.declared.state.ProcState.{ProcState}
use Rattle.rbf_change.specs.Calls.{cluster_size, free_total}
use Rattle.rbf_change.specs.Contents.{written}
use Rattle.rbf_change.specs.Growth.{clusters_needed}
use Rattle.rbf_model.specs.File.{DiskFile}
use Rattle.rbf_model.specs.Volume.{DiskVolume}
use Rattle.file_drives.proofs.ChangeLemmas.{write-stays}
use Rattle.file_drives.specs.Drives.{DriveView, drive_states}
use Rattle.file_rules.specs.Attempts.{asker_of}
use Rattle.file_rules.specs.Change.{writes}
use Rattle.file_rules.specs.Files.{Asker, Files, volume_at}
use Rattle.file_rules.specs.Files as rules
use Rattle.file_rules.specs.Locking.{answer_to, asks_by, end_by, first_request, position_of, range_of, pending_request, request_now}
use Rattle.file_rules.specs.Step.{FileStep, MayBeLeft, VolumeChange, changes, comes, deed_of, leaves, reaches, refuses}
use Rattle.file_rules.specs.Write.{write_claim, writes_bytes}
use Rattle.file_state.proofs.RequestLemmas.{asks-ends, lacks-none, reached-fails, reached-then, same-request}
use Rattle.file_state.specs.Asking.{asked, claimed}
use Rattle.file_state.specs.Counted.{CalledAtMost}
use Rattle.file_state.specs.Ends.{EndsOrLacks}
use Rattle.file_state.specs.Reached.{HasReadDrive}
use Rattle.file_state.specs.declared.state.FileState.{FileState}
use Rattle.file_io.proofs.ClaimLemmas.{start-own}
use Rattle.file_state.specs.declared.state.OpenFile.{OpenFile}
use Rattle.file_io.specs.Calls.{granted_write_calls, laying_calls_at, writing_attempt_calls}
use Rattle.file_io.specs.Opened.{found_on}
use Rattle.file_io.specs.Writing.{after_writing, write_file, write_granted}

-- the request of a write is the one that the kernel makes
pub write-request : (m : Processes) (was : Files) (now : TimePacket) (p : Pid) (opened : OpenFile) (v : DiskVolume)
    (file : DiskFile) (code : ℕ) (bytes : List ℕ) (count size many : ℕ) (range : Range) (locks : Locks) (tick : ℕ)
    (request : Request) → length bytes ≡ count → was.records.locks ≡ locks → m.tick ≡ tick → size ≡
    length file.contents → many ≡ count → range ≡ range_of size opened.desc.at many → request ≡
    unwrap_or (request_of locks p.0)
    (claimed p opened (record { code = code; count = count; range = range }) tick)
    → request_now (asker_of m p.0 now) was (found_on opened v file)
    (write_claim (found_on opened v file) code (length bytes)) ≡ request
write-request m was now p opened v file code bytes count size many range locks tick request long locks_are tick_is size_is many_is range_is is =
    let found = found_on opened v file in
    let begun : range_of (length file.contents) opened.desc.at (length bytes) ≡ range =
    ap (λ (n : ℕ). range_of n opened.desc.at (length bytes)) (sym size_is)
    ∙ ap (λ (n : ℕ). range_of size opened.desc.at n) (long ∙ sym many_is) ∙ sym range_is in
    let claim : Claim = record { code = code; count = count; range = range } in
    let same : write_claim found code (length bytes) ≡ claim =
    ap (λ (r : Range). let it : Claim = record { code = code; count = length bytes; range = r } in it) begun
    ∙ ap (λ (n : ℕ). let it : Claim = record { code = code; count = n; range = range } in it) long in
    same-request m was now p found opened locks tick refl refl locks_are tick_is (write_claim found code (length bytes)) claim same ∙ sym is

module _ (code : ℕ) (bytes : List ℕ) (regs : Regs) (m : Processes) (was : Files) (v : DiskVolume) (file : DiskFile)
    (now : TimePacket) (p : ℕ) (opened : OpenFile) (is : volume_at was opened.place.drive ≡ Some v)
    (there : v.files opened.place.number ≡ Some file) (some : 0 < length bytes) (before views : List DriveView)
    (terms : List TerminalState) (mid : FileState) (called : CalledAtMost 1 before views)
    (drives_are : was.drives ≡ drive_states before) (count : ℕ) (long : length bytes ≡ count) where
  abbrev asker : Asker
  asker = asker_of m p now

  abbrev found : rules.OpenFile
  found = found_on opened v file

  abbrev drive : ℕ
  drive = opened.place.drive

  abbrev request : Request
  request = request_now asker was found (write_claim found code (length bytes))

  -- where it begins
  abbrev start : ℕ
  start = request.lock.range.start

  abbrev change : VolumeChange
  change = record { drive = drive; change = writes opened.place.number start bytes; effect = λ n. leaves (answers regs) (after_writing request.lock bytes was found) }

  abbrev behind : Grant → Bool → FileStep
  behind grant full = asks_by grant was request (refuses full E_FULL (comes (changes change)))

  abbrev full : Bool
  full = nat_lt (free_total v) (clusters_needed (cluster_size v) file.segments (length (written file.contents start bytes)))

  abbrev next : FileStep
  next = behind (answer_to asker was request) full

  abbrev more : ℕ
  more = granted_write_calls request.lock count asker was found

  abbrev Done : CallEnd → ProcState → FileState → List DriveView → Type 0
  Done end processes new after =
      EndsOrLacks (write_file code bytes regs asker was found) (writing_attempt_calls count asker was found) m was now p end processes new before after terms

  stays : (grant : Grant) (test : Bool) → MayBeLeft (deed_of (behind grant test) was) asker v v
  stays Granted true = refl
  stays Granted false = write-stays opened.place.number start bytes v file there some
  stays Locked test = refl
  stays Deadlock test = refl
  stays Wait test = refl

  start-is : position_of asker was found ≡ start
  start-is =
      start-own (pending_request asker was) (first_request asker found (write_claim found code (length bytes))) opened.desc.at refl

  few : writing_attempt_calls count asker was found ≡ 1 + more
  few = ap (λ (at : ℕ). 1 + laying_calls_at at count found) start-is

  -- the whole of it, by what is done behind the descriptor
  as-write : (end : CallEnd) (processes : ProcState) (new : FileState) (after : List DriveView)
      → EndsOrLacks (reaches drive next) (1 + more) m was now p end processes new before after terms
      → Done end processes new after
  unfolding write_file
  as-write end processes new after it =
      subst (λ (most : ℕ). EndsOrLacks (writes_bytes asker was found code bytes regs) most m was now p end processes new before after terms) (sym few) it

  module _ (end : CallEnd) (processes : ProcState) (new : FileState) where
    enough : CalledAtMost (1 + more) before views
    enough = record { as_many = called.as_many; each = λ n. let at = called.each n in omega (arith, at) }

    -- a fault
    pub sending-fails : (number : ℕ) → HasReadDrive (Some number) drive was mid before views → end ≡ CallEnd.Error number
        → RepresentsProcesses processes m → new ≡ record mid { io = with_call mid.io p None; records = new.records }
        → with_waiting was.records p None ≡ with_waiting new.records p None → Done end processes new views
    sending-fails number read end_is tied new_is records_are =
        as-write end processes new views
        (lacks-none (reaches drive next) (1 + more) m was now p end processes new before views terms
        (reached-fails m was now p drive next mid before views terms end processes (1 + more) enough number v new is (stays (answer_to asker was request) full) read end_is tied new_is records_are))

    -- its request is not granted
    pub sending-asks : request.lock.owner.0 ≡ p → HasReadDrive None drive was mid before views → (grant : Grant)
        → answer_to asker was request ≡ grant → Some end ≡ end_by grant → RepresentsProcesses processes m → new ≡ asked mid p
        request grant → Done end processes new views
    sending-asks owner read grant grant_is end_is tied new_is =
        as-write end processes new views
        (lacks-none (reaches drive next) (1 + more) m was now p end processes new before views terms
        (asks-ends m was now p drive next mid before views terms end processes (1 + more) enough grant request (refuses full E_FULL (comes (changes change))) new
        (ap (λ (grant : Grant). behind grant full) grant_is) owner read end_is tied new_is))

    -- a write at the start of the lock of a request
    abbrev pub WritesUnder : List DriveView → Request → Type 0
    WritesUnder after it =
        EndsOrLacks (write_granted it.lock bytes regs asker was found) (granted_write_calls it.lock count asker was
        found) m was now p end processes new views after terms

    -- it is
    pub sending-goes : (after : List DriveView) (other : Request) → request ≡ other → answer_to asker was request ≡
        Granted → HasReadDrive None drive was mid before views → WritesUnder after other → Done end processes new after
    unfolding write_granted
    sending-goes after other same granted read it =
        as-write end processes new after
        (reached-then m was now p drive next mid before views terms end processes 1 called more after new drives_are read
        (subst (λ (step : FileStep). EndsOrLacks step more m was now p end processes new views after terms)
        (ap (λ (grant : Grant). reaches drive (behind grant full)) (sym granted))
        (subst (WritesUnder after) (sym same) it)))
