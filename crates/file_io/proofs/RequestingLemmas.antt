-- A read of a path that may be written too: it requests its bytes.
use Rattle.std.proofs.Common.{◌≡◌, ◌∙◌, ℕ, ◌+◌, nat_le, Bool, true, false, Some, None, List, length, refl, sym, ap, subst, arith}
use Rattle.std.specs.Prelude.{unwrap_or}
use Rattle.io_model.specs.Read.{read_code}
use Rattle.os9_base.specs.declared.registers.Pid.{Pid}
use Rattle.lock_model.specs.Locks.{Locks, request_of}
use Rattle.lock_model.specs.declared.lock.Range.{Range}
use Rattle.file_rules.specs.declared.claim.Claim.{Claim}
use Rattle.os9_base.specs.declared.call.CallEnd.{CallEnd}
use Rattle.os9_base.specs.declared.errors.TheConstants.{E_EOF}
use Rattle.os9_base.specs.declared.registers.TimePacket.{TimePacket}
use Rattle.os9_outer.specs.TerminalState.{TerminalState}
use Rattle.proc_model.specs.Processes.{Processes, regs_at}
use Rattle.io_model.specs.declared.terminal.ReadKind.{ReadKind}
use Rattle.io_model.specs.Io.{with_call}
use Rattle.lock_model.specs.Records.{with_waiting}
use Rattle.lock_model.specs.declared.lock.Grant.{Grant}
use Rattle.lock_model.specs.declared.lock.Grant.TheVariants.{Granted, Locked, Deadlock, Wait}
use Rattle.lock_model.specs.declared.lock.Request.{Request}
use Rattle.proc_state.specs.Tie.{RepresentsProcesses}
use Rattle.proc_state.specs.declared.state.ProcState.{ProcState}
use Rattle.rbf_access.specs.Reading.{read_calls}
use Rattle.rbf_model.specs.File.{DiskFile}
use Rattle.rbf_model.specs.Volume.{DiskVolume}
use Rattle.file_drives.specs.Drives.{DriveView, drive_states}
use Rattle.file_rules.specs.Attempts.{asker_of}
use Rattle.file_rules.specs.Files.{Asker, Files, volume_at}
use Rattle.file_rules.specs.Files as rules
use Rattle.file_rules.specs.Locking.{answer_to, asks_by, end_by, first_request, is_for_update, range_of, pending_request, request_now}
use Rattle.file_rules.specs.Read.{bytes_at, read_claim}
use Rattle.file_rules.specs.Step.{FileEffect, FileStep, MayBeLeft, comes, deed_of, leaves_so, reaches, refuses}
use Rattle.file_state.proofs.RequestLemmas.{asks-ends, lacks-none, reached-fails, reached-refused, reached-then, same-request, start-same}
use Rattle.file_state.specs.Asking.{asked, claimed}
use Rattle.file_state.specs.Counted.{CalledAtMost}
use Rattle.file_state.specs.Ends.{EndsOrLacks}
use Rattle.file_state.specs.Reached.{HasReadDrive}
use Rattle.file_state.specs.declared.state.FileState.{FileState}
use Rattle.file_state.specs.declared.state.OpenFile.{OpenFile}
use Rattle.file_io.proofs.ReadingLemmas.{begins, calls-by, read-by}
use Rattle.file_io.proofs.TryingLemmas.{deed-refused}
use Rattle.file_io.specs.Calls.{granted_read_calls, reading_attempt_calls}
use Rattle.file_io.specs.Opened.{found_on}
use Rattle.file_io.specs.Reading.{holds_bytes, read_file, read_granted}

-- the request of a read is the one that the kernel makes
pub read-request : (kind : ReadKind) (m : Processes) (was : Files) (now : TimePacket) (p : Pid) (opened : OpenFile)
    (v : DiskVolume) (file : DiskFile) (code size at start count many : ℕ) (range : Range) (locks : Locks) (tick : ℕ)
    (request : Request) → code ≡ read_code kind → (regs_at m p.0).y ≡ count → was.records.locks ≡ locks → m.tick ≡
    tick → size ≡ length file.contents → start ≡ at → many ≡ count → range ≡ range_of size at many → request ≡
    unwrap_or (request_of locks p.0)
    (claimed p opened (record { code = code; count = count; range = range }) tick)
    → request_now (asker_of m p.0 now) was (found_on opened v file)
    (read_claim kind (asker_of m p.0 now) (found_on opened v file) start) ≡ request
read-request kind m was now p opened v file code size at start count many range locks tick request code_is count_is locks_are tick_is size_is start_is many_is range_is is =
    let found = found_on opened v file in
    let y = (regs_at m p.0).y in
    let begun : range_of (length file.contents) start y ≡ range =
    ap (λ (n : ℕ). range_of n start y) (sym size_is) ∙ ap (λ (n : ℕ). range_of size n y) start_is
    ∙ ap (λ (n : ℕ). range_of size at n) (count_is ∙ sym many_is) ∙ sym range_is in
    let claim : Claim = record { code = code; count = count; range = range } in
    let same : read_claim kind (asker_of m p.0 now) found start ≡ claim =
    ap (λ (r : Range). let it : Claim = record { code = read_code kind; count = y; range = r } in it) begun
    ∙ ap (λ (n : ℕ). let it : Claim = record { code = read_code kind; count = n; range = range } in it) count_is
    ∙ ap (λ (n : ℕ). let it : Claim = record { code = n; count = count; range = range } in it) (sym code_is) in
    same-request m was now p found opened locks tick refl refl locks_are tick_is (read_claim kind (asker_of m p.0 now) found start) claim same ∙ sym is

module _ (kind : ReadKind) (m : Processes) (was : Files) (v : DiskVolume) (file : DiskFile) (now : TimePacket) (p : ℕ)
    (opened : OpenFile) (update : is_for_update opened.desc.mode ≡ true) (is : volume_at was opened.place.drive ≡ Some
    v) (before views : List DriveView) (terms : List TerminalState) (mid : FileState) (called : CalledAtMost 1 before
    views) (drives_are : was.drives ≡ drive_states before) where
  abbrev asker : Asker
  asker = asker_of m p now

  abbrev found : rules.OpenFile
  found = found_on opened v file

  abbrev drive : ℕ
  drive = opened.place.drive

  -- where it begins, and its request
  abbrev start : ℕ
  start = begins kind asker was found true

  abbrev request : Request
  request = request_now asker was found (read_claim kind asker found start)

  abbrev given : FileEffect
  given = holds_bytes kind request.lock asker was found (bytes_at kind asker found start)

  abbrev behind : Bool → Grant → FileStep
  behind ended grant = refuses ended E_EOF (asks_by grant was request (comes (leaves_so given)))

  abbrev next : FileStep
  next = behind (nat_le (length file.contents) start) (answer_to asker was request)

  abbrev Done : CallEnd → ProcState → FileState → List DriveView → Type 0
  Done end processes new after =
      EndsOrLacks (read_file kind asker was found) (reading_attempt_calls asker was found) m was now p end processes new before after terms

  stays : (ended : Bool) (grant : Grant) → MayBeLeft (deed_of (behind ended grant) was) asker v v
  stays true grant = refl
  stays false Granted = refl
  stays false Locked = refl
  stays false Deadlock = refl
  stays false Wait = refl

  start-is : start ≡ request.lock.range.start
  start-is =
      start-same (pending_request asker was) (first_request asker found (read_claim kind asker found start)) opened.desc.at refl

  few : reading_attempt_calls asker was found ≡ 1 + granted_read_calls request.lock asker was found
  few =
      calls-by kind asker was found true update
      ∙ ap (λ (at : ℕ). 1 + read_calls file at (regs_at m p).y) start-is

  -- the whole of it, by what is done behind the descriptor
  as-read : (end : CallEnd) (processes : ProcState) (new : FileState) (after : List DriveView)
      → EndsOrLacks (reaches drive next) (1 + granted_read_calls request.lock asker was found) m was now p end
      processes new before after terms → Done end processes new after
  as-read end processes new after it =
      subst (λ (most : ℕ). EndsOrLacks (read_file kind asker was found) most m was now p end processes new before after terms) (sym few)
      (subst (λ (step : FileStep). EndsOrLacks step (1 + granted_read_calls request.lock asker was found) m was now p
      end processes new before after terms) (read-by kind asker was found true update) it)

  module _ (end : CallEnd) (processes : ProcState) (new : FileState) where
    enough : CalledAtMost (1 + granted_read_calls request.lock asker was found) before views
    enough = record { as_many = called.as_many; each = λ n. let at = called.each n in omega (arith, at) }

    -- a fault
    pub reading-fails : (number : ℕ) → HasReadDrive (Some number) drive was mid before views → end ≡ CallEnd.Error number
        → RepresentsProcesses processes m → new ≡ record mid { io = with_call mid.io p None; records = new.records }
        → with_waiting was.records p None ≡ with_waiting new.records p None → Done end processes new views
    reading-fails number read end_is tied new_is records_are =
        as-read end processes new views
        (lacks-none (reaches drive next) (1 + granted_read_calls request.lock asker was found) m was now p end processes new before views terms
        (reached-fails m was now p drive next mid before views terms end processes
        (1 + granted_read_calls request.lock asker was found) enough number v new is
        (stays (nat_le (length file.contents) start) (answer_to asker was request)) read end_is tied new_is
        records_are))

    -- the end
    pub reading-ends : nat_le (length file.contents) start ≡ true → HasReadDrive None drive was mid before views
        → end ≡ CallEnd.Error E_EOF → RepresentsProcesses processes m → new ≡ record mid {
          io = with_call mid.io p None;
          records = new.records;
        } → with_waiting was.records p None ≡ with_waiting new.records p None
        → Done end processes new views
    reading-ends past read end_is tied new_is records_are =
        as-read end processes new views
        (lacks-none (reaches drive next) (1 + granted_read_calls request.lock asker was found) m was now p end processes new before views terms
        (reached-refused m was now p drive next mid before views terms end processes
        (1 + granted_read_calls request.lock asker was found) enough E_EOF new
        (deed-refused was (nat_le (length file.contents) start) E_EOF (asks_by (answer_to asker was request) was
        request (comes (leaves_so given))) past) read end_is tied new_is records_are))

    -- its request is not granted
    pub reading-asks : nat_le (length file.contents) start ≡ false → request.lock.owner.0 ≡ p → HasReadDrive None drive was
        mid before views → (grant : Grant) → answer_to asker was request ≡ grant → Some end ≡ end_by grant
        → RepresentsProcesses processes m → new ≡ asked mid p request grant → Done end processes new views
    reading-asks within owner read grant grant_is end_is tied new_is =
        as-read end processes new views
        (lacks-none (reaches drive next) (1 + granted_read_calls request.lock asker was found) m was now p end processes new before views terms
        (asks-ends m was now p drive next mid before views terms end processes (1 + granted_read_calls request.lock asker was found) enough grant request (comes (leaves_so given)) new
        (ap (λ (ended : Bool). behind ended (answer_to asker was request)) within ∙ ap (λ (grant : Grant). behind false grant) grant_is) owner read end_is tied new_is))

    -- a read from the start of the lock of a request
    abbrev pub ReadsUnder : List DriveView → Request → Type 0
    ReadsUnder after it =
        EndsOrLacks (read_granted kind it.lock asker was found) (granted_read_calls it.lock asker was found) m was now p
        end processes new views after terms

    -- it is
    pub reading-goes : (after : List DriveView) (other : Request) → request ≡ other → nat_le (length file.contents)
        start ≡ false → answer_to asker was request ≡ Granted → HasReadDrive None drive was mid before views
        → ReadsUnder after other → Done end processes new after
    unfolding read_granted
    reading-goes after other request_is within granted read it =
        as-read end processes new after
        (reached-then m was now p drive next mid before views terms end processes 1 called (granted_read_calls request.lock asker was found) after new drives_are read
        (subst (λ (step : FileStep). EndsOrLacks step (granted_read_calls request.lock asker was found) m was now p end processes new views after terms) same
        (subst (ReadsUnder after) (sym request_is) it)))
      where
        same : reaches drive (comes (leaves_so (holds_bytes kind request.lock asker was found (bytes_at kind asker found request.lock.range.start)))) ≡ reaches drive next
        same =
            ap (λ (at : ℕ). reaches drive (comes (leaves_so (holds_bytes kind request.lock asker was found (bytes_at kind asker found at))))) (sym start-is)
            ∙ ap (λ (grant : Grant). reaches drive (behind false grant)) (sym granted)
            ∙ ap (λ (ended : Bool). reaches drive (behind ended (answer_to asker was request))) (sym within)
