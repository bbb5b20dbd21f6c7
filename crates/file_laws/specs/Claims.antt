-- What calls on files request of records (Level Two manual, RBF record locking).
use Rattle.std.specs.Prelude.{◌≡◌, ◌≢◌, ◌⊎◌, ℕ, ◌+◌, ◌<◌, ◌≤◌, ⊤, true, IsSome, Some, None, List, length}
use Rattle.os9_base.specs.declared.calls.TheConstants.{F_PERR, I_WRITE, I_WRITLN}
use Rattle.os9_base.specs.declared.registers.Regs.{Regs}
use Rattle.proc_model.specs.UserBytes.{user_bytes}
use Rattle.io_model.specs.declared.terminal.ReadKind.{ReadKind}
use Rattle.io_model.specs.declared.terminal.ReadKind.TheVariants.{Bytes, WholeLine}
use Rattle.lock_model.specs.Laws.{Covers}
use Rattle.lock_model.specs.Locks.{request_of}
use Rattle.lock_model.specs.Waits.{Closes, Opposes}
use Rattle.lock_model.specs.declared.lock.Request.{Request}
use Rattle.io_model.specs.Modes.{can_read, can_write}
use Rattle.io_model.specs.Write.{error_line}
use Rattle.file_rules.specs.Files.{Asker, Files, OpenFile, open_file}
use Rattle.file_rules.specs.Locking.{is_for_update, pending_request, request_now}
use Rattle.file_rules.specs.Read.{read_claim, read_start}
use Rattle.file_rules.specs.Seek.{long_of}
use Rattle.file_rules.specs.Status.{lock_claim, size_claim}
use Rattle.file_rules.specs.Write.{line_moved, write_claim}
use Rattle.file_rules.specs.declared.claim.Claim.{Claim}
use Rattle.file_rules.specs.declared.path_call.PathCall.{PathCall}
use Rattle.file_rules.specs.declared.path_call.PathCall.TheVariants as Call
use Rattle.file_rules.specs.declared.status.TheConstants.{SS_LOCK, SS_SIZE}
use Rattle.file_laws.specs.Devices.{number_in}

-- a call that a process makes, on a machine with `terms` terminals
pub record MadePathCall : Type 0 where
  pub call : PathCall
  pub asker : Asker
  pub files : Files
  pub terms : ℕ

-- its number names a path on this file
abbrev pub NamesOpenFile : MadePathCall → OpenFile → Type 0
NamesOpenFile m found = open_file m.files m.asker.caller.process.0 (number_in m.call m.asker) ≡ Some found

-- ---- the bytes that a call requests

-- the call that reads so
abbrev pub read_call : ReadKind → PathCall
read_call Bytes = Call.Read
read_call WholeLine = Call.ReadLn

-- the path may be read, and the call has a buffer for a byte
abbrev pub CanRead : Asker → OpenFile → Type 0
CanRead asker found =
    IsSome (user_bytes asker.caller.cells asker.caller.regs.x asker.caller.regs.y)
    × (can_read found.opened.desc.mode ≡ true) × (0 < asker.caller.regs.y)

-- the path may be written, and the call has a byte to write
abbrev pub CanWrite : Asker → OpenFile → Type 0
CanWrite asker found = (can_write found.opened.desc.mode ≡ true) × (0 < asker.caller.regs.y)

-- a call on a file claims these bytes of it: nothing that is tested before refuses it. A path that may be read and
-- written claims what it reads, if it does not begin at the end of the file; each write claims what it writes; SS.Size
-- all from the smaller size on; and SS.Lock what it locks
pub data Claims (call : PathCall) (asker : Asker) (files : Files) (found : OpenFile) (claim : Claim) : Type 0 where
  reads : (kind : ReadKind) → call ≡ read_call kind → CanRead asker found
      → is_for_update found.opened.desc.mode ≡ true → read_start asker files found < length found.file.contents
      → claim ≡ read_claim kind asker found (read_start asker files found) → Claims call asker files found claim
  writes : (bytes : List ℕ) → call ≡ Call.Write → CanWrite asker found
      → user_bytes asker.caller.cells asker.caller.regs.x asker.caller.regs.y ≡ Some bytes
      → claim ≡ write_claim found I_WRITE (length bytes) → Claims call asker files found claim
  writes_line : (bytes : List ℕ) → call ≡ Call.WritLn → CanWrite asker found
      → line_moved asker (pending_request asker files) ≡ Some bytes
      → claim ≡ write_claim found I_WRITLN (length bytes) → Claims call asker files found claim
  tells_error : call ≡ Call.PErr → can_write found.opened.desc.mode ≡ true
      → claim ≡ write_claim found F_PERR (length (error_line asker.caller.regs.b)) → Claims call asker files found claim
  sizes : call ≡ Call.SetStt → asker.caller.regs.b ≡ SS_SIZE → can_write found.opened.desc.mode ≡ true
      → claim ≡ size_claim found (long_of asker.caller.regs) → Claims call asker files found claim
  locks : call ≡ Call.SetStt → asker.caller.regs.b ≡ SS_LOCK → is_for_update found.opened.desc.mode ≡ true
      → long_of asker.caller.regs ≢ 0 → claim ≡ lock_claim found (long_of asker.caller.regs)
      → Claims call asker files found claim

-- an attempt makes this request, for bytes of the file that its number names: at the first attempt those that the
-- call claims, and at a further one those that it has waited for
pub record Requests (m : MadePathCall) (request : Request) : Type 0 where
  pub found : OpenFile
  pub names : NamesOpenFile m found
  pub claim : Claim
  pub claims : Claims m.call m.asker m.files found claim
  pub is : request ≡ request_now m.asker m.files found claim

-- it is the first attempt of its call: the process waits in no request
abbrev pub IsFirstAttempt : MadePathCall → Type 0
IsFirstAttempt m = request_of m.files.records.locks m.asker.caller.process.0 ≡ None

-- an attempt is the first one of its call, its request would wait, and that would close a cycle of waits
pub record ClosesCycle (m : MadePathCall) : Type 0 where
  pub request : Request
  pub requests : Requests m request
  pub first : IsFirstAttempt m
  pub waits : request.ticks ≢ 1
  pub closes : Closes m.files.records.locks request.lock

-- a request does not wait: at the first attempt of its call if its path has 1 tick, and at a further one if the ticks
-- of its path have passed since the first one
abbrev pub WaitsNot : MadePathCall → Request → Type 0
WaitsNot m request =
    IsFirstAttempt m × (request.ticks ≡ 1)
    ⊎ (request_of m.files.records.locks m.asker.caller.process.0 ≡ Some request) × (1 < request.ticks)
    × (request.since + request.ticks ≤ m.asker.tick)

-- a lock of another process conflicts with the request of an attempt, which does not wait
pub record IsLockedOut (m : MadePathCall) : Type 0 where
  pub request : Request
  pub requests : Requests m request
  pub owner : ℕ
  pub opposes : Opposes m.files.records.locks request.lock owner
  pub waits_not : WaitsNot m request

-- ---- the bytes that a call changes

-- the range of a request has all bytes that its call, made with these registers, reads or changes
abbrev pub CoversCall : PathCall → Regs → Request → Type 0
CoversCall Call.Read regs request = Covers request.lock.range regs.y
CoversCall Call.ReadLn regs request = Covers request.lock.range regs.y
CoversCall Call.Write regs request = Covers request.lock.range regs.y
CoversCall Call.WritLn regs request = Covers request.lock.range request.count
CoversCall Call.PErr regs request = Covers request.lock.range (length (error_line regs.b))
CoversCall Call.SetStt regs request =
    regs.b ≡ SS_SIZE → (request.lock.range.end ≡ None) × (request.lock.range.start ≤ long_of regs)
CoversCall call regs request = ⊤
