-- What an attempt makes of locks, of requests that wait and of their history (Level Two manual, RBF record locking).
use Rattle.std.specs.Prelude.{◌≡◌, ◌≢◌, ℕ, ◌==◌, ◌||◌, Bool, true, false, Some, None, List, [], length}
use Rattle.proc_model.specs.UserBytes.{user_bytes}
use Rattle.io_model.specs.Path.{desc_of}
use Rattle.io_model.specs.declared.terminal.ReadKind.{ReadKind}
use Rattle.io_model.specs.declared.terminal.ReadKind.TheVariants.{Bytes}
use Rattle.io_model.specs.Close.{after_close}
use Rattle.io_model.specs.Write.{error_line}
use Rattle.lock_model.specs.Records.{Records, holding, with_waiting, without_lock, written_by}
use Rattle.lock_model.specs.declared.lock.Grant.TheVariants.{Granted, Wait}
use Rattle.lock_model.specs.declared.lock.Request.{Request}
use Rattle.file_rules.specs.Files.{OpenFile}
use Rattle.file_rules.specs.Locking.{answer_to, is_for_update, pending_request}
use Rattle.file_rules.specs.Read.{bytes_at, lock_by}
use Rattle.file_rules.specs.Seek.{long_of}
use Rattle.file_rules.specs.Write.{line_moved}
use Rattle.file_rules.specs.declared.path_call.PathCall.{PathCall}
use Rattle.file_rules.specs.declared.path_call.PathCall.TheVariants as Call
use Rattle.file_rules.specs.declared.status.TheConstants.{SS_LOCK, SS_SIZE}
use Rattle.file_laws.specs.Claims.{MadePathCall, NamesOpenFile, Requests, read_call}

-- the records without a request of the process
abbrev pub settled : MadePathCall → Records
settled m = with_waiting m.files.records m.asker.caller.process.0 None

-- an attempt makes a request, which is granted
pub record IsGranted (m : MadePathCall) (request : Request) : Type 0 where
  pub requests : Requests m request
  pub answer : answer_to m.asker m.files request ≡ Granted

-- the system path of the call
abbrev pub path_in : {m : MadePathCall} {request : Request} → IsGranted m request → ℕ
path_in it = it.requests.found.opened.path.0

-- a lock is taken with these bytes: a read has those of the file from the start of its range on, and SS.Lock has none
pub data IsTaken (m : MadePathCall) (found : OpenFile) (request : Request) (kind : ReadKind) (bytes : List ℕ) : Type 0
  where
    by_read : m.call ≡ read_call kind → bytes ≡ bytes_at kind m.asker found request.lock.range.start
        → IsTaken m found request kind bytes
    by_lock : m.call ≡ Call.SetStt → m.asker.caller.regs.b ≡ SS_LOCK → kind ≡ Bytes → bytes ≡ []
        → IsTaken m found request kind bytes

-- a call writes these bytes; SS.Size of another size writes none
pub data IsSent (m : MadePathCall) (found : OpenFile) (bytes : List ℕ) : Type 0 where
  by_write : m.call ≡ Call.Write
      → user_bytes m.asker.caller.cells m.asker.caller.regs.x m.asker.caller.regs.y ≡ Some bytes → IsSent m found bytes
  by_line : m.call ≡ Call.WritLn → line_moved m.asker (pending_request m.asker m.files) ≡ Some bytes
      → IsSent m found bytes
  by_error : m.call ≡ Call.PErr → bytes ≡ error_line m.asker.caller.regs.b → IsSent m found bytes
  by_size : m.call ≡ Call.SetStt → m.asker.caller.regs.b ≡ SS_SIZE
      → length found.file.contents ≢ long_of m.asker.caller.regs → bytes ≡ [] → IsSent m found bytes

-- a call ends the lock of its path: I$Close with the last number of the path, SS.Lock of no byte, and SS.Size of the
-- present size if its request is granted
pub data EndsLock (m : MadePathCall) (found : OpenFile) : Type 0 where
  by_close : m.call ≡ Call.Close
      → desc_of (after_close m.files.io m.asker.caller.process.0 m.asker.caller.regs.a).paths found.opened.path.0 ≡ None
      → EndsLock m found
  by_lock : m.call ≡ Call.SetStt → m.asker.caller.regs.b ≡ SS_LOCK → is_for_update found.opened.desc.mode ≡ true
      → long_of m.asker.caller.regs ≡ 0 → EndsLock m found
  by_size : (request : Request) (it : IsGranted m request) → found ≡ it.requests.found → m.call ≡ Call.SetStt
      → m.asker.caller.regs.b ≡ SS_SIZE → length found.file.contents ≡ long_of m.asker.caller.regs → EndsLock m found

-- what an attempt makes of the records. A request of its process waits afterwards only if the attempt waits in it
pub data RecordsCome (m : MadePathCall) (now : Records) : Type 0 where
  stay : now ≡ settled m → RecordsCome m now
  -- its path holds the range requested, or the line in it that was read
  holds : (request : Request) (kind : ReadKind) (bytes : List ℕ) (it : IsGranted m request)
      → IsTaken m it.requests.found request kind bytes
      → now ≡ holding (settled m) (path_in it) (lock_by kind request.lock bytes) bytes → RecordsCome m now
  -- the range requested was written, or cut off; its path holds no lock
  writes : (request : Request) (bytes : List ℕ) (it : IsGranted m request) → IsSent m it.requests.found bytes
      → now ≡ written_by (settled m) (path_in it) request.lock bytes → RecordsCome m now
  -- the lock of its path ends
  ends : (found : OpenFile) → NamesOpenFile m found → EndsLock m found
      → now ≡ without_lock (settled m) found.opened.path.0 → RecordsCome m now
  -- it waits in its request
  waits : (request : Request) → Requests m request → answer_to m.asker m.files request ≡ Wait
      → now ≡ with_waiting m.files.records request.lock.owner.0 (Some request) → RecordsCome m now

-- a call may change locks, by its name and the code in B: the reads and writes, I$Close, SS.Lock and SS.Size
abbrev pub may_change_locks : PathCall → ℕ → Bool
may_change_locks Call.Read code = true
may_change_locks Call.ReadLn code = true
may_change_locks Call.Write code = true
may_change_locks Call.WritLn code = true
may_change_locks Call.PErr code = true
may_change_locks Call.Close code = true
may_change_locks Call.SetStt code = (code == SS_LOCK) || (code == SS_SIZE)
may_change_locks call code = false
