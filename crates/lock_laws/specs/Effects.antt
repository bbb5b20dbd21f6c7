-- What an attempt makes of locks and their history if its request is granted (Level Two manual, RBF record locking).
use Rattle.std.specs.Prelude.{◌≡◌, ℕ, List, length}
use Rattle.io_model.specs.declared.terminal.ReadKind.{ReadKind}
use Rattle.lock_model.specs.Records.{Records, holding, without_lock, written_by}
use Rattle.lock_model.specs.declared.lock.Request.{Request}
use Rattle.file_rules.specs.Files.{OpenFile}
use Rattle.file_rules.specs.Read.{lock_by}
use Rattle.file_rules.specs.Seek.{long_of}
use Rattle.file_rules.specs.declared.path_call.PathCall.TheVariants as Call
use Rattle.file_rules.specs.declared.status.TheConstants.{SS_SIZE}
use Rattle.file_laws.specs.Claims.{MadePathCall}
use Rattle.file_laws.specs.Recorded.{IsSent, IsTaken, settled}

-- a granted request has taken effect: its path holds what was requested, or the line in it that was read; or it has
-- written and holds no lock, as after SS.Size of the present size
pub data TakesEffect (m : MadePathCall) (found : OpenFile) (request : Request) (now : Records) : Type 0 where
  holds : (kind : ReadKind) (bytes : List ℕ) → IsTaken m found request kind bytes
      → now ≡ holding (settled m) found.opened.path.0 (lock_by kind request.lock bytes) bytes
      → TakesEffect m found request now
  writes : (bytes : List ℕ) → IsSent m found bytes
      → now ≡ written_by (settled m) found.opened.path.0 request.lock bytes → TakesEffect m found request now
  frees : m.call ≡ Call.SetStt → m.asker.caller.regs.b ≡ SS_SIZE
      → length found.file.contents ≡ long_of m.asker.caller.regs
      → now ≡ without_lock (settled m) found.opened.path.0 → TakesEffect m found request now
