-- The bytes that files have, and what an attempt changes of them under record locks (Level Two manual, RBF record
-- locking).
use Rattle.std.specs.Prelude.{◌≡◌, ◌⊎◌, ℕ, ◌+◌, ◌<◌, ◌≤◌, Some, List, [], length, slice_index_or}
use Rattle.std.specs.Option.{option_map_or}
use Rattle.io_model.specs.Path.{PathTable, desc_of}
use Rattle.io_model.specs.declared.path.Desc.{Desc}
use Rattle.io_model.specs.declared.path.Target.TheVariants.{File}
use Rattle.lock_model.specs.Laws.{IsIn}
use Rattle.lock_model.specs.Locks.{request_of}
use Rattle.lock_model.specs.Records.{Records, written_by}
use Rattle.lock_model.specs.declared.lock.Range.{Range}
use Rattle.lock_model.specs.declared.lock.Request.{Request}
use Rattle.lock_model.specs.declared.place.FilePlace.{FilePlace}
use Rattle.file_rules.specs.Files.{Files, OpenFile, file_in}
use Rattle.file_rules.specs.declared.path_call.PathCall.TheVariants as Call
use Rattle.file_rules.specs.declared.status.TheConstants.{SS_SIZE}
use Rattle.file_laws.specs.Claims.{CoversCall, MadePathCall, NamesOpenFile}
use Rattle.file_laws.specs.Recorded.{IsGranted, IsSent, path_in, settled}

-- the bytes of a file
abbrev pub contents_of : Files → FilePlace → List ℕ
contents_of files place = option_map_or (λ file. file.contents) (file_in files place) []

-- a system path was opened on this file
pub record IsPathOn (paths : PathTable) (path : ℕ) (place : FilePlace) : Type 0 where
  pub desc : Desc
  pub there : desc_of paths path ≡ Some desc
  pub on : desc.target ≡ File place.drive place.number

-- some path is on it
abbrev pub HasPath : Files → FilePlace → Type 0
HasPath files place = (path : ℕ) × IsPathOn files.io.paths path place

-- the byte at a place is there and is the one that was there
pub record KeepsByte (at : ℕ) (old new : List ℕ) : Type 0 where
  pub there : at < length new
  pub same : slice_index_or new at 0 ≡ slice_index_or old at 0

-- a place is before a range, which has a byte
abbrev pub IsBefore : ℕ → Range → Type 0
IsBefore at range = (at < range.start) × IsIn range.start range

-- a byte is the one that was at its place, one of those that were written from a start on, or a zero behind the old
-- end
pub data ComesFrom (start : ℕ) (bytes old : List ℕ) (at byte : ℕ) : Type 0 where
  was : at < length old → byte ≡ slice_index_or old at 0 → ComesFrom start bytes old at byte
  sent : (n : ℕ) → n < length bytes → at ≡ start + n → byte ≡ slice_index_or bytes n 0
      → ComesFrom start bytes old at byte
  filled : length old ≤ at → byte ≡ 0 → ComesFrom start bytes old at byte

-- of the bytes of a file those in a range may change, and be cut off, by a write of these bytes from its start on; each
-- byte that is new is in the range, or before it in the gap that a write past the old end leaves. Only SS.Size, which
-- writes no bytes, cuts some off
pub record ChangesWithin (range : Range) (bytes old new : List ℕ) : Type 0 where
  pub kept : (at : ℕ) → ¬ IsIn at range → at < length old → KeepsByte at old new
  pub gained : (at : ℕ) → at < length new → (at < length old) ⊎ (IsIn at range ⊎ IsBefore at range)
  pub each : (at : ℕ) → at < length new → ComesFrom range.start bytes old at (slice_index_or new at 0)
  pub cuts : length new < length old → bytes ≡ []

-- if the process waits in a request, that is for the file of its call and covers what the call changes
abbrev pub IsCovered : MadePathCall → Type 0
IsCovered m =
    (request : Request) → request_of m.files.records.locks m.asker.caller.process.0 ≡ Some request
    → CoversCall m.call m.asker.caller.regs request
    × ((found : OpenFile) → NamesOpenFile m found → request.lock.file ≡ found.place)

-- a call writes these bytes, also if it ends with the fault of a drive: those that it sends, or none if it is SS.Size
abbrev pub WritesBytes : MadePathCall → OpenFile → List ℕ → Type 0
WritesBytes m found bytes =
    IsSent m found bytes ⊎ (m.call ≡ Call.SetStt) × (m.asker.caller.regs.b ≡ SS_SIZE) × (bytes ≡ [])

-- the bytes of a file stay, or change within the range of a request for bytes of it that is granted, by a write of the
-- bytes that the call writes; and these records have that write, or this is so
pub data ContentsCome (m : MadePathCall) (place : FilePlace) (now : Records) (faulted : Type 0) (old new : List ℕ) :
    Type 0
  where
    stay : new ≡ old → ContentsCome m place now faulted old new
    within : (request : Request) (bytes : List ℕ) (it : IsGranted m request) → request.lock.file ≡ place
        → WritesBytes m it.requests.found bytes → ChangesWithin request.lock.range bytes old new
        → (now ≡ written_by (settled m) (path_in it) request.lock bytes) ⊎ faulted
        → ContentsCome m place now faulted old new
