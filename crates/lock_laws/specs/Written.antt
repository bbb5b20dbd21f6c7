-- Bytes of files that are locked, and those that are written, with the history (Level Two manual, RBF record locking;
-- the history is this project's own).
use Rattle.std.specs.Prelude.{◌≡◌, ◌⊎◌, ℕ, ◌<◌, ◌≤◌, Option, Some, None, List, [], ◌∷◌, ◌++◌, length}
use Rattle.std.specs.List.{AllByRecursion}
use Rattle.lock_model.specs.Laws.{IsIn}
use Rattle.lock_model.specs.declared.history.Entry.{Entry}
use Rattle.lock_model.specs.declared.lock.EntryKind.TheVariants.{Drop, Get, Put}
use Rattle.lock_model.specs.declared.lock.Range.{Range}
use Rattle.lock_model.specs.declared.lock.Request.{Request}
use Rattle.lock_model.specs.declared.place.FilePlace.{FilePlace}
use Rattle.rbf_change.specs.Contents.{bytes_from}
use Rattle.file_rules.specs.Files.{Files}
use Rattle.file_laws.specs.Claims.{MadePathCall}
use Rattle.file_laws.specs.Recorded.{IsGranted}
use Rattle.lock_laws.specs.Contents.{ChangesWithin, KeepsByte, WritesBytes, contents_of}
use Rattle.machine_model.specs.State.{State}
use Rattle.lock_laws.specs.Cycles.{AttemptsSo, EndsInFault}

-- each byte that a file has in a range stays; if the range has no end, the file is given none in it
pub record KeepsLocked (range : Range) (old new : List ℕ) : Type 0 where
  pub kept : (at : ℕ) → IsIn at range → at < length old → KeepsByte at old new
  pub none_new : range.end ≡ None → (at : ℕ) → range.start ≤ at → at < length new → at < length old

-- the history has gained these entries
pub record HasGained (s t : State) : Type 0 where
  pub entries : List Entry
  pub is : t.files.records.history ≡ s.files.records.history ++ entries

-- an entry is that of a lock that ended without a Get or a Put, or one of the chosen process
abbrev pub IsEntryOf : Option ℕ → Entry → Type 0
IsEntryOf chosen entry = (entry.kind ≡ Drop) ⊎ (chosen ≡ Some entry.process)

-- each entry that the history has gained is one of these
pub record GainsOwn (s t : State) : Type 0 where
  pub gained : HasGained s t
  pub own : AllByRecursion (IsEntryOf s.chosen) gained.entries

-- contents have these bytes from a place on
abbrev pub HasBytesAt : List ℕ → ℕ → List ℕ → Type 0
HasBytesAt contents at bytes = bytes_from contents at (length bytes) ≡ bytes

-- if an entry is that of a read, it has the bytes that the file had from the start of its range on
abbrev pub HasBytesIfGet : Files → Entry → Type 0
HasBytesIfGet files entry =
    entry.kind ≡ Get → HasBytesAt (contents_of files entry.file) entry.range.start entry.bytes

-- each entry that the history has gained is so
pub record GainsRead (s t : State) : Type 0 where
  pub gained : HasGained s t
  pub read : AllByRecursion (HasBytesIfGet s.files) gained.entries

-- if an entry is that of a write, the file has its bytes from the start of its range on
abbrev pub IsPutIn : Files → Entry → Type 0
IsPutIn files entry =
    entry.kind ≡ Put → HasBytesAt (contents_of files entry.file) entry.range.start entry.bytes

-- each entry that the history has gained is so of the files after it
pub record GainsPut (s t : State) : Type 0 where
  pub gained : HasGained s t
  pub put : AllByRecursion (IsPutIn t.files) gained.entries

-- the last entry of the history is new: the chosen process wrote a range of the file, which has all that has changed,
-- but for the zeros that fill a gap between the old end and the range; the file has the bytes of the entry then from
-- the start of the range on (SS.Size enters none), and any other byte is as it was, or a zero behind the old end
pub record IsFileWritten (s t : State) (place : FilePlace) : Type 0 where
  pub entry : Entry
  pub last : t.files.records.history ≡ s.files.records.history ++ entry ∷ []
  pub writes : entry.kind ≡ Put
  pub process : s.chosen ≡ Some entry.process
  pub file : entry.file ≡ place
  pub within : ChangesWithin entry.range entry.bytes (contents_of s.files place) (contents_of t.files place)
  pub bytes : HasBytesAt (contents_of t.files place) entry.range.start entry.bytes

-- a call changes a file in the range of its granted request, by a write of the bytes that it writes
pub record WritesWithin (m : MadePathCall) (place : FilePlace) (old new : List ℕ) : Type 0 where
  pub request : Request
  pub granted : IsGranted m request
  pub file : request.lock.file ≡ place
  pub bytes : List ℕ
  pub writes : WritesBytes m granted.requests.found bytes
  pub within : ChangesWithin request.lock.range bytes old new

-- the call of the chosen process is answered the fault of a drive, and has changed the file only so
pub record IsFileWriteCutShort (s t : State) (place : FilePlace) : Type 0 where
  pub fault : EndsInFault s t
  pub within : AttemptsSo (λ m. WritesWithin m place (contents_of s.files place) (contents_of t.files place)) s
