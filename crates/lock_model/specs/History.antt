-- The history of reads and writes under locks (this project's own).
use Rattle.std.specs.Prelude.{◌≡◌, ◌≢◌, ℕ, ◌≤◌, true, Some, List, [], ◌∷◌, ◌++◌}
use Rattle.lock_model.specs.Conflict.{overlaps, is_same_file}
use Rattle.lock_model.specs.declared.history.Entry.{Entry}
use Rattle.lock_model.specs.declared.lock.EntryKind.TheVariants.{Get, Put, Drop}
use Rattle.lock_model.specs.declared.lock.Held.{Held}
use Rattle.lock_model.specs.declared.lock.Range.{Range}
use Rattle.lock_model.specs.Locks.{Locks, lock_of}

-- the entry of a lock granted to a path, with the bytes read
abbrev pub got : ℕ → Held → List ℕ → Entry
got path lock bytes = record {
  kind = Get;
  process = lock.owner.0;
  path = path;
  file = lock.file;
  range = lock.range;
  bytes = bytes;
}

-- the entry of a write on a path, with the lock granted for it and the bytes written
abbrev pub put : ℕ → Held → List ℕ → Entry
put path lock bytes = record {
  kind = Put;
  process = lock.owner.0;
  path = path;
  file = lock.file;
  range = lock.range;
  bytes = bytes;
}

-- the entry of a path's lock that ended without a Get or a Put
abbrev pub dropped : ℕ → Held → Entry
dropped path lock = record {
  kind = Drop;
  process = lock.owner.0;
  path = path;
  file = lock.file;
  range = lock.range;
  bytes = [];
}

-- one range lies in another
pub record Within (inner outer : Range) : Type 0 where
  pub from : outer.start ≤ inner.start
  pub to : (end : ℕ) → outer.end ≡ Some end → (last : ℕ) × (inner.end ≡ Some last) × (last ≤ end)

-- an entry is another process's Put on the file of a Get, and overlaps its range
pub record Disturbs (get entry : Entry) : Type 0 where
  pub writes : entry.kind ≡ Put
  pub other : entry.process ≢ get.process
  pub file : is_same_file entry.file get.file ≡ true
  pub overlap : overlaps entry.range get.range ≡ true

-- a Get and the next entry of its path, which is a Put of the same process in its range: a read for update, and the
-- write of that update
pub record IsPair (get : Entry) (between : List Entry) (written : Entry) : Type 0 where
  pub is_get : get.kind ≡ Get
  pub is_put : written.kind ≡ Put
  pub same_path : written.path ≡ get.path
  pub same_process : written.process ≡ get.process
  pub within : Within written.range get.range
  pub next : (a c : List Entry) (entry : Entry) → between ≡ a ++ entry ∷ c → entry.path ≢ get.path

-- a read for update and its write are one step of the file's history: between them, no other process writes a byte of
-- the range read
abbrev pub AtomicPairs : List Entry → Type 0
AtomicPairs history =
    (before between after : List Entry) (get written : Entry)
    → history ≡ before ++ (get ∷ between) ++ (written ∷ after) → IsPair get between written
    → (a c : List Entry) (entry : Entry) → between ≡ a ++ entry ∷ c → Disturbs get entry → ⊥

-- ---- why it holds

-- none of these entries is of this path
abbrev pub NoneOf : ℕ → List Entry → Type 0
NoneOf path entries = (a c : List Entry) (entry : Entry) → entries ≡ a ++ entry ∷ c → entry.path ≢ path

-- an entry of a history is the last one of its path
pub record IsLastEntry (history : List Entry) (entry : Entry) : Type 0 where
  pub before : List Entry
  pub after : List Entry
  pub is : history ≡ before ++ entry ∷ after
  pub none : NoneOf entry.path after

-- a path holds a lock if and only if its last entry is a Get, with the lock's owner, file and range
pub record AreRecorded (locks : Locks) (history : List Entry) : Type 0 where
  pub held : (path : ℕ) (lock : Held) → lock_of locks path ≡ Some lock
      → (bytes : List ℕ) × IsLastEntry history (got path lock bytes)
  pub gotten : (entry : Entry) → IsLastEntry history entry → entry.kind ≡ Get
      → (lock : Held) × (lock_of locks entry.path ≡ Some lock) × (entry ≡ got entry.path lock entry.bytes)

-- after a Get that is the last entry of its path, no other process has written a byte of its range
abbrev pub AreUndisturbed : List Entry → Type 0
AreUndisturbed history =
    (before between after : List Entry) (get entry : Entry)
    → history ≡ before ++ (get ∷ between) ++ (entry ∷ after) → get.kind ≡ Get → NoneOf get.path between
    → Disturbs get entry → ⊥
