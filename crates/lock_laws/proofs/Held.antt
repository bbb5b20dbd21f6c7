-- What an event of a process leaves of locks and requests; each lock stays on the file of its path.
use Rattle.std.proofs.Common.{◌≡◌, ◌≢◌, ◌⊎◌, ℕ, ◌==◌, ◌<◌, ◌≤◌, ◌||◌, Bool, true, false, Option, Some, None, is_none, List, length, refl, sym, ap, ◌∙◌, inl, inr, arith}
use Rattle.std.specs.Prelude.{slice_index_or}
use Rattle.std.proofs.lemmas.Bool.{cases_lt, eq-eqb, eqb-true, false≢true}
use Rattle.std.proofs.lemmas.List.{get_or_past}
use Rattle.std.proofs.lemmas.Option.{none-some}
use Rattle.io_model.specs.Path.{PathTable, desc_of, holds_path}
use Rattle.io_model.specs.declared.path.Desc.{Desc}
use Rattle.lock_model.specs.Locks.{lock_of, request_of}
use Rattle.lock_model.specs.Records.{Records, ends_locks_below, with_waiting}
use Rattle.lock_model.specs.declared.lock.Held.{Held}
use Rattle.lock_model.specs.declared.lock.TheConstants.{PATH_PLACES}
use Rattle.lock_model.specs.declared.place.FilePlace.{FilePlace}
use Rattle.io_model.specs.Processes.{io_ended}
use Rattle.file_rules.specs.Files.{Files}
use Rattle.file_rules.specs.Locking.{files_interrupted, lock_ends}
use Rattle.file_rules.specs.Processes.{files_ended}
use Rattle.file_laws.proofs.Requests.{keeps-forgotten}
use Rattle.call_laws.proofs.Requested.{none-ended}
use Rattle.lock_laws.specs.Contents.{IsPathOn}
use Rattle.lock_laws.specs.Locked.{AreAgreed}
use Rattle.lock_laws.proofs.Descs.{Goes, closes-ended, interrupted-paths, number-holds}
use Rattle.lock_laws.proofs.DeviceDescriptors.{DescsStay}
use Rattle.lock_laws.proofs.LockTables.{below-held, below-stays, below-was}

-- each lock is of a path that was opened on its file
abbrev pub AreHeldOn : Files → Type 0
AreHeldOn files =
    (path : ℕ) (lock : Held) → lock_of files.records.locks path ≡ Some lock → IsPathOn files.io.paths path lock.file

-- what a process leaves of locks and of the requests of the others
pub record LeavesRecords (p : ℕ) (old new : Files) : Type 0 where
  pub requests : (q : ℕ) → q ≢ p → request_of new.records.locks q ≡ request_of old.records.locks q
  pub held : (path : ℕ) (lock : Held) → lock_of old.records.locks path ≡ Some lock
      → (lock_of new.records.locks path ≡ Some lock)
      ⊎ ((lock.owner.0 ≡ p) ⊎ (holds_path old.io.paths p path ≡ true))
  pub gained : (path : ℕ) (lock : Held) → lock_of new.records.locks path ≡ Some lock
      → (lock_of old.records.locks path ≡ Some lock) ⊎ (lock.owner.0 ≡ p)
  pub on : AreHeldOn new

-- each path that is on a file stays on it
abbrev pub OnStay : PathTable → PathTable → Type 0
OnStay old new = (path : ℕ) (place : FilePlace) → IsPathOn old path place → IsPathOn new path place

-- its descriptor stays, but for its position and its ticks
pub on-like : (old new : PathTable) → DescsStay old new → OnStay old new
on-like old new stay path place on =
    let (now, there, like) = stay path on.desc on.there in
    record { desc = now; there = there; on = ap (λ (desc : Desc). desc.target) like ∙ on.on }

pub on-same : (old new : PathTable) (path : ℕ) (place : FilePlace) → desc_of new path ≡ desc_of old path → IsPathOn old path place → IsPathOn new path place
on-same old new path place same on = record { desc = on.desc; there = same ∙ on.there; on = on.on }

-- ---- the locks are the same

pub same-leaves : (p : ℕ) (old new : Files) → ((q : ℕ) → q ≢ p → request_of new.records.locks q ≡ request_of old.records.locks q)
    → new.records.locks.held ≡ old.records.locks.held → OnStay old.io.paths new.io.paths → AreHeldOn old
    → LeavesRecords p old new
same-leaves p old new requests same stay on = record {
  requests = requests;
  held = λ path lock is. inl (at path ∙ is);
  gained = λ path lock is. inl (sym (at path) ∙ is);
  on = λ path lock is. stay path lock.file (on path lock (sym (at path) ∙ is));
}
  where
    at : (path : ℕ) → lock_of new.records.locks path ≡ lock_of old.records.locks path
    at path = ap (λ (held : List (Option Held)). slice_index_or held path None) same

module _ (files : Files) (p : ℕ) (agreed : AreAgreed files) (on : AreHeldOn files) where
  stay-by : (new : PathTable) → new.descs ≡ files.io.paths.descs → OnStay files.io.paths new
  stay-by new same path place =
      on-same files.io.paths new path place (ap (λ (descs : List (Option Desc)). slice_index_or descs path None) same)

  -- nothing has changed of records and descriptors
  pub still-leaves : (new : Files) → new.records ≡ files.records → new.io.paths.descs ≡ files.io.paths.descs → LeavesRecords p files new
  still-leaves new records descs =
      same-leaves p files new (λ q differ. ap (λ (records : Records). request_of records.locks q) records)
      (ap (λ (records : Records). records.locks.held) records) (stay-by new.io.paths descs) on

  pub interrupted-leaves : LeavesRecords p files (files_interrupted files p)
  interrupted-leaves =
      same-leaves p files (files_interrupted files p) (keeps-forgotten p files.records) refl
      (stay-by (files_interrupted files p).io.paths (ap (λ (paths : PathTable). paths.descs) (interrupted-paths files.io p))) on

  -- ---- what an ended process had is closed

  abbrev ended_paths : PathTable
  ended_paths = (io_ended files.io p).paths

  abbrev over : ℕ → Held → Bool
  over = lock_ends ended_paths (λ owner. owner == p)

  ends-so : (path : ℕ) (lock : Held) → lock_of files.records.locks path ≡ Some lock → over path lock ≡ true → (lock.owner.0 ≡ p) ⊎ (holds_path files.io.paths p path ≡ true)
  ends-so path lock is passes = by_desc ((closes-ended p files.io).descs path)
    where
      there : IsPathOn files.io.paths path lock.file
      there = on path lock is

      by_desc : (desc_of ended_paths path ≡ desc_of files.io.paths path) ⊎ Goes p files.io.paths ended_paths path
          → (lock.owner.0 ≡ p) ⊎ (holds_path files.io.paths p path ≡ true)
      by_desc (inl same) =
          inl (eqb-true lock.owner.0 p (sym (ap (λ (desc : Option Desc). is_none desc || (lock.owner.0 == p)) (same ∙ there.there)) ∙ passes))
      by_desc (inr (none, has)) = inr (number-holds files.io.paths p path has)

  -- a lock that is there then was there, and has not passed the test
  module _ (path : ℕ) (lock : Held) (is : lock_of (files_ended files p).records.locks path ≡ Some lock) where
    ended-was : lock_of files.records.locks path ≡ Some lock
    ended-was = below-was over PATH_PLACES (with_waiting files.records p None) path lock is

    ended-stays : over path lock ≡ false
    ended-stays = below-stays over PATH_PLACES (with_waiting files.records p None) path lock (low (cases_lt path (length files.records.locks.held))) is
      where
        low : (path < length files.records.locks.held) ⊎ (length files.records.locks.held ≤ path) → path < PATH_PLACES
        low (inl within) = omega (arith, within, agreed.records.locks.paths)
        low (inr past) =
            absurd (none-some lock (sym (get_or_past files.records.locks.held path None past) ∙ ended-was))

    -- it is not one of the process
    pub ended-owned : lock.owner.0 ≡ p → ⊥
    ended-owned same =
        neither (is_none (desc_of ended_paths path)) (lock.owner.0 == p) (eq-eqb lock.owner.0 p same) ended-stays
      where
        neither : (one two : Bool) → two ≡ true → (one || two) ≡ false → ⊥
        neither true two is none = false≢true (sym none)
        neither false two is none = false≢true (sym none ∙ is)

  ended-on : AreHeldOn (files_ended files p)
  ended-on path lock is = by_desc ((closes-ended p files.io).descs path)
    where
      by_desc : (desc_of ended_paths path ≡ desc_of files.io.paths path) ⊎ Goes p files.io.paths ended_paths path → IsPathOn ended_paths path lock.file
      by_desc (inl same) = on-same files.io.paths ended_paths path lock.file same (on path lock (ended-was path lock is))
      by_desc (inr (none, has)) =
          absurd (false≢true (sym (ended-stays path lock is) ∙ ap (λ (desc : Option Desc). is_none desc || (lock.owner.0 == p)) none))

  pub ended-leaves : LeavesRecords p files (files_ended files p)
  ended-leaves = record {
    requests = (none-ended files p).others;
    held = λ path lock is. by_end path lock is (below-held over PATH_PLACES (with_waiting files.records p None) path lock is);
    gained = λ path lock is. inl (below-was over PATH_PLACES (with_waiting files.records p None) path lock is);
    on = ended-on;
  }
    where
      ended_records : Records
      ended_records = ends_locks_below over PATH_PLACES (with_waiting files.records p None)

      by_end : (path : ℕ) (lock : Held) → lock_of files.records.locks path ≡ Some lock
          → (lock_of ended_records.locks path ≡ Some lock) ⊎ (over path lock ≡ true)
          → (lock_of ended_records.locks path ≡ Some lock) ⊎ ((lock.owner.0 ≡ p) ⊎ (holds_path files.io.paths p path ≡ true))
      by_end path lock is (inl stays) = inl stays
      by_end path lock is (inr passes) = inr (ends-so path lock is passes)
