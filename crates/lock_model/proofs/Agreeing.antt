-- Locks and history agree, and each change keeps it so.
use Rattle.std.proofs.Common.{◌≡◌, ◌<◌, ℕ, zero, suc, Bool, true, false, cond, Option, Some, None, List, ◌∷◌, ◌++◌, length, sym, ap, refl, ◌∙◌, arith, inl, inr, get_or}
use Rattle.std.specs.Option.{option_map_or}
use Rattle.std.proofs.lemmas.Bool.{cases_lt}
use Rattle.std.proofs.lemmas.List.{get_or_past}
use Rattle.lock_model.specs.declared.lock.Held.{Held}
use Rattle.lock_model.specs.declared.lock.Request.{Request}
use Rattle.lock_model.specs.Conflict.{conflicts}
use Rattle.lock_model.specs.History.{dropped}
use Rattle.lock_model.specs.Laws.{AreLocks, MayHold}
use Rattle.lock_model.specs.Locks.{Locks, lock_of, request_of, with_request}
use Rattle.lock_model.specs.Records.{AreLockRecords, Records, entered, ends_lock, ends_locks_below, holding, no_records, with_waiting, without_lock, written_by}
use Rattle.lock_model.specs.Waits.{closes}
use Rattle.lock_model.proofs.Histories.{recorded-got, recorded-put, recorded-dropped, too-short, undisturbed-got, undisturbed-put, undisturbed-dropped}
use Rattle.lock_model.proofs.Keeping.{are-first, are-forgotten, are-granted, are-released, are-waiting, first-free}
use Rattle.lock_model.proofs.Ranks.{none-some}

pub records-first : AreLockRecords no_records
records-first = record {
  locks = are-first;
  recorded = record {
    held = λ path lock is. absurd (none-some lock (sym (first-free path) ∙ is));
    gotten = λ entry last get. absurd (too-short last.before entry last.after last.is);
  };
  undisturbed = λ before between after get entry is is_get none disturbs. too-short (before ++ (get ∷ between)) entry after is;
}

pub records-held : (records : Records) (path : ℕ) (lock : Held) (bytes : List ℕ) → path < 65 → MayHold records.locks lock → AreLockRecords records → AreLockRecords (holding records path lock bytes)
records-held records path lock bytes low may was = record {
  locks = are-granted records.locks path lock may was.locks;
  recorded = recorded-got records.locks records.history path lock bytes (omega (arith, low, was.locks.paths)) was.recorded;
  undisturbed = undisturbed-got records.history path lock bytes was.undisturbed;
}

pub records-written : (records : Records) (path : ℕ) (lock : Held) (bytes : List ℕ) → path < 65
    → conflicts records.locks lock ≡ false → AreLockRecords records → AreLockRecords (written_by records path lock bytes)
records-written records path lock bytes low free was = record {
  locks = are-released records.locks path was.locks;
  recorded = recorded-put records.locks records.history path lock bytes (omega (arith, low, was.locks.paths)) was.recorded;
  undisturbed = undisturbed-put records.locks records.history path lock bytes free was.recorded was.undisturbed;
}

-- a path that holds a lock has a place
has-place : (locks : Locks) (path : ℕ) (lock : Held) → lock_of locks path ≡ Some lock → path < length locks.held
has-place locks path lock is = elim (cases_lt path (length locks.held)) [
  | inl low ↦ low
  | inr past ↦ absurd (none-some lock (sym (get_or_past locks.held path None past) ∙ is))
]

pub records-dropped : (records : Records) (path : ℕ) (lock : Held) → lock_of records.locks path ≡ Some lock → AreLockRecords records → AreLockRecords (entered records path None (dropped path lock))
records-dropped records path lock is was = record {
  locks = are-released records.locks path was.locks;
  recorded = recorded-dropped records.locks records.history path lock (has-place records.locks path lock is) was.recorded;
  undisturbed = undisturbed-dropped records.history path lock was.undisturbed;
}

pub records-without : (records : Records) (path : ℕ) → AreLockRecords records → AreLockRecords (without_lock records path)
records-without records path was = by (lock_of records.locks path) refl
  where
    by : (place : Option Held) → lock_of records.locks path ≡ place → AreLockRecords (option_map_or (λ lock. entered records path None (dropped path lock)) place records)
    by None is = was
    by (Some lock) is = records-dropped records path lock is was

records-ended : (ends : ℕ → Held → Bool) (path : ℕ) (records : Records) → AreLockRecords records → AreLockRecords (ends_lock ends path records)
records-ended ends path records was = by (option_map_or (ends path) (lock_of records.locks path) false)
  where
    by : (b : Bool) → AreLockRecords (cond b (without_lock records path) records)
    by true = records-without records path was
    by false = was

pub records-ended-below : (ends : ℕ → Held → Bool) (count : ℕ) (records : Records) → AreLockRecords records → AreLockRecords (ends_locks_below ends count records)
records-ended-below ends zero records was = was
records-ended-below ends (suc path) records was =
    records-ended ends path (ends_locks_below ends path records) (records-ended-below ends path records was)

-- other requests, and the same locks
pub records-asked : (records : Records) (locks : Locks) → locks.held ≡ records.locks.held → AreLocks locks → AreLockRecords records → AreLockRecords (record records { locks = locks })
records-asked records locks same are was = record {
  locks = are;
  recorded = record {
    held = λ path lock is. was.recorded.held path lock (ap (λ (places : List (Option Held)). get_or places path None) (sym same) ∙ is);
    gotten = λ entry last get. let it = was.recorded.gotten entry last get in
        (it.0, ap (λ (places : List (Option Held)). get_or places entry.path None) same ∙ it.1, it.2);
  };
  undisturbed = was.undisturbed;
}

pub records-waiting : (records : Records) (request : Request) → request_of records.locks request.lock.owner.0 ≡ None
    → closes records.locks request.lock ≡ false → AreLockRecords records
    → AreLockRecords (with_waiting records request.lock.owner.0 (Some request))
records-waiting records request quiet unclosed was =
    records-asked records (with_request records.locks request.lock.owner.0 (Some request)) refl (are-waiting records.locks request quiet unclosed was.locks) was

pub records-forgotten : (records : Records) (p : ℕ) → AreLockRecords records → AreLockRecords (with_waiting records p None)
records-forgotten records p was =
    records-asked records (with_request records.locks p None) refl (are-forgotten records.locks p was.locks) was
