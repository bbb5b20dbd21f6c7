-- The requests of processes after an attempt of one of them.
use Rattle.std.proofs.Common.{◌≡◌, ◌≢◌, ℕ, zero, suc, Bool, true, false, Option, Some, None, List, [], length, refl, sym, ap, ◌∙◌, inl, inr}
use Rattle.std.specs.Prelude.{slice_index_or, slice_set, if◌then◌else◌}
use Rattle.std.specs.Option.{option_map_or}
use Rattle.std.proofs.lemmas.Bool.{cases_lt}
use Rattle.std.proofs.lemmas.List.{get_or-set_other, get_or-set_same, get_or_past, length-set, set-set}
use Rattle.std.proofs.lemmas.Option.{none-some}
use Rattle.lock_model.specs.History.{dropped}
use Rattle.lock_model.specs.Locks.{lock_of, request_of}
use Rattle.lock_model.specs.Records.{Records, ends_lock, ends_locks_below, entered, with_waiting, without_lock, written_by}
use Rattle.lock_model.specs.declared.lock.Held.{Held}
use Rattle.lock_model.specs.declared.lock.Request.{Request}
use Rattle.io_model.specs.Attempts.{pending_in}
use Rattle.io_model.specs.Step.{IoEnd, answers, fails, keeps}
use Rattle.file_rules.specs.Files.{Files}
use Rattle.file_rules.specs.Locking.{records_after}
use Rattle.file_laws.specs.Devices.{NoneRequested}

-- ---- locks that end

pub without-requests : (path : ℕ) (records : Records) → (without_lock records path).locks.requests ≡ records.locks.requests
without-requests path records = by_lock (lock_of records.locks path)
  where
    by_lock : (lock : Option Held) → (option_map_or (λ (lock : Held). entered records path None (dropped path lock)) lock records).locks.requests ≡ records.locks.requests
    by_lock None = refl
    by_lock (Some lock) = refl

-- a request stays when a size is set
pub size-requests : (same : Bool) (path : ℕ) (lock : Held) (records : Records) → (if same then without_lock records path else written_by records path lock []).locks.requests ≡ records.locks.requests
size-requests true path lock records = without-requests path records
size-requests false path lock records = refl

-- a request stays when a lock ends
pub ends-requests : (ends : ℕ → Held → Bool) (path : ℕ) (records : Records) → (ends_lock ends path records).locks.requests ≡ records.locks.requests
ends-requests ends path records = by_test (option_map_or (ends path) (lock_of records.locks path) false)
  where
    by_test : (test : Bool) → (if test then without_lock records path else records).locks.requests ≡ records.locks.requests
    by_test true = without-requests path records
    by_test false = refl

pub below-requests : (ends : ℕ → Held → Bool) (count : ℕ) (records : Records) → (ends_locks_below ends count records).locks.requests ≡ records.locks.requests
below-requests ends zero records = refl
below-requests ends (suc path) records =
    ends-requests ends path (ends_locks_below ends path records) ∙ below-requests ends path records

-- ---- a request that is dropped

pub emptied-at : (requests : List (Option Request)) (p : ℕ) → slice_index_or (slice_set requests p None) p None ≡ None
emptied-at requests p =
    elim (cases_lt p (length requests)) [
      | inl within ↦ get_or-set_same requests p None None within
      | inr past ↦ get_or_past (slice_set requests p None) p None (rw length-set past)
    ]

-- the requests of the other processes are as they were
abbrev pub KeepsOthers : ℕ → Records → Records → Type 0
KeepsOthers p old new = (q : ℕ) → q ≢ p → request_of new.locks q ≡ request_of old.locks q

pub keeps-same : (p : ℕ) (old new : Records) → new.locks.requests ≡ old.locks.requests → KeepsOthers p old new
keeps-same p old new same q differ = ap (λ (requests : List (Option Request)). slice_index_or requests q None) same

pub keeps-forgotten : (p : ℕ) (records : Records) → KeepsOthers p records (with_waiting records p None)
keeps-forgotten p records q differ = get_or-set_other records.locks.requests p q None None differ

pub forgets-again : (p : ℕ) (records : Records) → with_waiting (with_waiting records p None) p None ≡ with_waiting records p None
forgets-again p records =
    ap (λ (requests : List (Option Request)). record records { locks = record records.locks { requests = requests } })
    (set-set records.locks.requests p None None)

-- what drops a request of a process and no other one
pub none-requested : (p : ℕ) (old new : Files) (records : Records) → KeepsOthers p old.records records → new.records ≡ with_waiting records p None → NoneRequested p old new
none-requested p old new records others is = record {
  none = ap (λ (records : Records). request_of records.locks p) is ∙ emptied-at records.locks.requests p;
  others =
      λ q differ. ap (λ (records : Records). request_of records.locks q) is ∙ keeps-forgotten p records q differ ∙ others q differ;
}

-- a lock ends as well without a request
pub freed-settled : (records : Records) (path p : ℕ) → with_waiting (without_lock records path) p None ≡ without_lock (with_waiting records p None) path
freed-settled records path p = by_lock (lock_of records.locks path)
  where
    by_lock : (lock : Option Held)
        → with_waiting (option_map_or (λ (lock : Held). entered records path None (dropped path lock)) lock records) p
        None ≡ option_map_or (λ (lock : Held). entered (with_waiting records p None) path None (dropped path lock))
        lock (with_waiting records p None)
    by_lock None = refl
    by_lock (Some lock) = refl

-- a call on a terminal or a pipe leaves the records without a request of its process
pub device-settled : (end : IoEnd) (p : ℕ) (records : Records) → records_after end (with_waiting records p None) p ≡ with_waiting records p None
device-settled (answers regs) p records = forgets-again p records
device-settled (fails number) p records = forgets-again p records
device-settled (keeps pending) p records = refl

-- ---- after an attempt

pub over-drops : (end : IoEnd) (records : Records) (p : ℕ) → pending_in end ≡ None → records_after end records p ≡ with_waiting records p None
over-drops (answers regs) records p over = refl
over-drops (fails number) records p over = refl
over-drops (keeps pending) records p over = absurd (none-some pending (sym over))

pub over-requested : (end : IoEnd) (p : ℕ) (old new : Files) (records : Records) → pending_in end ≡ None
    → KeepsOthers p old.records records → new.records ≡ records_after end records p → NoneRequested p old new
over-requested end p old new records over others is =
    none-requested p old new records others (is ∙ over-drops end records p over)

-- an attempt on a terminal or a pipe
pub device-requested : (end : IoEnd) (p : ℕ) (old new : Files) → new.records ≡ records_after end (with_waiting old.records p None) p → NoneRequested p old new
device-requested (answers regs) p old new is =
    none-requested p old new (with_waiting old.records p None) (keeps-forgotten p old.records) is
device-requested (fails number) p old new is =
    none-requested p old new (with_waiting old.records p None) (keeps-forgotten p old.records) is
device-requested (keeps pending) p old new is =
    none-requested p old new old.records (λ q differ. refl) is
