-- The numbers of living processes.
use Rattle.std.proofs.Common.{◌≡◌, ℕ, ◌<◌, ◌≤◌, Option, None, List, length, sym, ap, ◌∙◌, arith, inl, inr, ◌⊎◌}
use Rattle.std.proofs.lemmas.List.{get_or_past}
use Rattle.std.proofs.lemmas.Bool.{false≢true, cases_lt}
use Rattle.proc_model.specs.declared.record.Record.{Record}
use Rattle.proc_model.specs.Records.{IsLiving, IsProcessNumber, AreProcessRecords, record_of, record_passes}

-- a process without a record does not live
no_life : (records : List (Option Record)) (p : ℕ) → record_of records p ≡ None → IsLiving records p → ⊥
no_life records p none lives = false≢true (sym (ap (record_passes _) none) ∙ lives)

-- a living process has a place
pub place-living : (records : List (Option Record)) (p : ℕ) → IsLiving records p → p < length records
place-living records p lives = within (cases_lt p (length records))
  where
    within : (p < length records) ⊎ (length records ≤ p) → p < length records
    within (inl below) = below
    within (inr past) = absurd (no_life records p (get_or_past {X = Option Record} records p None past) lives)

-- a living process has one of the numbers of processes
pub IsProcess-living : (records : List (Option Record)) (p : ℕ) → AreProcessRecords records → IsLiving records p → IsProcessNumber p
IsProcess-living records p are lives =
    (from_two (cases_lt p 2), omega (arith, are.places, place-living records p lives))
  where
    from_two : (p < 2) ⊎ (2 ≤ p) → 2 ≤ p
    from_two (inl low) = absurd (no_life records p (are.from_two p low) lives)
    from_two (inr high) = high
