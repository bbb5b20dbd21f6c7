-- What ends of locks leave of the others.
use Rattle.std.proofs.Common.{◌≡◌, ◌≢◌, ◌⊎◌, ℕ, zero, suc, ◌<◌, Bool, true, false, Option, Some, None, length, refl, sym, ap, ◌∙◌, inl, inr, arith}
use Rattle.std.specs.Prelude.{if◌then◌else◌}
use Rattle.std.specs.Option.{option_map_or}
use Rattle.std.proofs.lemmas.Bool.{cases_eq, cases_lt}
use Rattle.std.proofs.lemmas.List.{get_or-set_other, get_or-set_same, get_or_past, length-set}
use Rattle.std.proofs.lemmas.Option.{none-some, same_Some}
use Rattle.lock_model.specs.History.{dropped}
use Rattle.lock_model.specs.Locks.{Locks, lock_of, with_lock}
use Rattle.lock_model.specs.Records.{Records, ends_lock, ends_locks_below, entered, without_lock}
use Rattle.lock_model.specs.declared.lock.Held.{Held}
use Rattle.lock_model.proofs.Ranks.{get-emptied}

-- a path whose lock is taken holds none
taken : (locks : Locks) (path : ℕ) → lock_of (with_lock locks path None) path ≡ None
taken locks path =
    elim (cases_lt path (length locks.held)) [
      | inl within ↦ get_or-set_same locks.held path None None within
      | inr past ↦ get_or_past (with_lock locks path None).held path None (rw length-set past)
    ]

-- ---- the lock of one path

-- the locks of the other paths stay when one ends
pub without-other : (records : Records) (path other : ℕ) → other ≢ path → lock_of (without_lock records path).locks other ≡ lock_of records.locks other
without-other records path other differ = by_lock (lock_of records.locks path)
  where
    by_lock : (place : Option Held) → lock_of (option_map_or (λ (lock : Held). entered records path None (dropped path lock)) place records).locks other ≡ lock_of records.locks other
    by_lock None = refl
    by_lock (Some lock) = get_or-set_other records.locks.held path other None None differ

-- each lock that is there then was there
pub without-was : (records : Records) (path other : ℕ) (lock : Held) → lock_of (without_lock records path).locks other ≡ Some lock → lock_of records.locks other ≡ Some lock
without-was records path other lock is = by_lock (lock_of records.locks path) is
  where
    by_lock : (place : Option Held) → lock_of (option_map_or (λ (lock : Held). entered records path None (dropped path lock)) place records).locks other ≡ Some lock
        → lock_of records.locks other ≡ Some lock
    by_lock None is = is
    by_lock (Some ended) is = get-emptied records.locks.held path other lock is

module _ (ends : ℕ → Held → Bool) (path : ℕ) (records : Records) where
  abbrev ended_by : Option Held → Records
  ended_by place =
      if option_map_or (ends path) place false
      then option_map_or (λ (lock : Held). entered records path None (dropped path lock)) place records else records

  abbrev ended_if : Bool → Held → Records
  ended_if test lock = if test then entered records path None (dropped path lock) else records

  -- a lock that has ended passes the test
  pub one-held : (other : ℕ) (lock : Held) → lock_of records.locks other ≡ Some lock
      → (lock_of (ends_lock ends path records).locks other ≡ Some lock) ⊎ (ends other lock ≡ true)
  one-held other lock there = by_place (lock_of records.locks path) refl
    where
      by_path : (held : Held) → lock_of records.locks path ≡ Some held → ends path held ≡ true → (other ≡ path) ⊎ (other ≢ path)
          → (lock_of (ended_if true held).locks other ≡ Some lock) ⊎ (ends other lock ≡ true)
      by_path held is passes (inl same) =
          inr (ap (λ (path : ℕ). ends path lock) same
          ∙ ap (ends path) (same_Some lock held (sym there ∙ ap (lock_of records.locks) same ∙ is)) ∙ passes)
      by_path held is passes (inr differ) = inl (get_or-set_other records.locks.held path other None None differ ∙ there)

      by_test : (held : Held) → lock_of records.locks path ≡ Some held → (test : Bool) → ends path held ≡ test
          → (lock_of (ended_if test held).locks other ≡ Some lock) ⊎ (ends other lock ≡ true)
      by_test held is true passes = by_path held is passes (cases_eq other path)
      by_test held is false passes = inl there

      by_place : (place : Option Held) → lock_of records.locks path ≡ place → (lock_of (ended_by place).locks other ≡ Some lock) ⊎ (ends other lock ≡ true)
      by_place None is = inl there
      by_place (Some held) is = by_test held is (ends path held) refl

  pub one-was : (other : ℕ) (lock : Held) → lock_of (ends_lock ends path records).locks other ≡ Some lock → lock_of records.locks other ≡ Some lock
  one-was other lock is = by_test (option_map_or (ends path) (lock_of records.locks path) false) is
    where
      by_test : (test : Bool) → lock_of (if test then without_lock records path else records).locks other ≡ Some lock → lock_of records.locks other ≡ Some lock
      by_test true is = without-was records path other lock is
      by_test false is = is

  -- and one that stays on the path does not
  pub one-stays : (lock : Held) → lock_of (ends_lock ends path records).locks path ≡ Some lock → ends path lock ≡ false
  one-stays lock is = by_place (lock_of records.locks path) refl is
    where
      by_test : (held : Held) → lock_of records.locks path ≡ Some held → (test : Bool) → ends path held ≡ test
          → lock_of (ended_if test held).locks path ≡ Some lock → ends path lock ≡ false
      by_test held was true passes is = absurd (none-some lock (sym (taken records.locks path) ∙ is))
      by_test held was false passes is = ap (ends path) (same_Some lock held (sym is ∙ was)) ∙ passes

      by_place : (place : Option Held) → lock_of records.locks path ≡ place → lock_of (ended_by place).locks path ≡ Some lock → ends path lock ≡ false
      by_place None was is = absurd (none-some lock (sym was ∙ is))
      by_place (Some held) was is = by_test held was (ends path held) refl is

-- ---- the locks of all paths

pub below-held : (ends : ℕ → Held → Bool) (count : ℕ) (records : Records) (path : ℕ) (lock : Held)
    → lock_of records.locks path ≡ Some lock
    → (lock_of (ends_locks_below ends count records).locks path ≡ Some lock) ⊎ (ends path lock ≡ true)
below-held ends zero records path lock is = inl is
below-held ends (suc n) records path lock is = by_rest (below-held ends n records path lock is)
  where
    by_rest : (lock_of (ends_locks_below ends n records).locks path ≡ Some lock) ⊎ (ends path lock ≡ true)
        → (lock_of (ends_locks_below ends (suc n) records).locks path ≡ Some lock) ⊎ (ends path lock ≡ true)
    by_rest (inl there) = one-held ends n (ends_locks_below ends n records) path lock there
    by_rest (inr passes) = inr passes

pub below-was : (ends : ℕ → Held → Bool) (count : ℕ) (records : Records) (path : ℕ) (lock : Held)
    → lock_of (ends_locks_below ends count records).locks path ≡ Some lock → lock_of records.locks path ≡ Some lock
below-was ends zero records path lock is = is
below-was ends (suc n) records path lock is =
    below-was ends n records path lock (one-was ends n (ends_locks_below ends n records) path lock is)

pub below-stays : (ends : ℕ → Held → Bool) (count : ℕ) (records : Records) (path : ℕ) (lock : Held) → path < count
    → lock_of (ends_locks_below ends count records).locks path ≡ Some lock → ends path lock ≡ false
below-stays ends zero records path lock low is = absurd (omega (arith, low))
below-stays ends (suc n) records path lock low is =
    by_path (below-stays ends n records path lock) (cases_eq path n)
  where
    rest : Records
    rest = ends_locks_below ends n records

    by_path : (path < n → lock_of rest.locks path ≡ Some lock → ends path lock ≡ false) → (path ≡ n) ⊎ (path ≢ n) → ends path lock ≡ false
    by_path later (inl same) =
        ap (λ (path : ℕ). ends path lock) same
        ∙ one-stays ends n rest lock (ap (lock_of (ends_lock ends n rest).locks) (sym same) ∙ is)
    by_path later (inr differ) = later (omega (arith, low, differ)) (one-was ends n rest path lock is)
