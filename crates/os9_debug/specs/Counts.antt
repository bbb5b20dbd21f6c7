-- Changes of counts of faults.
use Rattle.std.specs.Prelude.{◌≡◌, ℕ, zero, suc, ◌+◌, ◌-◌, ◌<◌, ◌≤◌, ◌^◌, Some, List, [], ◌∷◌, slice_get}
use Rattle.std.specs.List.{AllZip}
use Rattle.os9_base.specs.Count.{Rose}
use Rattle.os9_outer.specs.TerminalState.{TerminalState, fault_counts}
use Rattle.file_rules.specs.Files.{drive_at}
use Rattle.file_drives.specs.Drives.{drive_states}
use Rattle.os9_kernel.specs.Outside.{Outside}
use Rattle.run_laws.specs.Faults.{NoDriveFailed, NotFailed}

-- the count of a terminal did not fall
abbrev pub HasNotFallen : TerminalState → TerminalState → Type 0
HasNotFallen old new = old.faults ≤ new.faults

-- no count fell, of a terminal or of a drive
pub record NoneFell (before after : Outside) : Type 0 where
  pub terminals : AllZip HasNotFallen before.terms after.terms
  pub drives : (drive : ℕ)
      → (drive_at (drive_states before.drives) drive).faults ≤ (drive_at (drive_states after.drives) drive).faults

-- the count of the terminal of this number rose
pub record TerminalRose (n : ℕ) (before after : Outside) : Type 0 where
  pub old : ℕ
  pub new : ℕ
  pub was : slice_get (fault_counts before.terms) n ≡ Some old
  pub is : slice_get (fault_counts after.terms) n ≡ Some new
  pub rose : Rose old new

-- it rose by one, and no other count of a terminal did
abbrev pub RoseOnce : List TerminalState → List TerminalState → ℕ → Type 0
RoseOnce [] after n = ⊥
RoseOnce (old ∷ before) [] n = ⊥
RoseOnce (old ∷ before) (new ∷ after) zero =
    (new.faults ≡ old.faults + 1) × (new.faults < 2 ^ 64 - 1) × AllZip NotFailed before after
RoseOnce (old ∷ before) (new ∷ after) (suc n) = NotFailed old new × RoseOnce before after n

-- the terminal of this number failed once, and nothing else did
pub record FailedOnce (n : ℕ) (before after : Outside) : Type 0 where
  pub terminals : RoseOnce before.terms after.terms n
  pub drives : NoDriveFailed (drive_states before.drives) (drive_states after.drives)
