-- A drive as contracts see it, and how a call changes its counts.
use Rattle.std.specs.Prelude.{◌≡◌, ℕ, ◌+◌, ◌-◌, ◌^◌, ◌≤◌, min, Option, Some, IfSome, IfNone, option_map}
use Rattle.os9_base.specs.Count.{Rose}
use Rattle.os9_outer.specs.Drive.{drive_error}
use Rattle.os9_outer.specs.declared.drive.DriveFault.{DriveFault}
use Rattle.os9_outer.specs.declared.drive.BlockDriver.{Ghosts}

-- the number of faults and of calls so far, and the last fault
pub record DriveCounts : Type 0 where
  pub faults : ℕ
  pub last : Option DriveFault
  pub calls : ℕ

-- the counts that a driver's ghost members show
abbrev pub drive_counts : {Driver : Type 0} → Ghosts Driver → Driver → DriveCounts
drive_counts members driver =
    record {
      faults = members.drive_faults driver;
      last = members.last_fault driver;
      calls = members.drive_calls driver;
    }

-- the counts of a lent drive, as `counts_of BlockDriver-dyn d.now`
abbrev pub counts_of : {Table : Type 0} {Driver : Table → Type 0}
    → ((drive : (table : Table) × Driver table) → Ghosts (Driver drive.0)) → (table : Table) × Driver table
    → DriveCounts
counts_of members drive = drive_counts (members drive) drive.1

-- a call of at most `most` reads and writes, which the fault of this number ended, if any: then the count of faults
-- rose, and this fault is the last one; without a fault the count and the last fault are unchanged
pub record MovesCounts (fault : Option ℕ) (most : ℕ) (before now : DriveCounts) : Type 0 where
  pub calls_made : now.calls ≤ before.calls + most
  pub never_falls : before.faults ≤ now.faults
  pub rose : IfSome fault (λ n. Rose before.faults now.faults)
  pub number : IfSome fault (λ n. option_map drive_error now.last ≡ Some n)
  pub kept : IfNone fault (now.faults ≡ before.faults)
  pub last_kept : IfNone fault (now.last ≡ before.last)

-- the same for a lent drive, as `Counts BlockDriver-dyn fault most d.old d.new`
abbrev pub Counts : {Table : Type 0} {Driver : Table → Type 0}
    → ((drive : (table : Table) × Driver table) → Ghosts (Driver drive.0)) → Option ℕ → ℕ
    → (table : Table) × Driver table → (table : Table) × Driver table → Type 0
Counts members fault most before now = MovesCounts fault most (counts_of members before) (counts_of members now)

-- exactly `count` reads and writes were made, as far as the counter shows: it stops at its greatest value
abbrev pub AccessesMade : ℕ → ℕ → ℕ → Type 0
AccessesMade count before now = min now (2 ^ 64 - 1) ≡ min (before + count) (2 ^ 64 - 1)
