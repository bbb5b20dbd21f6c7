-- How often the drive is called in an attempt to write the file of a path.
use Rattle.std.proofs.Common.{◌==◌, ℕ, ◌+◌, ◌≤◌, Bool, true, false, Result, Ok, Err, arith}
use Rattle.std.specs.Prelude.{if◌then◌else◌}
use Rattle.rbf_access.specs.declared.faults.FileFault.{FileFault}
use Rattle.rbf_access.specs.declared.faults.FileFault.TheVariants.{Device, NoCluster, TooManyRuns}
use Rattle.rbf_model.specs.File.{DiskFile}
use Rattle.rbf_model.specs.Volume.{DiskVolume}
use Rattle.rbf_write.specs.Outcomes.{laying_calls, write_calls}
use Rattle.file_drives.specs.Calls.{marks_made, writing_calls}
use Rattle.file_state.specs.declared.state.OpenFile.{OpenFile}
use Rattle.file_io.specs.Calls.{laying_calls_at, needed_for}
use Rattle.file_io.specs.Opened.{found_on}

module _ (opened : OpenFile) (v : DiskVolume) (file : DiskFile) (at count : ℕ) where
  abbrev most : ℕ
  most = laying_calls_at at count (found_on opened v file)

  abbrev end : ℕ
  end = at + count

  -- no more sectors of the map than clusters
  few-marks : (marks : ℕ) → laying_calls v file marks at end ≤ laying_calls v file (needed_for (found_on opened v file) end) at end
  few-marks marks = omega arith

  few-calls : (marks : ℕ) → write_calls v file marks at count ≤ most
  few-calls marks = by (count == 0)
    where
      by : (none : Bool) → (if none then 0 else 1 + laying_calls v file marks at end) ≤ most
      by true = omega arith
      by false = omega (arith, few-marks marks)

  -- as the answer of the write has it
  pub writing-few : (number : ℕ) (result : Result (Unit {0}) FileFault) (left : DiskVolume) → writing_calls number at count result v file left ≤ most
  writing-few number (Ok done) left = few-calls (marks_made (Ok done) v file (left.files number))
  writing-few number (Err (Device fault)) left = few-calls (marks_made (Err (Device fault)) v file (left.files number))
  writing-few number (Err NoCluster) left = omega arith
  writing-few number (Err TooManyRuns) left = omega arith
