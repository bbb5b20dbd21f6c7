-- The calls of the drive by which a file is entered, when its place has been found.
use Rattle.std.proofs.Common.{◌≡◌, ℕ, ◌+◌, ◌≤◌, false, Some, None, IsSome, Ok, Err, refl, arith}
use Rattle.std.specs.Prelude.{Result}
use Rattle.std.proofs.lemmas.Bool.{both_ways}
use Rattle.rbf_model.specs.File.{DiskFile}
use Rattle.rbf_model.specs.Volume.{DiskVolume}
use Rattle.rbf_access.specs.Drive.{DriveCounts, MovesCounts}
use Rattle.rbf_access.specs.Faults.{file_fault}
use Rattle.rbf_access.specs.declared.faults.FileFault.{FileFault}
use Rattle.rbf_access.specs.declared.faults.FileFault.TheVariants.{Device, NoCluster, TooManyRuns}
use Rattle.rbf_access.proofs.Counting.{counts_most, counts_then, no_calls}
use Rattle.rbf_walk.specs.Walk.{directory_fault}
use Rattle.rbf_walk.specs.declared.error.DirError.{DirError}
use Rattle.rbf_entries.specs.Entering.{entry_calls, entering_calls, widened}

-- the calls of the drive
module _ (v : DiskVolume) (dir : DiskFile) (made place : ℕ) where
  pub place_calls_most : (r : Result ℕ DirError) (s t : DriveCounts) → MovesCounts (directory_fault r) place s t → MovesCounts (directory_fault r) (place + entering_calls v dir made r) s t
  place_calls_most r s t moved = counts_most (directory_fault r) place (place + entering_calls v dir made r) s t (omega arith) moved

  pub room_calls : (e : FileFault) (s : DriveCounts) → file_fault {A = ℕ} (Err e) ≡ None → MovesCounts (file_fault {A = ℕ} (Err e)) (entering_calls v dir made (widened (Err e))) s s
  room_calls (Device x) s none = absurd (cc none)
  room_calls NoCluster s none = no_calls s
  room_calls TooManyRuns s none = no_calls s

  pub device_calls : (e : FileFault) (n : ℕ) (t u : DriveCounts) → n ≤ made + entry_calls v dir → IsSome (file_fault {A = ℕ} (Err e)) → MovesCounts (file_fault {A = ℕ} (Err e)) n t u
      → MovesCounts (file_fault {A = ℕ} (Err e)) (entering_calls v dir made (widened (Err e))) t u
  device_calls (Device x) n t u few is moved = counts_most (Some x) n (made + entry_calls v dir) t u few moved
  device_calls NoCluster n t u few is moved = absurd (both_ways false refl is)
  device_calls TooManyRuns n t u few is moved = absurd (both_ways false refl is)

  -- when its place was found before
  pub then_calls : (r : Result ℕ FileFault) (s t u : DriveCounts) → MovesCounts None place s t → MovesCounts (file_fault r) (entering_calls v dir made (widened r)) t u
      → MovesCounts (directory_fault (widened r)) (place + entering_calls v dir made (widened r)) s u
  then_calls (Ok n) s t u one other = counts_then None place (made + entry_calls v dir) s t u one other
  then_calls (Err (Device x)) s t u one other = counts_then (Some x) place (made + entry_calls v dir) s t u one other
  then_calls (Err NoCluster) s t u one other = counts_then None place 0 s t u one other
  then_calls (Err TooManyRuns) s t u one other = counts_then None place 0 s t u one other

-- the fault of a call that answers nothing is that of one that answers a number
pub as_number : (e : FileFault) (n : ℕ) (s t : DriveCounts) → MovesCounts (file_fault {A = Unit {0}} (Err e)) n s t → MovesCounts (file_fault {A = ℕ} (Err e)) n s t
as_number (Device x) n s t moved = moved
as_number NoCluster n s t moved = moved
as_number TooManyRuns n s t moved = moved

pub some_number : (e : FileFault) → IsSome (file_fault {A = Unit {0}} (Err e)) → IsSome (file_fault {A = ℕ} (Err e))
some_number (Device x) is = is
some_number NoCluster is = is
some_number TooManyRuns is = is
