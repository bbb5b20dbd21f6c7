-- Sectors of a file that follow one another on a disk.
use Rattle.std.specs.Prelude.{◌≡◌, ℕ, ◌+◌, ◌<◌, ◌≤◌, Some, List, length, take, slice_get}
use Rattle.rbf_model.specs.Segments.{sectors_of}
use Rattle.rbf_sector.specs.declared.run.Run.{Run}

-- the run begins in this place of the segment list and ends with the segment that has the place
pub record IsRunAt (segments : List (ℕ × ℕ)) (place : ℕ) (run : Run) : Type 0 where
  pub segment : ℕ
  pub begins : length (sectors_of (take segment segments)) ≤ place
  pub some : 1 ≤ run.count
  pub ends : place + run.count ≡ length (sectors_of (take (segment + 1) segments))
  pub sectors_are : (i : ℕ) → i < run.count → slice_get (sectors_of segments) (place + i) ≡ Some (run.lsn + i)
