-- The calls of the drive that the making of a directory needs.
use Rattle.std.proofs.Common.{◌≡◌, ℕ, ◌+◌, ◌≤◌, min, Option, None, List, [], Result, Ok, Err, refl, sym, ap, ◌∙◌, subst, arith}
use Rattle.os9_outer.specs.Drive.{sector_at}
use Rattle.rbf_model.specs.File.{file_at}
use Rattle.rbf_model.specs.Space.{has_cluster}
use Rattle.rbf_model.specs.Volume.{DiskVolume}
use Rattle.rbf_change.specs.Calls.{shape, cluster_size}
use Rattle.rbf_change.specs.NewFiles.{file_clusters}
use Rattle.rbf_access.specs.Drive.{DriveCounts, MovesCounts}
use Rattle.rbf_access.specs.Faults.{file_fault}
use Rattle.rbf_access.specs.MapMarks.{marking_sectors}
use Rattle.rbf_access.specs.declared.faults.FileFault.{FileFault}
use Rattle.rbf_access.specs.declared.faults.FileFault.TheVariants.{Device, NoCluster, TooManyRuns}
use Rattle.rbf_access.proofs.Counting.{counts_most, counts_then, counts_within}
use Rattle.rbf_alloc.specs.Grown.{is_gained, growth_calls}
use Rattle.rbf_entries.specs.FolderMade.{folder_calls}

-- the fault of a part is that of the whole
pub fault_calls : (A : Type 0) (e : FileFault) (r : Result ℕ FileFault) (v : DiskVolume) (after : Option (List ℕ)) (n : ℕ) (s t : DriveCounts) → r ≡ Err e → n ≤ file_clusters (cluster_size v) 64 + 2
    → MovesCounts (file_fault {A = A} (Err e)) n s t → MovesCounts (file_fault r) (folder_calls v after r) s t
fault_calls A e r v after n s t is few moved =
    subst (λ x. MovesCounts (file_fault x) (folder_calls v after x) s t) (sym is)
    (counts_most (file_fault {A = ℕ} (Err e)) n (file_clusters (cluster_size v) 64 + 2) s t few (subst (λ f. MovesCounts f n s t) (sym (same_fault e)) moved))
  where
    same_fault : (f : FileFault) → file_fault {A = ℕ} (Err f) ≡ file_fault {A = A} (Err f)
    same_fault (Device k) = refl
    same_fault NoCluster = refl
    same_fault TooManyRuns = refl

-- its clusters were marked, and then its two sectors written
pub made_calls : (v : DiskVolume) (after : Option (List ℕ)) (m count : ℕ) (before longer : List (ℕ × ℕ)) (s t u : DriveCounts) → count ≡ file_clusters (cluster_size v) 64 → before ≡ []
    → marking_sectors (shape v) (is_gained (cluster_size v) [] longer) ≡ marking_sectors (shape v) (has_cluster (shape v) m (file_at (sector_at after) m)) → MovesCounts None count s t
    → MovesCounts None (growth_calls v count before (Ok longer)) s t → MovesCounts None 2 t u → MovesCounts None (folder_calls {E = FileFault} v after (Ok m)) s u
made_calls v after m count before longer s t u counted none marks one marked two =
    let few = one.calls_made in
    let each : marking_sectors (shape v) (is_gained (cluster_size v) before longer) ≡ marking_sectors (shape v) (has_cluster (shape v) m (file_at (sector_at after) m)) =
    ap (λ xs. marking_sectors (shape v) (is_gained (cluster_size v) xs longer)) none ∙ marks in
    let sectors = marked.calls_made in
    let most : ℕ = min (file_clusters (cluster_size v) 64) (marking_sectors (shape v) (has_cluster (shape v) m (file_at (sector_at after) m))) in
    counts_then None most 2 s t u (counts_within None count most s t (omega arith) one) two
