-- The steps of a creation and of a deletion: a new file whose clusters are lost, its entry, and the clusters of a
-- removed file.
use Rattle.std.specs.Prelude.{◌≡◌, ℕ, ◌*◌, ◌||◌, List, Some, None}
use Rattle.os9_base.specs.declared.registers.TimePacket.{TimePacket}
use Rattle.rbf_model.specs.Fields.{directory_entry, descriptor_field}
use Rattle.rbf_model.specs.File.{DiskFile, file_at}
use Rattle.rbf_model.specs.Space.{has_cluster}
use Rattle.rbf_model.specs.Volume.{DiskVolume}
use Rattle.rbf_model.specs.Writes.{with_file, with_lost}
use Rattle.rbf_model.specs.Laws.{with_directory_entry}
use Rattle.rbf_change.specs.Names.{freed_entry}
use Rattle.rbf_change.specs.Calls.{shape, cluster_size, is_free_in, replaced, WritesFile}
use Rattle.rbf_change.specs.NewFiles.{Plan, IsNewFile}
use Rattle.rbf_change.specs.Tidy.{IsNewList}

-- the descriptor of a new file n is on the disk, and the clusters that it took are lost
pub record FileIsMade (v w : DiskVolume) (disk : ℕ → List ℕ) (n : ℕ) (plan : Plan) : Type 0 where
  pub file : DiskFile
  pub made : IsNewFile (cluster_size v) (is_free_in v) n plan file
  pub shown : file_at disk n ≡ file
  pub rest : IsNewList (disk n)
  pub volume : w ≡ with_lost v (λ c. v.lost c || has_cluster (shape v) n file c)

-- an entry has been put into place i of directory d: the file that it names is in the volume, and its clusters are no
-- longer lost
pub record EntryIsPut (v w : DiskVolume) (disk : ℕ
    → List ℕ) (d i : ℕ) (entry : List ℕ) (now : TimePacket) : Type 0 where
  pub old : DiskFile
  pub new : DiskFile
  pub is : v.files d ≡ Some old
  pub written : WritesFile (cluster_size v) (is_free_in v) (32 * i) entry now old new
  pub volume : w ≡ with_file (shape v) (replaced v d (Some new)) (descriptor_field entry)
      (Some (file_at disk (descriptor_field entry)))

-- an entry in place i of directory d has been made free: the file that it named is removed, and its whole clusters are
-- lost
pub record EntryIsFreed (v w : DiskVolume) (d i : ℕ) : Type 0 where
  pub old : DiskFile
  pub is : v.files d ≡ Some old
  pub volume : w
      ≡ with_file (shape v)
      (replaced v d (Some (with_directory_entry old i (freed_entry (directory_entry old.contents i)))))
      (descriptor_field (directory_entry old.contents i)) None
