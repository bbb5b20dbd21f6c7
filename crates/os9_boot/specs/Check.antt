-- What `check` does.
use Rattle.std.specs.Prelude.{◌≡◌, ◌⊎◌, ℕ, ⊤, not, List, length, count_by}
use Rattle.os9_outer.specs.Stream.{stream_with, GainsPrefix}
use Rattle.os9_words.specs.Lines.{counts_line}
use Rattle.rbf_model.specs.Geometry.{Geometry, image_geometry}
use Rattle.rbf_model.specs.Volume.{DiskVolume, Vol, free_clusters, lost_clusters}
use Rattle.rbf_model.specs.Counts.{file_count, directory_count}
use Rattle.rbf_model.specs.Faults.{IsFault}
use Rattle.rbf_check.specs.declared.tree.Tree.{Tree}
use Rattle.rbf_check.specs.Tree.{is_directory_node}
use Rattle.boot_run.specs.World.{World, FailsToWrite, HasNoFault}
use Rattle.boot_run.specs.declared.status.End.{End}
use Rattle.boot_run.specs.declared.status.End.TheVariants.{Ended, CannotWrite, NoMemory, BadImage}

-- the line of the counts of a volume
abbrev pub counts_of : Geometry → DiskVolume → List ℕ
counts_of g v =
    counts_line (file_count g v) (directory_count g v) (length (free_clusters g v)) (length (lost_clusters g v))

-- the line of the counts of a tree
abbrev pub tree_line : Tree → List ℕ
tree_line tree =
    counts_line (count_by (λ node. not (is_directory_node node)) tree.nodes) (count_by is_directory_node tree.nodes)
    tree.free tree.lost

-- the image represents a volume, and the output gained the beginning of the line of its counts
abbrev pub PrintsPartly : List ℕ → World → World → Type 0
PrintsPartly image before after =
    (v : DiskVolume) × Vol image v × GainsPrefix before.out (counts_of (image_geometry image) v) after.out

-- the outcome of a check of this image, by its end
abbrev pub CheckComesTo : List ℕ → World → World → End → Type 0
CheckComesTo image before after Ended =
    (v : DiskVolume) × Vol image v × (after.out ≡ stream_with before.out (counts_of (image_geometry image) v))
CheckComesTo image before after (BadImage number fault) = IsFault image fault.rule fault.lsn
CheckComesTo image before after CannotWrite = PrintsPartly image before after
CheckComesTo image before after NoMemory = (after.out ≡ before.out) ⊎ PrintsPartly image before after
CheckComesTo image before after end = ⊤

-- how much of a line was printed, by the end of the command that printed it
abbrev pub PrintsAs : List ℕ → World → World → End → Type 0
PrintsAs line before after Ended = after.out ≡ stream_with before.out line
PrintsAs line before after CannotWrite = GainsPrefix before.out line after.out
PrintsAs line before after NoMemory = GainsPrefix before.out line after.out
PrintsAs line before after end = ⊥

-- the host failed at the output, or not at all
abbrev pub PrintFails : End → World → World → Type 0
PrintFails CannotWrite before after = FailsToWrite before after
PrintFails end before after = HasNoFault before after

-- a line was passed to the output stream, whole or in part, and nothing else was done
pub record PrintsLine (line : List ℕ) (before after : World) (end : End) : Type 0 where
  pub printed : PrintsAs line before after end
  pub host : PrintFails end before after
  pub files : after.files ≡ before.files
  pub devices : after.devices ≡ before.devices
