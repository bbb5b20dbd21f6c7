-- The changes of a volume that calls make: the effect of each, when a list of segments has no place for what it gains,
-- and what a fault of the drive may leave (OS-9 Technical Reference, Random Block File Manager).
use Rattle.std.specs.Prelude.{◌≡◌, ℕ, List, length, Some}
use Rattle.os9_base.specs.declared.registers.TimePacket.{TimePacket}
use Rattle.rbf_model.specs.File.{DiskFile}
use Rattle.rbf_model.specs.Volume.{DiskVolume, Vol}
use Rattle.rbf_change.specs.Contents.{written}
use Rattle.rbf_change.specs.Growth.{IsOneTooMany}
use Rattle.rbf_change.specs.Calls.{cluster_size, is_free_in, WritesFileAt, SetsSize, SetsAttributes}
use Rattle.rbf_change.specs.NewFiles.{file_plan, directory_plan, Creates, MakesDirectory, Deletes}
use Rattle.rbf_change.specs.Faults.{WriteEnds, SizeEnds, NewFileEnds, DeletionEnds}

pub data Change : Type 0 where
  -- bytes are written to file n, from a place on
  writes : ℕ → ℕ → List ℕ → Change
  -- the size of file n is set
  sizes : ℕ → ℕ → Change
  -- the attributes of file n are set
  sets_attributes : ℕ → ℕ → Change
  -- a file is made in directory d, with a name and attributes
  creates : ℕ → List ℕ → ℕ → Change
  -- a directory is made in directory d, with a name and attributes
  makes_directory : ℕ → List ℕ → ℕ → Change
  -- file n is deleted from directory d, in which it has a name
  deletes : ℕ → ℕ → List ℕ → Change

-- the effect of the change on a volume, for a user and at a time; `new` is the number of the new file, if the change
-- makes one
abbrev pub AppliesChange : Change → ℕ → TimePacket → DiskVolume → DiskVolume → ℕ → Type 0
AppliesChange (writes n at bytes) user now v w new = WritesFileAt v w n at bytes now
AppliesChange (sizes n size) user now v w new = SetsSize v w n size now
AppliesChange (sets_attributes n attributes) user now v w new = SetsAttributes v w n attributes now
AppliesChange (creates d name attributes) user now v w new = Creates v w d new name attributes user now
AppliesChange (makes_directory d name attributes) user now v w new = MakesDirectory v w d new name attributes user now
AppliesChange (deletes d n name) user now v w new = Deletes v w d n name

-- the list of segments of file n has no place for a cluster that the file may gain for a size
pub record FindsNoPlace (v : DiskVolume) (n : ℕ) (size : DiskFile → ℕ) : Type 0 where
  pub file : DiskFile
  pub is : v.files n ≡ Some file
  pub gained : List ℕ
  pub full : IsOneTooMany (cluster_size v) (is_free_in v) file.segments (size file) gained

-- the change may end with E$SLF, which depends on the chosen clusters
abbrev pub MayBeTooLong : Change → DiskVolume → Type 0
MayBeTooLong (writes n at bytes) v = FindsNoPlace v n (λ file. length (written file.contents at bytes))
MayBeTooLong (sizes n size) v = FindsNoPlace v n (λ file. size)
MayBeTooLong (sets_attributes n attributes) v = ⊥
MayBeTooLong (creates d name attributes) v = ⊥
MayBeTooLong (makes_directory d name attributes) v = ⊥
MayBeTooLong (deletes d n name) v = ⊥

-- a fact of some image of the volume that is left
abbrev pub OnImage : DiskVolume → (List ℕ → Type 0) → Type 0
OnImage left fact = (image : List ℕ) × Vol image left × fact image

-- what a fault of the drive may leave of the volume
abbrev pub ChangeMayLeave : Change → ℕ → TimePacket → DiskVolume → DiskVolume → Type 0
ChangeMayLeave (writes n at bytes) user now v left = WriteEnds v left n at bytes
ChangeMayLeave (sizes n size) user now v left = OnImage left (λ image. SizeEnds image v left n size now)
ChangeMayLeave (sets_attributes n attributes) user now v left = left ≡ v
ChangeMayLeave (creates d name attributes) user now v left = NewFileEnds v left d name
    (λ n. file_plan attributes user now)
ChangeMayLeave (makes_directory d name attributes) user now v left =
    NewFileEnds v left d name (directory_plan attributes user now d)
ChangeMayLeave (deletes d n name) user now v left = OnImage left (λ image. DeletionEnds image v left d n name)
