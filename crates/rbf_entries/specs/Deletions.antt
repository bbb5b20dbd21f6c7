-- A name that is deleted from a directory.
use Rattle.std.specs.Prelude.{◌≡◌, ℕ, ◌+◌, Bool, Option, Some, is_some, List, [], ◌∷◌, Result, Ok, Err, if◌then◌else◌}
use Rattle.rbf_model.specs.Fields.{directory_entry, descriptor_field}
use Rattle.rbf_model.specs.File.{DiskFile}
use Rattle.rbf_model.specs.Volume.{DiskVolume}
use Rattle.rbf_model.specs.Walk.{look_up}
use Rattle.rbf_change.specs.Names.{place_of, may_change, deletion_end}
use Rattle.rbf_change.specs.Parts.{EntryIsFreed}
use Rattle.rbf_access.specs.Reading.{IsFdOf}
use Rattle.rbf_walk.specs.Search.{sectors_searched}
use Rattle.rbf_walk.specs.Walk.{calls_on}
use Rattle.rbf_walk.specs.declared.error.DirError.{DirError}
use Rattle.rbf_entries.specs.Entries.{MayFree, sector_of_entry, with_entry_bytes}
use Rattle.rbf_entries.specs.declared.deletion.Deletable.{Deletable}

-- the entry of directory d with a name, which may be made free: its sector, and the fields of its file's descriptor
pub record IsDeletable (media : Option (List ℕ)) (d : ℕ) (name : List ℕ) (found : Deletable) : Type 0 where
  pub free : MayFree media d found.place
  pub there : place_of free.place.dir.contents name ≡ Some found.place
  pub lsn_is : found.lsn ≡ sector_of_entry free.place.dir found.place
  pub descriptor_is : found.descriptor ≡ descriptor_field (directory_entry free.place.dir.contents found.place)
  pub says : IsFdOf free.file found.file

-- it has been made free by its first byte, and nothing else of the media has changed
pub record FreesOn (old new : Option (List ℕ)) (d : ℕ) (name : List ℕ) (found : Deletable) : Type 0 where
  pub at : IsDeletable old d name found
  pub written : new ≡ with_entry_bytes old at.free.place.dir found.place (0 ∷ [])

-- the descriptor that it names
abbrev pub descriptor_found : Result Deletable DirError → Result ℕ DirError
descriptor_found (Ok found) = Ok found.descriptor
descriptor_found (Err error) = Err error

-- the entry of directory d with the name has been made free
pub record FreesName (v w : DiskVolume) (d : ℕ) (name : List ℕ) : Type 0 where
  pub dir : DiskFile
  pub is : v.files d ≡ Some dir
  pub place : ℕ
  pub there : place_of dir.contents name ≡ Some place
  pub freed : EntryIsFreed v w d place

-- the greatest number of calls that look for it: one for the directory's descriptor; if the user may change the
-- directory, one for each of its sectors up to the one that has the name, and one for the descriptor that is found
abbrev pub deletion_calls : DiskFile → List ℕ → ℕ → Bool → ℕ
deletion_calls dir name user execute =
    if may_change dir user execute
    then 1 + sectors_searched dir.contents name + (if is_some (look_up dir.contents name) then 1 else 0) else 1

-- and if the file may be deleted, a read and a write of its entry's sector in addition
abbrev pub freeing_calls : DiskVolume → DiskFile → List ℕ → ℕ → Bool → ℕ
freeing_calls v dir name user execute =
    deletion_calls dir name user execute + calls_on (deletion_end v.files dir name user execute) (λ n. 2)
