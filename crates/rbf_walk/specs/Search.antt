-- The search of a directory for a name.
use Rattle.std.specs.Prelude.{◌≡◌, ℕ, ◌+◌, ◌*◌, ◌/◌, ◌<◌, ◌≤◌, Bool, true, false, Option, Some, None, List, length, slice_index}
use Rattle.os9_base.specs.Name.{IsName, lower}
use Rattle.rbf_model.specs.Fields.{directory_entry, descriptor_field}
use Rattle.rbf_model.specs.File.{DiskFile}
use Rattle.rbf_model.specs.Walk.{entry_has_name, look_up}
use Rattle.rbf_model.specs.Volume.{DiskVolume}
use Rattle.rbf_change.specs.Contents.{sector_count}
use Rattle.rbf_change.specs.Names.{entry_place, place_of}
use Rattle.rbf_sector.specs.declared.fd.Fd.{Fd}
use Rattle.rbf_access.specs.Mounted.{RepresentsVolume}
use Rattle.rbf_access.specs.Reading.{IsFdOf}
use Rattle.rbf_walk.specs.declared.sector.NameEnd.{NameEnd}
use Rattle.rbf_walk.specs.declared.directory.Searched.{Searched}
use Rattle.rbf_walk.specs.declared.directory.Searched.TheVariants.{Found, Absent}

-- none of the first entries of these bytes passes a test
abbrev pub NonePasses : (List ℕ → Bool) → List ℕ → ℕ → Type 0
NonePasses test bytes count = (k : ℕ) → k < count → test (directory_entry bytes k) ≡ false

-- of the first `count` entries, the one in place i is the first that passes
pub record IsFirstMatch (test : List ℕ → Bool) (bytes : List ℕ) (count i : ℕ) : Type 0 where
  pub below : i < count
  pub passes : test (directory_entry bytes i) ≡ true
  pub before : NonePasses test bytes i

-- the end of a name: the place of its last character, and that in lower case
pub record IsEndOf (name : List ℕ) (end : NameEnd) : Type 0 where
  pub is_name : IsName name
  pub place : end.at + 1 ≡ length name
  pub character : end.last ≡ lower (slice_index name end.at)

-- the descriptor is that of a file of the volume that the media represents
pub record IsFdOn (media : Option (List ℕ)) (fd : Fd) : Type 0 where
  pub content : DiskVolume
  pub on : RepresentsVolume media content
  pub number : ℕ
  pub file : DiskFile
  pub is : content.files number ≡ Some file
  pub fields : IsFdOf file fd

-- a fact about each file that has this descriptor
abbrev pub OnFd : Option (List ℕ) → Fd → (DiskFile → Type 0) → Type 0
OnFd media fd fact =
    (v : DiskVolume) (n : ℕ) (file : DiskFile) → RepresentsVolume media v → v.files n ≡ Some file → IsFdOf file fd
    → fact file

-- the entry with the name is in this place and names this descriptor
pub record IsNameFoundAt (contents name : List ℕ) (place descriptor : ℕ) : Type 0 where
  pub there : place_of contents name ≡ Some place
  pub within : 32 * (place + 1) ≤ length contents
  pub has : entry_has_name name (directory_entry contents place) ≡ true
  pub descriptor_is : descriptor ≡ descriptor_field (directory_entry contents place)
  pub names : look_up contents name ≡ Some descriptor

-- no entry has the name, and a new one is put into this place
pub record IsAbsentName (contents name : List ℕ) (free : ℕ) : Type 0 where
  pub nowhere : place_of contents name ≡ None
  pub names_none : look_up contents name ≡ None
  pub free_is : free ≡ entry_place contents

-- the answer of a search of these bytes for a name
abbrev pub IsSearched : List ℕ → List ℕ → Searched → Type 0
IsSearched contents name (Found place descriptor) = IsNameFoundAt contents name place descriptor
IsSearched contents name (Absent free) = IsAbsentName contents name free

-- the number of sectors up to the one with the entry in this place, or all; each sector has 8 entries
abbrev pub sectors_to : Option ℕ → ℕ → ℕ
sectors_to None all = all
sectors_to (Some place) all = place / 8 + 1

-- the greatest number of a directory's sectors that a search for a name reads: none after the one that has the name
abbrev pub sectors_searched : List ℕ → List ℕ → ℕ
sectors_searched contents name = sectors_to (place_of contents name) (sector_count (length contents))
