-- The lines of a directory, entry by entry.
use Rattle.std.specs.Prelude.{◌≡◌, ℕ, true, Option, Some, List, [], ◌∷◌, filter, flat_map}
use Rattle.rbf_model.specs.Fields.{is_used, descriptor_field}
use Rattle.rbf_model.specs.File.{DiskFile, is_directory}
use Rattle.rbf_model.specs.Volume.{DiskVolume}
use Rattle.rbf_access.specs.Mounted.{HasFile, RepresentsVolume}
use Rattle.vol_tools.specs.Listing.{entry_line}

-- the bytes are those of a directory of the volume that the media represents
pub record HasListing (media : Option (List ℕ)) (contents : List ℕ) : Type 0 where
  pub content : DiskVolume
  pub on : RepresentsVolume media content
  pub number : ℕ
  pub directory : DiskFile
  pub is : content.files number ≡ Some directory
  pub lists : is_directory directory ≡ true
  pub bytes : directory.contents ≡ contents

-- a used entry names a file
abbrev pub EntryNamesFile : Option (List ℕ) → List ℕ → Type 0
EntryNamesFile media entry = is_used entry ≡ true → HasFile media (descriptor_field entry)

-- the lines of these entries: one for each used entry
abbrev pub lines_of : DiskVolume → List (List ℕ) → List ℕ
lines_of v entries = flat_map (entry_line v) (filter is_used entries)
