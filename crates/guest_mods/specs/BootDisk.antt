-- An RBF disk with one file, from which a machine boots (OS-9 Technical Reference, Random Block File Manager; its 4,096
-- sectors and the place of each part are this project's own): LSN 0, the allocation map in sectors 1 and 2, the root's
-- descriptor in sector 3 and its entries in sector 4, the file's descriptor in sector 5, and the file from sector 6 on.
use Rattle.std.specs.Prelude.{◌≡◌, ℕ, ◌+◌, ◌-◌, ◌*◌, ◌/◌, ◌%◌, ◌≤◌, ◌==◌, false, Option, Some, None, List, [], ◌∷◌, ◌++◌, codes, length, take, drop, replicate, if◌then◌else◌}
use Rattle.rbf_change.specs.Contents.{sector_count}
use Rattle.os9_base.specs.Name.{marked_name}
use Rattle.rbf_model.specs.Fields.{boot_field, boot_size_field}
use Rattle.rbf_model.specs.File.{DiskFile}
use Rattle.rbf_model.specs.Geometry.{sector}
use Rattle.rbf_model.specs.Tree.{dot, dot_dot}
use Rattle.rbf_model.specs.Volume.{DiskVolume}
use Rattle.vol_tools.specs.Image.{marks_map}

-- ---- the parts

-- a sector that begins with these bytes, with zeros after them
unfoldable pub sector_with : List ℕ → List ℕ
sector_with bytes = bytes ++ replicate (256 - length bytes) 0

-- the number of used sectors of the disk: six, and those of the file
abbrev pub used_sectors : ℕ → ℕ
used_sectors size = 6 + sector_count size

-- LSN 0: 4,096 sectors, 512 bytes of map, clusters of one sector, root 3, and the bootstrap file from sector 6 on
abbrev pub ident_front : ℕ → List ℕ
ident_front size =
    0 ∷ 16 ∷ 0 ∷ 0 ∷ 2 ∷ 0 ∷ 0 ∷ 1 ∷ 0 ∷ 0 ∷ 3 ∷ 0 ∷ 0 ∷ 0 ∷ 0 ∷ 0 ∷ 0 ∷ 0 ∷ 0 ∷ 0 ∷ 0 ∷ 0 ∷ 0 ∷ 6 ∷ size / 256
    ∷ size % 256 ∷ []

-- the root's descriptor: attributes BF, one link, 96 bytes, one segment (4, 1)
abbrev pub root_front : List ℕ
root_front =
    191 ∷ 0 ∷ 0 ∷ 0 ∷ 0 ∷ 0 ∷ 0 ∷ 0 ∷ 1 ∷ 0 ∷ 0 ∷ 0 ∷ 96 ∷ 0 ∷ 0 ∷ 0 ∷ 0 ∷ 0 ∷ 4 ∷ 0 ∷ 1 ∷ []

-- an entry: a name of up to 29 bytes, with zeros after it, and the number of a descriptor below 256
abbrev pub entry_with : List ℕ → ℕ → List ℕ
entry_with name number = name ++ replicate (29 - length name) 0 ++ 0 ∷ 0 ∷ number ∷ []

-- the root's entries: `..` and `.`, which name the root, and `OS9Boot`
unfoldable pub root_entries : List ℕ
root_entries =
    entry_with (marked_name dot_dot) 3 ++ entry_with (marked_name dot) 3 ++ entry_with (marked_name (codes "OS9Boot")) 5

-- the file's descriptor: attributes 03, one link, its size, one segment from sector 6 on
abbrev pub file_front : ℕ → List ℕ
file_front size =
    3 ∷ 0 ∷ 0 ∷ 0 ∷ 0 ∷ 0 ∷ 0 ∷ 0 ∷ 1 ∷ 0 ∷ 0 ∷ size / 256 ∷ size % 256 ∷ 0 ∷ 0 ∷ 0 ∷ 0 ∷ 0 ∷ 6 ∷ 0 ∷ sector_count size
    ∷ []

-- the disk up to the end of the file
abbrev pub used_part : List ℕ → List ℕ
used_part file =
    ((((sector_with (ident_front (length file)) ++ marks_map (used_sectors (length file)) 512)
    ++ sector_with root_front) ++ sector_with root_entries) ++ sector_with (file_front (length file))) ++ file

-- the disk of a boot file: zeros follow up to its end
abbrev pub boot_image : List ℕ → List ℕ
boot_image file = used_part file ++ replicate (256 * 4096 - length (used_part file)) 0

-- ---- what it represents

-- the dates of undated files
abbrev pub no_date : List ℕ
no_date = 0 ∷ 0 ∷ 0 ∷ 0 ∷ 0 ∷ []

abbrev pub no_day : List ℕ
no_day = 0 ∷ 0 ∷ 0 ∷ []

-- the root
abbrev pub root_directory : DiskFile
root_directory = record {
  attributes = 191;
  owner = 0;
  modified = no_date;
  links = 1;
  created = no_day;
  segments = (4, 1) ∷ [];
  contents = root_entries;
}

-- the file `OS9Boot`
abbrev pub boot_entry : List ℕ → DiskFile
boot_entry file = record {
  attributes = 3;
  owner = 0;
  modified = no_date;
  links = 1;
  created = no_day;
  segments = (6, sector_count (length file)) ∷ [];
  contents = file;
}

-- there are only the root and the file
abbrev pub boot_files : List ℕ → ℕ → Option DiskFile
boot_files file n = if n == 3 then Some root_directory else (if n == 5 then Some (boot_entry file) else None)

-- the volume: no cluster is lost, and no bytes are after its end
abbrev pub boot_volume : List ℕ → DiskVolume
boot_volume file = record {
  ident = sector_with (ident_front (length file));
  files = boot_files file;
  lost = λ c. false;
  rest = [];
}

-- LSN 0 of an image of 4,096 sectors names this boot file, which is within the image
pub record BootsFile (image file : List ℕ) : Type 0 where
  pub long : length image ≡ 256 * 4096
  pub place : boot_field (sector image 0) ≡ 6
  pub size : boot_size_field (sector image 0) ≡ length file
  pub within : 256 * 6 + length file ≤ length image
  pub bytes : take (length file) (drop (256 * 6) image) ≡ file
