-- The result of the write of one sector of an image, and of a change of one file of a volume.
use Rattle.std.specs.Prelude.{◌≡◌, ◌≢◌, ◌⊎◌, ℕ, ◌+◌, ◌*◌, ◌≤◌, ◌==◌, Bool, true, false, List, ◌++◌, length, take, drop, Option, Some, if◌then◌else◌}
use Rattle.os9_base.specs.Name.{SameName}
use Rattle.rbf_model.specs.Fields.{directory_entry, is_used, entry_name_field}
use Rattle.rbf_model.specs.Geometry.{Geometry}
use Rattle.rbf_model.specs.File.{DiskFile}
use Rattle.rbf_model.specs.Space.{is_whole}
use Rattle.rbf_model.specs.Tree.{dot, dot_dot, HasEntry, IsEntry, IsProper}
use Rattle.rbf_model.specs.Volume.{DiskVolume, in_file}

-- an image with these 256 bytes in sector s
abbrev pub put_sector : List ℕ → ℕ → List ℕ → List ℕ
put_sector image s bytes = take (256 * s) image ++ bytes ++ drop (256 * s + 256) image

-- the same for a disk
abbrev pub put : (ℕ → List ℕ) → ℕ → List ℕ → ℕ → List ℕ
put disk s bytes n = if n == s then bytes else disk n

-- contents with these bytes from a place on
abbrev pub put_at : List ℕ → ℕ → List ℕ → List ℕ
put_at contents at bytes = take at contents ++ bytes ++ drop (at + length bytes) contents

-- the files, with file n replaced or removed
abbrev pub put_file : (ℕ → Option DiskFile) → ℕ → Option DiskFile → ℕ → Option DiskFile
put_file files n file m = if m == n then file else files m

-- the clusters that are lost after that: those lost before and the whole ones that the file gave up, but none of the
-- new file's
abbrev pub lost_after : Geometry → (ℕ → Option DiskFile) → (ℕ → Bool) → ℕ → Option DiskFile → ℕ → Bool
lost_after g files lost n file c =
    if in_file g n file c then false else (if in_file g n (files n) c then is_whole g c else lost c)

-- a volume with file n replaced or removed
abbrev pub with_file : Geometry → DiskVolume → ℕ → Option DiskFile → DiskVolume
with_file g v n file = record {
  ident = v.ident;
  files = put_file v.files n file;
  lost = lost_after g v.files v.lost n file;
  rest = v.rest;
}

-- a volume with file n replaced by one with the same segments
abbrev pub with_file_in_place : DiskVolume → ℕ → DiskFile → DiskVolume
with_file_in_place v n file =
    record { ident = v.ident; files = put_file v.files n (Some file); lost = v.lost; rest = v.rest }

-- a volume with other lost clusters
abbrev pub with_lost : DiskVolume → (ℕ → Bool) → DiskVolume
with_lost v lost = record { ident = v.ident; files = v.files; lost = lost; rest = v.rest }

-- the bytes of a new directory n in directory d: itself and its parent, and no other entry
pub record IsNewDirectory (contents : List ℕ) (n d : ℕ) : Type 0 where
  pub two : length contents ≡ 64
  pub dots : (IsEntry (directory_entry contents 0) dot_dot d × IsEntry (directory_entry contents 1) dot n)
      ⊎ (IsEntry (directory_entry contents 0) dot n × IsEntry (directory_entry contents 1) dot_dot d)

-- an entry that names n by a name that no other used entry of the directory has
pub record IsNewEntry (contents : List ℕ) (i : ℕ) (entry : List ℕ) (n : ℕ) : Type 0 where
  pub name : List ℕ
  pub used : is_used entry ≡ true
  pub is : IsEntry entry name n
  pub proper : IsProper name
  pub differs : (j : ℕ) (other : List ℕ) → j ≢ i → 2 ≤ j → HasEntry contents j
      → entry_name_field (directory_entry contents j) ≡ Some other → SameName name other → ⊥
