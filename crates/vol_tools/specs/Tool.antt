-- The result of each tool on a volume (this project's own): the volume then, and the bytes of its answer. The user is
-- always user 0.
use Rattle.std.specs.Prelude.{◌≡◌, ℕ, ◌++◌, false, codes, decimal, Option, Some, None, List, [], length}
use Rattle.os9_base.specs.declared.registers.TimePacket.{TimePacket}
use Rattle.rbf_model.specs.File.{DiskFile}
use Rattle.rbf_model.specs.Volume.{DiskVolume, lost_clusters}
use Rattle.rbf_model.specs.Walk.{arrives}
use Rattle.rbf_model.specs.Writes.{with_lost}
use Rattle.rbf_change.specs.Calls.{shape, WritesFileAt}
use Rattle.rbf_change.specs.NewFiles.{Creates, MakesDirectory, Deletes}
use Rattle.vol_tools.specs.Listing.{directory_lines}
use Rattle.vol_tools.specs.Numbers.{way_end, create_number, make_dir_number, remove_number, get_number, list_number}
use Rattle.vol_tools.specs.Path.{Place, place_of, path_names, directory_names}

pub data Tool : Type 0 where
  -- makes a file with these bytes
  put : (path bytes : List ℕ) → Tool
  get : (path : List ℕ) → Tool
  mkdir : (path : List ℕ) → Tool
  remove : (path : List ℕ) → Tool
  list : (path : List ℕ) → Tool
  repair : Tool

-- directory d and a name in it, which a path names
pub record LeadsTo (v : DiskVolume) (path : List ℕ) (d : ℕ) (name : List ℕ) : Type 0 where
  pub place : Place
  pub is : place_of path ≡ Some place
  pub way : way_end v place.way ≡ arrives d
  pub named : name ≡ place.name

-- a file at the end of these names
pub record ReachesFile (v : DiskVolume) (names : Option (List (List ℕ))) (file : DiskFile) : Type 0 where
  pub way : List (List ℕ)
  pub are : names ≡ Some way
  pub number : ℕ
  pub arrives_there : way_end v way ≡ arrives number
  pub there : v.files number ≡ Some file

-- the attributes of a file made by `put`: its owner may read and write it, others may read it; and those of a directory
abbrev pub file_attributes : ℕ
file_attributes = 0x0B

abbrev pub directory_attributes : ℕ
directory_attributes = 0xBF

-- a file is created
pub record CreatesAt (v w : DiskVolume) (path : List ℕ) (number : ℕ) (now : TimePacket) : Type 0 where
  pub allowed : create_number v path ≡ None
  pub directory : ℕ
  pub name : List ℕ
  pub leads : LeadsTo v path directory name
  pub creates : Creates v w directory number name file_attributes 0 now

-- and its bytes are written by one write
pub record PutsFileAt (v w : DiskVolume) (path bytes : List ℕ) (now : TimePacket) : Type 0 where
  pub number : ℕ
  pub created : DiskVolume
  pub creates : CreatesAt v created path number now
  pub writes : WritesFileAt created w number 0 bytes now

-- a directory is made
pub record MakesDirectoryAt (v w : DiskVolume) (path : List ℕ) (now : TimePacket) : Type 0 where
  pub allowed : make_dir_number v path ≡ None
  pub directory : ℕ
  pub name : List ℕ
  pub number : ℕ
  pub leads : LeadsTo v path directory name
  pub makes : MakesDirectory v w directory number name directory_attributes 0 now

pub record RemovesAt (v w : DiskVolume) (path : List ℕ) : Type 0 where
  pub allowed : remove_number v path ≡ None
  pub directory : ℕ
  pub name : List ℕ
  pub number : ℕ
  pub leads : LeadsTo v path directory name
  pub deletes : Deletes v w directory number name

-- the bytes of a file, and the lines of a directory
pub record IsFileRead (v : DiskVolume) (path answer : List ℕ) : Type 0 where
  pub allowed : get_number v path ≡ None
  pub file : DiskFile
  pub reaches : ReachesFile v (path_names path) file
  pub bytes : answer ≡ file.contents

pub record IsListed (v : DiskVolume) (path answer : List ℕ) : Type 0 where
  pub allowed : list_number v path ≡ None
  pub file : DiskFile
  pub reaches : ReachesFile v (directory_names path) file
  pub lines : answer ≡ directory_lines v file

-- no cluster is lost any longer
abbrev pub repaired : DiskVolume → DiskVolume
repaired v = with_lost v (λ c. false)

-- the line with the number of clusters that have become free, and the clusters that a repair frees: all lost ones
abbrev pub freed_line : ℕ → List ℕ
freed_line count = codes "freed " ++ decimal count ++ codes "\n"

abbrev pub lost_total : DiskVolume → ℕ
lost_total v = length (lost_clusters (shape v) v)

-- a tool gives the volume w, and this is its answer
abbrev pub Gives : Tool → TimePacket → (v w : DiskVolume) → (answer : List ℕ) → Type 0
Gives (put path bytes) now v w answer = PutsFileAt v w path bytes now × (answer ≡ [])
Gives (get path) now v w answer = IsFileRead v path answer × (w ≡ v)
Gives (mkdir path) now v w answer = MakesDirectoryAt v w path now × (answer ≡ [])
Gives (remove path) now v w answer = RemovesAt v w path × (answer ≡ [])
Gives (list path) now v w answer = IsListed v path answer × (w ≡ v)
Gives repair now v w answer = (w ≡ repaired v) × (answer ≡ freed_line (lost_total v))
