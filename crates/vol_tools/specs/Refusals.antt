-- When a tool is refused, and with which number; and what it leaves if a fault of the drive ends it.
use Rattle.std.specs.Prelude.{◌≡◌, ◌⊎◌, ℕ, ◌≤◌, ◌<◌, ◌&&◌, ◌||◌, Option, Some, None, List, length}
use Rattle.os9_base.specs.declared.registers.TimePacket.{TimePacket}
use Rattle.os9_base.specs.declared.errors.TheConstants.{E_FULL, E_SLF}
use Rattle.rbf_model.specs.File.{DiskFile}
use Rattle.rbf_model.specs.Space.{has_cluster, is_whole}
use Rattle.rbf_model.specs.Volume.{DiskVolume}
use Rattle.rbf_change.specs.Calls.{shape, cluster_size, is_free_in, free_total}
use Rattle.rbf_change.specs.Contents.{written}
use Rattle.rbf_change.specs.Faults.{EntryEnds, MayLose, WriteEnds}
use Rattle.rbf_change.specs.Growth.{clusters_needed, IsOneTooMany}
use Rattle.rbf_change.specs.NewFiles.{Plan, file_plan, directory_plan}
use Rattle.vol_tools.specs.Numbers.{create_number, make_dir_number, remove_number, get_number, list_number}
use Rattle.vol_tools.specs.Tool.{Tool, put, get, mkdir, remove, list, repair, file_attributes, directory_attributes, CreatesAt, LeadsTo, RemovesAt}

-- the number with which a tool is refused before it changes anything, if it is
abbrev pub refused_number : DiskVolume → Tool → Option ℕ
refused_number v (put path bytes) = create_number v path
refused_number v (get path) = get_number v path
refused_number v (mkdir path) = make_dir_number v path
refused_number v (remove path) = remove_number v path
refused_number v (list path) = list_number v path
refused_number v repair = None

-- the number of clusters that a file needs to hold these bytes
abbrev pub needs : DiskVolume → DiskFile → List ℕ → ℕ
needs v file bytes = clusters_needed (cluster_size v) file.segments (length (written file.contents 0 bytes))

-- a write of these bytes to the new file is refused: too few clusters are free, or enough are and a chosen one does not
-- fit the list of segments
pub data RefusesBytes (v : DiskVolume) (file : DiskFile) (bytes : List ℕ) : ℕ → Type 0 where
  full : free_total v < needs v file bytes → RefusesBytes v file bytes E_FULL
  long : {chosen : List ℕ} → needs v file bytes ≤ free_total v
      → IsOneTooMany (cluster_size v) (is_free_in v) file.segments (length (written file.contents 0 bytes)) chosen
      → RefusesBytes v file bytes E_SLF

-- the bytes of a new file are refused: the empty file is in the volume
pub record RefusesPut (v w : DiskVolume) (path bytes : List ℕ) (now : TimePacket) (number : ℕ) : Type 0 where
  pub file_number : ℕ
  pub creates : CreatesAt v w path file_number now
  pub file : DiskFile
  pub there : w.files file_number ≡ Some file
  pub refused : RefusesBytes w file bytes number

-- a tool is refused at once, or after it has made a file for its bytes
abbrev pub RefusesAtOnce : Tool → (v w : DiskVolume) → (number : ℕ) → Type 0
RefusesAtOnce tool v w number = (refused_number v tool ≡ Some number) × (w ≡ v)

abbrev pub RefusesLate : Tool → TimePacket → (v w : DiskVolume) → (number : ℕ) → Type 0
RefusesLate (put path bytes) now v w number = RefusesPut v w path bytes now number
RefusesLate (get path) now v w number = ⊥
RefusesLate (mkdir path) now v w number = ⊥
RefusesLate (remove path) now v w number = ⊥
RefusesLate (list path) now v w number = ⊥
RefusesLate repair now v w number = ⊥

-- a tool is refused with a number, and gives the volume w
abbrev pub RefusesTool : Tool → TimePacket → (v w : DiskVolume) → (number : ℕ) → Type 0
RefusesTool tool now v w number = RefusesAtOnce tool v w number ⊎ RefusesLate tool now v w number

-- a fault occurred before the new file of a path had its entry: the tree is unchanged, and clusters may be lost
pub record MakingStops (v w : DiskVolume) (path : List ℕ) (plan : ℕ → ℕ → Plan) : Type 0 where
  pub directory : ℕ
  pub name : List ℕ
  pub leads : LeadsTo v path directory name
  pub number : ℕ
  pub ends : EntryEnds v w directory number name (plan directory number)

-- or after it had: the file is empty, and clusters may be lost
pub record FillingStops (v w : DiskVolume) (path bytes : List ℕ) (now : TimePacket) : Type 0 where
  pub number : ℕ
  pub created : DiskVolume
  pub creates : CreatesAt v created path number now
  pub ends : (w ≡ created) ⊎ WriteEnds created w number 0 bytes

-- a fault occurred after the file of a path was removed: some of its whole clusters may be lost
pub record RemovalStops (v w : DiskVolume) (path : List ℕ) : Type 0 where
  pub removed : DiskVolume
  pub removes : RemovesAt v removed path
  pub file : DiskFile
  pub there : v.files removes.number ≡ Some file
  pub lose : MayLose removed w (λ c. is_whole (shape v) c && has_cluster (shape v) removes.number file c)

-- a fault of the drive has ended a tool that is not refused and that had begun to change the volume
abbrev pub StopsHalfway : Tool → TimePacket → (v w : DiskVolume) → Type 0
StopsHalfway (put path bytes) now v w =
    MakingStops v w path (λ d n. file_plan file_attributes 0 now) ⊎ FillingStops v w path bytes now
StopsHalfway (get path) now v w = ⊥
StopsHalfway (mkdir path) now v w = MakingStops v w path (directory_plan directory_attributes 0 now)
StopsHalfway (remove path) now v w = RemovalStops v w path
StopsHalfway (list path) now v w = ⊥
StopsHalfway repair now v w = ⊥

-- what a fault of the drive may leave of a tool: the unchanged volume, or what the tool had made of it so far
pub data ToolMayLeave (tool : Tool) (now : TimePacket) (v w : DiskVolume) : Type 0 where
  unchanged : w ≡ v → ToolMayLeave tool now v w
  halfway : refused_number v tool ≡ None → StopsHalfway tool now v w → ToolMayLeave tool now v w
