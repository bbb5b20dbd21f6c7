-- New files and their entries, and files that are removed.
use Rattle.std.specs.Prelude.{◌≡◌, ℕ, ◌+◌, ◌-◌, ◌*◌, ◌/◌, ◌%◌, ◌==◌, ◌&&◌, ◌||◌, nat_lt, Bool, true, not, List, [], ◌∷◌, length, Option, Some, None, is_some, if◌then◌else◌}
use Rattle.os9_base.specs.declared.registers.TimePacket.{TimePacket}
use Rattle.rbf_model.specs.Fields.{directory_entry, descriptor_field}
use Rattle.rbf_model.specs.Geometry.{Geometry}
use Rattle.rbf_model.specs.File.{DiskFile}
use Rattle.rbf_model.specs.Space.{has_cluster}
use Rattle.rbf_model.specs.Volume.{DiskVolume}
use Rattle.rbf_model.specs.Walk.{look_up}
use Rattle.rbf_model.specs.Laws.{with_directory_entry}
use Rattle.rbf_change.specs.Growth.{with_clusters, clusters_needed, IsChoice}
use Rattle.rbf_change.specs.Names.{new_entry, freed_entry, new_listing, entry_place, place_of, may_change, is_dots}
use Rattle.rbf_change.specs.Calls.{shape, cluster_size, is_free_in, replaced, minute_of, day_of, WritesFile}

-- the plan of a new file: attributes, owner, contents, and the time of its creation
pub record Plan : Type 0 where
  pub attributes : ℕ
  pub owner : ℕ
  pub contents : List ℕ
  pub made : TimePacket

-- a file without contents
abbrev pub file_plan : ℕ → ℕ → TimePacket → Plan
file_plan attributes user now = record { attributes = attributes; owner = user; contents = []; made = now }

-- directory n in directory d: bit 7 is set
abbrev pub directory_plan : ℕ → ℕ → TimePacket → ℕ → ℕ → Plan
directory_plan attributes user now d n =
    record { attributes = 128 + attributes % 128; owner = user; contents = new_listing n d; made = now }

-- the first segment of a new file n: the sectors of its descriptor's cluster after the descriptor
abbrev pub first_segments : ℕ → ℕ → List (ℕ × ℕ)
first_segments k n = if k == 1 then [] else (n + 1, k - 1) ∷ []

-- the clusters that are free after that of descriptor n has been taken
abbrev pub free_but : ℕ → (ℕ → Bool) → ℕ → ℕ → Bool
free_but k free n c = free c && not (c == n / k)

-- a new file n: its descriptor is the first sector of a free cluster; it also gains the clusters that its contents need
pub record IsNewFile (k : ℕ) (free : ℕ → Bool) (n : ℕ) (plan : Plan) (file : DiskFile) : Type 0 where
  pub cluster : ℕ
  pub first : n ≡ cluster * k
  pub taken : free cluster ≡ true
  pub gained : List ℕ
  pub choice : IsChoice k (free_but k free n) (first_segments k n) (length plan.contents) gained
  pub is : file ≡ record {
    attributes = plan.attributes;
    owner = plan.owner;
    modified = minute_of plan.made;
    links = 1;
    created = day_of plan.made;
    segments = with_clusters k (first_segments k n) gained;
    contents = plan.contents;
  }

-- the clusters that are free after file n has taken its own
abbrev pub free_without : Geometry → (ℕ → Bool) → ℕ → DiskFile → ℕ → Bool
free_without g free n file c = free c && not (has_cluster g n file c)

-- a new file n with a name in directory d, and the directory that has it. The file takes its clusters before the
-- directory does
pub record IsFileEntered (v : DiskVolume) (d n : ℕ) (name : List ℕ) (plan : Plan) : Type 0 where
  pub old : DiskFile
  pub new : DiskFile
  pub file : DiskFile
  pub is : v.files d ≡ Some old
  pub made : IsNewFile (cluster_size v) (is_free_in v) n plan file
  pub entry : WritesFile (cluster_size v) (free_without (shape v) (is_free_in v) n file)
      (32 * entry_place old.contents) (new_entry name n) plan.made old new

-- it has been put into the volume
pub record EntersNewFile (v w : DiskVolume) (d n : ℕ) (name : List ℕ) (plan : Plan) : Type 0 where
  pub both : IsFileEntered v d n name plan
  pub volume : w ≡ replaced (replaced v d (Some both.new)) n (Some both.file)

-- a user creates a file
abbrev pub Creates : DiskVolume → DiskVolume → ℕ → ℕ → List ℕ → ℕ → ℕ → TimePacket → Type 0
Creates v w d n name attributes user now = EntersNewFile v w d n name (file_plan attributes user now)

-- a user makes a directory
abbrev pub MakesDirectory : DiskVolume → DiskVolume → ℕ → ℕ → List ℕ → ℕ → ℕ → TimePacket → Type 0
MakesDirectory v w d n name attributes user now = EntersNewFile v w d n name (directory_plan attributes user now d n)

-- why a new entry is refused: errors 215, 214, 218, 248 and 217
pub data NewEntryRefusal : Type 0 where
  bad_path : NewEntryRefusal
  not_allowed : NewEntryRefusal
  exists : NewEntryRefusal
  no_cluster : NewEntryRefusal
  too_many_runs : NewEntryRefusal

-- the number of clusters that a directory still needs for a new entry
abbrev pub entry_clusters : ℕ → DiskFile → ℕ
entry_clusters k dir = clusters_needed k dir.segments (32 * (entry_place dir.contents + 1))

-- the number that a new file of this size needs, including its descriptor's
abbrev pub file_clusters : ℕ → ℕ → ℕ
file_clusters k size = 1 + clusters_needed k (first_segments k 0) size

-- whether a new file of a size is refused a name in a directory, and the first reason that applies
abbrev pub entry_refusal : ℕ → ℕ → DiskFile → List ℕ → ℕ → Bool → ℕ → Option NewEntryRefusal
entry_refusal k free dir name user execute size =
    if is_dots name then Some bad_path
    else (if not (may_change dir user execute) then Some not_allowed
    else (if is_some (look_up dir.contents name) then Some exists
    else (if nat_lt free (file_clusters k size + entry_clusters k dir) then Some no_cluster
    else (if nat_lt 0 (entry_clusters k dir) && (length dir.segments == 48) then Some too_many_runs
    else None))))

-- the entry in place i of directory d is now free, and file n that it named is removed
pub record Drops (v w : DiskVolume) (d i n : ℕ) : Type 0 where
  pub old : DiskFile
  pub is : v.files d ≡ Some old
  pub named : descriptor_field (directory_entry old.contents i) ≡ n
  pub volume : w
      ≡ replaced
      (replaced v d (Some (with_directory_entry old i (freed_entry (directory_entry old.contents i))))) n None

-- file n has been deleted from directory d, where it had a name
pub record Deletes (v w : DiskVolume) (d n : ℕ) (name : List ℕ) : Type 0 where
  pub dir : DiskFile
  pub is : v.files d ≡ Some dir
  pub place : ℕ
  pub there : place_of dir.contents name ≡ Some place
  pub drops : Drops v w d place n

-- the owner and user 0 may change attributes
abbrev pub owns_file : DiskFile → ℕ → Bool
owns_file file user = (user == 0) || (user == file.owner)
