-- Paths (Level Two manual, "Path descriptors"; the numbers of paths are this project's own). A descriptor is found by
-- the number of its system path, from 1 to 64. Each process has sixteen path numbers, from 0 on, and each is the image
-- of a system path or free. A path ends with its last image.
use Rattle.std.specs.Prelude.{◌≡◌, ℕ, ◌+◌, ◌<◌, ◌==◌, Bool, false, Option, Some, None, IsSome, is_none, option_map, option_and_then, List, [], ◌++◌, length, take, drop, replicate, position, slice_index_or, slice_set, if◌then◌else◌}
use Rattle.std.specs.List.{list_any}
use Rattle.std.specs.Option.{option_map_or}
use Rattle.io_model.specs.declared.path.Desc.{Desc}
use Rattle.io_model.specs.declared.path.SysPath.{SysPath}

-- the paths
pub record PathTable : Type 0 where
  pub descs : List (Option Desc)  -- by number: place s has the descriptor of system path s, or nothing
  pub own : List (List (Option SysPath))  -- by process, from 0 to 32: what each of its sixteen numbers is an image of

-- no path
abbrev pub no_paths : PathTable
no_paths = record { descs = replicate 65 None; own = replicate 33 (replicate 16 None) }

-- the descriptor of a system path, if there is one
abbrev pub desc_of : PathTable → ℕ → Option Desc
desc_of paths s = slice_index_or paths.descs s None

-- the sixteen numbers of a process
abbrev pub numbers_of : PathTable → ℕ → List (Option SysPath)
numbers_of paths p = slice_index_or paths.own p []

-- the system path of which a number of a process is an image, if it is one
abbrev pub slot_of : PathTable → ℕ → ℕ → Option SysPath
slot_of paths p n = slice_index_or (numbers_of paths p) n None

-- a number names a path of the process
abbrev pub IsOpen : PathTable → ℕ → ℕ → Type 0
IsOpen paths p n = IsSome (slot_of paths p n)

-- a place is an image of a system path
abbrev pub is_image : ℕ → Option SysPath → Bool
is_image s None = false
is_image s (Some path) = path.0 == s

-- a process holds a path by one of its numbers
abbrev pub holds_path : PathTable → ℕ → ℕ → Bool
holds_path paths p s = list_any (is_image s) (numbers_of paths p)

-- some process holds a path
abbrev pub is_held : PathTable → ℕ → Bool
is_held paths s = list_any (list_any (is_image s)) paths.own

-- the invariant of the paths: 64 places after the first, sixteen numbers for each of 33 processes, no system path 0,
-- and no image of a path that does not exist
pub record ArePaths (paths : PathTable) : Type 0 where
  pub places : length paths.descs ≡ 65
  pub processes : length paths.own ≡ 33
  pub numbers : (p : ℕ) → p < 33 → length (numbers_of paths p) ≡ 16
  pub from_one : desc_of paths 0 ≡ None
  pub there : (p n : ℕ) (s : SysPath) → slot_of paths p n ≡ Some s → IsSome (desc_of paths s.0)

-- the paths with this descriptor for a system path, or with none
abbrev pub with_desc : PathTable → ℕ → Option Desc → PathTable
with_desc paths s desc = record paths { descs = slice_set paths.descs s desc }

-- the paths with these numbers for a process
abbrev pub with_numbers : PathTable → ℕ → List (Option SysPath) → PathTable
with_numbers paths p numbers = record paths { own = slice_set paths.own p numbers }

-- the paths in which one number of a process is an image of this path, or free
abbrev pub with_slot : PathTable → ℕ → ℕ → Option SysPath → PathTable
with_slot paths p n path = with_numbers paths p (slice_set (numbers_of paths p) n path)

-- the least free number of a process
abbrev pub free_number : PathTable → ℕ → Option ℕ
free_number paths p = position is_none (numbers_of paths p)

-- the least free system path
abbrev pub free_path : PathTable → Option ℕ
free_path paths = option_map (λ k. k + 1) (position is_none (drop 1 paths.descs))

-- the number of a new path of a process, if both it and a system path are free
abbrev pub new_number : PathTable → ℕ → Option ℕ
new_number paths p = option_and_then (λ n. option_map (λ s. n) (free_path paths)) (free_number paths p)

-- the paths with a new one, of these numbers
abbrev pub with_path : PathTable → ℕ → Desc → ℕ → ℕ → PathTable
with_path paths p desc n s = with_slot (with_desc paths s (Some desc)) p n (Some (record { 0 = s }))

-- the paths after a process begins one
abbrev pub paths_after_begin : PathTable → ℕ → Desc → PathTable
paths_after_begin paths p desc =
    option_map_or (λ n. option_map_or (with_path paths p desc n) (free_path paths) paths) (free_number paths p) paths

-- the paths after a number of a process is duplicated (I$Dup): its least free number is an image of the same path
abbrev pub paths_after_dup : PathTable → ℕ → ℕ → PathTable
paths_after_dup paths p n =
    option_map_or (λ free. with_slot paths p free (slot_of paths p n)) (free_number paths p) paths

-- the numbers that a child gets: its parent's first three, and no more
abbrev pub inherited_numbers : List (Option SysPath) → List (Option SysPath)
inherited_numbers numbers = take 3 numbers ++ replicate 13 None

-- the paths after a process gets images of another's standard paths (F$Fork)
abbrev pub paths_after_inherit : PathTable → ℕ → ℕ → PathTable
paths_after_inherit paths parent child = with_numbers paths child (inherited_numbers (numbers_of paths parent))

-- the system path of which a number of a process is an image; 0, which is not a path, if the number is free
abbrev pub path_at : PathTable → ℕ → ℕ → ℕ
path_at paths p n = option_map_or (λ s. s.0) (slot_of paths p n) 0

-- the paths without this one, if no process holds it
abbrev pub without_unheld : PathTable → ℕ → PathTable
without_unheld paths s = if is_held paths s then paths else with_desc paths s None

-- the paths after a process closes a number (I$Close)
abbrev pub paths_after_close : PathTable → ℕ → ℕ → PathTable
paths_after_close paths p n = without_unheld (with_slot paths p n None) (path_at paths p n)

-- the descriptor of the path that ends when a process closes a number, if one ends
abbrev pub closed_desc : PathTable → ℕ → ℕ → Option Desc
closed_desc paths p n =
    if is_held (with_slot paths p n None) (path_at paths p n) then None else desc_of paths (path_at paths p n)
