-- The walk from a directory along a list of names, and the permissions that it needs.
use Rattle.std.specs.Prelude.{ℕ, ◌/◌, ◌%◌, ◌==◌, ◌&&◌, ◌||◌, Bool, false, bit_and, bytes_eq, List, [], ◌∷◌, map, length, find, Option, Some, None, option_map, if◌then◌else◌}
use Rattle.std.specs.List.{range_with_len}
use Rattle.os9_base.specs.Name.{lower}
use Rattle.rbf_model.specs.Fields.{directory_entry, is_used, entry_name_field, descriptor_field}
use Rattle.rbf_model.specs.File.{DiskFile, is_directory}

-- a user's permissions on a file: 1 read, 2 write, 4 execute. The owner and user 0 have the low three bits of the
-- attributes, others the next three (FD.ATT)
abbrev pub granted : ℕ → ℕ → ℕ → ℕ
granted attributes owner user =
    if (user == 0) || (user == owner) then attributes % 8 else attributes / 8 % 8

-- all permissions that a mode asks for are granted
abbrev pub permits : ℕ → ℕ → ℕ → ℕ → Bool
permits attributes owner user mode = bit_and (granted attributes owner user) (mode % 8) == mode % 8

abbrev pub file_permits : DiskFile → ℕ → ℕ → Bool
file_permits file user mode = permits file.attributes file.owner user mode

-- a directory that a user may search: one that the user may read, or, in search of a file to execute, may execute
abbrev pub may_search : DiskFile → ℕ → Bool → Bool
may_search file user execute = is_directory file && file_permits file user (if execute then 4 else 1)

-- the entries of a directory
abbrev pub directory_entries : List ℕ → List (List ℕ)
directory_entries contents = map (directory_entry contents) (range_with_len 0 (length contents / 32))

-- the two names agree with the case of letters ignored
abbrev pub same_names : List ℕ → Option (List ℕ) → Bool
same_names name None = false
same_names name (Some other) = bytes_eq (map lower name) (map lower other)

-- a used entry has the name
abbrev pub entry_has_name : List ℕ → List ℕ → Bool
entry_has_name name entry = is_used entry && same_names name (entry_name_field entry)

-- the descriptor that a directory names by this name
abbrev pub look_up : List ℕ → List ℕ → Option ℕ
look_up contents name = option_map descriptor_field (find (entry_has_name name) (directory_entries contents))

-- the end of a walk: at a file, at a directory that may not be searched, or at a name that is not there
pub data WalkEnd : Type 0 where
  arrives : ℕ → WalkEnd
  not_allowed : WalkEnd
  not_found : WalkEnd

-- the end at the descriptor that was looked up
abbrev pub end_at : Option ℕ → WalkEnd
end_at None = not_found
end_at (Some n) = arrives n

-- the end of the step of a user from a directory by a name
abbrev pub step : Option DiskFile → ℕ → Bool → List ℕ → WalkEnd
step None user execute name = not_found
step (Some dir) user execute name =
    if may_search dir user execute then end_at (look_up dir.contents name) else not_allowed

-- the rest of a walk, from the file at which it arrives
abbrev pub go_on : WalkEnd → (ℕ → WalkEnd) → WalkEnd
go_on (arrives n) next = next n
go_on not_allowed next = not_allowed
go_on not_found next = not_found

-- the walk from directory d along the names, for a user
abbrev pub walk : (ℕ → Option DiskFile) → ℕ → Bool → ℕ → List (List ℕ) → WalkEnd
walk files user execute d [] = arrives d
walk files user execute d (name ∷ names) =
    go_on (step (files d) user execute name) (λ n. walk files user execute n names)
