-- Entries of directories: their bytes and places, and what a user may do with them.
use Rattle.std.specs.Prelude.{ℕ, ◌+◌, ◌/◌, ◌%◌, ◌&&◌, ◌||◌, Bool, false, not, bytes_eq, List, [], ◌∷◌, ◌++◌, length, drop, position, unwrap_or, Option, Some, None, if◌then◌else◌}
use Rattle.os9_base.specs.Name.{padded_name, marked_name}
use Rattle.rbf_model.specs.Fields.{is_used}
use Rattle.rbf_model.specs.File.{DiskFile, is_directory}
use Rattle.rbf_model.specs.Tree.{dot, dot_dot}
use Rattle.rbf_model.specs.Walk.{WalkEnd, arrives, not_allowed, not_found, directory_entries, entry_has_name, look_up, may_search, file_permits}

-- the 32 bytes of a new entry: its name, zeros after it, and the number of its descriptor
abbrev pub new_entry : List ℕ → ℕ → List ℕ
new_entry name n = padded_name (marked_name name) ++ n / 65536 ∷ n / 256 % 256 ∷ n % 256 ∷ []

-- an entry that is made free: its first byte is 0, and the others are unchanged
abbrev pub freed_entry : List ℕ → List ℕ
freed_entry entry = 0 ∷ drop 1 entry

-- the bytes of a new directory n in directory d: its parent, and itself
abbrev pub new_listing : ℕ → ℕ → List ℕ
new_listing n d = new_entry dot_dot d ++ new_entry dot n

-- the place of a new entry: the first free place, otherwise the end
abbrev pub entry_place : List ℕ → ℕ
entry_place contents =
    unwrap_or (position (λ entry. not (is_used entry)) (directory_entries contents)) (length contents / 32)

-- the place of the entry with this name
abbrev pub place_of : List ℕ → List ℕ → Option ℕ
place_of contents name = position (entry_has_name name) (directory_entries contents)

-- a directory that a user may search and change
abbrev pub may_change : DiskFile → ℕ → Bool → Bool
may_change dir user execute = may_search dir user execute && file_permits dir user 2

-- the names that every directory has
abbrev pub is_dots : List ℕ → Bool
is_dots name = bytes_eq name dot || bytes_eq name dot_dot

-- a file that a user may delete
abbrev pub may_delete : Option DiskFile → ℕ → Bool
may_delete None user = false
may_delete (Some file) user = not (is_directory file) && file_permits file user 2

-- the end of a deletion that has found this descriptor
abbrev pub deletion_of : (ℕ → Option DiskFile) → ℕ → Option ℕ → WalkEnd
deletion_of files user None = not_found
deletion_of files user (Some n) = if may_delete (files n) user then arrives n else not_allowed

-- the end of a deletion of a name in a directory: at the file that is removed, or the reason why none is
abbrev pub deletion_end : (ℕ → Option DiskFile) → DiskFile → List ℕ → ℕ → Bool → WalkEnd
deletion_end files dir name user execute =
    if may_change dir user execute then deletion_of files user (look_up dir.contents name) else not_allowed
