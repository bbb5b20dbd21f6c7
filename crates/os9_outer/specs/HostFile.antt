-- Files in a list.
use Rattle.std.specs.Prelude.{ℕ, Bool, Option, option_map, find, string_bytes, bytes_eq, List}
use Rattle.os9_outer.specs.declared.host_file.HostFile.{HostFile}

-- the file has this name
abbrev pub is_named : List ℕ → HostFile → Bool
is_named name file = bytes_eq (string_bytes file.name) name

-- the bytes of the first file of this name, or nothing if the list has no such file
abbrev pub file_named : List HostFile → List ℕ → Option (List ℕ)
file_named files name = option_map (λ file. file.bytes.items) (find (is_named name) files)
