-- Paths on files and directories of drives (System Programmer's Manual, I$Open).
use Rattle.std.specs.Prelude.{ℕ, ◌==◌, ◌&&◌, Bool, false, Option, Some, None, ⊤}
use Rattle.std.specs.List.{list_any}
use Rattle.io_model.specs.declared.path.Desc.{Desc}
use Rattle.io_model.specs.declared.path.Target.{Target}
use Rattle.io_model.specs.declared.path.Target.TheVariants.{File, Folder, Term, Pipe}
use Rattle.io_model.specs.Io.{Io}

-- a path may be opened on this file or directory
abbrev pub IsOnDisk : Target → Type 0
IsOnDisk (File drive number) = ⊤
IsOnDisk (Folder drive number) = ⊤
IsOnDisk (Term terminal) = ⊥
IsOnDisk (Pipe pipe) = ⊥

-- the target of a path is the file or directory of this number of a drive
abbrev pub is_of_file : ℕ → ℕ → Target → Bool
is_of_file drive number (File on file) = (drive == on) && (number == file)
is_of_file drive number (Folder on file) = (drive == on) && (number == file)
is_of_file drive number (Term terminal) = false
is_of_file drive number (Pipe pipe) = false

-- a path, by its descriptor, is on that file or directory, and passes a test
abbrev pub is_path_on : ℕ → ℕ → (Desc → Bool) → Option Desc → Bool
is_path_on drive number test None = false
is_path_on drive number test (Some desc) = is_of_file drive number desc.target && test desc

-- some path on that file or directory passes a test
abbrev pub some_path_on : Io → ℕ → ℕ → (Desc → Bool) → Bool
some_path_on io drive number test = list_any (is_path_on drive number test) io.paths.descs
