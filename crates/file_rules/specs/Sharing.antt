-- Whether a file may be shared (System Programmer's Manual, I$Open; OS-9 Technical Reference, FD.ATT, single user). The
-- paths of every process count; a directory of a process is not a path.
use Rattle.std.specs.Prelude.{ℕ, ◌==◌, ◌&&◌, ◌||◌, Bool, true, false, Option, Some, None}
use Rattle.std.specs.List.{list_any}
use Rattle.std.specs.Option.{option_map_or}
use Rattle.io_model.specs.declared.path.Desc.{Desc}
use Rattle.io_model.specs.Modes.{has_bit_of}
use Rattle.file_rules.specs.Files.{Files, place_of_target}
use Rattle.file_rules.specs.Route.{Found}
use Rattle.file_rules.specs.declared.status.TheConstants.{SINGLE_USER}
use Rattle.lock_model.specs.declared.place.FilePlace.{FilePlace}

abbrev pub is_same_place : FilePlace → FilePlace → Bool
is_same_place one other = (one.drive == other.drive) && (one.number == other.number)

-- a path, by its descriptor, is on the file at a place, and passes a test
abbrev pub is_path_on : FilePlace → (Desc → Bool) → Option Desc → Bool
is_path_on place test None = false
is_path_on place test (Some desc) =
    option_map_or (is_same_place place) (place_of_target desc.target) false && test desc

-- some path on the file passes a test
abbrev pub some_path_on : Files → FilePlace → (Desc → Bool) → Bool
some_path_on files place test = list_any (is_path_on place test) files.io.paths.descs

-- there is a path on the file
abbrev pub is_open : Files → FilePlace → Bool
is_open files place = some_path_on files place (λ desc. true)

-- a mode or an attribute byte says a single user
abbrev pub is_single : ℕ → Bool
is_single bits = has_bit_of SINGLE_USER bits

-- a file may not be opened with a mode: another path is on it, and the file, the mode or such a path is for a single
-- user
abbrev pub is_not_shared : Files → Found → ℕ → Bool
is_not_shared files found mode =
    is_open files found.place
    && (is_single found.file.attributes || is_single mode
    || some_path_on files found.place (λ desc. is_single desc.mode))
