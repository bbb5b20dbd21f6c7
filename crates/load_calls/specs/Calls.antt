-- The greatest number of calls of the drive of a file of modules (this project's own): for each directory of the walk,
-- for the descriptor of the file found, and for the bytes of the file if it is not refused.
use Rattle.std.specs.Prelude.{ℕ, ◌+◌, true, Option, Some, None, Result, Ok, Err, List}
use Rattle.io_model.specs.PathList.{PathList}
use Rattle.os9_base.specs.declared.name_fault.NameFault.{NameFault}
use Rattle.rbf_model.specs.File.{DiskFile}
use Rattle.rbf_model.specs.Volume.{DiskVolume}
use Rattle.rbf_model.specs.Walk.{walk}
use Rattle.rbf_access.specs.Reading.{read_calls}
use Rattle.rbf_walk.specs.Walk.{calls_on, walk_calls}
use Rattle.file_rules.specs.Files.{Asker, Files, volume_at}
use Rattle.file_rules.specs.ProgramFile.{program_file}
use Rattle.file_rules.specs.Route.{Found, Route, along, to_device, nowhere, list_of, route_of}
use Rattle.lock_model.specs.declared.place.FilePlace.{FilePlace}
use Rattle.file_state.specs.Counted.{calls_of}
use Rattle.file_routes.specs.Routes.{refuses_by}
use Rattle.load_calls.specs.Found.{program_size}

-- for this number of bytes of a file; none are read of a refused file
abbrev pub size_calls : DiskFile → Result ℕ ℕ → ℕ
size_calls file (Ok size) = read_calls file 0 size
size_calls file (Err number) = 0

-- for a file that was found
abbrev pub found_calls : ℕ → Files → Found → ℕ
found_calls user files found = 1 + size_calls found.file (program_size user files found)

abbrev pub calls_at_end : ℕ → Files → FilePlace → DiskVolume → Option DiskFile → ℕ
calls_at_end user files place v None = 0
calls_at_end user files place v (Some file) =
    found_calls user files (record { place = place; volume = v; file = file })

-- for a user's walk along names from a directory on a volume, and for the file found
abbrev pub calls_on_volume : ℕ → Files → FilePlace → List (List ℕ) → Option DiskVolume → ℕ
calls_on_volume user files from names None = 0
calls_on_volume user files from names (Some v) =
    walk_calls v.files user true from.number names
    + calls_on (walk v.files user true from.number names)
    (λ n. calls_at_end user files (record { drive = from.drive; number = n }) v (v.files n))

abbrev pub program_route_calls : Asker → Files → Route → ℕ
program_route_calls asker files (along from names) =
    calls_on_volume asker.user files from names (volume_at files from.drive)
program_route_calls asker files to_device = 0
program_route_calls asker files (nowhere number) = 0

abbrev pub list_calls : Asker → Files → ℕ → Result PathList NameFault → ℕ
list_calls asker files terms (Ok list) = program_route_calls asker files (route_of asker files terms true list)
list_calls asker files terms (Err fault) = 0

-- for the file of the path list at X, of a call with this refusal, if any
abbrev pub program_calls : Asker → Files → ℕ → Option ℕ → ℕ
program_calls asker files terms refusal =
    calls_of (program_file asker files terms (refuses_by refusal)) (list_calls asker files terms (list_of asker))
