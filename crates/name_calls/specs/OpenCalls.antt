-- The greatest number of drive calls in I$Open and I$Create (this project's own): for each directory of the walk, and
-- for the file or the directory at its end.
use Rattle.std.specs.Prelude.{ℕ, ◌+◌, List}
use Rattle.std.specs.Option.{option_map_or}
use Rattle.rbf_model.specs.File.{DiskFile}
use Rattle.rbf_model.specs.Volume.{DiskVolume}
use Rattle.rbf_entries.specs.Entering.{entry_calls}
use Rattle.rbf_entries.specs.Places.{place_calls}
use Rattle.file_rules.specs.Files.{Asker, Files, volume_at}
use Rattle.file_rules.specs.Open.{is_for_execution}
use Rattle.file_rules.specs.Route.{Route, along, to_device, nowhere, before_last, last_of, list_of, route_of, route_to_new}
use Rattle.file_routes.specs.Calls.{listed_calls, walk_and}

-- ---- I$Open

-- the descriptor of the file
abbrev pub opening_calls : Asker → Files → Route → ℕ
opening_calls asker files (along from names) =
    walk_and asker.user (is_for_execution asker.caller.regs.a) from.number names (λ v file. 1)
    (volume_at files from.drive)
opening_calls asker files to_device = 0
opening_calls asker files (nowhere number) = 0

abbrev pub i_open_calls : Asker → Files → ℕ → ℕ
i_open_calls asker files terms =
    listed_calls (list_of asker)
    (λ list. opening_calls asker files (route_of asker files terms (is_for_execution asker.caller.regs.a) list))

-- ---- I$Create

-- after the place of its entry has been found: a sector of the map, the descriptor of the new file, and the entry
abbrev pub calls_at_place : DiskVolume → DiskFile → ℕ
calls_at_place v dir = 2 + entry_calls v dir

-- a file with this name in a directory
abbrev pub new_file_calls : Asker → List ℕ → DiskVolume → DiskFile → ℕ
new_file_calls asker name v dir =
    place_calls dir name asker.user (is_for_execution asker.caller.regs.a) + calls_at_place v dir

-- with the last of the names
abbrev pub creating_calls : Asker → Files → Route → ℕ
creating_calls asker files (along from names) =
    option_map_or (λ name. walk_and asker.user (is_for_execution asker.caller.regs.a) from.number (before_last names)
    (new_file_calls asker name) (volume_at files from.drive)) (last_of names) 0
creating_calls asker files to_device = 0
creating_calls asker files (nowhere number) = 0

abbrev pub i_create_calls : Asker → Files → ℕ → ℕ
i_create_calls asker files terms =
    listed_calls (list_of asker)
    (λ list. creating_calls asker files (route_to_new asker files terms (is_for_execution asker.caller.regs.a) list))
