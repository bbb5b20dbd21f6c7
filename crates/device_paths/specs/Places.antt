-- The places to which path lists lead, as the code has them.
use Rattle.std.specs.Prelude.{ℕ, ◌<◌, ⊤, Bool, Result, Ok, Err}
use Rattle.device_table.specs.declared.devices.Dev.{Dev}
use Rattle.device_table.specs.declared.devices.Dev.TheVariants as Dev
use Rattle.io_model.specs.Lead.{Lead, to_terminal, to_pipe, nowhere}
use Rattle.io_model.specs.Lead as Lead
use Rattle.io_model.specs.Modes.{is_mode, can_write}
use Rattle.device_paths.specs.declared.places.Place.{Place}
use Rattle.device_paths.specs.declared.places.Place.TheVariants.{Terminal, Pipe}
use Rattle.device_paths.specs.declared.places.Search.{Search}
use Rattle.device_paths.specs.declared.places.Search.TheVariants.{Existing, New}

-- what a call looks for
abbrev pub search_of : Search → Lead.Search
search_of Existing = Lead.what_is_there
search_of New = Lead.a_new_place

-- a path may be opened with this mode
abbrev pub allows : Search → ℕ → Bool
allows Existing mode = is_mode mode
allows New mode = can_write mode

-- the target of a path list, by the place that was found
abbrev pub lead_to : Result Place ℕ → Lead
lead_to (Ok (Terminal terminal)) = to_terminal terminal
lead_to (Ok Pipe) = to_pipe
lead_to (Err number) = nowhere number

-- a terminal, as a device or as a place, is one of four
abbrev pub IsTerminalInRange : Dev → Type 0
IsTerminalInRange (Dev.Drive drive) = ⊤
IsTerminalInRange (Dev.Term terminal) = terminal < 4
IsTerminalInRange Dev.Pipe = ⊤

abbrev pub IsPlaceInRange : Place → Type 0
IsPlaceInRange (Terminal terminal) = terminal < 4
IsPlaceInRange Pipe = ⊤
