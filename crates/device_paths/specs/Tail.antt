-- How the names of a path list end.
use Rattle.std.specs.Prelude.{ℕ, ◌-◌, ◌<◌, ⊤, ◌+◌, Bool, true, false, Result, Ok, Err, List, length, slice_get}
use Rattle.std.specs.Option.{option_map_or}
use Rattle.os9_base.specs.declared.name_fault.NameFault.{NameFault}
use Rattle.os9_base.specs.declared.name_fault.NameFault.TheVariants.{Unreadable}
use Rattle.io_model.specs.PathList.{Names, is_dots}
use Rattle.io_model.specs.PathList as PathList
use Rattle.device_paths.specs.declared.names.Behind.{Behind}
use Rattle.device_paths.specs.declared.names.Step.{Step}
use Rattle.device_paths.specs.declared.names.Step.TheVariants.{Another, Last}
use Rattle.device_paths.specs.declared.names.Tail.{Tail}

-- what follows a name, as path lists have it
abbrev pub behind_of : Behind → PathList.Behind
behind_of Behind.Another = PathList.another
behind_of Behind.Slash = PathList.a_slash
behind_of Behind.Nothing = PathList.nothing
behind_of Behind.Unreadable = PathList.unreadable

-- the last of some names means a directory itself or its parent
abbrev pub last_is_dots : List (List ℕ) → Bool
last_is_dots names = option_map_or is_dots (slice_get names (length names - 1)) false

-- how these names end
abbrev pub tail_of : Result Names NameFault → Result Tail NameFault
tail_of (Ok found) = Ok (record { dots = last_is_dots found.names; slash = found.slash; next = found.next })
tail_of (Err fault) = Err fault

-- how names end after the first one: `rest` is how the names from an address on end
abbrev pub tail_after : (ℕ → Result Tail NameFault) → Result Step NameFault → Result Tail NameFault
tail_after rest (Ok (Another next)) = rest next
tail_after rest (Ok (Last tail)) = Ok tail
tail_after rest (Err fault) = Err fault

-- the next name, if one follows, begins after this address
abbrev pub HasLaterName : ℕ → Result Step NameFault → Type 0
HasLaterName at (Ok (Another next)) = (at < next) × (next < 65536)
HasLaterName at (Ok (Last tail)) = ⊤
HasLaterName at (Err fault) = ⊤

-- a last name that ends before this address
abbrev pub last_step : List ℕ → Bool → ℕ → Step
last_step name slash next = Last (record { dots = is_dots name; slash = slash; next = next })

-- a name that ends before an address, by what follows it
abbrev pub step_by : List ℕ → ℕ → PathList.Behind → Result Step NameFault
step_by name next PathList.another = Ok (Another (next + 1))
step_by name next PathList.a_slash = Ok (last_step name true next)
step_by name next PathList.nothing = Ok (last_step name false next)
step_by name next PathList.unreadable = Err Unreadable
