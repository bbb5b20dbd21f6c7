-- Names that are read from a text.
use Rattle.std.specs.Prelude.{◌≡◌, ℕ, true, Option, Some, None, List, if◌then◌else◌}
use Rattle.std.specs.List.{list_all}
use Rattle.rbf_change.specs.Names.{is_dots}
use Rattle.vol_tools.specs.Path.{Place as ToolPlace, is_name_text, place_of}
use Rattle.vol_tools.specs.declared.place.Place.{Place}

-- the text is a name, and is this name
pub record IsNameOf (text name : List ℕ) : Type 0 where
  pub is : name ≡ text
  pub named : is_name_text text ≡ true

-- these parts, if each is a name
abbrev pub if_names : List (List ℕ) → Option (List (List ℕ))
if_names parts = if list_all is_name_text parts then Some parts else None

-- the names of the route, and the name
abbrev pub place : Place → ToolPlace
place at = record { way = at.way.items; name = at.name }

-- a place whose name is neither `.` nor `..`
abbrev pub if_proper : Option ToolPlace → Option ToolPlace
if_proper None = None
if_proper (Some at) = if is_dots at.name then None else Some at

-- the place of a new file that a path names
abbrev pub new_place : List ℕ → Option ToolPlace
new_place path = if_proper (place_of path)
