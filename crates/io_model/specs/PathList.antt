-- Path lists, by their address: names with slashes between them (System Programmer's Manual, "Path lists"). After a
-- leading slash the first name is that of a device. A list ends after a character with bit 7, or before the first byte
-- that is neither in a name nor a slash with a character of a name after it. The whole list is read before anything
-- else is done.
use Rattle.std.specs.Prelude.{ℕ, zero, suc, ◌+◌, ◌-◌, ◌==◌, ◌||◌, not, nat_le, Bool, true, false, Option, Some, None, Result, Ok, Err, List, [], ◌∷◌, length, slice_get, bytes_eq, codes, if◌then◌else◌}
use Rattle.std.specs.Option.{option_map_or}
use Rattle.os9_base.specs.Cells.{Cells}
use Rattle.os9_base.specs.Name.{is_name_character, low_bits}
use Rattle.os9_base.specs.UserNames.{user_cell, name_at}
use Rattle.os9_base.specs.declared.name_fault.NameFault.{NameFault}
use Rattle.os9_base.specs.declared.name_fault.NameFault.TheVariants.{Unreadable, NoName}
use Rattle.proc_model.specs.Program.{slash}

-- names with slashes between them
pub record Names : Type 0 where
  pub names : List (List ℕ)
  pub slash : Bool  -- a slash follows the last name
  pub next : ℕ  -- the address just past the last name

-- a path list
pub record PathList : Type 0 where
  pub device : Option (List ℕ)  -- the name of the device at which it starts, if it names one
  pub names : List (List ℕ)  -- the names that are looked up after that
  pub slash : Bool  -- a slash follows the last name
  pub next : ℕ  -- the address just past the list

-- what follows a name
pub data Behind : Type 0 where
  -- a slash, and a character of a name after it
  another : Behind
  -- a slash, and no character of a name after it
  a_slash : Behind
  -- anything else, or the name has bit 7
  nothing : Behind
  -- a byte that must be read is not there
  unreadable : Behind

-- what a slash means if this byte follows it
abbrev pub behind_slash : Option ℕ → Behind
behind_slash None = unreadable
behind_slash (Some byte) = if is_name_character (low_bits byte) then another else a_slash

-- what is at an address after a name
abbrev pub behind_name : Cells → ℕ → Option ℕ → Behind
behind_name cells next None = unreadable
behind_name cells next (Some byte) = if byte == slash then behind_slash (user_cell cells (next + 1)) else nothing

-- a byte has bit 7
abbrev pub is_marked : Option ℕ → Bool
is_marked byte = option_map_or (nat_le 128) byte false

-- what follows a name that ends before an address; after a character with bit 7 no byte is read
abbrev pub behind : Cells → ℕ → Behind
behind cells next =
    if is_marked (user_cell cells (next - 1)) then nothing else behind_name cells next (user_cell cells next)

-- a name, and no other one after it
abbrev pub last_name : List ℕ → Bool → ℕ → Result Names NameFault
last_name name ends_in_slash next = Ok (record { names = name ∷ []; slash = ends_in_slash; next = next })

-- a name before others
abbrev pub name_before : List ℕ → Result Names NameFault → Result Names NameFault
name_before name (Ok rest) = Ok (record rest { names = name ∷ rest.names })
name_before name (Err fault) = Err fault

-- the names of a list that begins with this one: `rest` are the names after a slash
abbrev pub names_with : (ℕ → Result Names NameFault) → List ℕ → ℕ → Behind → Result Names NameFault
names_with rest name next another = name_before name (rest (next + 1))
names_with rest name next a_slash = last_name name true next
names_with rest name next nothing = last_name name false next
names_with rest name next unreadable = Err Unreadable

-- the names of a list with this first name, if it is a name
abbrev pub names_behind : (ℕ → Result Names NameFault) → Cells → ℕ → Result (List ℕ) NameFault
    → Result Names NameFault
names_behind rest cells at (Ok name) =
    names_with rest name (at + length name) (behind cells (at + length name))
names_behind rest cells at (Err fault) = Err fault

-- the names from an address on, with at most this number of addresses after it
abbrev pub names_at : Cells → ℕ → ℕ → Result Names NameFault
names_at cells at zero = Err Unreadable
names_at cells at (suc left) = names_behind (λ next. names_at cells next left) cells at (name_at cells at)

-- the names from an address on: at least one
abbrev pub names_from : Cells → ℕ → Result Names NameFault
names_from cells at = names_at cells at 65536

-- the list that starts at the device of the first of these names
abbrev pub from_device : List (List ℕ) → Names → Result PathList NameFault
from_device [] found = Err NoName
from_device (device ∷ names) found =
    Ok (record { device = Some device; names = names; slash = found.slash; next = found.next })

-- a list with a slash before its first name, and one without
abbrev pub device_list : Result Names NameFault → Result PathList NameFault
device_list (Ok found) = from_device found.names found
device_list (Err fault) = Err fault

abbrev pub relative_list : Result Names NameFault → Result PathList NameFault
relative_list (Ok found) =
    Ok (record { device = None; names = found.names; slash = found.slash; next = found.next })
relative_list (Err fault) = Err fault

-- the path list that begins with this byte
abbrev pub list_with : Cells → ℕ → Option ℕ → Result PathList NameFault
list_with cells at None = Err Unreadable
list_with cells at (Some byte) =
    if byte == slash then device_list (names_from cells (at + 1)) else relative_list (names_from cells at)

-- the path list at an address
abbrev pub path_list : Cells → ℕ → Result PathList NameFault
path_list cells at = list_with cells at (user_cell cells at)

-- a slash follows the name of the list's device
abbrev pub has_slash_behind_device : PathList → Bool
has_slash_behind_device list = list.slash || not (length list.names == 0)

-- the name means a directory itself or its parent
abbrev pub is_dots : List ℕ → Bool
is_dots name = bytes_eq name (codes ".") || bytes_eq name (codes "..")

-- the last of the names after the device is such a name
abbrev pub ends_in_dots : PathList → Bool
ends_in_dots list = option_map_or is_dots (slice_get list.names (length list.names - 1)) false
