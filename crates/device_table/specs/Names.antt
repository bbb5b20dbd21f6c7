-- The names of devices (Level Two manual, device descriptors).
use Rattle.std.specs.Prelude.{ℕ, nat_lt, Bool, true, Option, Some, None, option_map, option_and_then, List, [], ◌∷◌, map, find, bytes_eq, codes, if◌then◌else◌}
use Rattle.os9_base.specs.Name.{lower}
use Rattle.device_table.specs.declared.devices.Dev.{Dev}
use Rattle.device_table.specs.declared.devices.Dev.TheVariants.{Drive, Term, Pipe}

-- each name, and the device that it names
abbrev pub device_names : List (List ℕ × Dev)
device_names =
    (codes "D0", Drive 0) ∷ (codes "D1", Drive 1) ∷ (codes "D2", Drive 2) ∷ (codes "D3", Drive 3)
    ∷ (codes "TERM", Term 0) ∷ (codes "T1", Term 1) ∷ (codes "T2", Term 2) ∷ (codes "T3", Term 3)
    ∷ (codes "PIPE", Pipe) ∷ []

-- the names agree with the case of letters ignored
abbrev pub is_called : List ℕ → List ℕ → Bool
is_called word name = bytes_eq (map lower name) (map lower word)

-- the device that a name names
abbrev pub named_device : List ℕ → Option Dev
named_device name = option_map (λ entry. entry.1) (find (λ entry. is_called entry.0 name) device_names)

-- a device of this number exists, on a machine with these counts of drives and of terminals
abbrev pub is_there : ℕ → ℕ → Dev → Bool
is_there drives terms (Drive n) = nat_lt n drives
is_there drives terms (Term n) = nat_lt n terms
is_there drives terms Pipe = true

-- the device that a name names, if it exists
abbrev pub device_of : ℕ → ℕ → List ℕ → Option Dev
device_of drives terms name =
    option_and_then (λ device. if is_there drives terms device then Some device else None) (named_device name)
