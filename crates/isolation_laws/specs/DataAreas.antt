-- The data area with which a program begins (System Programmer's Manual, F$Fork and F$Chain).
use Rattle.std.specs.Prelude.{◌≡◌, ℕ, ◌+◌, ◌-◌, ◌*◌, ◌≤◌, Some, List, ◌++◌, length, get_or, replicate, slice_get}
use Rattle.proc_model.specs.Program.{Program, parameters_at}

-- its bytes: zeros, and the parameters at its end
abbrev pub area_bytes : Program → List ℕ
area_bytes program = replicate (parameters_at program) 0 ++ program.parameters

-- an object of 8,192 bytes holds these bytes from a place on, and zeros after their end
abbrev pub HoldsFrom : List ℕ → ℕ → List ℕ → Type 0
HoldsFrom held place bytes =
    (length bytes ≤ 8192)
    × ((k byte : ℕ) → slice_get bytes k ≡ Some byte → byte ≡ get_or held (place + k) 0)

-- the objects from a number on hold them in order
abbrev pub HoldInOrder : List ℕ → ℕ → List (List ℕ) → Type 0
HoldInOrder held first objects =
    (object : ℕ) (bytes : List ℕ) → first ≤ object → slice_get objects object ≡ Some bytes
    → HoldsFrom held (8192 * (object - first)) bytes
