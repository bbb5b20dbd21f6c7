-- The pipe that a ring represents.
use Rattle.std.specs.Prelude.{ℕ, Bool, Option, Some, None, List, if◌then◌else◌}

-- the bytes of an open pipe; None for a closed one
abbrev pub bytes_if : Bool → List ℕ → Option (List ℕ)
bytes_if is_open bytes = if is_open then Some bytes else None
