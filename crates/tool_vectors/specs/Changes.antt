-- Images with one change (this project's own).
use Rattle.std.specs.Prelude.{ℕ, nat_lt, nat_le, Option, Some, None, List, length, take, set, if◌then◌else◌}
use Rattle.tool_vectors.specs.declared.change.Change.{Change}
use Rattle.tool_vectors.specs.declared.change.Change.TheVariants.{Byte, Cut}

-- an image after a change, if it is long enough
abbrev pub changed_image : Change → List ℕ → Option (List ℕ)
changed_image (Byte place value) image =
    if nat_lt place (length image) then Some (set image place value) else None
changed_image (Cut count) image = if nat_le count (length image) then Some (take count image) else None
