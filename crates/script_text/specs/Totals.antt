-- The numbers of slices and instructions that a text gives.
use Rattle.std.specs.Prelude.{◌≤◌, ◌+◌, ◌&&◌, nat_le, ℕ, Option, Some, None, List, length, sum, if◌then◌else◌}
use Rattle.script_text.specs.declared.slices.Total.{Total}

-- these numbers of slices and of instructions, if they are within the limits
abbrev pub total_within : ℕ → ℕ → Option Total
total_within slices instructions =
    if nat_le slices 1000000 && nat_le instructions 10000000
    then Some (record { slices = slices; instructions = instructions })
    else None

-- the total with these slices added, if they are not refused and it is within the limits
abbrev pub total_with : Total → Option (List ℕ) → Option Total
total_with total None = None
total_with total (Some slices) = total_within (total.slices + length slices) (total.instructions + sum slices)

-- a total within the limits
pub record IsWithinLimits (total : Total) : Type 0 where
  pub few : total.slices ≤ 1000000
  pub short : total.instructions ≤ 10000000
