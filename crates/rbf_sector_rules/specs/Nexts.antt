-- The next of the numbers that have a property.
use Rattle.std.specs.Prelude.{◌≡◌, ℕ, ◌<◌, ◌≤◌, List, length, get_or}

-- the least number from s up to a limit that has the property, or the limit if there is none
pub record IsNextSuch (B : ℕ → Type 0) (limit s next : ℕ) : Type 0 where
  pub after : s ≤ next
  pub within : next ≤ limit
  pub is : next < limit → B next
  pub least : (t : ℕ) → s ≤ t → t < next → B t → ⊥

-- the table has that number for each place below the limit
pub record AreNexts (B : ℕ → Type 0) (limit : ℕ) (nexts : List ℕ) : Type 0 where
  pub size : length nexts ≡ limit
  pub each : (s : ℕ) → s < limit → IsNextSuch B limit s (get_or nexts s 0)
