-- The least of the numbers that have a property.
use Rattle.std.specs.Prelude.{◌≡◌, ◌⊎◌, ℕ, ◌<◌, ◌≤◌, min, Option, Some, None, MatchOption}
use Rattle.rbf_model.specs.Disk.{Disk}
use Rattle.rbf_model.specs.Faults.{Breaks}

-- it is the least number with the property, and none if no number has the property
abbrev pub IsLeast : (ℕ → Type 0) → Option ℕ → Type 0
IsLeast B least = MatchOption least ((s : ℕ) → B s → ⊥) (λ low. B low × ((s : ℕ) → B s → low ≤ s))

-- it is the least sector at which a rule is broken, if it is broken
abbrev pub IsLeastBreach : Disk → ℕ → Option ℕ → Type 0
IsLeastBreach disk rule least = IsLeast (Breaks disk rule) least

-- the lesser of two numbers, either of which may be missing
abbrev pub lesser_of : Option ℕ → Option ℕ → Option ℕ
lesser_of None other = other
lesser_of (Some one) None = Some one
lesser_of (Some one) (Some other) = Some (min one other)

-- the number has the property of one of the first places
abbrev pub Before : (ℕ → ℕ → Type 0) → ℕ → ℕ → Type 0
Before B i s = (k : ℕ) × (k < i) × B k s

-- the least of a limit and of the numbers with the property
pub record IsLeastWithin (B : ℕ → Type 0) (limit low : ℕ) : Type 0 where
  pub within : low ≤ limit
  pub is : (low ≡ limit) ⊎ B low
  pub least : (s : ℕ) → B s → low ≤ s
