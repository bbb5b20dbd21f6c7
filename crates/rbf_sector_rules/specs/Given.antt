-- Tables of the first note for each number.
use Rattle.std.specs.Prelude.{◌≡◌, ◌⊎◌, ℕ, List, length, get_or, Option, Some, None}

-- place c of the table has been given n, if it was empty
pub record IsPlaceGiven (old new : List (Option ℕ)) (n c : ℕ) : Type 0 where
  pub size : length new ≡ length old
  pub kept : (d m : ℕ) → get_or old d None ≡ Some m → get_or new d None ≡ Some m
  pub only : (d m : ℕ) → get_or new d None ≡ Some m → (get_or old d None ≡ Some m) ⊎ ((m ≡ n) × (d ≡ c))
  pub there : (m : ℕ) × (get_or new c None ≡ Some m)
