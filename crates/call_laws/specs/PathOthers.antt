-- What an attempt of a call leaves of the input and output of the others (Level Two manual, "I/O system").
use Rattle.std.specs.Prelude.{◌≡◌, ◌≢◌, ℕ, Some}
use Rattle.io_model.specs.Path.{numbers_of}
use Rattle.io_model.specs.Io.{Io, OpenPath, pending_at, open_path}

-- every other process keeps its path numbers, the paths that they name, and its pending call
pub record LeavesPaths (p : ℕ) (old new : Io) : Type 0 where
  pub numbers : (q : ℕ) → q ≢ p → numbers_of new.paths q ≡ numbers_of old.paths q
  pub paths : (q n : ℕ) (opened : OpenPath) → q ≢ p → open_path old q n ≡ Some opened → open_path new q n ≡ Some opened
  pub calls : (q : ℕ) → q ≢ p → pending_at new q ≡ pending_at old q
