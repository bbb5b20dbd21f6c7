-- The greatest number of drive calls in a call that walks along a path list (this project's own).
use Rattle.std.specs.Prelude.{ℕ, ◌+◌, Bool, Option, Some, None, Result, Ok, Err, List}
use Rattle.std.specs.Option.{option_map_or}
use Rattle.os9_base.specs.declared.name_fault.NameFault.{NameFault}
use Rattle.io_model.specs.PathList.{PathList}
use Rattle.rbf_model.specs.File.{DiskFile}
use Rattle.rbf_model.specs.Volume.{DiskVolume}
use Rattle.rbf_model.specs.Walk.{walk}
use Rattle.rbf_walk.specs.Walk.{calls_on, walk_calls}

-- a walk of a user along names, and the calls for the file at its end
abbrev pub walk_and : ℕ → Bool → ℕ → List (List ℕ) → (DiskVolume → DiskFile → ℕ) → Option DiskVolume → ℕ
walk_and user execute d names most None = 0
walk_and user execute d names most (Some v) =
    walk_calls v.files user execute d names
    + calls_on (walk v.files user execute d names) (λ n. option_map_or (most v) (v.files n) 0)

-- by the list at X, if it was read
abbrev pub listed_calls : Result PathList NameFault → (PathList → ℕ) → ℕ
listed_calls (Ok list) most = most list
listed_calls (Err fault) most = 0
