-- The answer of a walk, and the number of its drive calls.
use Rattle.std.specs.Prelude.{◌≡◌, ℕ, ◌+◌, Bool, Option, Some, None, List, [], ◌∷◌, Result, Ok, Err, if◌then◌else◌}
use Rattle.rbf_model.specs.File.{DiskFile}
use Rattle.rbf_model.specs.Walk.{WalkEnd, arrives, not_allowed, not_found, may_search, step}
use Rattle.os9_base.specs.declared.errors.TheConstants.{E_FNA, E_BPNAM, E_PNNF, E_CEF}
use Rattle.rbf_access.specs.Faults.{file_error}
use Rattle.rbf_access.specs.declared.faults.FileFault.TheVariants.{Device, NoCluster, TooManyRuns}
use Rattle.rbf_walk.specs.Search.{sectors_searched}
use Rattle.rbf_walk.specs.declared.error.DirError.{DirError}
use Rattle.rbf_walk.specs.declared.error.DirError.TheVariants.{NotAllowed, BadPath, NotFound, Exists, File}

-- the number of the drive's fault that a call reports, if any
abbrev pub directory_fault : {A : Type 0} → Result A DirError → Option ℕ
directory_fault (Ok a) = None
directory_fault (Err NotAllowed) = None
directory_fault (Err BadPath) = None
directory_fault (Err NotFound) = None
directory_fault (Err Exists) = None
directory_fault (Err (File (Device n))) = Some n
directory_fault (Err (File NoCluster)) = None
directory_fault (Err (File TooManyRuns)) = None

-- the error number of a call on a directory (System Programmer's Manual, error codes: E$FNA, E$BPNam, E$PNNF, E$CEF),
-- or that of the file call that ended it
abbrev pub directory_error : DirError → ℕ
directory_error NotAllowed = E_FNA
directory_error BadPath = E_BPNAM
directory_error NotFound = E_PNNF
directory_error Exists = E_CEF
directory_error (File fault) = file_error fault

-- the answer of a walk with this end, if no fault of the drive ended it before
abbrev pub AnswersWalk : WalkEnd → Result ℕ DirError → Type 0
AnswersWalk end (Ok n) = end ≡ arrives n
AnswersWalk end (Err NotAllowed) = end ≡ not_allowed
AnswersWalk end (Err BadPath) = ⊥
AnswersWalk end (Err NotFound) = end ≡ not_found
AnswersWalk end (Err Exists) = ⊥
AnswersWalk end (Err (File (Device n))) = Unit
AnswersWalk end (Err (File NoCluster)) = ⊥
AnswersWalk end (Err (File TooManyRuns)) = ⊥

-- the greatest number of calls of the search of a file for a name: one for its descriptor, and if the file is searched,
-- one for each of its sectors up to the one that has the name
abbrev pub step_calls : Option DiskFile → ℕ → Bool → List ℕ → ℕ
step_calls None user execute name = 1
step_calls (Some dir) user execute name =
    1 + (if may_search dir user execute then sectors_searched dir.contents name else 0)

-- the calls after the step of one name
abbrev pub calls_on : WalkEnd → (ℕ → ℕ) → ℕ
calls_on (arrives n) next = next n
calls_on not_allowed next = 0
calls_on not_found next = 0

-- the greatest number of calls of a walk: no file after the one at which it ends is read
abbrev pub walk_calls : (ℕ → Option DiskFile) → ℕ → Bool → ℕ → List (List ℕ) → ℕ
walk_calls files user execute d [] = 0
walk_calls files user execute d (name ∷ names) =
    step_calls (files d) user execute name
    + calls_on (step (files d) user execute name) (λ n. walk_calls files user execute n names)
