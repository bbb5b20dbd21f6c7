-- The place of a new entry, and the reasons to refuse it.
use Rattle.std.specs.Prelude.{◌≡◌, ℕ, ◌+◌, Bool, true, false, Option, Some, List, Result, Ok, Err, if◌then◌else◌}
use Rattle.os9_base.specs.Name.{IsName}
use Rattle.rbf_model.specs.File.{DiskFile}
use Rattle.rbf_change.specs.Names.{may_change, is_dots}
use Rattle.rbf_change.specs.NewFiles.{NewEntryRefusal, bad_path, not_allowed, exists, entry_refusal}
use Rattle.rbf_access.specs.declared.faults.FileFault.TheVariants.{Device, NoCluster, TooManyRuns}
use Rattle.rbf_access.specs.Mounted.{HasFile}
use Rattle.rbf_access.specs.Reading.{OnFile}
use Rattle.rbf_walk.specs.Search.{IsAbsentName, sectors_searched}
use Rattle.rbf_write.specs.Files.{IsDescriptorLoaded}
use Rattle.rbf_walk.specs.declared.error.DirError.{DirError}
use Rattle.rbf_entries.specs.declared.place.NewPlace.{NewPlace}
use Rattle.rbf_walk.specs.declared.error.DirError.TheVariants.{NotAllowed, BadPath, NotFound, Exists, File}

-- a new entry with the name is refused for this reason, whatever is to be made and however many clusters are free
abbrev pub IsEntryRefused : DiskFile → List ℕ → ℕ → Bool → NewEntryRefusal → Type 0
IsEntryRefused dir name user execute reason =
    (k free size : ℕ) → entry_refusal k free dir name user execute size ≡ Some reason

-- the place where a user may enter the name
pub record IsNewPlace (dir : DiskFile) (name : List ℕ) (user : ℕ) (execute : Bool) (place : ℕ) : Type 0 where
  pub named : IsName name
  pub proper : is_dots name ≡ false
  pub allowed : may_change dir user execute ≡ true
  pub absent : IsAbsentName dir.contents name place

-- the answer, if no fault of the drive occurred before
abbrev pub AnswersPlace : DiskFile → List ℕ → ℕ → Bool → Result ℕ DirError → Type 0
AnswersPlace dir name user execute (Ok place) = IsNewPlace dir name user execute place
AnswersPlace dir name user execute (Err NotAllowed) = IsEntryRefused dir name user execute not_allowed
AnswersPlace dir name user execute (Err BadPath) = IsEntryRefused dir name user execute bad_path
AnswersPlace dir name user execute (Err NotFound) = ⊥
AnswersPlace dir name user execute (Err Exists) = IsEntryRefused dir name user execute exists
AnswersPlace dir name user execute (Err (File (Device n))) = is_dots name ≡ false
AnswersPlace dir name user execute (Err (File NoCluster)) = ⊥
AnswersPlace dir name user execute (Err (File TooManyRuns)) = ⊥

-- the place was found in directory d for a user, and the directory's descriptor has been read
pub record IsFoundFor (media : Option (List ℕ)) (d user : ℕ) (execute : Bool) (found : NewPlace) : Type 0 where
  pub read : IsDescriptorLoaded media d found.dir
  pub user_is : found.by.user ≡ user
  pub execute_is : found.by.execute ≡ execute

-- it is a place of its directory, in which its user may enter the name
pub record IsPlaceForName (media : Option (List ℕ)) (name : List ℕ) (found : NewPlace) : Type 0 where
  pub file : HasFile media found.dir.number
  pub read : IsDescriptorLoaded media found.dir.number found.dir
  pub new : OnFile media found.dir.number (λ file. IsNewPlace file name found.by.user found.by.execute found.place)

-- the place that was found
abbrev pub place_found : Result NewPlace DirError → Result ℕ DirError
place_found (Ok found) = Ok found.place
place_found (Err error) = Err error

-- the greatest number of drive calls that find the place: none for `.` and `..`, one for a directory that the user may
-- not change; for any other directory, one more for each sector up to the one that has the name
abbrev pub place_calls : DiskFile → List ℕ → ℕ → Bool → ℕ
place_calls dir name user execute =
    if is_dots name then 0
    else (if may_change dir user execute then 1 + sectors_searched dir.contents name else 1)
