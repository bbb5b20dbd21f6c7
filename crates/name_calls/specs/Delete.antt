-- I$Delete and I$DeletX in two parts: the search for the name and the directory, and the deletion there.
use Rattle.std.specs.Prelude.{◌≡◌, ℕ, ◌+◌, Bool, List, Result}
use Rattle.file_drives.specs.Drives.{DriveView}
use Rattle.file_rules.specs.Delete.{deletes_in}
use Rattle.file_rules.specs.Files.{Asker, Files}
use Rattle.file_rules.specs.Step.{FileStep, Step}
use Rattle.file_state.specs.declared.state.FileState.{FileState}
use Rattle.file_routes.specs.Routes.{next_step}
use Rattle.file_routes.specs.declared.route.Purpose.TheVariants.{Existing}
use Rattle.name_calls.specs.ListCalls.{deleting_calls}
use Rattle.name_calls.specs.Looks.{HasFoundInSearch}
use Rattle.name_calls.specs.Naming.{IsNameLocated, NamedBy}
use Rattle.name_calls.specs.Tries.{TriesNameCall}
use Rattle.name_calls.specs.declared.naming.LastLocated.{LastLocated}

abbrev pub deletes_it : Asker → Files → Bool → NamedBy → FileStep
deletes_it asker files execute it = deletes_in asker files execute it.list it.name it.directory

-- the greatest number of drive calls after a search that has found this with `seen` calls, those of the search included
abbrev pub deletes_it_calls : ℕ → Asker → Bool → NamedBy → ℕ
deletes_it_calls seen asker execute it =
    seen + deleting_calls asker.user execute it.name it.directory.volume it.directory.file

-- by this user, for execution or not: after any search that has found the name and its directory, the attempt has this
-- result
abbrev pub DeletesIn : ℕ → Bool → LastLocated → FileState → List DriveView → Result ℕ ℕ → FileState → List DriveView
    → Type 0
DeletesIn user execute located old views result new after =
    (look : Step NamedBy) (seen : ℕ) (asker : Asker) (files : Files) (before : List DriveView) → asker.user ≡ user
    → (loc : HasFoundInSearch (IsNameLocated Existing look files) look seen located files old before views)
    → TriesNameCall (next_step look (deletes_it asker files execute)) (deletes_it_calls seen asker execute loc.it) asker
    files
    result new before after
