-- I$MakDir in two parts: the search for the name and the directory, and what is made there.
use Rattle.std.specs.Prelude.{◌≡◌, ℕ, ◌+◌, List, Result}
use Rattle.file_drives.specs.Drives.{DriveView}
use Rattle.file_rules.specs.Files.{Asker, Files}
use Rattle.file_rules.specs.MakDir.{makes_in}
use Rattle.file_rules.specs.Step.{FileStep, Step}
use Rattle.file_state.specs.declared.state.FileState.{FileState}
use Rattle.io_state.specs.declared.requester.Requester.{Requester}
use Rattle.file_routes.specs.Routes.{next_step}
use Rattle.file_routes.specs.declared.route.Purpose.TheVariants.{New}
use Rattle.name_calls.specs.ListCalls.{making_calls}
use Rattle.name_calls.specs.Looks.{HasFoundInSearch}
use Rattle.name_calls.specs.Naming.{IsNameLocated, NamedBy}
use Rattle.name_calls.specs.Tries.{TriesNameCall}
use Rattle.name_calls.specs.declared.naming.LastLocated.{LastLocated}

abbrev pub makes_it : Asker → Files → NamedBy → FileStep
makes_it asker files it = makes_in asker files it.list it.name it.directory

-- the asker makes it for this user, with the attributes and at the time of this attempt
pub record MakesFor (by : Requester) (user : ℕ) (asker : Asker) : Type 0 where
  pub user_is : asker.user ≡ user
  pub attributes_are : asker.caller.regs.b ≡ by.regs.b
  pub now_is : asker.now ≡ by.time

-- the greatest number of drive calls after a search that has found this with `seen` calls, those of the search included
abbrev pub makes_it_calls : ℕ → Asker → NamedBy → ℕ
makes_it_calls seen asker it = seen + making_calls asker.user it.name it.directory.volume it.directory.file

-- after any search that has found the name and its directory, the attempt has this result
abbrev pub MakesIn : Requester → ℕ → LastLocated → FileState → List DriveView → Result ℕ ℕ → FileState
    → List DriveView → Type 0
MakesIn by user located old views result new after =
    (look : Step NamedBy) (seen : ℕ) (asker : Asker) (files : Files) (before : List DriveView) → MakesFor by user asker
    → (loc : HasFoundInSearch (IsNameLocated New look files) look seen located files old before views)
    → TriesNameCall (next_step look (makes_it asker files)) (makes_it_calls seen asker loc.it) asker files result new
    before
    after
