-- The file of modules that F$Load, F$Fork and F$Chain read (System Programmer's Manual, F$Load). Its path list starts
-- at the execution directory. It is tested as I$Open tests it with the execution mode, but no path is opened.
-- Errors: E$BPAddr, then those of the call before it has a name, E$BPNam, E$MNF, E$FNA, E$PNNF, E$FNA (of the file that
-- is found), E$Share, E$MemFul (more bytes than a group has).
use Rattle.std.specs.Prelude.{◌≡◌, ◌⊎◌, ℕ, nat_lt, not, true, Some, Result, Ok, Err, List, length}
use Rattle.os9_base.specs.declared.errors.TheConstants.{E_FNA, E_SHARE, E_MEMFUL}
use Rattle.os9_base.specs.declared.limits.TheConstants.{MOST_GROUP_BYTES}
use Rattle.io_model.specs.PathList.{PathList}
use Rattle.io_model.specs.declared.modes.TheConstants.{MODE_EXECUTE}
use Rattle.file_rules.specs.Files.{Files, Asker, DriveState, KeepsDriveFaults, OneFailed, with_drives}
use Rattle.file_rules.specs.Open.{may_open}
use Rattle.file_rules.specs.Sharing.{is_not_shared}
use Rattle.file_rules.specs.Step.{Step, refused, comes, reaches, drive_of, refuses}
use Rattle.file_rules.specs.Route.{Route, along, to_device, nowhere, Found, route_of, reads_list, list_of, walks}

-- the bytes of a file of modules, and the address after its path list
pub record ProgramFile : Type 0 where
  pub bytes : List ℕ
  pub next : ℕ

abbrev pub program_found : Asker → Files → PathList → Found → Step ProgramFile
program_found asker files list found =
    refuses (not (may_open found.file asker.user MODE_EXECUTE)) E_FNA
    (refuses (is_not_shared files found MODE_EXECUTE) E_SHARE
    (refuses (nat_lt MOST_GROUP_BYTES (length found.file.contents)) E_MEMFUL
    (comes (record { bytes = found.file.contents; next = list.next }))))

abbrev pub program_on_route : Asker → Files → PathList → Route → Step ProgramFile
program_on_route asker files list (along from names) =
    walks asker files true from names (program_found asker files list)
program_on_route asker files list to_device = refused E_FNA
program_on_route asker files list (nowhere number) = refused number

-- the file that the path list at X names; `test` is the test of the call after the list was read
abbrev pub program_file : Asker → Files → ℕ → (Step ProgramFile → Step ProgramFile) → Step ProgramFile
program_file asker files terms test =
    reads_list (list_of asker) test
    (λ list. program_on_route asker files list (route_of asker files terms true list))

-- the result of a reading if no drive fails
abbrev pub reading_of : Step ProgramFile → Result ProgramFile ℕ
reading_of (refused number) = Err number
reading_of (comes file) = Ok file
reading_of (reaches drive step) = reading_of step

-- the drive that the reading reached has failed
pub record ReadingIsBroken (step : Step ProgramFile) (reading : Result ProgramFile ℕ) (before after : List DriveState)
    : Type 0 where
  pub drive : ℕ
  pub reached : drive_of step ≡ Some drive
  pub number : ℕ
  pub failed : OneFailed drive number before after
  pub is : reading ≡ Err number

-- a reading has this result: the file, or the number with which it is refused; only the counts of the drives have
-- changed in the state
pub record ReadsProgram (step : Step ProgramFile) (reading : Result ProgramFile ℕ) (old new : Files) : Type 0 where
  pub drives : List DriveState
  pub outcome : ((reading ≡ reading_of step) × KeepsDriveFaults old.drives drives)
      ⊎ ReadingIsBroken step reading old.drives drives
  pub state : new ≡ with_drives old drives
