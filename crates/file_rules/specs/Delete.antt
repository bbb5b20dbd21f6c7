-- I$Delete and I$DeletX: delete a file (System Programmer's Manual, I$Delete and I$DeletX).
-- Take the path list at X; return X past the list. I$DeletX also takes a mode in A, which chooses the directory at
-- which the list starts and the way in which directories are searched. The mode is not tested on the file.
-- Errors: E$BPAddr, E$BMode (of I$DeletX), E$BPNam, E$MNF, E$FNA, E$PNNF, E$FNA (a directory, a terminal, a pipe, or a
-- file that the user may not write), E$Share (a path is on the file).
use Rattle.std.specs.Prelude.{ℕ, not, Bool, false, Option, Some, None, List}
use Rattle.os9_base.specs.declared.errors.TheConstants.{E_FNA, E_PNNF, E_SHARE}
use Rattle.rbf_model.specs.Walk.{look_up}
use Rattle.rbf_change.specs.Names.{may_change, may_delete}
use Rattle.io_model.specs.Modes.{is_mode}
use Rattle.io_model.specs.PathList.{PathList}
use Rattle.io_model.specs.Step.{answers}
use Rattle.file_rules.specs.Change.{deletes}
use Rattle.file_rules.specs.Files.{Files, Asker}
use Rattle.file_rules.specs.MakDir.{past_list}
use Rattle.file_rules.specs.Open.{is_for_execution, tests_mode}
use Rattle.file_rules.specs.Sharing.{is_open}
use Rattle.file_rules.specs.Step.{FileStep, refused, comes, changes, needs, refuses, leaves}
use Rattle.file_rules.specs.Route.{Route, along, to_device, nowhere, Found, route_of, reads_list, list_of, walks, last_of, before_last}

-- the file of this number, which has a name in the found directory, is deleted
abbrev pub deletes_file : Asker → Files → PathList → List ℕ → Found → ℕ → FileStep
deletes_file asker files list name dir n =
    refuses (not (may_delete (dir.volume.files n) asker.user)) E_FNA
    (refuses (is_open files (record { drive = dir.place.drive; number = n })) E_SHARE
    (comes (changes (record {
      drive = dir.place.drive;
      change = deletes dir.place.number n name;
      effect = λ new. leaves (answers (past_list asker.caller.regs list)) files;
    }))))

abbrev pub deletes_in : Asker → Files → Bool → PathList → List ℕ → Found → FileStep
deletes_in asker files execute list name dir =
    refuses (not (may_change dir.file asker.user execute)) E_FNA
    (needs (look_up dir.file.contents name) E_PNNF (deletes_file asker files list name dir))

-- by the last name of a list; a list without names is the root of a drive, which is a directory
abbrev pub deletes_named : Asker → Files → Bool → PathList → Route → Option (List ℕ) → FileStep
deletes_named asker files execute list (along from names) None =
    walks asker files execute from names (λ root. refused E_FNA)
deletes_named asker files execute list (along from names) (Some name) =
    walks asker files execute from (before_last names) (deletes_in asker files execute list name)
deletes_named asker files execute list to_device name = refused E_FNA
deletes_named asker files execute list (nowhere number) name = refused number

abbrev pub deletes_by : Asker → Files → ℕ → Bool → (FileStep → FileStep) → FileStep
deletes_by asker files terms execute test =
    reads_list (list_of asker) test
    (λ list. deletes_named asker files execute list (route_of asker files terms execute list) (last_of list.names))

abbrev pub i_delete : Asker → Files → ℕ → FileStep
i_delete asker files terms = deletes_by asker files terms false (λ step. step)

abbrev pub i_deletx : Asker → Files → ℕ → FileStep
i_deletx asker files terms =
    deletes_by asker files terms (is_for_execution asker.caller.regs.a) (tests_mode (is_mode asker.caller.regs.a))
