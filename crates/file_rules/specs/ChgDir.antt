-- I$ChgDir: changes a directory of the process (System Programmer's Manual, I$ChgDir).
-- Takes the mode in A and the path list at X; returns X past the list. It changes the execution directory if the mode
-- is for execution, else the data directory. Only the bits of the mode for reading, writing and execution are tested on
-- the directory that is found.
-- Errors: E$BPAddr, E$BMode, E$BPNam, E$MNF, E$FNA, E$PNNF, E$FNA (of the file that is found).
use Rattle.std.specs.Prelude.{ℕ, ◌&&◌, not, Bool}
use Rattle.os9_base.specs.declared.errors.TheConstants.{E_FNA}
use Rattle.rbf_model.specs.File.{DiskFile, is_directory}
use Rattle.rbf_model.specs.Walk.{file_permits}
use Rattle.io_model.specs.Modes.{is_mode}
use Rattle.io_model.specs.PathList.{PathList}
use Rattle.file_rules.specs.Files.{Files, Asker, directories_at, with_directory, with_directories_of}
use Rattle.file_rules.specs.MakDir.{past_list}
use Rattle.file_rules.specs.Open.{is_for_execution, tests_mode}
use Rattle.file_rules.specs.Step.{FileStep, refused, refuses, done}
use Rattle.file_rules.specs.Route.{Route, along, to_device, nowhere, Found, route_of, reads_list, list_of, walks}

-- a user may make a file a directory of one of the user's processes
abbrev pub may_go_to : DiskFile → ℕ → ℕ → Bool
may_go_to file user mode = is_directory file && file_permits file user mode

abbrev pub goes_to : Asker → Files → PathList → Found → FileStep
goes_to asker files list found =
    refuses (not (may_go_to found.file asker.user asker.caller.regs.a)) E_FNA
    (done (past_list asker.caller.regs list) (with_directories_of files asker.caller.process.0
    (with_directory (directories_at files asker.caller.process.0) (is_for_execution asker.caller.regs.a) found.place)))

abbrev pub goes_on_route : Asker → Files → PathList → Route → FileStep
goes_on_route asker files list (along from names) =
    walks asker files (is_for_execution asker.caller.regs.a) from names (goes_to asker files list)
goes_on_route asker files list to_device = refused E_FNA
goes_on_route asker files list (nowhere number) = refused number

abbrev pub i_chgdir : Asker → Files → ℕ → FileStep
i_chgdir asker files terms =
    reads_list (list_of asker) (tests_mode (is_mode asker.caller.regs.a))
    (λ list. goes_on_route asker files list
    (route_of asker files terms (is_for_execution asker.caller.regs.a) list))
