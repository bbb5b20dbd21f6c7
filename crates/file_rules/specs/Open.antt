-- I$Open of a file or a directory (System Programmer's Manual, I$Open).
-- Takes the mode in A and the path list at X; returns the number of the path in A, and X past the list. A directory is
-- opened with bit 7 in the mode and without writing, a file without bit 7. A terminal or a pipe is opened as always.
-- Errors: E$BPAddr, E$BMode, E$BPNam, E$MNF, E$FNA, E$PNNF, E$FNA (of the file that is found), E$Share, E$PthFul.
use Rattle.std.specs.Prelude.{ℕ, ◌&&◌, not, Bool, length, if◌then◌else◌}
use Rattle.os9_base.specs.declared.errors.TheConstants.{E_BMODE, E_FNA, E_SHARE, E_PTHFUL}
use Rattle.io_model.specs.Path.{new_number, paths_after_begin}
use Rattle.rbf_model.specs.File.{DiskFile, is_directory}
use Rattle.rbf_model.specs.Walk.{file_permits}
use Rattle.io_model.specs.Io.{new_desc}
use Rattle.io_model.specs.Modes.{has_bit_of, is_mode, can_write}
use Rattle.io_model.specs.Open.{i_open as opens, opened_regs}
use Rattle.io_model.specs.PathList.{PathList}
use Rattle.io_model.specs.declared.modes.TheConstants.{MODE_EXECUTE}
use Rattle.file_rules.specs.Files.{Files, Asker, target_on, with_path_table}
use Rattle.file_rules.specs.Sharing.{is_not_shared}
use Rattle.file_rules.specs.Step.{FileStep, Step, refused, comes, as_io, needs, refuses, done}
use Rattle.file_rules.specs.Route.{Route, along, to_device, nowhere, Found, route_of, reads_list, list_of, walks}
use Rattle.file_rules.specs.declared.status.TheConstants.{DIRECTORY}

-- the mode is for execution
abbrev pub is_for_execution : ℕ → Bool
is_for_execution mode = has_bit_of MODE_EXECUTE mode

-- the mode says a directory
abbrev pub says_directory : ℕ → Bool
says_directory mode = has_bit_of DIRECTORY mode

-- a mode opens a file of this kind
abbrev pub opens_kind : DiskFile → ℕ → Bool
opens_kind file mode =
    if is_directory file then says_directory mode && not (can_write mode) else not (says_directory mode)

-- a user may open a file with a mode
abbrev pub may_open : DiskFile → ℕ → ℕ → Bool
may_open file user mode = file_permits file user mode && opens_kind file mode

-- opens a path on a file, if the process has a number for it
abbrev pub begins_on : Asker → Files → PathList → Found → FileStep
begins_on asker files list found =
    needs (new_number files.io.paths asker.caller.process.0) E_PTHFUL
    (λ number. done (opened_regs asker.caller.regs list number)
    (with_path_table files (paths_after_begin files.io.paths asker.caller.process.0
    (new_desc (target_on found.file found.place) asker.caller.regs.a))))

-- a found file is opened
abbrev pub opens_found : Asker → Files → PathList → Found → FileStep
opens_found asker files list found =
    refuses (not (may_open found.file asker.user asker.caller.regs.a)) E_FNA
    (refuses (is_not_shared files found asker.caller.regs.a) E_SHARE (begins_on asker files list found))

-- a terminal or a pipe
abbrev pub opens_device : Asker → Files → ℕ → FileStep
opens_device asker files terms = comes (as_io (opens asker.caller files.io (length files.drives) terms))

abbrev pub opens_on_route : Asker → Files → ℕ → PathList → Route → FileStep
opens_on_route asker files terms list (along from names) =
    walks asker files (is_for_execution asker.caller.regs.a) from names (opens_found asker files list)
opens_on_route asker files terms list to_device = opens_device asker files terms
opens_on_route asker files terms list (nowhere number) = refused number

-- the call is refused with E$BMode if its mode is not allowed
abbrev pub tests_mode : {E : Type 0} → Bool → Step E → Step E
tests_mode is_allowed step = refuses (not is_allowed) E_BMODE step

abbrev pub i_open : Asker → Files → ℕ → FileStep
i_open asker files terms =
    reads_list (list_of asker) (tests_mode (is_mode asker.caller.regs.a))
    (λ list. opens_on_route asker files terms list
    (route_of asker files terms (is_for_execution asker.caller.regs.a) list))
