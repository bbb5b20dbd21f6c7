-- I$ChgDir in two parts: the search for the directory, and what is done with it.
use Rattle.std.specs.Prelude.{ℕ, not}
use Rattle.os9_base.specs.declared.errors.TheConstants.{E_FNA}
use Rattle.io_model.specs.Modes.{is_mode}
use Rattle.file_rules.specs.ChgDir.{may_go_to}
use Rattle.file_rules.specs.Files.{Asker, Files, directories_at, with_directories_of, with_directory}
use Rattle.file_rules.specs.MakDir.{past_list}
use Rattle.file_rules.specs.Open.{is_for_execution}
use Rattle.file_rules.specs.Step.{FileStep, Step, comes, done, refuses}
use Rattle.file_routes.specs.Routes.{mode_refusal, next_step}
use Rattle.name_calls.specs.Locating.{FoundBy, locates}

-- a found file is a directory to which the user may go
abbrev pub allows_to_go : Asker → FoundBy → Step FoundBy
allows_to_go asker it = refuses (not (may_go_to it.found.file asker.user asker.caller.regs.a)) E_FNA (comes it)

abbrev pub looks_for_directory : Asker → Files → ℕ → Step FoundBy
looks_for_directory asker files terms =
    next_step (locates (is_for_execution asker.caller.regs.a) (mode_refusal (is_mode asker.caller.regs.a)) asker files
    terms) (allows_to_go asker)

-- it becomes the directory of the process
abbrev pub goes_there : Asker → Files → FoundBy → FileStep
goes_there asker files it =
    done (past_list asker.caller.regs it.list) (with_directories_of files asker.caller.process.0
    (with_directory (directories_at files asker.caller.process.0) (is_for_execution asker.caller.regs.a)
    it.found.place))
