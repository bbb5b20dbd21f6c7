-- The steps of I$Open and I$Create, one after another, in the order of the code.
use Rattle.std.specs.Prelude.{ℕ, List}
use Rattle.os9_base.specs.declared.errors.TheConstants.{E_BPNAM, E_PTHFUL}
use Rattle.os9_base.specs.declared.registers.Pid.{Pid}
use Rattle.io_model.specs.Path.{new_number, paths_after_begin}
use Rattle.io_model.specs.declared.path.Target.{Target}
use Rattle.io_model.specs.Io.{new_desc}
use Rattle.io_model.specs.Open.{opened_regs}
use Rattle.io_model.specs.PathList.{PathList}
use Rattle.proc_model.specs.Records.{record_at}
use Rattle.proc_state.specs.declared.state.ProcState.{ProcState}
use Rattle.file_rules.specs.Create.{creates_in}
use Rattle.file_rules.specs.Files.{Asker, Files, with_path_table}
use Rattle.file_rules.specs.Open.{is_for_execution, opens_found}
use Rattle.file_rules.specs.Step.{FileStep, done, needs, reaches}
use Rattle.file_rules.specs.Route.{Found, before_last, last_of, walks}
use Rattle.lock_model.specs.declared.place.FilePlace.{FilePlace}
use Rattle.file_routes.specs.declared.walk.Walker.{Walker}

-- who walks along the path list of a process's call
abbrev pub walker_at : ProcState → Pid → Walker
walker_at s p = record {
  process = p;
  by = record {
    user = (record_at s.table p.0).user;
    execute = is_for_execution (record_at s.table p.0).regs.a;
  };
}

-- opens a path on a file or a directory, if the process has a number for it
abbrev pub begins : Asker → Files → PathList → Target → FileStep
begins asker files list target =
    needs (new_number files.io.paths asker.caller.process.0) E_PTHFUL
    (λ number. done (opened_regs asker.caller.regs list number)
    (with_path_table files (paths_after_begin files.io.paths asker.caller.process.0
    (new_desc target asker.caller.regs.a))))

-- ---- I$Open

-- from a directory along the names of a list
abbrev pub opens_along : Asker → Files → PathList → FilePlace → FileStep
opens_along asker files list from =
    walks asker files (is_for_execution asker.caller.regs.a) from list.names (opens_found asker files list)

-- ---- I$Create

-- from a directory along the names of a list before the last
abbrev pub creates_along : Asker → Files → PathList → FilePlace → FileStep
creates_along asker files list from =
    needs (last_of list.names) E_BPNAM
    (λ name. walks asker files (is_for_execution asker.caller.regs.a) from (before_last list.names)
    (creates_in asker files list name))

-- in the directory that a walk has reached
abbrev pub creates_there : Asker → Files → PathList → List ℕ → Found → FileStep
creates_there asker files list name dir = reaches dir.place.drive (creates_in asker files list name dir)
