-- A file of modules that was read, and its loading (System Programmer's Manual, F$Load).
use Rattle.std.specs.Prelude.{◌≡◌, ℕ, nat_lt, Bool, false, Result, Ok, List}
use Rattle.std.specs.Option.{option_map_or}
use Rattle.proc_model.specs.declared.memory.TheConstants.{MOST_LINKS}
use Rattle.proc_model.specs.declared.module.ModId.{ModId}
use Rattle.proc_model.specs.declared.module.ModuleInfo.{ModuleInfo}
use Rattle.proc_model.specs.declared.module.ModuleStep.TheVariants.{Module}
use Rattle.proc_model.specs.Memory.{map_at}
use Rattle.proc_model.specs.Module.{step_from}
use Rattle.proc_model.specs.Slots.{highest_free_run}
use Rattle.proc_model.specs.CallResult.{CallResult}
use Rattle.proc_model.specs.Processes.{Processes, own_at, with_memory}
use Rattle.proc_model.specs.Link.{links_at}
use Rattle.file_rules.specs.Load.{GoesOnLoaded, Loaded}
use Rattle.file_rules.specs.ProgramFile.{ProgramFile}
use Rattle.proc_state.specs.Tie.{ReturnsDoneOrRefused, RepresentsProcesses}
use Rattle.proc_state.specs.declared.state.ProcState.{ProcState}

-- what the header of a file's first module says
abbrev pub HasFirstModule : List ℕ → ModuleInfo → Type 0
HasFirstModule file info = step_from file 0 ≡ Module info

-- the memory of the processes has the file, and the number is that of its first module
pub record IsEnteredIn (m : Processes) (loaded : Loaded) (id : ModId) (new : ProcState) : Type 0 where
  pub number_is : id.0 ≡ loaded.first.number
  pub stands : RepresentsProcesses new (with_memory m loaded.memory)

-- a call whose file was read goes on, and has this outcome
pub record GoesOn (m : Processes) (file : ProgramFile) (next : ProgramFile → Loaded → CallResult)
    (outcome : Result (Unit {0}) ℕ) (new : ProcState) : Type 0 where
  pub result : CallResult
  pub goes : GoesOnLoaded m (Ok file) next result
  pub answers : ReturnsDoneOrRefused m result outcome new

-- the map of a process has this number of free slots in a row, and the process may have one link more at the highest
-- such run
abbrev pub has_place : Processes → ℕ → ℕ → Bool
has_place m p blocks =
    option_map_or (λ slot. nat_lt (links_at (own_at m p) slot) MOST_LINKS)
    (highest_free_run (map_at m.memory p) blocks) false
