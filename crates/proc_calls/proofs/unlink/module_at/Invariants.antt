use Rattle.std.proofs.Common.{◌≡◌, ℕ, ◌<◌, false}
use Rattle.proc_model.specs.Memory.{map_at}
use Rattle.proc_model.specs.ModuleList.{module_entry_at, passes}
use Rattle.proc_model.specs.Processes.{Processes}
use Rattle.proc_model.specs.ModuleLinks.{is_at}
use Rattle.proc_state.specs.Tie.{RepresentsProcesses}
use Rattle.proc_calls.proofs.unlink.module_at.Given as goal

abbrev pub invariant-loop-number : goal.invariant-loop-number
invariant-loop-number l =
    (m : Processes) → RepresentsProcesses l.s m → (k : ℕ) → k < l.number → passes (is_at (map_at m.memory l.p.0) l.address) (module_entry_at m.memory.modules k) ≡ false
