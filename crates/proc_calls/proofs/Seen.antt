-- What the processes of the machine see and have.
use Rattle.std.proofs.Common.{◌≡◌, ℕ, ◌<◌}
use Rattle.guest_memory.specs.Tie.{cells_of}
use Rattle.guest_memory.proofs.Seen.{cells_of-seen}
use Rattle.proc_model.specs.Processes.{Processes, cells_at}
use Rattle.proc_state.specs.declared.state.ProcState.{ProcState}
use Rattle.proc_state.specs.Tie.{RepresentsProcesses}

pub cells_seen : (s : ProcState) (p : ℕ) → p < 33 → (m : Processes) → RepresentsProcesses s m → cells_of s.memory p ≡ cells_at m p
cells_seen s p within m tied = cells_of-seen s.memory p within m.memory tied.memory
