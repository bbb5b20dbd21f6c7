-- What the kernel has of a process is what the machine has.
use Rattle.std.proofs.Common.{◌≡◌, ℕ, sym, ap}
use Rattle.proc_model.specs.Processes.{Processes, regs_at}
use Rattle.proc_model.specs.Records.{record_at}
use Rattle.proc_state.specs.Tie.{RepresentsProcesses}
use Rattle.proc_state.specs.declared.state.ProcState.{ProcState}

-- its registers
pub regs-tied : (s : ProcState) (m : Processes) (p : ℕ) → RepresentsProcesses s m → (record_at s.table p).regs ≡ regs_at m p
regs-tied s m p tied = ap (λ (i : Processes). regs_at i p) (sym tied.is)
