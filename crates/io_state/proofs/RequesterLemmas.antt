-- What is known of the process that requests.
use Rattle.std.proofs.Common.{◌≡◌, ◌∙◌, ℕ, Option, None, sym, subst}
use Rattle.std.specs.Prelude.{IfSome}
use Rattle.proc_model.specs.Processes.{Processes, regs_at}
use Rattle.io_model.specs.Io.{Io, pending_at}
use Rattle.io_model.specs.declared.pending.PendingCall.{PendingCall}
use Rattle.proc_state.proofs.Tied.{regs-tied}
use Rattle.proc_state.specs.Tie.{RepresentsProcesses}
use Rattle.proc_state.specs.declared.state.ProcState.{ProcState}
use Rattle.io_state.specs.Context.{InCall}
use Rattle.io_state.specs.Sound.{IsNoRead, ReadsNoTerminal}
use Rattle.io_state.specs.declared.requester.Requester.{Requester}

-- the registers at a call are those of the machine
pub called-regs : (by : Requester) (s : ProcState) (m : Processes) → InCall by s → RepresentsProcesses s m → by.regs ≡ regs_at m by.p.0
called-regs by s m calls tied = calls.regs ∙ regs-tied s m by.p.0 tied

-- a process without a pending call reads no terminal
pub none-reads-none : (io : Io) (p : ℕ) → pending_at io p ≡ None → ReadsNoTerminal io p
none-reads-none io p none = subst (λ (o : Option PendingCall). IfSome o (IsNoRead io)) (sym none) tt
