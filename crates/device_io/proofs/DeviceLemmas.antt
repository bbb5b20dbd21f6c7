-- What an attempt on a terminal comes to.
use Rattle.std.proofs.Common.{◌≡◌, ◌∙◌, ℕ, Option, Some, List, ap, sym, refl, subst}
use Rattle.os9_base.specs.declared.call.CallEnd.{CallEnd}
use Rattle.os9_base.specs.declared.registers.Regs.{Regs}
use Rattle.os9_outer.specs.TerminalState.{TerminalState, ChangesOneTerminal}
use Rattle.proc_model.specs.Processes.{Processes, regs_at}
use Rattle.io_model.specs.Terminal.{TerminalReadAttempt, stored_bytes}
use Rattle.io_model.specs.declared.pending.PendingCall.{PendingCall}
use Rattle.io_model.specs.declared.terminal.Progress.{Progress}
use Rattle.io_model.specs.declared.terminal.Progress.TheVariants.{Done, Wait, End, Fault, NoMemory}
use Rattle.io_model.specs.Attempts.{caller_of, pending_in, result_by}
use Rattle.io_model.specs.Io.{Io, terminal_at, with_call, with_terminal}
use Rattle.io_model.specs.Step.{IoEnd, TerminalRead, reads, stores}
use Rattle.io_model.specs.Terminals.{read_ends, read_leaves, request_of}
use Rattle.io_state.specs.Terminals.{pending_after}
use Rattle.proc_state.specs.Tie.{ReturnsCallEnd}
use Rattle.proc_state.specs.declared.state.ProcState.{ProcState}
use Rattle.io_model.specs.Memory.{WantsMemory}
use Rattle.device_io.specs.Trying.{EndsBy, TriesIoStep}
use Rattle.device_io.proofs.TryingLemmas.{never-wants, tries-takes}

module _ (m : Processes) (io : Io) (p : ℕ) (processes : ProcState) (new : Io) (before after : List TerminalState) (read : TerminalRead) (regs : Regs) (taken : List ℕ) (end : CallEnd) where
  -- a read that the terminal answered so, and that has this end
  ended : (answer : Progress) (it : IoEnd) → read_ends (caller_of m p) read answer ≡ Some it → pending_after answer
      read.call ≡ pending_in it → regs ≡ regs_at m p → ChangesOneTerminal (TerminalReadAttempt (request_of (caller_of m p) read) answer
      (terminal_at io read.terminal) (terminal_at new read.terminal)) read.terminal before after
      → taken ≡ stored_bytes answer (request_of (caller_of m p) read) (terminal_at io read.terminal)
      → new ≡ with_call (with_terminal io read.terminal (terminal_at new read.terminal)) p
      (pending_after answer read.call) → ((other : Io) → ReturnsCallEnd m p (result_by it m p (stores regs.x taken it other)) end
      processes) → TriesIoStep (reads read) m io p end processes new before after
  ended answer it ends_is kept_is same device stored_is state came =
      let bytes : List ℕ = stored_bytes answer (request_of (caller_of m p) read) (terminal_at io read.terminal) in
      let io_then : Io = with_terminal io read.terminal (terminal_at new read.terminal) in
      let by_bytes = subst (λ (b : List ℕ). ReturnsCallEnd m p (result_by it m p (stores regs.x b it io_then)) end processes) stored_is (came io_then) in
      let by_regs = subst (λ (r : Regs). ReturnsCallEnd m p (result_by it m p (stores r.x bytes it io_then)) end processes) same by_bytes in
      tries-takes m io p processes new before (reads read) end after
      (λ e. never-wants m p processes (result_by it m p (stores (regs_at m p).x bytes it io_then))
      (subst (λ (x : CallEnd). ReturnsCallEnd m p (result_by it m p (stores (regs_at m p).x bytes it io_then)) x processes)
      e by_regs))
      (record {
        effect = read_leaves (caller_of m p) io read answer (terminal_at new read.terminal) it;
        does = record { answer = answer; new = terminal_at new read.terminal; end = it; device = device; ends = ends_is; effect_is = refl };
        comes = by_regs;
        state = state ∙ ap (λ (k : Option PendingCall). with_call io_then p k) kept_is;
      })

  -- by what the terminal answered
  pub tries-read : (answer : Progress) → regs ≡ regs_at m p → ChangesOneTerminal
      (TerminalReadAttempt (request_of (caller_of m p) read) answer (terminal_at io read.terminal) (terminal_at new read.terminal))
      read.terminal before after → taken ≡ stored_bytes answer (request_of (caller_of m p) read)
      (terminal_at io read.terminal) → new ≡ with_call (with_terminal io read.terminal
      (terminal_at new read.terminal)) p (pending_after answer read.call)
      → EndsBy (read_ends (caller_of m p) read answer) regs.x taken m p end processes → TriesIoStep (reads read) m io p end
      processes new before after
  tries-read (Done count) same device stored_is state ends = ended (Done count) _ refl refl same device stored_is state ends
  tries-read Wait same device stored_is state ends = ended Wait _ refl refl same device stored_is state ends
  tries-read End same device stored_is state ends = ended End _ refl refl same device stored_is state ends
  tries-read Fault same device stored_is state ends = ended Fault _ refl refl same device stored_is state ends
  tries-read NoMemory same device stored_is state ends =
      let wants : WantsMemory (reads read) (caller_of m p) io before after = (terminal_at new read.terminal, device) in
      subst (λ (e : CallEnd). TriesIoStep (reads read) m io p e processes new before after) (sym ends) wants
