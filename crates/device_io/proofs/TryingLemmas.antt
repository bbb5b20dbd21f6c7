-- What an attempt comes to, by the tests that it passes.
use Rattle.std.proofs.Common.{◌≡◌, ◌≢◌, ℕ, Option, Some, None, List, sym, refl, subst}
use Rattle.os9_base.specs.declared.call.CallEnd.{CallEnd}
use Rattle.os9_base.specs.declared.call.CallEnd.TheVariants.{Done, Error, Wait, Ended, NoMemory}
use Rattle.os9_base.specs.declared.registers.Regs.{Regs}
use Rattle.os9_outer.specs.TerminalState.{TerminalState}
use Rattle.proc_model.specs.CallResult.{CallResult}
use Rattle.proc_model.specs.Processes.{Processes, regs_at, with_regs_of}
use Rattle.io_model.specs.Attempts.{caller_of, result_of, step_of}
use Rattle.io_model.specs.Io.{Io, with_call}
use Rattle.io_model.specs.Step.{IoEffect, IoStep, refused, comes, needs, done, leaves, fails, answers}
use Rattle.io_model.specs.declared.io_call.IoCall.{IoCall}
use Rattle.io_state.specs.Attempt.{IoAttempted}
use Rattle.device_io.specs.Leaving.{LeavesIoState}
use Rattle.proc_state.specs.Tie.{ReturnsCallEnd, RepresentsProcesses}
use Rattle.proc_state.specs.declared.state.ProcState.{ProcState}
use Rattle.io_model.specs.Memory.{WantsMemory}
use Rattle.device_io.specs.Trying.{Takes, TriesIoStep}

-- no call comes to want of memory
pub never-wants : (m : Processes) (p : ℕ) (processes : ProcState) (result : CallResult) → ReturnsCallEnd m p result NoMemory processes → ⊥
never-wants m p processes (CallResult.done t) came = let e : NoMemory ≡ Done = came.0 in cc
never-wants m p processes (CallResult.refused number) came = let e : NoMemory ≡ Error number = came.0 in cc
never-wants m p processes (CallResult.waits t) came = let e : NoMemory ≡ Wait = came.0 in cc
never-wants m p processes (CallResult.ends status) came = let e : NoMemory ≡ Ended = came.0 in cc

module _ (m : Processes) (io : Io) (p : ℕ) (processes : ProcState) (new : Io) (terms : List TerminalState) where
  -- it comes to an end
  pub tries-takes : (step : IoStep) (end : CallEnd) (after : List TerminalState) → end ≢ NoMemory → Takes step m io p
      end processes new terms after → TriesIoStep step m io p end processes new terms after
  tries-takes step Done after differ takes = takes
  tries-takes step (Error number) after differ takes = takes
  tries-takes step Wait after differ takes = takes
  tries-takes step Ended after differ takes = takes
  tries-takes step NoMemory after differ takes = absurd (differ refl)

  -- it reaches no device
  pub tries-comes : (effect : IoEffect) (end : CallEnd) → LeavesIoState effect m p end processes new → TriesIoStep (comes effect) m io p end processes new terms terms
  tries-comes effect Done it = record { effect = effect; does = (refl, refl); comes = it.0; state = it.1 }
  tries-comes effect (Error number) it = record { effect = effect; does = (refl, refl); comes = it.0; state = it.1 }
  tries-comes effect Wait it = record { effect = effect; does = (refl, refl); comes = it.0; state = it.1 }
  tries-comes effect Ended it = record { effect = effect; does = (refl, refl); comes = it.0; state = it.1 }
  tries-comes effect NoMemory it = absurd (never-wants m p processes (result_of m p effect) it.0)

  -- it is refused
  pub tries-refused : (number : ℕ) (end : CallEnd) → end ≡ Error number → RepresentsProcesses processes m
      → new ≡ with_call io p None → TriesIoStep (refused number) m io p end processes new terms terms
  tries-refused number end is tied left =
      subst (λ (e : CallEnd). TriesIoStep (refused number) m io p e processes new terms terms) (sym is)
      (record { effect = leaves (fails number) io; does = (refl, refl); comes = (refl, tied); state = left })

  -- it is done at once
  pub tries-done : (regs : Regs) (end : CallEnd) → regs ≡ regs_at m p → end ≡ Done → RepresentsProcesses processes
      (with_regs_of m p regs) → new ≡ with_call io p None → TriesIoStep (done (regs_at m p) io) m io p end processes new
      terms terms
  tries-done regs end same is tied left =
      tries-comes (leaves (answers (regs_at m p)) io) end ((is, subst (λ (r : Regs). RepresentsProcesses processes (with_regs_of m p r)) same tied), left)

module _ (m : Processes) (io : Io) (p : ℕ) (end : CallEnd) (processes : ProcState) (new : Io) (before after : List TerminalState) where
  -- ---- the tests of a step

  pub tries-needs-none : {A : Type 0} (o : Option A) (number : ℕ) (next : A → IoStep) → o ≡ None
      → TriesIoStep (refused number) m io p end processes new before after → TriesIoStep (needs o number next) m io p end
      processes new before after
  tries-needs-none {A} o number next is tries = subst (λ (o : Option A). TriesIoStep (needs o number next) m io p end processes new before after) (sym is) tries

  pub tries-needs-some : {A : Type 0} (o : Option A) (a : A) (number : ℕ) (next : A → IoStep) → o ≡ Some a
      → TriesIoStep (next a) m io p end processes new before after → TriesIoStep (needs o number next) m io p end processes new
      before after
  tries-needs-some {A} o a number next is tries = subst (λ (o : Option A). TriesIoStep (needs o number next) m io p end processes new before after) (sym is) tries

-- what an attempt did is what its call does
module _ (call : IoCall) (m : Processes) (io : Io) (drives p : ℕ) (processes : ProcState) (new : Io) (before after : List TerminalState) where
  by-step : (end : CallEnd) → Takes (step_of call m p io drives before) m io p end processes new before after → IoAttempted call m io drives p end processes new before after
  by-step end takes = record {
    result = result_of m p takes.effect;
    attempt = record { effect = takes.effect; does = takes.does; result_is = refl; state = takes.state };
    comes = takes.comes;
  }

  pub attempts-of : (end : CallEnd) → end ≢ NoMemory → TriesIoStep (step_of call m p io drives before) m io p end
      processes new before after → IoAttempted call m io drives p end processes new before after
  attempts-of Done differ tries = by-step Done tries
  attempts-of (Error number) differ tries = by-step (Error number) tries
  attempts-of Wait differ tries = by-step Wait tries
  attempts-of Ended differ tries = by-step Ended tries
  attempts-of NoMemory differ tries = absurd (differ refl)

module _ (m : Processes) (io : Io) (p : ℕ) (end : CallEnd) (processes : ProcState) (new : Io) (before after : List TerminalState) where
  -- a step that is another one
  pub tries-same : (one other : IoStep) → one ≡ other → TriesIoStep one m io p end processes new before after → TriesIoStep other m io p end processes new before after
  tries-same one other same tries = subst (λ (step : IoStep). TriesIoStep step m io p end processes new before after) same tries

  -- memory is wanting
  pub wants-of : (step : IoStep) → end ≡ NoMemory → TriesIoStep step m io p end processes new before after → WantsMemory step (caller_of m p) io before after
  wants-of step is tries = subst (λ (e : CallEnd). TriesIoStep step m io p e processes new before after) is tries
