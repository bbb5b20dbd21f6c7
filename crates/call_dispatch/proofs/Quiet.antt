-- Calls that move no byte: none of them waits, and none wants memory.
use Rattle.std.proofs.Common.{◌≡◌, ◌≢◌, ◌⊎◌, ℕ, true, false, Option, Some, None, is_some, IsSome, IfSome, option_and_then, List, inl, inr, refl, sym, ◌∙◌, ap, subst}
use Rattle.os9_base.specs.declared.call.CallEnd.{CallEnd}
use Rattle.os9_base.specs.declared.call.CallEnd.TheVariants.{Done, Error, Wait, Ended, NoMemory}
use Rattle.os9_base.specs.declared.registers.Regs.{Regs}
use Rattle.os9_outer.specs.TerminalState.{TerminalState}
use Rattle.proc_model.specs.CallResult.{CallResult}
use Rattle.proc_model.specs.CallResult as Result
use Rattle.proc_model.specs.Processes.{Processes}
use Rattle.io_model.specs.declared.pending.PendingCall.{PendingCall}
use Rattle.io_model.specs.Again.{IsAgain, IsPending}
use Rattle.io_model.specs.Codes.{direction_of, io_call_of, direction_of_call}
use Rattle.io_model.specs.Io.{Io, pending_at}
use Rattle.io_model.specs.declared.io_call.IoCall.{IoCall}
use Rattle.io_model.specs.declared.io_call.IoCall.TheVariants as Call
use Rattle.io_state.specs.Attempt.{IoAttempted}
use Rattle.io_state.specs.Sound.{IsIo, SetsStatus}
use Rattle.proc_state.specs.Tie.{ReturnsCallEnd}
use Rattle.proc_state.specs.declared.state.ProcState.{ProcState}
use Rattle.io_model.specs.Attempts.{caller_of, step_of}
use Rattle.io_model.specs.Memory.{WantsMemory}

-- a call that waits moves bytes or sets a status, so another one is at its first attempt
pub is-first : (call : IoCall) (regs : Regs) (io : Io) (p : ℕ) → direction_of_call call ≡ None → call ≢ Call.SetStt → IsIo io → IsAgain call regs io p → pending_at io p ≡ None
is-first call regs io p quiet other sound again = by (pending_at io p) refl again
  where
    waits : (pending : PendingCall) → io_call_of pending.code ≡ Some call → IsSome (direction_of pending.code) ⊎ SetsStatus io.paths pending → ⊥
    waits pending coded (inl moves) =
        let none : option_and_then direction_of_call (io_call_of pending.code) ≡ None = ap (option_and_then direction_of_call) coded ∙ quiet in
        let e : false ≡ true = ap is_some (sym none) ∙ moves in cc
    waits pending coded (inr it) =
        let e : Some call ≡ Some Call.SetStt = sym coded ∙ it.sets in
        other cc

    by : (pending : Option PendingCall) → pending_at io p ≡ pending → IfSome pending (IsPending call regs io p) → pending ≡ None
    by None is again = refl
    by (Some pending) is again = absurd (waits pending again.code (sound.waits.calls p pending is).moves)

-- so is one that sets a status, if none of them waits on a terminal or a pipe
pub is_first_if : (call : IoCall) (regs : Regs) (io : Io) (p : ℕ) → direction_of_call call ≡ None → (call ≡ Call.SetStt → pending_at io p ≡ None) → IsIo io → IsAgain call regs io p → pending_at io p
    ≡ None
is_first_if Call.Dup regs io p quiet status sound again = is-first Call.Dup regs io p quiet (λ same. cc) sound again
is_first_if Call.Create regs io p quiet status sound again = is-first Call.Create regs io p quiet (λ same. cc) sound again
is_first_if Call.Open regs io p quiet status sound again = is-first Call.Open regs io p quiet (λ same. cc) sound again
is_first_if Call.Close regs io p quiet status sound again = is-first Call.Close regs io p quiet (λ same. cc) sound again
is_first_if Call.Read regs io p quiet status sound again = is-first Call.Read regs io p quiet (λ same. cc) sound again
is_first_if Call.ReadLn regs io p quiet status sound again = is-first Call.ReadLn regs io p quiet (λ same. cc) sound again
is_first_if Call.Write regs io p quiet status sound again = is-first Call.Write regs io p quiet (λ same. cc) sound again
is_first_if Call.WritLn regs io p quiet status sound again = is-first Call.WritLn regs io p quiet (λ same. cc) sound again
is_first_if Call.GetStt regs io p quiet status sound again = is-first Call.GetStt regs io p quiet (λ same. cc) sound again
is_first_if Call.SetStt regs io p quiet status sound again = status refl
is_first_if Call.PErr regs io p quiet status sound again = is-first Call.PErr regs io p quiet (λ same. cc) sound again

-- an attempt comes to something else than want of memory
no-memory : (m : Processes) (p : ℕ) (result : CallResult) (processes : ProcState) → ReturnsCallEnd m p result NoMemory processes → ⊥
no-memory m p (Result.done after) processes comes = let e : NoMemory ≡ Done = comes.0 in cc
no-memory m p (Result.refused number) processes comes = let e : NoMemory ≡ Error number = comes.0 in cc
no-memory m p (Result.waits after) processes comes = let e : NoMemory ≡ Wait = comes.0 in cc
no-memory m p (Result.ends status) processes comes = let e : NoMemory ≡ Ended = comes.0 in cc

-- such a call does not want memory
pub has-memory : (call : IoCall) (m : Processes) (io : Io) (drives p : ℕ) (end : CallEnd) (processes : ProcState)
    (new : Io) (before after : List TerminalState) → IoAttempted call m io drives p end processes new before after
    → end ≡ NoMemory → ⊥
has-memory call m io drives p end processes new before after attempts is =
    no-memory m p attempts.result processes (subst (λ (end : CallEnd). ReturnsCallEnd m p attempts.result end processes) is attempts.comes)

-- ---- a call by its name

module _ (call other : IoCall) (m : Processes) (io : Io) (drives p : ℕ) (before after : List TerminalState) (is : call ≡ other) where
  pub attempts-as : (end : CallEnd) (processes : ProcState) (new : Io) → IoAttempted other m io drives p end processes new before after → IoAttempted call m io drives p end processes new before after
  attempts-as end processes new attempts = subst (λ (call : IoCall). IoAttempted call m io drives p end processes new before after) (sym is) attempts

  pub wants-as : WantsMemory (step_of other m p io drives before) (caller_of m p) io before after → WantsMemory (step_of call m p io drives before) (caller_of m p) io before after
  wants-as wants = subst (λ (call : IoCall). WantsMemory (step_of call m p io drives before) (caller_of m p) io before after) (sym is) wants
