-- Which terminal an attempt of a write writes to.
use Rattle.std.proofs.Common.{◌≡◌, ◌==◌, not, Bool, true, false, Option, Some, None, List, length, refl}
use Rattle.std.specs.Prelude.{ℕ, if◌then◌else◌}
use Rattle.os9_base.specs.declared.calls.TheConstants.{I_WRITE, I_WRITLN, F_PERR}
use Rattle.os9_base.specs.declared.errors.TheConstants.{E_BPADDR, E_BPNUM, E_BMODE}
use Rattle.proc_model.specs.UserBytes.{user_bytes}
use Rattle.io_model.specs.declared.pending.PendingCall.{PendingCall}
use Rattle.io_model.specs.declared.path.Target.{Target}
use Rattle.io_model.specs.declared.path.Target.TheVariants.{File, Folder, Term, Pipe}
use Rattle.io_model.specs.Again.{path_number}
use Rattle.io_model.specs.Attempts.{io_step}
use Rattle.io_model.specs.Codes.{direction_of_call}
use Rattle.io_model.specs.Io.{Io, OpenPath, pending_at, open_path}
use Rattle.io_model.specs.Modes.{can_write}
use Rattle.io_model.specs.Step.{Caller, IoStep, refused, comes, reads, writes, needs, refuses, done}
use Rattle.io_model.specs.Transfer.{call_now, on_path, unless_nothing}
use Rattle.io_model.specs.Write.{Sending, line_bytes, sends_on, sent_bytes, sent_error, sent_line, writes_target}
use Rattle.io_model.specs.declared.io_call.Direction.TheVariants as Way
use Rattle.io_model.specs.declared.io_call.IoCall.{IoCall}
use Rattle.io_model.specs.declared.io_call.IoCall.TheVariants as Call
use Rattle.call_laws.proofs.StepWalk.{StepGives}

-- the path of the call was opened on this terminal
abbrev pub OnTerminal : IoCall → Caller → Io → ℕ → Type 0
OnTerminal call caller io n =
    (opened : OpenPath) × (open_path io caller.process.0 (path_number call caller.regs) ≡ Some opened) × (opened.desc.target ≡ Term n)

-- only a write writes to a terminal
abbrev pub StepWrites : IoCall → Caller → Io → IoStep → Type 0
StepWrites call caller io (refused number) = Unit {0}
StepWrites call caller io (comes effect) = Unit {0}
StepWrites call caller io (reads read) = Unit {0}
StepWrites call caller io (writes write) = OnTerminal call caller io write.terminal

module _ (call : IoCall) (caller : Caller) (io : Io) where
  abbrev Is : IoStep → Type 0
  Is step = StepWrites call caller io step

  on-target : (sending : Sending) (now : PendingCall) (opened : OpenPath) → open_path io caller.process.0
      (path_number call caller.regs) ≡ Some opened → (target : Target) → opened.desc.target ≡ target
      → Is (writes_target sending caller io now target)
  on-target sending now opened is (File drive sector) on = tt
  on-target sending now opened is (Folder drive sector) on = tt
  on-target sending now opened is (Pipe pipe) on = tt
  on-target sending now opened is (Term terminal) on = (opened, is, on)

  on-open : (next : OpenPath → IoStep) → ((opened : OpenPath) → open_path io caller.process.0
      (path_number call caller.regs) ≡ Some opened → Is (next opened)) → (opened : Option OpenPath)
      → open_path io caller.process.0 (path_number call caller.regs) ≡ opened
      → Is (needs opened E_BPNUM (λ opened. refuses (not (can_write opened.desc.mode)) E_BMODE (next opened)))
  on-open next writes_it None is = tt
  on-open next writes_it (Some opened) is = by_mode (can_write opened.desc.mode)
    where
      by_mode : (allowed : Bool) → Is (refuses (not allowed) E_BMODE (next opened))
      by_mode true = writes_it opened is
      by_mode false = tt

  nothing-writes : (nothing : Bool) (next : IoStep) → Is next → Is (if nothing then done caller.regs io else next)
  nothing-writes true next writes_it = tt
  nothing-writes false next writes_it = writes_it

  send-writes : (sending : List ℕ → Sending) (code : ℕ) (bytes : Option (List ℕ))
      → Is (needs bytes E_BPADDR (λ bytes. on_path caller io (path_number call caller.regs) can_write
      (λ opened. unless_nothing caller io (sends_on (sending bytes) code caller io opened))))
  send-writes sending code None = tt
  send-writes sending code (Some bytes) =
      on-open (λ opened. unless_nothing caller io (sends_on (sending bytes) code caller io opened))
      (λ opened is. nothing-writes (caller.regs.y == 0) (sends_on (sending bytes) code caller io opened)
      (on-target (sending bytes) (call_now caller io code opened (length (sending bytes).bytes)) opened is
      opened.desc.target refl))
      (open_path io caller.process.0 (path_number call caller.regs)) refl

  error-writes : Is (on_path caller io (path_number call caller.regs) can_write (λ opened. sends_on (sent_error caller) F_PERR caller io opened))
  error-writes =
      on-open (λ opened. sends_on (sent_error caller) F_PERR caller io opened)
      (λ opened is. on-target (sent_error caller) (call_now caller io F_PERR opened (length (sent_error caller).bytes)) opened is opened.desc.target refl)
      (open_path io caller.process.0 (path_number call caller.regs)) refl

-- a call that does not write writes to no terminal
other-writes : (call : IoCall) (P : Io → Type 0) (caller : Caller) (io : Io)
    → (direction_of_call call ≡ Some Way.Writing → ⊥) → (step : IoStep) → StepGives call P caller io step
    → StepWrites call caller io step
other-writes call P caller io other (refused number) gives = tt
other-writes call P caller io other (comes effect) gives = tt
other-writes call P caller io other (reads read) gives = tt
other-writes call P caller io other (writes write) gives = absurd (other gives.0)

none-writes : None ≡ Some Way.Writing → ⊥
none-writes is = cc

read-writes : Some Way.Reading ≡ Some Way.Writing → ⊥
read-writes is = cc

pub step-writes : (call : IoCall) (P : Io → Type 0) (caller : Caller) (io : Io) (drives terms : ℕ)
    → StepGives call P caller io (io_step call caller io drives terms) → StepWrites call caller io
    (io_step call caller io drives terms)
step-writes Call.Write P caller io drives terms gives =
    send-writes Call.Write caller io (sent_bytes caller) I_WRITE (user_bytes caller.cells caller.regs.x caller.regs.y)
step-writes Call.WritLn P caller io drives terms gives =
    send-writes Call.WritLn caller io (sent_line caller) I_WRITLN (line_bytes caller (pending_at io caller.process.0))
step-writes Call.PErr P caller io drives terms gives = error-writes Call.PErr caller io
step-writes Call.Read P caller io drives terms gives = other-writes Call.Read P caller io read-writes (io_step Call.Read caller io drives terms) gives
step-writes Call.ReadLn P caller io drives terms gives = other-writes Call.ReadLn P caller io read-writes (io_step Call.ReadLn caller io drives terms) gives
step-writes Call.Dup P caller io drives terms gives = other-writes Call.Dup P caller io none-writes (io_step Call.Dup caller io drives terms) gives
step-writes Call.Create P caller io drives terms gives = other-writes Call.Create P caller io none-writes (io_step Call.Create caller io drives terms) gives
step-writes Call.Open P caller io drives terms gives = other-writes Call.Open P caller io none-writes (io_step Call.Open caller io drives terms) gives
step-writes Call.Close P caller io drives terms gives = other-writes Call.Close P caller io none-writes (io_step Call.Close caller io drives terms) gives
step-writes Call.GetStt P caller io drives terms gives = other-writes Call.GetStt P caller io none-writes (io_step Call.GetStt caller io drives terms) gives
step-writes Call.SetStt P caller io drives terms gives = other-writes Call.SetStt P caller io none-writes (io_step Call.SetStt caller io drives terms) gives
