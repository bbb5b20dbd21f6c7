-- In every state of a run the chosen process may attempt its call on paths.
use Rattle.std.proofs.Common.{◌≡◌, ℕ, ◌<◌, Option, Some, None, IfSome, refl, sym, ap, ◌∙◌, subst}
use Rattle.std.specs.Prelude.{option_map}
use Rattle.std.proofs.lemmas.Option.{none-some, same_Some}
use Rattle.io_model.specs.Read.{IsReadAllowed}
use Rattle.os9_base.specs.Cells.{Cells}
use Rattle.os9_base.specs.declared.registers.Regs.{Regs}
use Rattle.guest_memory.specs.Tie.{cells_of}
use Rattle.guest_memory.proofs.Seen.{cells_of-seen}
use Rattle.proc_model.specs.Records.{record_at}
use Rattle.proc_model.specs.Processes.{Processes, cells_at, regs_at}
use Rattle.proc_model.specs.Ready.{attempts, act_of}
use Rattle.io_model.specs.Path.{PathTable, desc_of}
use Rattle.io_model.specs.declared.pending.PendingCall.{PendingCall}
use Rattle.io_model.specs.declared.path.Desc.{Desc}
use Rattle.io_model.specs.declared.path.Target.TheVariants.{Term}
use Rattle.io_model.specs.Again.{IsAgain, IsPending}
use Rattle.io_model.specs.Codes.{io_call_of}
use Rattle.io_model.specs.Io.{Io, pending_at}
use Rattle.io_model.specs.declared.io_call.IoCall.{IoCall}
use Rattle.io_model.specs.declared.io_call.IoCall.TheVariants as Call
use Rattle.call_laws.specs.Pending.{ArePending, IsAllowedIfRead as IsAllowed}
use Rattle.call_laws.specs.Terminals.{AreOnTerminals}
use Rattle.call_laws.proofs.Codes.{attempts-code}
use Rattle.proc_state.specs.Tie.{RepresentsProcesses}
use Rattle.proc_state.specs.declared.state.ProcState.{ProcState}
use Rattle.device_io.specs.Moving.{AreTerminals, StaysIfPending}
use Rattle.call_dispatch.specs.Staying.{MayAttemptIo, PendingReadIsAllowed}

-- each terminal that a path was opened on is there
are-terminals : (paths : PathTable) (terms : ℕ) → AreOnTerminals terms paths → AreTerminals paths terms
are-terminals paths terms on s n is = by_desc (desc_of paths s) refl is
  where
    by_desc : (place : Option Desc) → desc_of paths s ≡ place → option_map (λ (desc : Desc). desc.target) place ≡ Some (Term n) → n < terms
    by_desc None at is = absurd (none-some (Term n) is)
    by_desc (Some desc) at is = on s n desc at (same_Some desc.target (Term n) is)

module _ (m : Processes) (io : Io) (p code : ℕ) (call : IoCall) (kept_all : ArePending m io) (next : act_of m p ≡ attempts code) (coded : io_call_of code ≡ Some call) where
  -- what is kept is of this call
  kept-call : (pending : PendingCall) → pending_at io p ≡ Some pending → IsPending call (regs_at m p) io p pending × IsAllowed call (cells_at m p) (regs_at m p) io p
  kept-call pending is =
      let it = kept_all p pending is in
      let same : code ≡ pending.code = same_Some code pending.code (sym (attempts-code m p code next) ∙ it.made) in
      let one : it.call ≡ call = same_Some it.call call (sym it.again.code ∙ sym (ap io_call_of same) ∙ coded) in
      subst (λ (call : IoCall). IsPending call (regs_at m p) io p pending × IsAllowed call (cells_at m p) (regs_at m p) io p) one (it.again, it.stays)

  again-of : IsAgain call (regs_at m p) io p
  again-of = by_kept (pending_at io p) refl
    where
      by_kept : (place : Option PendingCall) → pending_at io p ≡ place → IfSome place (IsPending call (regs_at m p) io p)
      by_kept None is = tt
      by_kept (Some pending) is = (kept-call pending is).0

  allowed-of : IfSome (pending_at io p) (λ pending. IsAllowed call (cells_at m p) (regs_at m p) io p)
  allowed-of = by_kept (pending_at io p) refl
    where
      by_kept : (place : Option PendingCall) → pending_at io p ≡ place → IfSome place (λ pending. IsAllowed call (cells_at m p) (regs_at m p) io p)
      by_kept None is = tt
      by_kept (Some pending) is = (kept-call pending is).1

-- a read that is allowed stays so
stays-if : (call : IoCall) (cells : Cells) (regs : Regs) (io : Io) (p : ℕ) → (IsAllowed call cells regs io p
    → IsReadAllowed cells regs io p) → IfSome (pending_at io p) (λ pending. IsAllowed call cells regs io p) → StaysIfPending cells
    regs io p
stays-if call cells regs io p reads = by_kept (pending_at io p)
  where
    by_kept : (place : Option PendingCall) → IfSome place (λ pending. IsAllowed call cells regs io p) → IfSome place (λ pending. IsReadAllowed cells regs io p)
    by_kept None allowed = tt
    by_kept (Some pending) allowed = reads allowed

stays-of : (call : IoCall) (cells : Cells) (regs : Regs) (io : Io) (p : ℕ) → IfSome (pending_at io p) (λ pending. IsAllowed call cells regs io p) → PendingReadIsAllowed call cells regs io p
stays-of Call.Read cells regs io p allowed =
    stays-if Call.Read cells regs io p (λ it. it refl) allowed
stays-of Call.ReadLn cells regs io p allowed =
    stays-if Call.ReadLn cells regs io p (λ it. it refl) allowed
stays-of Call.Dup cells regs io p allowed = tt
stays-of Call.Create cells regs io p allowed = tt
stays-of Call.Open cells regs io p allowed = tt
stays-of Call.Close cells regs io p allowed = tt
stays-of Call.Write cells regs io p allowed = tt
stays-of Call.WritLn cells regs io p allowed = tt
stays-of Call.GetStt cells regs io p allowed = tt
stays-of Call.SetStt cells regs io p allowed = tt
stays-of Call.PErr cells regs io p allowed = tt

pub may-attempt : (processes : ProcState) (m : Processes) (io : Io) (terms p code : ℕ) (call : IoCall) → p < 33
    → RepresentsProcesses processes m → ArePending m io → AreOnTerminals terms io.paths → act_of m p ≡ attempts code
    → io_call_of code ≡ Some call → MayAttemptIo call processes io p terms
may-attempt processes m io terms p code call process tied kept on next coded =
    let regs : regs_at m p ≡ (record_at processes.table p).regs = ap (λ (m : Processes). regs_at m p) tied.is in
    let cells : cells_of processes.memory p ≡ cells_at m p = cells_of-seen processes.memory p process m.memory tied.memory in
    record {
      again = subst (λ (regs : Regs). IsAgain call regs io p) regs (again-of m io p code call kept next coded);
      stays = subst (λ (cells : Cells). PendingReadIsAllowed call cells (record_at processes.table p).regs io p) (sym cells)
          (subst (λ (regs : Regs). PendingReadIsAllowed call (cells_at m p) regs io p) regs (stays-of call (cells_at m p) (regs_at m p) io p (allowed-of m io p code call kept next coded)));
      terminals = are-terminals io.paths terms on;
    }
