-- Calls on a path that a process has open: that it may wait in them, and may read a terminal by them.
use Rattle.std.proofs.Common.{◌≡◌, ◌<◌, ◌∙◌, ℕ, Option, Some, None, IsSome, IfSome, option_map, option_and_then, unwrap_or, inl, sym, ap, refl, subst}
use Rattle.os9_base.specs.declared.registers.Regs.{Regs}
use Rattle.io_model.specs.Path.{slot_of, desc_of}
use Rattle.io_model.specs.declared.pending.PendingCall.{PendingCall}
use Rattle.io_model.specs.declared.path.Desc.{Desc}
use Rattle.io_model.specs.declared.path.SysPath.{SysPath}
use Rattle.io_model.specs.declared.path.Target.{Target}
use Rattle.io_model.specs.declared.path.Target.TheVariants.{Term}
use Rattle.io_model.specs.declared.terminal.ReadKind.{ReadKind}
use Rattle.io_model.specs.Codes.{io_call_of, direction_of}
use Rattle.io_model.specs.Io.{Io, OpenPath, pending_at, open_path}
use Rattle.io_model.specs.Transfer.{first_call}
use Rattle.io_model.specs.declared.io_call.Direction.TheVariants as Way
use Rattle.io_model.specs.declared.io_call.IoCall.{IoCall}
use Rattle.io_state.proofs.HeldLemmas.{slot-held}
use Rattle.io_state.proofs.WaitLemmas.{none-some, some-same, reading-moves}
use Rattle.io_state.specs.Again.{IsAgain, IsPending, path_number}
use Rattle.io_state.specs.Sound.{IsIo, MayWait, target_at, read_kind, read_kind_of}
use Rattle.io_state.specs.Terminals.{MayReadTerminal}

opened-desc : (io : Io) (path : SysPath) (opened : OpenPath) (desc : Option Desc) → desc_of io.paths path.0 ≡ desc
    → option_map (λ (desc : Desc). record { path = path; desc = desc }) desc ≡ Some opened → (path ≡ opened.path) ×
    (desc_of io.paths path.0 ≡ Some opened.desc)
opened-desc io path opened None is e = absurd (none-some opened e)
opened-desc io path opened (Some desc) is e =
    let same : record { path = path; desc = desc } ≡ opened = some-same (record { path = path; desc = desc }) opened e in
    (ap (λ (o : OpenPath). o.path) same, is ∙ ap (λ (o : OpenPath). Some o.desc) same)

-- the path that a number names
pub opened-slot : (io : Io) (p n : ℕ) (opened : OpenPath) → open_path io p n ≡ Some opened → (slot_of io.paths p n ≡ Some opened.path) × (desc_of io.paths opened.path.0 ≡ Some opened.desc)
opened-slot io p n opened e = by (slot_of io.paths p n) refl e
  where
    by : (path : Option SysPath) → slot_of io.paths p n ≡ path
        → option_and_then (λ (s : SysPath). option_map (λ (desc : Desc). record { path = s; desc = desc })
        (desc_of io.paths s.0)) path ≡ Some opened → (slot_of io.paths p n ≡ Some opened.path) ×
        (desc_of io.paths opened.path.0 ≡ Some opened.desc)
    by None is e = absurd (none-some opened e)
    by (Some path) is e =
        let found = opened-desc io path opened (desc_of io.paths path.0) refl e in
        (is ∙ ap (λ (s : SysPath). Some s) found.0, subst (λ (s : SysPath). desc_of io.paths s.0 ≡ Some opened.desc) found.0 found.1)

-- what it was opened on
pub opened-target : (io : Io) (p n : ℕ) (opened : OpenPath) → open_path io p n ≡ Some opened → target_at io.paths opened.path.0 ≡ Some opened.desc.target
opened-target io p n opened e =
    ap (option_map (λ (desc : Desc). desc.target)) (opened-slot io p n opened e).1

-- a process may wait in a call on a path that it has open
pub may-wait : (io : Io) (p n : ℕ) (opened : OpenPath) (code moved count : ℕ) → open_path io p n ≡ Some opened
    → IsSome (direction_of code) → moved < count → ((m : ℕ) → opened.desc.target ≡ Term m → direction_of code ≡ Some
    Way.Reading) → MayWait io.paths p (record { code = code; path = opened.path; moved = moved; count = count })
may-wait io p n opened code moved count e moves left reads = record {
  moves = inl moves;
  left = left;
  held = slot-held io.paths p n opened.path (opened-slot io p n opened e).0;
  reads = λ m on. reads m (some-same opened.desc.target (Term m) (sym (opened-target io p n opened e) ∙ on));
}

something : {X : Type 0} (o : Option X) (x : X) → o ≡ Some x → IsSome o
something {X} o x e = subst (λ (o : Option X). IsSome o) (sym e) refl

-- a process may read a terminal that it has open, by the call as an attempt finds it
pub may-read : (io : Io) (p m number : ℕ) (kind : ReadKind) (call : IoCall) (regs : Regs) (opened : OpenPath)
    (code count : ℕ) → IsIo io → IsAgain call regs io p → path_number call regs ≡ number → open_path io p number ≡
    Some opened → opened.desc.target ≡ Term m → io_call_of code ≡ Some call → read_kind_of call ≡ Some kind
    → 0 < count → MayReadTerminal io p m kind (unwrap_or (pending_at io p) (first_call code opened count))
may-read io p m number kind call regs opened code count is again same named on coded reads some = by (pending_at io p) refl again
  where
    kind_is : read_kind code ≡ Some kind
    kind_is = ap (option_and_then read_kind_of) coded ∙ reads

    moves : direction_of code ≡ Some Way.Reading
    moves = reading-moves code kind kind_is

    here : target_at io.paths opened.path.0 ≡ Some (Term m)
    here = opened-target io p number opened named ∙ ap (λ (x : Target). Some x) on

    by : (pending : Option PendingCall) → pending_at io p ≡ pending → IfSome pending (IsPending call regs io p) → MayReadTerminal io p m kind (unwrap_or pending (first_call code opened count))
    by None none again = record {
      may = may-wait io p number opened code 0 count named (something (direction_of code) Way.Reading moves) some (λ n e. moves);
      on = here;
      kind_is = kind_is;
      same = subst (λ (o : Option PendingCall). IfSome o (λ (pending : PendingCall). pending ≡ first_call code opened count)) (sym none) tt;
    }
    by (Some pending) found again =
        let path : pending.path ≡ opened.path =
        some-same pending.path opened.path (sym again.path ∙ ap (λ (k : ℕ). slot_of io.paths p k) same ∙ (opened-slot io p number opened named).0) in
        record {
          may = is.waits.calls p pending found;
          on = ap (λ (s : SysPath). target_at io.paths s.0) path ∙ here;
          kind_is = ap (option_and_then read_kind_of) again.code ∙ reads;
          same = subst (λ (o : Option PendingCall). IfSome o (λ (other : PendingCall). other ≡ pending)) (sym found) refl;
        }
