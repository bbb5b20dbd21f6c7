-- What is known of a read or a write once its path is found.
use Rattle.std.proofs.Common.{◌≡◌, ◌≢◌, ℕ, Bool, true, false, Option, Some, None, is_some, is_none, option_map, option_and_then, unwrap_or, inl, sym, ap, refl, ◌∙◌, subst, arith}
use Rattle.std.specs.Prelude.{IfSome}
use Rattle.std.proofs.lemmas.Bool.{false≢true}
use Rattle.io_model.specs.Read.{read_call, read_code}
use Rattle.os9_base.specs.Cells.{Cells}
use Rattle.os9_base.specs.declared.registers.Regs.{Regs}
use Rattle.guest_memory.specs.Tie.{cells_of}
use Rattle.io_model.specs.Path.{slot_of, desc_of}
use Rattle.io_model.specs.declared.pending.PendingCall.{PendingCall}
use Rattle.io_model.specs.declared.path.Desc.{Desc}
use Rattle.io_model.specs.declared.path.SysPath.{SysPath}
use Rattle.io_model.specs.declared.path.Target.{Target}
use Rattle.io_model.specs.declared.terminal.ReadKind.{ReadKind}
use Rattle.io_model.specs.declared.terminal.ReadKind.TheVariants.{Bytes, WholeLine}
use Rattle.io_model.specs.Codes.{direction_of}
use Rattle.io_model.specs.Io.{Io, OpenPath, open_path, pending_at}
use Rattle.io_model.specs.Transfer.{first_call}
use Rattle.io_model.specs.declared.io_call.Direction.{Direction}
use Rattle.io_model.specs.declared.io_call.Direction.TheVariants as Way
use Rattle.io_model.specs.declared.io_call.IoCall.{IoCall}
use Rattle.io_model.specs.Again.{IsAgain, IsPending, KeepsCount, path_number}
use Rattle.io_state.proofs.HeldLemmas.{slot-held}
use Rattle.io_state.proofs.WaitLemmas.{none-some, some-same}
use Rattle.io_state.specs.Sound.{IsIo, MayWait, read_kind, read_kind_of, target_at}
use Rattle.proc_state.specs.declared.state.ProcState.{ProcState}
use Rattle.proc_model.specs.Records.{record_at}
use Rattle.io_state.specs.Context.{InCall}
use Rattle.io_state.specs.declared.requester.Requester.{Requester}
use Rattle.device_io.specs.Moving.{MayAttemptIo, PendingReadIsAllowed, StaysIfPending}

-- what is not there is nothing
pub none-of : {A : Type 0} (o : Option A) (there : Bool) → there ≡ is_some o → there ≡ false → is_none o ≡ true
none-of None there is out = refl
none-of (Some a) there is out = absurd (false≢true (sym out ∙ is))

pub some-of : {A : Type 0} (o : Option A) (there : Bool) → there ≡ is_some o → there ≡ true → is_none o ≡ false
some-of None there is inside = absurd (false≢true (sym is ∙ inside))
some-of (Some a) there is inside = refl

-- ---- a path that a number names

-- a system path with its descriptor
abbrev with_desc_of : SysPath → Option Desc → Option OpenPath
with_desc_of s d = option_map {U = OpenPath} (λ (desc : Desc). record { path = s; desc = desc }) d

-- its system path and its descriptor
pub opened-parts : (io : Io) (p n : ℕ) (opened : OpenPath) → open_path io p n ≡ Some opened → (slot_of io.paths p n ≡ Some opened.path) × (desc_of io.paths opened.path.0 ≡ Some opened.desc)
opened-parts io p n opened is = by_slot (slot_of io.paths p n) refl is
  where
    by_desc : (s : SysPath) (d : Option Desc) → slot_of io.paths p n ≡ Some s → desc_of io.paths s.0 ≡ d
        → with_desc_of s d ≡ Some opened → (slot_of io.paths p n ≡ Some opened.path) × (desc_of io.paths opened.path.0
        ≡ Some opened.desc)
    by_desc s None slot_is desc_is e = absurd (none-some opened e)
    by_desc s (Some d) slot_is desc_is e =
        let whole : record { path = s; desc = d } ≡ opened = some-same (record { path = s; desc = d }) opened e in
        let same_path : s ≡ opened.path = ap (λ (it : OpenPath). it.path) whole in
        let same_desc : d ≡ opened.desc = ap (λ (it : OpenPath). it.desc) whole in
        (slot_is ∙ ap (λ (it : SysPath). Some it) same_path, ap (λ (it : SysPath). desc_of io.paths it.0) (sym same_path) ∙ desc_is ∙ ap (λ (it : Desc). Some it) same_desc)

    by_slot : (slot : Option SysPath) → slot_of io.paths p n ≡ slot → option_and_then (λ (s : SysPath). with_desc_of s
        (desc_of io.paths s.0)) slot ≡ Some opened → (slot_of io.paths p n ≡ Some opened.path) ×
        (desc_of io.paths opened.path.0 ≡ Some opened.desc)
    by_slot None slot_is e = absurd (none-some opened e)
    by_slot (Some s) slot_is e = by_desc s (desc_of io.paths s.0) slot_is refl e

-- ---- the call of an attempt

-- where no call may be kept none is
pub kept-none : (pending : Option PendingCall) (Q P : PendingCall → Type 0) → IfSome pending Q → ((call : PendingCall) → Q call → ⊥) → IfSome pending P
kept-none None Q P fact never = tt
kept-none (Some call) Q P fact never = absurd (never call fact)

-- ---- a read on an open path

number-of : (kind : ReadKind) (regs : Regs) → path_number (read_call kind) regs ≡ regs.a
number-of Bytes regs = refl
number-of WholeLine regs = refl

pub kept-count : (kind : ReadKind) (regs : Regs) (count : ℕ) → KeepsCount (read_call kind) regs count → count ≡ regs.y
kept-count Bytes regs count is = is
kept-count WholeLine regs count is = is

kind-of : (kind : ReadKind) → read_kind_of (read_call kind) ≡ Some kind
kind-of Bytes = refl
kind-of WholeLine = refl

code-of : (kind : ReadKind) → read_kind (read_code kind) ≡ Some kind
code-of Bytes = refl
code-of WholeLine = refl

way-of : (kind : ReadKind) → direction_of (read_code kind) ≡ Some Way.Reading
way-of Bytes = refl
way-of WholeLine = refl

-- a process may attempt this call, whose path has this target: it may wait in it, and it is the pending call, if there
-- is one
pub record MayMove (io : Io) (p : ℕ) (target : Target) (call : PendingCall) : Type 0 where
  pub may : MayWait io.paths p call
  pub on : target_at io.paths call.path.0 ≡ Some target
  pub same : IfSome (pending_at io p) (λ pending. pending ≡ call)

-- what is known of the call of a read
pub record IsReadCall (kind : ReadKind) (regs : Regs) (io : Io) (p : ℕ) (target : Target) (call : PendingCall) : Type 0 where
  pub move : MayMove io p target call
  pub kind_is : read_kind call.code ≡ Some kind
  pub count : call.count ≡ regs.y

pub read-call : (kind : ReadKind) (regs : Regs) (io : Io) (p : ℕ) (opened : OpenPath) (call : PendingCall) → IsIo io
    → IsAgain (read_call kind) regs io p → open_path io p regs.a ≡ Some opened → call ≡ unwrap_or (pending_at io p)
    (first_call (read_code kind) opened regs.y) → regs.y ≢ 0 → IsReadCall kind regs io p opened.desc.target call
read-call kind regs io p opened call is again open_is call_is some = by (pending_at io p) refl again call_is
  where
    parts : (slot_of io.paths p regs.a ≡ Some opened.path) × (desc_of io.paths opened.path.0 ≡ Some opened.desc)
    parts = opened-parts io p regs.a opened open_is

    on : target_at io.paths opened.path.0 ≡ Some opened.desc.target
    on = ap (λ (o : Option Desc). option_map (λ (desc : Desc). desc.target) o) parts.1

    first : PendingCall
    first = first_call (read_code kind) opened regs.y

    begun : pending_at io p ≡ None → IsReadCall kind regs io p opened.desc.target first
    begun none = record {
      move = record {
        may = record {
          moves = inl (ap (λ (o : Option Direction). is_some o) (way-of kind));
          left = omega arith;
          held = slot-held io.paths p regs.a opened.path parts.0;
          reads = λ n at. way-of kind;
        };
        on = on;
        same = subst (λ (o : Option PendingCall). IfSome o (λ pending. pending ≡ first)) (sym none) tt;
      };
      kind_is = code-of kind;
      count = refl;
    }

    further : (pending : PendingCall) → pending_at io p ≡ Some pending → IsPending (read_call kind) regs io p pending → IsReadCall kind regs io p opened.desc.target pending
    further pending at fact =
        let slot : slot_of io.paths p regs.a ≡ Some pending.path = subst (λ (n : ℕ). slot_of io.paths p n ≡ Some pending.path) (number-of kind regs) fact.path in
        let same_path : pending.path ≡ opened.path = some-same pending.path opened.path (sym slot ∙ parts.0) in
        record {
          move = record {
            may = is.waits.calls p pending at;
            on = ap (λ (s : SysPath). target_at io.paths s.0) same_path ∙ on;
            same = subst (λ (o : Option PendingCall). IfSome o (λ it. it ≡ pending)) (sym at) refl;
          };
          kind_is = ap (λ (o : Option IoCall). option_and_then read_kind_of o) fact.code ∙ kind-of kind;
          count = kept-count kind regs pending.count fact.count;
        }

    by : (pending : Option PendingCall) → pending_at io p ≡ pending → IfSome pending (IsPending (read_call kind) regs io p) → call ≡ unwrap_or pending first
        → IsReadCall kind regs io p opened.desc.target call
    by None none fact same = subst (λ (k : PendingCall). IsReadCall kind regs io p opened.desc.target k) (sym same) (begun none)
    by (Some pending) at fact same = subst (λ (k : PendingCall). IsReadCall kind regs io p opened.desc.target k) (sym same) (further pending at fact)

-- ---- a read that its process may attempt

module _ (kind : ReadKind) (by : Requester) (s : ProcState) (io : Io) (terms : ℕ) (calls : InCall by s) (may : MayAttemptIo (read_call kind) s io by.p.0 terms) where
  stays-if : (kind : ReadKind) (cells : Cells) (regs : Regs) → PendingReadIsAllowed (read_call kind) cells regs io by.p.0 → StaysIfPending cells regs io by.p.0
  stays-if Bytes cells regs stays = stays
  stays-if WholeLine cells regs stays = stays

  -- if it is pending it is not refused
  pub stays-read : StaysIfPending (cells_of s.memory by.p.0) by.regs io by.p.0
  stays-read = subst (λ (r : Regs). StaysIfPending (cells_of s.memory by.p.0) r io by.p.0) (sym calls.regs) (stays-if kind (cells_of s.memory by.p.0) (record_at s.table by.p.0).regs may.stays)

  pub again-read : IsAgain (read_call kind) by.regs io by.p.0
  again-read = subst (λ (r : Regs). IsAgain (read_call kind) r io by.p.0) (sym calls.regs) may.again

  -- its call
  pub called-read : (opened : OpenPath) (code : ℕ) (call : PendingCall) → IsIo io
      → Some opened ≡ open_path io by.p.0 by.regs.a → code ≡ read_code kind
      → call ≡ unwrap_or (pending_at io by.p.0) (first_call code opened by.regs.y) → by.regs.y ≢ 0
      → IsReadCall kind by.regs io by.p.0 opened.desc.target call
  called-read opened code call is opened_is code_is call_is some =
      let now : call ≡ unwrap_or (pending_at io by.p.0) (first_call (read_code kind) opened by.regs.y) = subst
      (λ (code : ℕ). call ≡ unwrap_or (pending_at io by.p.0) (first_call code opened by.regs.y)) code_is call_is in
      read-call kind by.regs io by.p.0 opened call is again-read (sym opened_is) now some
