-- Calls that use an open path: on a number that names no file they are those on terminals and pipes, and none of them
-- that sets a status waits there.
use Rattle.std.proofs.Common.{◌≡◌, ◌⊎◌, ℕ, Bool, true, false, not, Option, Some, None, IfSome, IsSome, is_some, option_map, option_and_then, List, length, inl, inr, ◌∙◌, ap, refl, sym, subst}
use Rattle.std.proofs.lemmas.Bool.{false≢true}
use Rattle.std.proofs.lemmas.Option.{none-some, same_Some}
use Rattle.os9_base.specs.declared.errors.TheConstants.{E_BPNUM}
use Rattle.os9_base.specs.declared.registers.Regs.{Regs}
use Rattle.os9_base.specs.declared.registers.TimePacket.{TimePacket}
use Rattle.os9_outer.specs.TerminalState.{TerminalState}
use Rattle.proc_model.specs.Processes.{Processes, regs_at}
use Rattle.io_model.specs.Again.{IsAgain, IsPending, path_number}
use Rattle.io_model.specs.Attempts.{caller_of}
use Rattle.io_model.specs.Io.{Io, OpenPath, pending_at, open_path}
use Rattle.io_model.specs.Step.{Caller, IoStep, needs, done as io_done}
use Rattle.io_model.specs.Codes.{direction_of, direction_of_call, io_call_of}
use Rattle.io_model.specs.declared.io_call.IoCall.{IoCall}
use Rattle.io_model.specs.declared.io_call.IoCall.TheVariants as Device
use Rattle.io_model.specs.Path.{desc_of}
use Rattle.io_model.specs.declared.path.Desc.{Desc}
use Rattle.io_model.specs.declared.path.SysPath.{SysPath}
use Rattle.io_model.specs.declared.path.Target.{Target}
use Rattle.io_model.specs.declared.pending.PendingCall.{PendingCall}
use Rattle.io_state.specs.Files.{IsOnDisk}
use Rattle.io_state.specs.Sound.{IsIo, SetsStatus}
use Rattle.file_state.specs.Opened.{NamesNoFile}
use Rattle.file_rules.specs.Attempts.{asker_of, file_step}
use Rattle.file_rules.specs.Files.{Files, OpenFile, open_file}
use Rattle.file_rules.specs.OnFile.{by_kind}
use Rattle.file_rules.specs.Seek.{seeks_nothing}
use Rattle.file_rules.specs.Step.{FileStep, as_io, deed_of}
use Rattle.file_rules.specs.declared.path_call.PathCall.TheVariants as Call
use Rattle.device_paths.proofs.QuietLemmas.{IsQuiet}
use Rattle.call_dispatch.specs.Attempts.{IsSameAsDeviceCall}
use Rattle.call_dispatch.specs.Uses.{call_of, device_of}
use Rattle.call_dispatch.specs.declared.path_use.PathUse.{PathUse}
use Rattle.call_dispatch.specs.declared.path_use.PathUse.TheVariants as Use

-- a call on a number that names no file is the other one
other-wise : (files : Files) (found : Option OpenFile) (otherwise : IoStep) (next : OpenFile → FileStep) → found ≡ None → deed_of (by_kind found otherwise next) files ≡ as_io otherwise
other-wise files found otherwise next none = ap (λ (o : Option OpenFile). deed_of (by_kind o otherwise next) files) none

module _ (m : Processes) (files : Files) (now : TimePacket) (p drives : ℕ) (terms : List TerminalState) where
  pub on-device : (call : PathUse) → open_file files p (path_number (device_of call) (regs_at m p)) ≡ None → IsSameAsDeviceCall (call_of call) (device_of call) m files now p drives terms
  on-device Use.Read none = other-wise files _ _ _ none
  on-device Use.ReadLn none = other-wise files _ _ _ none
  on-device Use.Write none = other-wise files _ _ _ none
  on-device Use.WritLn none = other-wise files _ _ _ none
  on-device Use.GetStt none = other-wise files _ _ _ none
  on-device Use.SetStt none = other-wise files _ _ _ none
  on-device Use.PErr none = other-wise files _ _ _ none

-- I$Seek there
pub seeks-on-device : (m : Processes) (files : Files) (now : TimePacket) (p : ℕ) (terms : List TerminalState)
    → open_file files p (regs_at m p).a ≡ None → deed_of (file_step Call.Seek (asker_of m p now) files (length terms))
    files ≡ as_io (seeks_nothing (caller_of m p) files.io)
seeks-on-device m files now p terms none = other-wise files _ _ _ none

-- I$Close there
pub closes-on-device : (m : Processes) (files : Files) (now : TimePacket) (p drives : ℕ) (terms : List TerminalState)
    → open_file files p (regs_at m p).a ≡ None → IsSameAsDeviceCall Call.Close Device.Close m files now p drives terms
closes-on-device m files now p drives terms none = other-wise files _ _ _ none

-- by the call that it is there
pub on-device-as : (m : Processes) (files : Files) (now : TimePacket) (p drives : ℕ) (terms : List TerminalState)
    (call : PathUse) (device : IoCall) → device ≡ device_of call → open_file files p (path_number (device_of call)
    (regs_at m p)) ≡ None → IsSameAsDeviceCall (call_of call) device m files now p drives terms
on-device-as m files now p drives terms call device is none =
    subst (λ (d : IoCall). IsSameAsDeviceCall (call_of call) d m files now p drives terms) (sym is) (on-device m files now p drives terms call none)

quiet-seek : (caller : Caller) (io : Io) (path : Option OpenPath) → IsQuiet (needs path E_BPNUM (λ opened. io_done caller.regs io))
quiet-seek caller io None = tt
quiet-seek caller io (Some opened) = tt

pub seeks-quiet : (caller : Caller) (io : Io) → IsQuiet (seeks_nothing caller io)
seeks-quiet caller io = quiet-seek caller io (open_path io caller.process.0 caller.regs.a)

-- what a test of the pending call says
pub nothing-kept : (pending : Option PendingCall) (none : Bool) → is_some pending ≡ not none → none ≡ true → pending ≡ None
nothing-kept None none is holds = refl
nothing-kept (Some call) none is holds = absurd (let e : true ≡ false = is ∙ ap not holds in cc)

pub something-kept : (pending : Option PendingCall) (none : Bool) → is_some pending ≡ not none → none ≡ false → pending ≡ None → ⊥
something-kept pending none is fails nothing = let e : false ≡ true = sym (ap is_some nothing) ∙ is ∙ ap not fails in cc

-- a call that sets a status waits on a file alone
pub no-status : (io : Io) (p : ℕ) (regs : Regs) → IsIo io → IsAgain Device.SetStt regs io p → NamesNoFile io p regs.a → pending_at io p ≡ None
no-status io p regs sound again none = by (pending_at io p) refl again
  where
    named : (desc : Option Desc) (path : SysPath) (target : Target) → option_map (λ (desc : Desc). desc.target) desc ≡
        Some target → IfSome (option_map {U = OpenPath} (λ (desc : Desc). record { path = path; desc = desc }) desc)
        (λ opened. IsOnDisk opened.desc.target → ⊥) → IsOnDisk target → ⊥
    named None path target is none on = none-some target is
    named (Some desc) path target is none on = none (subst IsOnDisk (sym (same_Some desc.target target is)) on)

    waits : (pending : PendingCall) → IsPending Device.SetStt regs io p pending → IsSome (direction_of pending.code) ⊎ SetsStatus io.paths pending → ⊥
    waits pending it (inl moves) =
        let still : option_and_then direction_of_call (io_call_of pending.code) ≡ None = ap (option_and_then direction_of_call) it.code in
        false≢true (ap is_some (sym still) ∙ moves)
    waits pending it (inr sets) =
        named (desc_of io.paths pending.path.0) pending.path sets.target sets.on
        (subst (λ (slot : Option SysPath). IfSome (option_and_then (λ (path : SysPath). option_map {U = OpenPath}
        (λ (desc : Desc). record { path = path; desc = desc }) (desc_of io.paths path.0)) slot)
        (λ opened. IsOnDisk opened.desc.target → ⊥)) it.path none) sets.on_disk

    by : (pending : Option PendingCall) → pending_at io p ≡ pending → IfSome pending (IsPending Device.SetStt regs io p) → pending ≡ None
    by None is again = refl
    by (Some pending) is again = absurd (waits pending again (sound.waits.calls p pending is).moves)

pub status-first : (call : PathUse) (io : Io) (p n : ℕ) (regs : Regs) → call ≡ Use.SetStt → IsIo io
    → IsAgain (device_of call) regs io p → n ≡ path_number (device_of call) regs → NamesNoFile io p n → pending_at io p ≡
    None
status-first call io p n regs same sound again number none =
    no-status io p regs sound (subst (λ (call : PathUse). IsAgain (device_of call) regs io p) same again)
    (subst (λ (k : ℕ). NamesNoFile io p k) (number ∙ ap (λ (call : PathUse). path_number (device_of call) regs) same) none)

-- a test for a call that fails
pub not-false : (same : Bool) → not same ≡ false → same ≡ true
not-false true is = refl
not-false false is = sym is

-- the number that a call takes is that of its process on the machine
pub none-named : (files : Files) (p : ℕ) (call : IoCall) (m : Processes) (regs : Regs) (n : ℕ) → n ≡ path_number call regs
    → regs ≡ regs_at m p → open_file files p n ≡ None → open_file files p (path_number call (regs_at m p)) ≡ None
none-named files p call m regs n number same none =
    subst (λ (k : ℕ). open_file files p k ≡ None) (number ∙ ap (path_number call) same) none
