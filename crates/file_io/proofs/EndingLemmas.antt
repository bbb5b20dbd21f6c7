-- How attempts end on the file of a path.
use Rattle.std.proofs.Common.{◌≡◌, ℕ, ◌+◌, false, Option, Some, None, IfSome, IsSome, is_some, OnOk, is_err, Result, Ok, Err, List, length, ◌∙◌, ap, sym, subst}
use Rattle.std.proofs.lemmas.Bool.{false≢true}
use Rattle.os9_base.specs.declared.call.CallEnd.{CallEnd}
use Rattle.os9_base.specs.declared.registers.Regs.{Regs}
use Rattle.proc_model.specs.Processes.{Processes}
use Rattle.io_model.specs.Path.{desc_of, with_desc}
use Rattle.io_model.specs.declared.path.Desc.{Desc}
use Rattle.io_model.specs.Io.{Io, with_call, with_paths}
use Rattle.proc_state.specs.declared.state.ProcState.{ProcState}
use Rattle.file_state.specs.declared.state.OpenFile.{OpenFile}
use Rattle.file_io.specs.Ending.{IsCallDone, with_bytes}
use Rattle.file_io.specs.Opened.{IsPathOf, moved_to}

module _ (io between : Io) (p : ℕ) (opened : OpenFile) (same : between ≡ with_call io p None) (path : IsPathOf io opened) where
  -- the path is there still
  pub still-there : IsSome (desc_of between.paths opened.path.0)
  still-there = ap (λ (it : Io). is_some (desc_of it.paths opened.path.0)) same ∙ ap (λ (o : Option Desc). is_some o) path.desc

  -- and its position is another one
  pub moved-on : (new : Io) (at : ℕ) → IfSome (desc_of between.paths opened.path.0) (λ desc. new ≡ with_paths between
      (with_desc between.paths opened.path.0 (Some (record desc { at = at }))))
      → new ≡ with_call (moved_to io opened at) p None
  moved-on new at fact =
      let here : IfSome (desc_of io.paths opened.path.0) (λ desc. new ≡ with_paths (with_call io p None) (with_desc io.paths opened.path.0 (Some (record desc { at = at })))) =
      subst (λ (it : Io). IfSome (desc_of it.paths opened.path.0) (λ desc. new ≡ with_paths it (with_desc it.paths opened.path.0 (Some (record desc { at = at }))))) same fact in
      subst (λ (o : Option Desc). IfSome o (λ desc. new ≡ with_paths (with_call io p None) (with_desc io.paths opened.path.0 (Some (record desc { at = at }))))) path.desc here

-- a process is given these bytes, which are so many, and the position of its path is behind them
pub gives-of : (bytes given : List ℕ) (n start : ℕ) (regs : Regs) (opened : OpenFile) (m : Processes) (p : ℕ) (io : Io) (end : CallEnd)
    (processes : ProcState) (new : Io) → bytes ≡ given → length given ≡ n
    → IsCallDone (with_bytes m p regs.x bytes) p (record regs { y = n }) (moved_to io opened (start + n)) end processes new
    → IsCallDone (with_bytes m p regs.x given) p (record regs { y = length given })
    (moved_to io opened (start + length given)) end processes new
gives-of bytes given n start regs opened m p io end processes new same long it =
    subst (λ (b : List ℕ). IsCallDone (with_bytes m p regs.x b) p (record regs { y = length given }) (moved_to io opened (start + length given)) end processes new) same
    (subst (λ (k : ℕ). IsCallDone (with_bytes m p regs.x bytes) p (record regs { y = k }) (moved_to io opened (start + k)) end processes new) (sym long) it)

-- what holds of a result that is no error
pub on-ok : {T E : Type 0} {P : Type 0} (r : Result T E) → is_err r ≡ false → OnOk r P → P
on-ok {T} {E} {P} (Ok a) fine it = it
on-ok {T} {E} {P} (Err e) fine it = absurd (false≢true (sym fine))
