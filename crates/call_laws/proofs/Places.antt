-- As many calls may wait after an attempt, an end and a delivery.
use Rattle.std.proofs.Common.{◌≡◌, ℕ, zero, suc, Option, Some, None, List, length, refl, sym, ◌∙◌, subst}
use Rattle.std.proofs.lemmas.List.{length-set}
use Rattle.os9_outer.specs.TerminalState.{TerminalState}
use Rattle.proc_model.specs.CallResult.{CallResult}
use Rattle.proc_model.specs.Processes.{Processes}
use Rattle.io_model.specs.Path.{closed_desc, paths_after_close, slot_of}
use Rattle.io_model.specs.declared.pending.PendingCall.{PendingCall}
use Rattle.io_model.specs.declared.path.Desc.{Desc}
use Rattle.io_model.specs.declared.path.SysPath.{SysPath}
use Rattle.io_model.specs.declared.path.Target.{Target}
use Rattle.io_model.specs.declared.path.Target.TheVariants.{File, Folder, Term, Pipe}
use Rattle.io_model.specs.declared.path.TheConstants.{PROCESS_PATHS}
use Rattle.io_model.specs.Attempts.{HasIoEffect, IoAttempts, caller_of, pending_in, step_of}
use Rattle.io_model.specs.Close.{after_close, without_path, without_target}
use Rattle.io_model.specs.Io.{Io, with_call, with_paths}
use Rattle.io_model.specs.Processes.{closed_below, closed_if_open, io_ended, without_user}
use Rattle.io_model.specs.Step.{Caller, IoEffect, IoStep, refused, comes, reads, writes}
use Rattle.io_model.specs.Waiting.{io_interrupted, wait_target, without_unfinished}
use Rattle.io_model.specs.declared.io_call.IoCall.{IoCall}
use Rattle.call_laws.proofs.StepWalk.{StepGives, Walk, step-gives}

-- as many calls may wait
module _ (count : ℕ) where
  abbrev Has : Io → Type 0
  Has io = length io.calls ≡ count

  has-call : (io : Io) (p : ℕ) (pending : Option PendingCall) → Has io → Has (with_call io p pending)
  has-call io p pending has = length-set io.calls p pending ∙ has

  -- ---- what a process closes

  has-target : (io : Io) (target : Target) → Has io → Has (without_target io target)
  has-target io (File drive sector) has = has
  has-target io (Folder drive sector) has = has
  has-target io (Term terminal) has = has
  has-target io (Pipe pipe) has = has

  has-gone : (io : Io) (gone : Option Desc) → Has io → Has (without_path io gone)
  has-gone io None has = has
  has-gone io (Some desc) has = has-target io desc.target has

  has-closed : (io : Io) (p n : ℕ) → Has io → Has (after_close io p n)
  has-closed io p n has =
      has-gone (with_paths io (paths_after_close io.paths p n)) (closed_desc io.paths p n) has

  has-closed_if : (io : Io) (p n : ℕ) (path : Option SysPath) → Has io → Has (closed_if_open io p n path)
  has-closed_if io p n None has = has
  has-closed_if io p n (Some path) has = has-closed io p n has

  has-closed_below : (io : Io) (p n : ℕ) → Has io → Has (closed_below io p n)
  has-closed_below io p zero has = has
  has-closed_below io p (suc n) has =
      has-closed_if (closed_below io p n) p n (slot_of (closed_below io p n).paths p n) (has-closed_below io p n has)

  has-ended : (io : Io) (p : ℕ) → Has io → Has (io_ended io p)
  has-ended io p has =
      has-call (without_user (closed_below io p PROCESS_PATHS) p) p None (has-closed_below io p PROCESS_PATHS has)

  has-unfinished : (io : Io) (p : ℕ) (target : Option Target) → Has io → Has (without_unfinished io p target)
  has-unfinished io p None has = has
  has-unfinished io p (Some (File drive sector)) has = has
  has-unfinished io p (Some (Folder drive sector)) has = has
  has-unfinished io p (Some (Term terminal)) has = has
  has-unfinished io p (Some (Pipe pipe)) has = has

  has-interrupted : (io : Io) (p : ℕ) → Has io → Has (io_interrupted io p)
  has-interrupted io p has =
      has-call (without_unfinished io p (wait_target io p)) p None (has-unfinished io p (wait_target io p) has)

  -- ---- an attempt

  has-walk : (caller : Caller) (io : Io) (terms : ℕ) → Has io → Walk Has caller io terms
  has-walk caller io terms has = record {
    same = has;
    pipes = λ pipes. has;
    dup = has;
    close = has-closed io caller.process.0 caller.regs.a has;
    on_terminal = λ terminal within. has;
    on_pipe = λ pipe free. has;
  }

  has-does : (call : IoCall) (caller : Caller) (io : Io) (step : IoStep) (effect : IoEffect)
      (before after : List TerminalState) → Has io → StepGives call Has caller io step → HasIoEffect step caller io effect
      before after → Has effect.io
  has-does call caller io (refused number) effect before after has gives (is, same) =
      subst (λ (effect : IoEffect). Has effect.io) (sym is) has
  has-does call caller io (comes it) effect before after has gives (is, same) =
      subst (λ (effect : IoEffect). Has effect.io) (sym is) gives
  has-does call caller io (reads read) effect before after has gives does =
      subst (λ (effect : IoEffect). Has effect.io) (sym does.effect_is) has
  has-does call caller io (writes write) effect before after has gives does =
      subst (λ (effect : IoEffect). Has effect.io) (sym does.effect_is) has

-- ---- what a process does

module _ (io : Io) (p : ℕ) where
  -- as many calls may wait then
  abbrev As_many : Io → Type 0
  As_many new = length new.calls ≡ length io.calls

  pub many-ended : As_many (io_ended io p)
  many-ended = has-ended (length io.calls) io p refl

  pub many-interrupted : As_many (io_interrupted io p)
  many-interrupted = has-interrupted (length io.calls) io p refl

  pub many-attempt : (call : IoCall) (m : Processes) (drives : ℕ) (result : CallResult) (new : Io) (before after : List TerminalState) → IoAttempts call m io drives p result new before after
      → As_many new
  many-attempt call m drives result new before after attempt =
      subst As_many (sym attempt.state)
      (has-call (length io.calls) attempt.effect.io p (pending_in attempt.effect.end)
      (has-does (length io.calls) call (caller_of m p) io (step_of call m p io drives before) attempt.effect before after refl
      (step-gives call (Has (length io.calls)) (caller_of m p) io drives (length before) (has-walk (length io.calls) (caller_of m p) io (length before) refl)) attempt.does))
