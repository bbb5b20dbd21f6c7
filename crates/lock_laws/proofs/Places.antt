-- There are as many places for system paths after each change of paths.
use Rattle.std.proofs.Common.{◌≡◌, ℕ, zero, suc, Bool, true, false, Option, Some, None, List, length, sym, ◌∙◌, subst, inl, inr, ◌⊎◌}
use Rattle.std.specs.Prelude.{if◌then◌else◌}
use Rattle.std.specs.Option.{option_map_or}
use Rattle.std.proofs.lemmas.List.{length-set}
use Rattle.os9_outer.specs.TerminalState.{TerminalState}
use Rattle.proc_model.specs.CallResult.{CallResult}
use Rattle.proc_model.specs.Processes.{Processes}
use Rattle.io_model.specs.Path.{PathTable, closed_desc, free_number, free_path, is_held, path_at, paths_after_begin, paths_after_close, paths_after_dup, slot_of, with_desc, with_path, with_slot}
use Rattle.io_model.specs.declared.path.Desc.{Desc}
use Rattle.io_model.specs.declared.path.SysPath.{SysPath}
use Rattle.io_model.specs.declared.path.Target.{Target}
use Rattle.io_model.specs.declared.path.Target.TheVariants.{File, Folder, Term, Pipe}
use Rattle.io_model.specs.declared.path.TheConstants.{PROCESS_PATHS}
use Rattle.io_model.specs.Attempts.{HasIoEffect, IoAttempts, caller_of, step_of}
use Rattle.io_model.specs.Close.{after_close, without_path, without_target}
use Rattle.io_model.specs.Io.{Io, new_desc, with_paths}
use Rattle.io_model.specs.Processes.{closed_below, closed_if_open, io_ended}
use Rattle.io_model.specs.Step.{Caller, IoEffect, IoStep, refused, comes, reads, writes}
use Rattle.io_model.specs.Waiting.{io_interrupted, wait_target, without_unfinished}
use Rattle.io_model.specs.declared.io_call.IoCall.{IoCall}
use Rattle.file_rules.specs.Files.{Asker, Files}
use Rattle.file_rules.specs.declared.path_call.PathCall.{PathCall}
use Rattle.call_laws.proofs.StepWalk.{StepGives, Walk, step-gives}
use Rattle.file_laws.specs.Attempt.{Attempt, OnDevice, TouchesNone, WaitsOnRecord, asker_in}
use Rattle.file_laws.specs.Touch.{PathsMove}
use Rattle.file_laws.proofs.OfAttempts.{comes-of}

module _ (count : ℕ) where
  abbrev HasPlaces : PathTable → Type 0
  HasPlaces paths = length paths.descs ≡ count

  has-begun : (paths : PathTable) (p : ℕ) (desc : Desc) → HasPlaces paths → HasPlaces (paths_after_begin paths p desc)
  has-begun paths p desc has = by_places (free_number paths p) (free_path paths)
    where
      by_places : (number path : Option ℕ) → HasPlaces (option_map_or (λ n. option_map_or (with_path paths p desc n) path paths) number paths)
      by_places None path = has
      by_places (Some n) None = has
      by_places (Some n) (Some s) = length-set paths.descs s (Some desc) ∙ has

  has-dup : (paths : PathTable) (p n : ℕ) → HasPlaces paths → HasPlaces (paths_after_dup paths p n)
  has-dup paths p n has = by_place (free_number paths p)
    where
      by_place : (free : Option ℕ) → HasPlaces (option_map_or (λ free. with_slot paths p free (slot_of paths p n)) free paths)
      by_place None = has
      by_place (Some free) = has

  has-close : (paths : PathTable) (p n : ℕ) → HasPlaces paths → HasPlaces (paths_after_close paths p n)
  has-close paths p n has = by_holder (is_held (with_slot paths p n None) (path_at paths p n))
    where
      by_holder : (held : Bool) → HasPlaces (if held then with_slot paths p n None else with_desc (with_slot paths p n None) (path_at paths p n) None)
      by_holder true = has
      by_holder false = length-set paths.descs (path_at paths p n) None ∙ has

  -- ---- what a process closes

  abbrev Has : Io → Type 0
  Has io = HasPlaces io.paths

  has-target : (io : Io) (target : Target) → Has io → Has (without_target io target)
  has-target io (File drive sector) has = has
  has-target io (Folder drive sector) has = has
  has-target io (Term terminal) has = has
  has-target io (Pipe pipe) has = has

  has-gone : (io : Io) (gone : Option Desc) → Has io → Has (without_path io gone)
  has-gone io None has = has
  has-gone io (Some desc) has = has-target io desc.target has

  has-closed : (io : Io) (p n : ℕ) → Has io → Has (after_close io p n)
  has-closed io p n has =
      has-gone (with_paths io (paths_after_close io.paths p n)) (closed_desc io.paths p n) (has-close io.paths p n has)

  has-closed_if : (io : Io) (p n : ℕ) (path : Option SysPath) → Has io → Has (closed_if_open io p n path)
  has-closed_if io p n None has = has
  has-closed_if io p n (Some path) has = has-closed io p n has

  has-closed_below : (io : Io) (p n : ℕ) → Has io → Has (closed_below io p n)
  has-closed_below io p zero has = has
  has-closed_below io p (suc n) has =
      has-closed_if (closed_below io p n) p n (slot_of (closed_below io p n).paths p n) (has-closed_below io p n has)

  pub places-ended : (io : Io) (p : ℕ) → Has io → Has (io_ended io p)
  places-ended io p has = has-closed_below io p PROCESS_PATHS has

  has-unfinished : (io : Io) (p : ℕ) (target : Option Target) → Has io → Has (without_unfinished io p target)
  has-unfinished io p None has = has
  has-unfinished io p (Some (File drive sector)) has = has
  has-unfinished io p (Some (Folder drive sector)) has = has
  has-unfinished io p (Some (Term terminal)) has = has
  has-unfinished io p (Some (Pipe pipe)) has = has

  pub places-interrupted : (io : Io) (p : ℕ) → Has io → Has (io_interrupted io p)
  places-interrupted io p has = has-unfinished io p (wait_target io p) has

  -- ---- an attempt

  has-walk : (caller : Caller) (io : Io) (terms : ℕ) → Has io → Walk Has caller io terms
  has-walk caller io terms has = record {
    same = has;
    pipes = λ pipes. has;
    dup = has-dup io.paths caller.process.0 caller.regs.a has;
    close = has-closed io caller.process.0 caller.regs.a has;
    on_terminal = λ terminal within. has-begun io.paths caller.process.0 (new_desc (Term terminal) caller.regs.a) has;
    on_pipe = λ pipe free. has-begun io.paths caller.process.0 (new_desc (Pipe pipe) caller.regs.a) has;
  }

  has-does : (call : IoCall) (caller : Caller) (io : Io) (step : IoStep) (effect : IoEffect)
      (before after : List TerminalState) → Has io → StepGives call Has caller io step → HasIoEffect step caller io effect
      before after → Has effect.io
  has-does call caller io (refused number) effect before after has gives (is, same) =
      subst (λ (effect : IoEffect). Has effect.io) (sym is) has
  has-does call caller io (comes it) effect before after has gives (is, same) =
      subst (λ (effect : IoEffect). Has effect.io) (sym is) gives
  has-does call caller io (reads read) effect before after has gives does =
      subst (λ (effect : IoEffect). Has effect.io) (sym does.effect_is) has
  has-does call caller io (writes write) effect before after has gives does =
      subst (λ (effect : IoEffect). Has effect.io) (sym does.effect_is) has

  has-device : (call : IoCall) (m : Processes) (io : Io) (p drives : ℕ) (result : CallResult) (new : Io)
      (before after : List TerminalState) → IoAttempts call m io drives p result new before after → Has io → Has new
  has-device call m io p drives result new before after attempt has =
      subst Has (sym attempt.state)
      (has-does call (caller_of m p) io (step_of call m p io drives before) attempt.effect before after has
      (step-gives call Has (caller_of m p) io drives (length before) (has-walk (caller_of m p) io (length before) has)) attempt.does)

  has-moved : (call : PathCall) (asker : Asker) (files : Files) (paths : PathTable) → PathsMove call asker files paths → HasPlaces files.io.paths → HasPlaces paths
  has-moved call asker files paths (inl same) has = subst HasPlaces (sym same) has
  has-moved call asker files paths (inr (inl moves)) has =
      subst HasPlaces (sym moves.is) (length-set files.io.paths.descs moves.found.opened.path.0 (Some (record moves.found.opened.desc { at = moves.at })) ∙ has)
  has-moved call asker files paths (inr (inr (inl sets))) has =
      subst HasPlaces (sym sets.is) (length-set files.io.paths.descs sets.found.opened.path.0 (Some (record sets.found.opened.desc { ticks = asker.caller.regs.x })) ∙ has)
  has-moved call asker files paths (inr (inr (inr begins))) has =
      subst HasPlaces (sym begins.is) (has-begun files.io.paths asker.caller.process.0 (new_desc begins.target asker.caller.regs.a) has)

  pub places-attempt : (it : Attempt) → HasPlaces it.files.io.paths → HasPlaces it.new.io.paths
  places-attempt it has = by_touch (comes-of it)
    where
      by_touch : OnDevice it ⊎ TouchesNone it ⊎ WaitsOnRecord it → HasPlaces it.new.io.paths
      by_touch (inl on) =
          has-device on.0.device it.processes it.files.io it.process (length it.files.drives) it.result it.new.io it.before it.after on.0.attempted has
      by_touch (inr (inl none)) = has-moved it.call (asker_in it) it.files it.new.io.paths none.paths has
      by_touch (inr (inr waiting)) = subst Has (sym waiting.io) has
