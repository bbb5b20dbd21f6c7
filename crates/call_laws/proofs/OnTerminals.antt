-- The terminal of each open path is there: at the start, and after an attempt, an end and a delivery.
use Rattle.std.proofs.Common.{◌≡◌, ◌⊎◌, ℕ, zero, suc, ◌<◌, ◌≤◌, Bool, true, false, Option, Some, None, List, length, get_or, replicate, sym, ap, ◌∙◌, subst, inl, inr, arith}
use Rattle.std.specs.Prelude.{if◌then◌else◌}
use Rattle.std.specs.Option.{option_map_or}
use Rattle.std.proofs.lemmas.Bool.{cases_eq, cases_lt}
use Rattle.std.proofs.lemmas.List.{get_or-set_same, get_or-set_other, get_or_past, get_or-replicate, length-replicate, length-set}
use Rattle.std.proofs.lemmas.Option.{none-some, same_Some}
use Rattle.os9_outer.specs.TerminalState.{TerminalState}
use Rattle.proc_model.specs.CallResult.{CallResult}
use Rattle.proc_model.specs.Processes.{Processes}
use Rattle.io_model.specs.Path.{PathTable, closed_desc, desc_of, free_number, free_path, is_held, path_at, paths_after_begin, paths_after_close, paths_after_dup, slot_of, with_desc, with_path, with_slot}
use Rattle.io_model.specs.declared.path.Desc.{Desc}
use Rattle.io_model.specs.declared.path.SysPath.{SysPath}
use Rattle.io_model.specs.declared.path.Target.{Target}
use Rattle.io_model.specs.declared.path.Target.TheVariants.{File, Folder, Term, Pipe}
use Rattle.io_model.specs.declared.path.TheConstants.{PROCESS_PATHS}
use Rattle.io_model.specs.Attempts.{HasIoEffect, IoAttempts, caller_of, step_of}
use Rattle.io_model.specs.Close.{after_close, without_path, without_target}
use Rattle.io_model.specs.Io.{Io, first_paths, new_desc, with_paths}
use Rattle.io_model.specs.Processes.{closed_below, closed_if_open, io_ended}
use Rattle.io_model.specs.Step.{Caller, IoEffect, IoStep, refused, comes, reads, writes}
use Rattle.io_model.specs.Waiting.{io_interrupted, wait_target, without_unfinished}
use Rattle.io_model.specs.declared.io_call.IoCall.{IoCall}
use Rattle.call_laws.proofs.StepWalk.{StepGives, Walk, step-gives}
use Rattle.call_laws.specs.Terminals.{AreOnTerminals}

module _ (terms : ℕ) where
  abbrev On : PathTable → Type 0
  On paths = AreOnTerminals terms paths

  -- ---- one change of the paths

  on-desc : (paths : PathTable) (s : ℕ) (place : Option Desc) → On paths → ((desc : Desc) (n : ℕ) → place ≡ Some desc → desc.target ≡ Term n → n < terms) → On (with_desc paths s place)
  on-desc paths s place on new path n desc there target =
      elim (cases_eq path s) [
        | inl same ↦ at_it same (cases_lt s (length paths.descs))
        | inr apart ↦ on path n desc (sym (get_or-set_other paths.descs s path place None apart) ∙ there) target
      ]
    where
      at_it : path ≡ s → (s < length paths.descs) ⊎ (length paths.descs ≤ s) → n < terms
      at_it same (inl within) =
          new desc n (sym (ap (desc_of (with_desc paths s place)) same ∙ get_or-set_same paths.descs s place None within) ∙ there) target
      at_it same (inr past) =
          absurd (none-some desc (sym (ap (desc_of (with_desc paths s place)) same ∙ get_or_past (with_desc paths s place).descs s None (rw length-set past)) ∙ there))

  on-begin : (paths : PathTable) (p : ℕ) (desc : Desc) → On paths → ((n : ℕ) → desc.target ≡ Term n → n < terms) → On (paths_after_begin paths p desc)
  on-begin paths p desc on new = by_places (free_number paths p) (free_path paths)
    where
      by_places : (number path : Option ℕ) → On (option_map_or (λ n. option_map_or (with_path paths p desc n) path paths) number paths)
      by_places None path = on
      by_places (Some n) None = on
      by_places (Some n) (Some s) = λ path m d there target. on-desc paths s (Some desc) on (λ d m is target. new m (ap (λ (d : Desc). d.target) (same_Some desc d is) ∙ target)) path m d there target

  on-dup : (paths : PathTable) (p n : ℕ) → On paths → On (paths_after_dup paths p n)
  on-dup paths p n on = by_place (free_number paths p)
    where
      by_place : (free : Option ℕ) → On (option_map_or (λ free. with_slot paths p free (slot_of paths p n)) free paths)
      by_place None = on
      by_place (Some free) = on

  on-close : (paths : PathTable) (p n : ℕ) → On paths → On (paths_after_close paths p n)
  on-close paths p n on = by_holder (is_held (with_slot paths p n None) (path_at paths p n))
    where
      by_holder : (held : Bool) → On (if held then with_slot paths p n None else with_desc (with_slot paths p n None) (path_at paths p n) None)
      by_holder true = on
      by_holder false = on-desc (with_slot paths p n None) (path_at paths p n) None on (λ d m is target. absurd (none-some d is))

  -- ---- what a process closes

  abbrev OnIo : Io → Type 0
  OnIo io = On io.paths

  on-target : (io : Io) (target : Target) → OnIo io → OnIo (without_target io target)
  on-target io (File drive sector) on = on
  on-target io (Folder drive sector) on = on
  on-target io (Term terminal) on = on
  on-target io (Pipe pipe) on = on

  on-gone : (io : Io) (gone : Option Desc) → OnIo io → OnIo (without_path io gone)
  on-gone io None on = on
  on-gone io (Some desc) on = on-target io desc.target on

  on-closed : (io : Io) (p n : ℕ) → OnIo io → OnIo (after_close io p n)
  on-closed io p n on =
      on-gone (with_paths io (paths_after_close io.paths p n)) (closed_desc io.paths p n) (on-close io.paths p n on)

  on-closed_if : (io : Io) (p n : ℕ) (path : Option SysPath) → OnIo io → OnIo (closed_if_open io p n path)
  on-closed_if io p n None on = on
  on-closed_if io p n (Some path) on = on-closed io p n on

  on-closed_below : (io : Io) (p n : ℕ) → OnIo io → OnIo (closed_below io p n)
  on-closed_below io p zero on = on
  on-closed_below io p (suc n) on =
      on-closed_if (closed_below io p n) p n (slot_of (closed_below io p n).paths p n) (on-closed_below io p n on)

  pub on-ended : (io : Io) (p : ℕ) → OnIo io → OnIo (io_ended io p)
  on-ended io p on = on-closed_below io p PROCESS_PATHS on

  on-unfinished : (io : Io) (p : ℕ) (target : Option Target) → OnIo io → OnIo (without_unfinished io p target)
  on-unfinished io p None on = on
  on-unfinished io p (Some (File drive sector)) on = on
  on-unfinished io p (Some (Folder drive sector)) on = on
  on-unfinished io p (Some (Term terminal)) on = on
  on-unfinished io p (Some (Pipe pipe)) on = on

  pub on-interrupted : (io : Io) (p : ℕ) → OnIo io → OnIo (io_interrupted io p)
  on-interrupted io p on = on-unfinished io p (wait_target io p) on

  -- ---- an attempt

  on-walk : (caller : Caller) (io : Io) → OnIo io → Walk OnIo caller io terms
  on-walk caller io on = record {
    same = on;
    pipes = λ pipes. on;
    dup = on-dup io.paths caller.process.0 caller.regs.a on;
    close = on-closed io caller.process.0 caller.regs.a on;
    on_terminal =
        λ terminal within. on-begin io.paths caller.process.0 (new_desc (Term terminal) caller.regs.a) on (λ n is. subst (λ (n : ℕ). n < terms) (same-terminal terminal n is) within);
    on_pipe =
        λ pipe free. on-begin io.paths caller.process.0 (new_desc (Pipe pipe) caller.regs.a) on (λ n is. absurd (not-terminal pipe n is));
  }
    where
      same-terminal : (n m : ℕ) → Term n ≡ Term m → n ≡ m
      same-terminal n m is = cc

      not-terminal : (n m : ℕ) → Pipe n ≡ Term m → ⊥
      not-terminal n m is = cc

  on-does : (call : IoCall) (caller : Caller) (io : Io) (step : IoStep) (effect : IoEffect)
      (before after : List TerminalState) → OnIo io → StepGives call OnIo caller io step → HasIoEffect step caller io effect
      before after → OnIo effect.io
  on-does call caller io (refused number) effect before after on gives (is, same) =
      subst (λ (effect : IoEffect). OnIo effect.io) (sym is) on
  on-does call caller io (comes it) effect before after on gives (is, same) =
      subst (λ (effect : IoEffect). OnIo effect.io) (sym is) gives
  on-does call caller io (reads read) effect before after on gives does =
      subst (λ (effect : IoEffect). OnIo effect.io) (sym does.effect_is) on
  on-does call caller io (writes write) effect before after on gives does =
      subst (λ (effect : IoEffect). OnIo effect.io) (sym does.effect_is) on

-- ---- an attempt of a process

pub on-attempt : (call : IoCall) (m : Processes) (io : Io) (p drives : ℕ) (result : CallResult) (new : Io)
    (before after : List TerminalState) → IoAttempts call m io drives p result new before after
    → AreOnTerminals (length before) io.paths → AreOnTerminals (length before) new.paths
on-attempt call m io p drives result new before after attempt on =
    subst (λ (io : Io). AreOnTerminals (length before) io.paths) (sym attempt.state)
    (on-does (length before) call (caller_of m p) io (step_of call m p io drives before) attempt.effect before after on
    (step-gives call (OnIo (length before)) (caller_of m p) io drives (length before) (on-walk (length before) (caller_of m p) io on)) attempt.does)

-- ---- the start

free : (path : ℕ) → get_or (replicate 65 (let none : Option Desc = None in none)) path None ≡ None
free path =
    elim (cases_lt path 65) [
      | inl within ↦ get_or-replicate 65 path None None within
      | inr past ↦ get_or_past (replicate 65 (let none : Option Desc = None in none)) path None (omega (arith, length-replicate 65 (let none : Option Desc = None in none)))
    ]

-- the paths of the first process are on TERM
pub on-first : (terms : ℕ) → 0 < terms → AreOnTerminals terms first_paths
on-first terms some path n desc there target =
    elim (cases_eq path 1) [
      | inl same ↦
          (let at : Some (new_desc (Term 0) 3) ≡ Some desc = sym (ap (desc_of first_paths) same) ∙ there in
          let on : Term 0 ≡ Term n = ap (λ (d : Desc). d.target) (same_Some (new_desc (Term 0) 3) desc at) ∙ target in
          let first : 0 ≡ n = cc in
          omega (arith, first, some))
      | inr apart ↦ absurd (none-some desc (sym (get_or-set_other (replicate 65 None) 1 path (Some (new_desc (Term 0) 3)) None apart ∙ free path) ∙ there))
    ]
