-- Attempts that reach no device: which calls make none, and what such an attempt is.
use Rattle.std.proofs.Common.{◌≡◌, ℕ, Bool, true, false, Option, Some, None, List, refl, sym, subst, is_none, min, ◌==◌, if◌then◌else◌}
use Rattle.os9_base.specs.declared.call.CallEnd.{CallEnd}
use Rattle.os9_base.specs.declared.registers.Regs.{Regs}
use Rattle.proc_model.specs.MemoryChanges.{stored}
use Rattle.os9_outer.specs.TerminalState.{TerminalState}
use Rattle.proc_model.specs.Processes.{Processes, regs_at, cells_at, with_memory, with_regs_of}
use Rattle.io_model.specs.Attempts.{HasIoEffect, step_of, caller_of, result_of}
use Rattle.os9_base.specs.declared.errors.TheConstants.{E_BPNUM, E_PTHFUL, E_UNKSVC, E_BPADDR, E_NOTRDY}
use Rattle.proc_model.specs.UserBytes.{user_bytes}
use Rattle.io_model.specs.Path.{slot_of, free_number, paths_after_dup}
use Rattle.io_model.specs.declared.path.SysPath.{SysPath}
use Rattle.io_model.specs.declared.path.Target.{Target}
use Rattle.io_model.specs.Close.{i_close, after_close}
use Rattle.io_model.specs.Dup.{i_dup}
use Rattle.io_model.specs.Io.{Io, OpenPath, open_path, with_paths, with_call}
use Rattle.io_model.specs.Status.{i_getstt, i_setstt, gets_status, gets_options, gets_ready, gets_end, options, ready_count}
use Rattle.io_model.specs.declared.status.TheConstants.{SS_OPT, SS_READY, SS_EOF, OPTION_BYTES}
use Rattle.io_model.specs.Step.{Caller, IoStep, refused, comes, reads, writes, needs, refuses, done, stores, answers, effect_of}
use Rattle.io_model.specs.declared.io_call.IoCall.{IoCall}
use Rattle.io_state.specs.Attempt.{IoAttempted}
use Rattle.device_paths.specs.Quiet.{EndsIoAttempt}
use Rattle.proc_state.specs.Tie.{RepresentsProcesses}
use Rattle.proc_state.specs.declared.state.ProcState.{ProcState}
use Rattle.std.specs.Prelude.{⊤}

-- an attempt reaches no device
abbrev pub IsQuiet : IoStep → Type 0
IsQuiet (refused number) = ⊤
IsQuiet (comes effect) = ⊤
IsQuiet (reads read) = ⊥
IsQuiet (writes write) = ⊥

-- what such an attempt does
does-quiet : (step : IoStep) (caller : Caller) (io : Io) (terms : List TerminalState) → IsQuiet step → HasIoEffect step caller io (effect_of step io) terms terms
does-quiet (refused number) caller io terms quiet = (refl, refl)
does-quiet (comes effect) caller io terms quiet = (refl, refl)
does-quiet (reads read) caller io terms quiet = absurd quiet
does-quiet (writes write) caller io terms quiet = absurd quiet

-- such an attempt of a call, by how it ends
pub attempts : (call : IoCall) (m : Processes) (io new : Io) (drives p : ℕ) (end : CallEnd) (processes : ProcState)
    (terms : List TerminalState) → IsQuiet (step_of call m p io drives terms)
    → EndsIoAttempt (step_of call m p io drives terms) m io p end processes new → IoAttempted call m io drives p end processes new
    terms terms
attempts call m io new drives p end processes terms quiet ends = record {
  result = result_of m p (effect_of (step_of call m p io drives terms) io);
  attempt = record {
    effect = effect_of (step_of call m p io drives terms) io;
    does = does-quiet (step_of call m p io drives terms) (caller_of m p) io terms quiet;
    result_is = refl;
    state = ends.1;
  };
  comes = ends.0;
}

pub dup-quiet : (caller : Caller) (io : Io) → IsQuiet (i_dup caller io)
dup-quiet caller io = by (slot_of io.paths caller.process.0 caller.regs.a) (free_number io.paths caller.process.0)
  where
    by : (path : Option SysPath) (number : Option ℕ)
        → IsQuiet (needs path E_BPNUM (λ path. needs number E_PTHFUL
        (λ number. done (record caller.regs { a = number }) (with_paths io (paths_after_dup io.paths caller.process.0
        caller.regs.a)))))
    by None number = tt
    by (Some path) None = tt
    by (Some path) (Some number) = tt

pub close-quiet : (caller : Caller) (io : Io) → IsQuiet (i_close caller io)
close-quiet caller io = by (slot_of io.paths caller.process.0 caller.regs.a)
  where
    by : (path : Option SysPath) → IsQuiet (needs path E_BPNUM (λ path. done caller.regs (after_close io caller.process.0 caller.regs.a)))
    by None = tt
    by (Some path) = tt

pub setstt-quiet : (caller : Caller) (io : Io) → IsQuiet (i_setstt caller io)
setstt-quiet caller io = by (open_path io caller.process.0 caller.regs.a)
  where
    by : (path : Option OpenPath) → IsQuiet (needs path E_BPNUM (λ opened. refused E_UNKSVC))
    by None = tt
    by (Some path) = tt

refuses-quiet : (test : Bool) (number : ℕ) (next : IoStep) → IsQuiet next → IsQuiet (refuses test number next)
refuses-quiet true number next quiet = tt
refuses-quiet false number next quiet = quiet

if-quiet : (test : Bool) (one other : IoStep) → IsQuiet one → IsQuiet other → IsQuiet (if test then one else other)
if-quiet true one other first second = first
if-quiet false one other first second = second

options-quiet : (caller : Caller) (io : Io) (target : Target) → IsQuiet (gets_options caller io target)
options-quiet caller io target =
    refuses-quiet (is_none (user_bytes caller.cells caller.regs.x OPTION_BYTES)) E_BPADDR (comes (stores caller.regs.x (options target) (answers caller.regs) io)) tt

ready-quiet : (caller : Caller) (io : Io) (target : Target) → IsQuiet (gets_ready caller io target)
ready-quiet caller io target =
    refuses-quiet (ready_count io target == 0) E_NOTRDY (done (record caller.regs { b = min 255 (ready_count io target) }) io) tt

status-quiet : (caller : Caller) (io : Io) (target : Target) (code : ℕ) → IsQuiet (gets_status caller io target code)
status-quiet caller io target code =
    if-quiet (code == SS_OPT) (gets_options caller io target) (if code == SS_READY then gets_ready caller io target
    else (if code == SS_EOF then gets_end caller io target else refused E_UNKSVC))
    (options-quiet caller io target) (if-quiet (code == SS_READY) (gets_ready caller io target)
    (if code == SS_EOF then gets_end caller io target else refused E_UNKSVC) (ready-quiet caller io target)
    (if-quiet (code == SS_EOF) (gets_end caller io target) (refused E_UNKSVC) tt tt))

pub getstt-quiet : (caller : Caller) (io : Io) → IsQuiet (i_getstt caller io)
getstt-quiet caller io = by (open_path io caller.process.0 caller.regs.a)
  where
    by : (path : Option OpenPath) → IsQuiet (needs path E_BPNUM (λ opened. gets_status caller io opened.desc.target caller.regs.b))
    by None = tt
    by (Some opened) = status-quiet caller io opened.desc.target caller.regs.b

-- a number that names a path was closed
pub close-ends : (m : Processes) (io new : Io) (p : ℕ) (end : CallEnd) (processes : ProcState) (regs : Regs)
    → regs ≡ regs_at m p → is_none (slot_of io.paths p regs.a) ≡ false → end ≡ CallEnd.Done → RepresentsProcesses processes
    (with_regs_of m p regs) → new ≡ with_call (after_close io p regs.a) p None → EndsIoAttempt (i_close (caller_of m p) io) m
    io p end processes new
close-ends m io new p end processes regs same named is tied state =
    by (slot_of io.paths p (regs_at m p).a) (subst (λ (r : Regs). is_none (slot_of io.paths p r.a) ≡ false) same
    named) (subst (λ (r : Regs). RepresentsProcesses processes (with_regs_of m p r)) same tied)
    (subst (λ (r : Regs). new ≡ with_call (after_close io p r.a) p None) same state)
  where
    by : (path : Option SysPath) → is_none path ≡ false → RepresentsProcesses processes (with_regs_of m p (regs_at m p))
        → new ≡ with_call (after_close io p (regs_at m p).a) p None
        → EndsIoAttempt (needs path E_BPNUM (λ path. done (regs_at m p) (after_close io p (regs_at m p).a))) m io p end
        processes new
    by None named tied state = absurd (let e : true ≡ false = named in cc)
    by (Some path) named tied state = ((is, tied), state)

-- the bytes for the options of a path are not there
pub options-refused : (m : Processes) (io new : Io) (p : ℕ) (target : Target) (end : CallEnd) (processes : ProcState)
    → user_bytes (cells_at m p) (regs_at m p).x OPTION_BYTES ≡ None → end ≡ CallEnd.Error E_BPADDR
    → RepresentsProcesses processes m → new ≡ with_call io p None → EndsIoAttempt (gets_options (caller_of m p) io target) m io p end
    processes new
options-refused m io new p target end processes none is tied state =
    subst (λ (bytes : Option (List ℕ)). EndsIoAttempt (refuses (is_none bytes) E_BPADDR
    (comes (stores (regs_at m p).x (options target) (answers (regs_at m p)) io))) m io p end processes new)
    (sym none) ((is, tied), state)

-- the options of a path were stored
pub options-stored : (m : Processes) (io new : Io) (p : ℕ) (target : Target) (end : CallEnd) (processes : ProcState)
    (bytes : List ℕ) (regs : Regs) → regs ≡ regs_at m p → user_bytes (cells_at m p) regs.x OPTION_BYTES ≡ Some bytes
    → end ≡ CallEnd.Done → RepresentsProcesses processes
    (with_regs_of (with_memory m (stored m.memory p regs.x (options target))) p regs) → new ≡ with_call io p None
    → EndsIoAttempt (gets_options (caller_of m p) io target) m io p end processes new
options-stored m io new p target end processes bytes regs same there is tied state =
    subst (λ (bytes : Option (List ℕ)). EndsIoAttempt (refuses (is_none bytes) E_BPADDR
    (comes (stores (regs_at m p).x (options target) (answers (regs_at m p)) io))) m io p end processes new)
    (sym (subst (λ (r : Regs). user_bytes (cells_at m p) r.x OPTION_BYTES ≡ Some bytes) same there)) (
      (
        is,
        subst (λ (r : Regs). RepresentsProcesses processes
            (with_regs_of (with_memory m (stored m.memory p r.x (options target))) p r)) same tied,
      ),
      state,
    )
