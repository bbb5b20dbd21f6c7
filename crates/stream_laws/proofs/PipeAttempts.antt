-- What an attempt, an end and a signal make of a pipe.
use Rattle.std.proofs.Common.{◌≡◌, ℕ, zero, suc, Option, Some, None, List, [], refl, sym, ap, ◌∙◌, subst, inl}
use Rattle.os9_outer.specs.TerminalState.{TerminalState}
use Rattle.proc_model.specs.MemoryChanges.{stored}
use Rattle.proc_model.specs.Attempts.{after_attempt}
use Rattle.proc_model.specs.Processes.{Processes}
use Rattle.io_model.specs.Path.{slot_of}
use Rattle.io_model.specs.Pipe.{IsPipe, pipe_of}
use Rattle.io_model.specs.declared.path.SysPath.{SysPath}
use Rattle.io_model.specs.declared.path.Target.{Target}
use Rattle.io_model.specs.declared.path.Target.TheVariants.{File, Folder, Term, Pipe}
use Rattle.io_model.specs.declared.path.TheConstants.{PROCESS_PATHS}
use Rattle.io_model.specs.Attempts.{HasIoEffect, result_by}
use Rattle.io_model.specs.Io.{Io, pipe_bytes}
use Rattle.io_model.specs.Processes.{closed_below, closed_if_open, io_ended}
use Rattle.io_model.specs.Step.{Caller, IoEffect, IoEnd, IoStep, answers, fails, keeps, refused, comes, reads, writes}
use Rattle.io_model.specs.Waiting.{io_interrupted, wait_target, without_unfinished}
use Rattle.io_model.specs.declared.io_call.IoCall.{IoCall}
use Rattle.stream_laws.proofs.PipeSteps.{IsAbsent, IsStoring, Leaves, Moved, PipeLeft, StaysEmpty, StepMoves, closed-left, left-then}

-- ---- what a process closes

closed-if : (n : ℕ) (io : Io) (p k : ℕ) (path : Option SysPath) → PipeLeft n io (closed_if_open io p k path)
closed-if n io p k None = inl refl
closed-if n io p k (Some path) = closed-left n io p k

all-closed : (n : ℕ) (io : Io) (p k : ℕ) → PipeLeft n io (closed_below io p k)
all-closed n io p zero = inl refl
all-closed n io p (suc k) =
    left-then n io (closed_below io p k) (closed_below io p (suc k)) (all-closed n io p k)
    (closed-if n (closed_below io p k) p k (slot_of (closed_below io p k).paths p k))

pub ended-left : (n : ℕ) (io : Io) (p : ℕ) → PipeLeft n io (io_ended io p)
ended-left n io p = all-closed n io p PROCESS_PATHS

unfinished-left : (n : ℕ) (io : Io) (p : ℕ) (target : Option Target) → PipeLeft n io (without_unfinished io p target)
unfinished-left n io p None = inl refl
unfinished-left n io p (Some (File drive sector)) = inl refl
unfinished-left n io p (Some (Folder drive sector)) = inl refl
unfinished-left n io p (Some (Term terminal)) = inl refl
unfinished-left n io p (Some (Pipe pipe)) = inl refl

pub interrupted-left : (n : ℕ) (io : Io) (p : ℕ) → PipeLeft n io (io_interrupted io p)
interrupted-left n io p = unfinished-left n io p (wait_target io p)

-- ---- an attempt of a call on paths

pub does-moves : (call : IoCall) (caller : Caller) (io : Io) (n : ℕ) (step : IoStep) (effect : IoEffect)
    (before after : List TerminalState) → StepMoves call caller io n step → HasIoEffect step caller io effect before after
    → IsPipe io.pipes n → IsPipe effect.io.pipes n → Moved call caller io n effect
does-moves call caller io n (refused number) effect before after moves (is, same) lives still =
    inl (subst (λ (effect : IoEffect). Leaves call caller io n effect) (sym is) (record { held = refl; ends = λ way coded on. (tt, refl) }))
does-moves call caller io n (comes it) effect before after moves (is, same) lives still =
    subst (λ (effect : IoEffect). Moved call caller io n effect) (sym is) (moves.moved lives (subst (λ (effect : IoEffect). IsPipe effect.io.pipes n) is still))
does-moves call caller io n (reads read) effect before after moves does lives still =
    inl (record { held = ap (λ (effect : IoEffect). pipe_bytes effect.io n) does.effect_is; ends = λ way coded on. absurd (moves on) })
does-moves call caller io n (writes write) effect before after moves does lives still =
    inl (record { held = ap (λ (effect : IoEffect). pipe_bytes effect.io n) does.effect_is; ends = λ way coded on. absurd (moves on) })

-- and a pipe that was not there is empty, if it is there
pub does-fresh : (call : IoCall) (caller : Caller) (io : Io) (n : ℕ) (step : IoStep) (effect : IoEffect)
    (before after : List TerminalState) → StepMoves call caller io n step → HasIoEffect step caller io effect before after
    → IsAbsent call caller io n → StaysEmpty n effect.io
does-fresh call caller io n (refused number) effect before after moves (is, same) absent =
    inl (ap (λ (effect : IoEffect). pipe_of effect.io.pipes n) is ∙ absent.none)
does-fresh call caller io n (comes it) effect before after moves (is, same) absent =
    subst (λ (effect : IoEffect). StaysEmpty n effect.io) (sym is) (moves.fresh absent)
does-fresh call caller io n (reads read) effect before after moves does absent =
    inl (ap (λ (effect : IoEffect). pipe_of effect.io.pipes n) does.effect_is ∙ absent.none)
does-fresh call caller io n (writes write) effect before after moves does absent =
    inl (ap (λ (effect : IoEffect). pipe_of effect.io.pipes n) does.effect_is ∙ absent.none)

-- bytes are stored where the process sees them
pub stores-them : (m : Processes) (p : ℕ) (effect : IoEffect) (end : IoEnd) → IsStoring end → (after_attempt m p (result_by end m p effect)).memory ≡ stored m.memory p effect.at effect.bytes
stores-them m p effect (answers regs) storing = refl
stores-them m p effect (fails number) storing = absurd storing
stores-them m p effect (keeps kept) storing = refl

-- none is stored
pub stores-none : (m : Processes) (p : ℕ) (effect : IoEffect) (end : IoEnd) → effect.bytes ≡ [] → (after_attempt m p (result_by end m p effect)).memory ≡ m.memory
stores-none m p effect (answers regs) none = ap (stored m.memory p effect.at) none
stores-none m p effect (fails number) none = refl
stores-none m p effect (keeps kept) none = ap (stored m.memory p effect.at) none
