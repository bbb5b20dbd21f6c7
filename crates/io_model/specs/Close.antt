-- I$Close: closes a path number (System Programmer's Manual, I$Close).
-- Takes the number of the path in A, and frees it. A path ends with its last number, and a pipe with its path.
-- Errors: E$BPNum.
use Rattle.std.specs.Prelude.{ℕ, Option, Some, None}
use Rattle.os9_base.specs.declared.errors.TheConstants.{E_BPNUM}
use Rattle.io_model.specs.Path.{slot_of, closed_desc, paths_after_close}
use Rattle.io_model.specs.Pipe.{without_pipe}
use Rattle.io_model.specs.declared.path.Desc.{Desc}
use Rattle.io_model.specs.declared.path.Target.{Target}
use Rattle.io_model.specs.declared.path.Target.TheVariants.{File, Folder, Term, Pipe}
use Rattle.io_model.specs.Io.{Io, with_paths, with_pipes}
use Rattle.io_model.specs.Step.{Caller, IoStep, needs, done}

-- the state without the target of a path: a pipe ends
abbrev pub without_target : Io → Target → Io
without_target io (File drive sector) = io
without_target io (Folder drive sector) = io
without_target io (Term terminal) = io
without_target io (Pipe pipe) = with_pipes io (without_pipe io.pipes pipe)

-- the state without the ended path, if one ended
abbrev pub without_path : Io → Option Desc → Io
without_path io None = io
without_path io (Some desc) = without_target io desc.target

-- the state after a process closed a number of a path
abbrev pub after_close : Io → ℕ → ℕ → Io
after_close io p n =
    without_path (with_paths io (paths_after_close io.paths p n)) (closed_desc io.paths p n)

abbrev pub i_close : Caller → Io → IoStep
i_close caller io =
    needs (slot_of io.paths caller.process.0 caller.regs.a) E_BPNUM
    (λ path. done caller.regs (after_close io caller.process.0 caller.regs.a))
