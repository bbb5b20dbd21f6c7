-- The beginning and the end of processes in input and output (System Programmer's Manual, F$Fork and F$Exit).
use Rattle.std.specs.Prelude.{ℕ, zero, suc, Option, Some, None, map}
use Rattle.io_model.specs.Path.{slot_of, paths_after_inherit}
use Rattle.io_model.specs.Terminal.{forgotten}
use Rattle.io_model.specs.declared.path.SysPath.{SysPath}
use Rattle.io_model.specs.declared.path.TheConstants.{PROCESS_PATHS}
use Rattle.io_model.specs.Close.{after_close}
use Rattle.io_model.specs.Io.{Io, with_call, with_paths}
use Rattle.io_model.specs.Waiting.{pid}

-- a child gets images of its parent's standard paths
abbrev pub io_started : Io → ℕ → ℕ → Io
io_started io parent child = with_paths io (paths_after_inherit io.paths parent child)

-- the state after a process closed one of its numbers, if it names a path
abbrev pub closed_if_open : Io → ℕ → ℕ → Option SysPath → Io
closed_if_open io p n None = io
closed_if_open io p n (Some path) = after_close io p n

-- the state after a process closed its numbers below this one
abbrev pub closed_below : Io → ℕ → ℕ → Io
closed_below io p zero = io
closed_below io p (suc n) = close_next (closed_below io p n)
  where
    close_next : Io → Io
    close_next io = closed_if_open io p n (slot_of io.paths p n)

-- no terminal has a trace of a process
abbrev pub without_user : Io → ℕ → Io
without_user io p = record io { terminals = map (forgotten (pid p)) io.terminals }

-- the state after the end of a process: its paths are closed, its unfinished reads and its pending call are dropped,
-- and no terminal has it as its last user
abbrev pub io_ended : Io → ℕ → Io
io_ended io p = with_call (without_user (closed_below io p PROCESS_PATHS) p) p None
