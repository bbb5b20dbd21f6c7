-- The state of input and output that the calls on paths read and change (Level Two manual, "I/O system").
use Rattle.std.specs.Prelude.{ℕ, Option, None, option_map, option_and_then, List, replicate, slice_index_or, slice_set}
use Rattle.io_model.specs.Pending.{pending_of, with_pending}
use Rattle.io_model.specs.Path.{PathTable, no_paths, slot_of, desc_of, paths_after_begin, paths_after_dup}
use Rattle.io_model.specs.Pipe.{held_bytes, with_pipe}
use Rattle.io_model.specs.Terminal.{Terminal, new_terminal}
use Rattle.io_model.specs.declared.pending.PendingCall.{PendingCall}
use Rattle.io_model.specs.declared.path.Desc.{Desc}
use Rattle.io_model.specs.declared.path.SysPath.{SysPath}
use Rattle.io_model.specs.declared.path.Target.{Target}
use Rattle.io_model.specs.declared.path.Target.TheVariants.{Term}

pub record Io : Type 0 where
  pub paths : PathTable
  pub terminals : List Terminal  -- TERM, T1, T2, T3
  pub pipes : List (Option (List ℕ))  -- by number, from 1 to 16: the bytes that each holds
  pub calls : List (Option PendingCall)  -- by process, from 0 to 32: its pending call on a terminal or a pipe

-- the descriptor of a new path: its position is 0, and its requests do not wait
abbrev pub new_desc : Target → ℕ → Desc
new_desc target mode = record { target = target; mode = mode; at = 0; ticks = 0 }

-- the paths of the first process, which is process 2: its numbers 0, 1 and 2 are images of one path on TERM
abbrev pub first_paths : PathTable
first_paths = paths_after_dup (paths_after_dup (paths_after_begin no_paths 2 (new_desc (Term 0) 3)) 2 0) 2 0

-- the state at the start, with the first process
abbrev pub first_io : Io
first_io = record {
  paths = first_paths;
  terminals = replicate 4 new_terminal;
  pipes = replicate 17 None;
  calls = replicate 33 None;
}

-- a terminal
abbrev pub terminal_at : Io → ℕ → Terminal
terminal_at io n = slice_index_or io.terminals n new_terminal

-- the bytes that a pipe holds
abbrev pub pipe_bytes : Io → ℕ → List ℕ
pipe_bytes io n = held_bytes io.pipes n

-- the pending call of a process on a terminal or a pipe, if it has one
abbrev pub pending_at : Io → ℕ → Option PendingCall
pending_at io p = pending_of io.calls p

-- the state with other paths, another terminal, other bytes of a pipe, other pipes or another pending call
abbrev pub with_paths : Io → PathTable → Io
with_paths io paths = record io { paths = paths }

abbrev pub with_terminal : Io → ℕ → Terminal → Io
with_terminal io n terminal = record io { terminals = slice_set io.terminals n terminal }

abbrev pub with_pipes : Io → List (Option (List ℕ)) → Io
with_pipes io pipes = record io { pipes = pipes }

abbrev pub with_pipe_bytes : Io → ℕ → List ℕ → Io
with_pipe_bytes io n bytes = with_pipes io (with_pipe io.pipes n bytes)

abbrev pub with_call : Io → ℕ → Option PendingCall → Io
with_call io p pending = record io { calls = with_pending io.calls p pending }

-- a path that a number of a process names
pub record OpenPath : Type 0 where
  pub path : SysPath
  pub desc : Desc

-- the path that a number of a process names, if it names one
abbrev pub open_path : Io → ℕ → ℕ → Option OpenPath
open_path io p n =
    option_and_then (λ s. option_map (λ desc. record { path = s; desc = desc }) (desc_of io.paths s.0))
    (slot_of io.paths p n)

-- the target of a system path, if the path exists
abbrev pub target_of : Io → SysPath → Option Target
target_of io s = option_map (λ desc. desc.target) (desc_of io.paths s.0)
