-- Which processes are Ready, by the kernel's data.
use Rattle.std.specs.Prelude.{ℕ, Bool}
use Rattle.proc_model.specs.Memory.{first_memory}
use Rattle.proc_model.specs.Ready.{is_ready}
use Rattle.proc_state.specs.Tie.{processes_of}
use Rattle.proc_state.specs.declared.state.ProcState.{ProcState}

-- a process is Ready in a tick, given the processes with calls on input and output that may go on in it, and if nothing
-- but the tick changes until then; their memory does not matter
abbrev pub ready_at : (ℕ → Bool) → ℕ → ProcState → ℕ → Bool
ready_at io tick state p = is_ready io (record (processes_of state (first_memory 0)) { tick = tick }) p
