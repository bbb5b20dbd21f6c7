-- The result of an attempt of a call on paths for the kernel's processes and its state of input and output.
use Rattle.std.specs.Prelude.{ℕ, List}
use Rattle.os9_base.specs.declared.call.CallEnd.{CallEnd}
use Rattle.os9_outer.specs.TerminalState.{TerminalState}
use Rattle.proc_model.specs.CallResult.{CallResult}
use Rattle.proc_model.specs.Processes.{Processes}
use Rattle.io_model.specs.Attempts.{IoAttempts}
use Rattle.io_model.specs.Io.{Io}
use Rattle.io_model.specs.declared.io_call.IoCall.{IoCall}
use Rattle.proc_state.specs.Tie.{ReturnsCallEnd}
use Rattle.proc_state.specs.declared.state.ProcState.{ProcState}

-- an attempt of a call by a process on a machine with `drives` drives: its end, and the processes, the state and the
-- terminals after it; the process does not have its result yet
pub record IoAttempted (call : IoCall) (m : Processes) (io : Io) (drives p : ℕ) (end : CallEnd) (processes : ProcState)
    (new : Io) (before after : List TerminalState) : Type 0 where
  pub result : CallResult
  pub attempt : IoAttempts call m io drives p result new before after
  pub comes : ReturnsCallEnd m p result end processes
