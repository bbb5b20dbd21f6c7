-- The end of a call, as its process has it.
use Rattle.std.specs.Prelude.{◌≡◌, ℕ}
use Rattle.os9_base.specs.declared.call.CallEnd.{CallEnd}
use Rattle.proc_model.specs.Attempts.{after_attempt, attempt_end}
use Rattle.proc_model.specs.CallResult.{CallResult}
use Rattle.proc_model.specs.Processes.{Processes}
use Rattle.proc_state.specs.Tie.{ReturnsCallEnd, RepresentsProcesses}
use Rattle.proc_state.specs.declared.state.ProcState.{ProcState}

-- whatever result a call with this end had, its process now has it
abbrev pub ReportsCallEnd : CallEnd → ℕ → ProcState → ProcState → Type 0
ReportsCallEnd end p old new = (m : Processes) (call : CallResult) → ReturnsCallEnd m p call end old
    → RepresentsProcesses new (after_attempt m p call) × (end ≡ attempt_end call)
