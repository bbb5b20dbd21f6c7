-- Attempts that reach no device.
use Rattle.std.specs.Prelude.{◌≡◌, ℕ}
use Rattle.os9_base.specs.declared.call.CallEnd.{CallEnd}
use Rattle.proc_model.specs.Processes.{Processes}
use Rattle.io_model.specs.Attempts.{io_after, result_of}
use Rattle.io_model.specs.Io.{Io}
use Rattle.io_model.specs.Step.{IoStep, effect_of}
use Rattle.proc_state.specs.Tie.{ReturnsCallEnd}
use Rattle.proc_state.specs.declared.state.ProcState.{ProcState}

-- an attempt of a process that reaches no device ends in this way, and leaves these processes and this state
abbrev pub EndsIoAttempt : IoStep → Processes → Io → ℕ → CallEnd → ProcState → Io → Type 0
EndsIoAttempt step m io p end processes new =
    ReturnsCallEnd m p (result_of m p (effect_of step io)) end processes × (new ≡ io_after p (effect_of step io))
