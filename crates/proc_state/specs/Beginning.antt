-- The beginning of a process.
use Rattle.std.specs.Prelude.{ℕ}
use Rattle.os9_base.specs.declared.registers.Pid.{Pid}
use Rattle.proc_model.specs.Records.{after_make}
use Rattle.proc_model.specs.Turns.{with_turn}
use Rattle.proc_model.specs.Processes.{Processes}

-- the state with a new process, whose number is the least free one
abbrev pub with_made : Processes → Pid → Pid → ℕ → ℕ → Processes
with_made s p parent user priority =
    record s { records = after_make s.records parent user priority; order = with_turn s.order p priority }
