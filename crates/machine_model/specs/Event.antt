-- One event of the chosen process, the atomic step of the machine: an instruction, an attempt of its call, or the
-- delivery of a signal.
use Rattle.std.specs.Prelude.{◌≡◌, ℕ, Option, Some, None, Result, Ok, Err}
use Rattle.cpu_model.specs.Step.{Outcome, Done, Calls, Aborts}
use Rattle.proc_model.specs.Records.{IsLiving}
use Rattle.proc_model.specs.Attempts.{after_attempt}
use Rattle.proc_model.specs.CallResult.{CallResult}
use Rattle.proc_model.specs.Delivery.{delivered, after_delivery}
use Rattle.proc_model.specs.Processes.{Processes}
use Rattle.proc_model.specs.Ready.{Act, attempts, delivers, executes, act_of}
use Rattle.io_model.specs.Waiting.{interrupted_count}
use Rattle.file_rules.specs.Files.{Files}
use Rattle.file_rules.specs.Locking.{files_interrupted}
use Rattle.file_rules.specs.Processes.{files_ended}
use Rattle.machine_model.specs.ProcessEvent.{after_instruction, broken_off, call_event_end, cost_of, delivery_end, instruction_end, next_instruction}
use Rattle.machine_model.specs.declared.ends.EventEnd.{EventEnd}
use Rattle.machine_model.specs.Services.{CallAttempted}
use Rattle.machine_model.specs.State.{State, Rest, with_rest}

-- files after an instruction of a process: what it had is closed if it ends
abbrev pub files_after_instruction : Files → ℕ → Outcome → Files
files_after_instruction files p (Done effect) = files
files_after_instruction files p (Calls code regs) = files
files_after_instruction files p (Aborts status) = files_ended files p

-- the processes before the delivery of a signal
abbrev pub before_delivery : State → ℕ → Processes
before_delivery s p = broken_off s.processes p (interrupted_count s.files.io p)

-- files after a delivery: the pending call, if any, is broken off; or the process has ended
abbrev pub files_after_delivery : Files → ℕ → Result Processes ℕ → Files
files_after_delivery files p (Ok t) = files_interrupted files p
files_after_delivery files p (Err status) = files_ended files p

-- what a process does
abbrev pub Acts : Act → State → ℕ → EventEnd → State → Type 0
Acts executes s p end t =
    (end ≡ instruction_end (next_instruction s.processes p))
    × (t
    ≡ record s {
      processes = after_instruction s.processes p (next_instruction s.processes p);
      files = files_after_instruction s.files p (next_instruction s.processes p);
    })
Acts (attempts code) s p end t =
    (result : CallResult) × (rest : Rest) × CallAttempted code s p result rest × (end ≡ call_event_end result)
    × (t ≡ with_rest s (after_attempt s.processes p result) rest)
Acts (delivers signal) s p end t =
    (end ≡ delivery_end (delivered (before_delivery s p) p signal))
    × (t
    ≡ record s {
      processes = after_delivery (before_delivery s p) p (delivered (before_delivery s p) p signal);
      files = files_after_delivery s.files p (delivered (before_delivery s p) p signal);
    })

-- one event of the chosen process, which lives
abbrev pub Event : State → EventEnd → State → Type 0
Event s end t =
    (p : ℕ) × (s.chosen ≡ Some p) × IsLiving s.processes.records p × Acts (act_of s.processes p) s p end t

-- instructions that the next event of the chosen process executes
abbrev pub cost : State → ℕ
cost s = of_chosen s.chosen
  where
    of_chosen : Option ℕ → ℕ
    of_chosen None = 0
    of_chosen (Some p) = cost_of (act_of s.processes p)
