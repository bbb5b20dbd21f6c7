-- The greatest number of calls of each drive in an event (this project's own bounds; OS-9 Technical Reference, Random
-- Block File Manager).
use Rattle.std.specs.Prelude.{ℕ, length}
use Rattle.std.specs.Option.{option_map_or}
use Rattle.os9_base.specs.declared.registers.TimePacket.{TimePacket}
use Rattle.proc_model.specs.Processes.{Processes}
use Rattle.proc_model.specs.Ready.{Act, attempts, delivers, executes, act_of}
use Rattle.proc_model.specs.declared.proc_call.ProcCall.TheVariants as Call
use Rattle.call_dispatch.specs.Bounds.{attempt_calls}
use Rattle.file_rules.specs.Attempts.{asker_of, file_step}
use Rattle.file_rules.specs.Files.{Asker, Files}
use Rattle.file_rules.specs.declared.path_call.PathCall.{PathCall}
use Rattle.file_state.specs.Counted.{CalledAtMost, calls_of}
use Rattle.load_calls.specs.Attempts.{file_calls, start_calls}
use Rattle.time_rules.specs.Clock.{IsNow}
use Rattle.machine_model.specs.Services.{Service, loads, on_processes, on_time, on_paths, no_call, service_of}
use Rattle.machine_model.specs.State.{State}
use Rattle.os9_kernel.specs.declared.kernel.Kernel.{Kernel}
use Rattle.os9_kernel.specs.Outside.{Outside}
use Rattle.os9_kernel.specs.Tie.{Represents}

-- in an attempt of a call on paths, files and directories; none if it reaches no drive
abbrev pub reaching_calls : PathCall → Asker → Files → ℕ → ℕ
reaching_calls call asker files terms =
    calls_of (file_step call asker files terms) (attempt_calls call asker files terms)

-- in an attempt by a process, at a time, on a machine with this number of terminals
abbrev pub service_calls : Service → Processes → ℕ → TimePacket → Files → ℕ → ℕ
service_calls loads m p now files terms = file_calls (asker_of m p now) files terms (λ step. step)
service_calls (on_processes Call.Fork) m p now files terms = start_calls m p now files terms
service_calls (on_processes Call.Chain) m p now files terms = start_calls m p now files terms
service_calls (on_processes call) m p now files terms = 0
service_calls (on_time call) m p now files terms = 0
service_calls (on_paths call) m p now files terms = reaching_calls call (asker_of m p now) files terms
service_calls no_call m p now files terms = 0

-- in what a process does, at a time
abbrev pub act_calls : Act → State → ℕ → TimePacket → ℕ
act_calls executes s p now = 0
act_calls (attempts code) s p now = service_calls (service_of code) s.processes p now s.files (length s.terms)
act_calls (delivers signal) s p now = 0

-- in the next event of the chosen process, at a time
abbrev pub event_calls : State → TimePacket → ℕ
event_calls s now = option_map_or (λ p. act_calls (act_of s.processes p) s p now) s.chosen 0

-- from each state that a kernel represents, at its time
abbrev pub CallsWithin : Kernel → Outside → Outside → Type 0
CallsWithin old before after =
    (s : State) (now : TimePacket) → Represents old before s → IsNow s.clock s.processes.tick now
    → CalledAtMost (event_calls s now) before.drives after.drives
