-- The relation of the running kernel to the abstract machine.
use Rattle.std.specs.Prelude.{◌≡◌, ◌<◌, ◌≤◌, ℕ, ◌+◌, ◌*◌, is_some, Bool, true, false, Option, Some, None, option_map, slice_index_or}
use Rattle.os9_base.specs.declared.registers.Pid.{Pid}
use Rattle.proc_model.specs.Records.{IsLiving, record_at}
use Rattle.proc_model.specs.Processes.{no_own}
use Rattle.proc_model.specs.IoReady.{has_io}
use Rattle.os9_sched.specs.declared.member.Cause.{Cause}
use Rattle.file_rules.specs.Locking.{wait_cause}
use Rattle.proc_state.specs.declared.state.ProcState.{ProcState}
use Rattle.proc_state.specs.Tie.{RepresentsProcesses}
use Rattle.file_state.specs.Tie.{RepresentsFiles}
use Rattle.machine_model.specs.State.{State}
use Rattle.lock_laws.specs.Living.{IsRunOpen}
use Rattle.proc_state.specs.Active.{AreActiveAt}
use Rattle.os9_kernel.specs.Looks.{may_go_in}
use Rattle.os9_kernel.specs.Marks.{Concerns}
use Rattle.os9_kernel.specs.Outside.{Outside}
use Rattle.os9_kernel.specs.declared.kernel.Kernel.{Kernel}

-- In each tick before the one that the kernel keeps, exactly the Ready processes are active, if nothing but the tick
-- changes until then.
abbrev pub IsLooked : Kernel → Type 0
IsLooked kernel = (tick : ℕ) → kernel.machine.processes.tick ≤ tick → tick < kernel.looked_until
    → AreActiveAt (may_go_in kernel.machine.files tick) tick kernel.machine.processes

-- In each tick before another one that the kernel keeps, it is known of each waiting call on a path whether it may go
-- on, if nothing but the tick changes until then. Of those whom the marks concern nothing is known.
abbrev pub IsKnown : Kernel → Type 0
IsKnown kernel =
    (tick p : ℕ) (cause : Cause) → kernel.machine.processes.tick ≤ tick → tick < kernel.known.until → p < 33
    → wait_cause kernel.machine.files.io kernel.machine.files.records.locks p ≡ Some cause
    → ¬ Concerns kernel.known.marks p cause
    → has_io kernel.known.ready p ≡ may_go_in kernel.machine.files tick p

-- A kernel and its devices represent a state: its processes and its files are those of the machine, everything else is
-- equal, it is a state of a run, and what the kernel knows of those who are Ready is so.
pub record Represents (kernel : Kernel) (devices : Outside) (s : State) : Type 0 where
  pub processes : RepresentsProcesses kernel.machine.processes s.processes
  pub files : RepresentsFiles kernel.machine.files devices.drives s.files
  pub is : s
      ≡ record {
        processes = s.processes;
        files = s.files;
        clock = kernel.clock;
        chosen = option_map (λ (p : Pid). p.0) kernel.chosen;
        terms = devices.terms;
      }
  pub run : IsRunOpen s
  pub looked : IsLooked kernel
  pub known : IsKnown kernel

-- a kernel with these devices represents a state
abbrev pub RepresentsSomeState : Kernel → Outside → Type 0
RepresentsSomeState kernel devices = (s : State) × Represents kernel devices s

-- a kernel with some devices represents a state
abbrev pub HasState : Kernel → Type 0
HasState kernel = (devices : Outside) × RepresentsSomeState kernel devices

-- the chosen process lives
abbrev pub IsGoing : Kernel → Type 0
IsGoing kernel = (p : Pid) × (kernel.chosen ≡ Some p) × IsLiving kernel.machine.processes.table p.0

-- the instructions that the chosen process has executed since it was chosen
abbrev pub executed : Kernel → ℕ
executed kernel = kernel.executed

-- the signal that a process has received and that is not delivered yet
abbrev pub signal_at : Kernel → ℕ → Option ℕ
signal_at kernel p = (record_at kernel.machine.processes.table p).signal

-- the number of slices begun
abbrev pub ticks : Kernel → ℕ
ticks kernel = kernel.machine.processes.tick

abbrev pub one_if : Bool → ℕ
one_if true = 1
one_if false = 0

-- the code of the unfinished call of a process
abbrev pub open_call : ProcState → ℕ → Option ℕ
open_call processes p = (slice_index_or processes.own.items p no_own).call

-- what a process does before an instruction: twice for an unfinished call, once for a pending signal
abbrev pub pending_of : ProcState → ℕ → ℕ
pending_of processes p =
    2 * one_if (is_some (open_call processes p)) + one_if (is_some (record_at processes.table p).signal)

-- what the chosen process does before an instruction
abbrev pub pending : Kernel → ℕ
pending kernel = of_chosen kernel.chosen
  where
    of_chosen : Option Pid → ℕ
    of_chosen None = 0
    of_chosen (Some p) = pending_of kernel.machine.processes p.0
