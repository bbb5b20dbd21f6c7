-- What the chosen process does next, and what a turn of it leaves.
use Rattle.std.specs.Prelude.{◌≡◌, ◌≢◌, ℕ, ◌+◌, ◌-◌, ◌*◌, ◌<◌, ◌≤◌, Some, slice_index_or}
use Rattle.os9_base.specs.declared.registers.Pid.{Pid}
use Rattle.proc_model.specs.Records.{IsLiving, IsProcessNumber, record_at, is_waiting}
use Rattle.proc_model.specs.Processes.{no_own}
use Rattle.proc_model.specs.Ready.{Act as MachineAct, attempts, delivers, executes, next_act}
use Rattle.proc_state.specs.declared.state.ProcState.{ProcState}
use Rattle.machine_model.specs.declared.ends.EventEnd.{EventEnd}
use Rattle.machine_model.specs.State.{State}
use Rattle.os9_kernel.specs.declared.act.Act.{Act}
use Rattle.os9_kernel.specs.declared.act.Act.TheVariants.{Attempt, Delivery, Instruction}
use Rattle.os9_kernel.specs.declared.kernel.Kernel.{Kernel}
use Rattle.os9_kernel.specs.declared.turn.Turn.{Turn}
use Rattle.os9_kernel.specs.Calls.{BreaksOffEvent}
use Rattle.os9_kernel.specs.Changes.{KeepsUnasked}
use Rattle.os9_kernel.specs.Outside.{Outside}
use Rattle.os9_kernel.specs.Slice.{IsTurn}
use Rattle.os9_kernel.specs.Tie.{Represents, IsGoing, ticks, pending}

-- the act in the machine
abbrev pub act_in_machine : Act → MachineAct
act_in_machine (Attempt code) = attempts code
act_in_machine (Delivery signal) = delivers signal
act_in_machine Instruction = executes

-- what a process does next
abbrev pub next_of : ProcState → ℕ → MachineAct
next_of processes p =
    next_act (slice_index_or processes.own.items p no_own).call (is_waiting (record_at processes.table p).life)
    (record_at processes.table p).signal

-- this process was chosen, lives, and does this next
pub record DoesNext (kernel : Kernel) (p : Pid) (act : Act) : Type 0 where
  pub chosen : kernel.chosen ≡ Some p
  pub process : IsProcessNumber p.0
  pub lives : IsLiving kernel.machine.processes.table p.0
  pub next : next_of kernel.machine.processes p.0 ≡ act_in_machine act

-- a turn of the chosen process, with `left` instructions left
pub record HasTurn (left : ℕ) (old new : Kernel) (before after : Outside) (turn : Turn) : Type 0 where
  -- it is one of the machine
  pub step : turn.end ≢ EventEnd.NoMemory → (s : State) → Represents old before s
      → (t : State) × IsTurn s turn.count turn.end t × Represents new after t
  pub memory : turn.end ≡ EventEnd.NoMemory → BreaksOffEvent old before after
  -- the chosen process still lives, if it goes on; then instructions were executed, or less is pending
  pub going : turn.end ≡ EventEnd.Ran → IsGoing new
  pub few : turn.count ≤ left
  pub progress : turn.end ≡ EventEnd.Ran → 4 * (left - turn.count) + pending new < 4 * left + pending old
  pub count : turn.end ≢ EventEnd.NoMemory → ticks new ≡ ticks old
  pub images : KeepsUnasked old before after
