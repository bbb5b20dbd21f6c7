-- How the kernel's processes represent those of the machine.
use Rattle.std.specs.Prelude.{◌≡◌, ℕ, Bool, true, false, Option, Some, None, Result, Ok, Err, List, take}
use Rattle.guest_memory.specs.Tie.{RepresentsMemory, IsMemorySame as IsSameMemory}
use Rattle.os9_base.specs.declared.call.CallEnd.{CallEnd}
use Rattle.os9_base.specs.declared.call.CallEnd.TheVariants.{Done, Error, Wait, Ended}
use Rattle.proc_model.specs.Memory.{MemoryState}
use Rattle.proc_model.specs.CallResult.{CallResult, done, refused, waits, ends}
use Rattle.proc_model.specs.End.{ended}
use Rattle.proc_model.specs.Processes.{Processes}
use Rattle.proc_state.specs.declared.state.ProcState.{ProcState}

-- the state of the machine's processes that these processes represent, with this memory
abbrev pub processes_of : ProcState → MemoryState → Processes
processes_of state memory = record {
  memory = memory;
  records = state.table;
  own = state.own.items;
  order = state.sched.order;
  tick = state.tick;
}

-- the processes represent those of the machine: their memory represents its memory, and all else is equal
pub record RepresentsProcesses (state : ProcState) (m : Processes) : Type 0 where
  pub memory : RepresentsMemory state.memory m.memory
  pub is : m ≡ processes_of state m.memory

-- the result of a call of a process: it is done, refused or waits, and its process does not have the result yet; or the
-- process has ended
abbrev pub ReturnsCallEnd : Processes → ℕ → CallResult → CallEnd → ProcState → Type 0
ReturnsCallEnd m p (done t) end new = (end ≡ Done) × RepresentsProcesses new t
ReturnsCallEnd m p (refused number) end new = (end ≡ Error number) × RepresentsProcesses new m
ReturnsCallEnd m p (waits t) end new = (end ≡ Wait) × RepresentsProcesses new t
ReturnsCallEnd m p (ends status) end new = (end ≡ Ended) × RepresentsProcesses new (ended m p status)

-- the processes are the same except for the buffer
pub record AreProcessesSame (before after : ProcState) : Type 0 where
  pub memory : IsSameMemory before.memory after.memory
  pub table : after.table ≡ before.table
  pub sched : after.sched ≡ before.sched
  pub own : after.own ≡ before.own
  pub tick : after.tick ≡ before.tick
  pub represents : (m : Processes) → RepresentsProcesses before m → RepresentsProcesses after m

-- the first bytes of a buffer, this many, if they were read
abbrev pub bytes_read : Bool → ℕ → List ℕ → Option (List ℕ)
bytes_read true count buffer = Some (take count buffer)
bytes_read false count buffer = None

-- the result of a call that is done or refused
abbrev pub ReturnsDoneOrRefused : Processes → CallResult → Result (Unit {0}) ℕ → ProcState → Type 0
ReturnsDoneOrRefused m (done t) result new = (result ≡ Ok tt) × RepresentsProcesses new t
ReturnsDoneOrRefused m (refused number) result new = (result ≡ Err number) × RepresentsProcesses new m
ReturnsDoneOrRefused m (waits t) result new = ⊥
ReturnsDoneOrRefused m (ends status) result new = ⊥

-- the end of such a call
abbrev pub end_of : Result (Unit {0}) ℕ → CallEnd
end_of (Ok _) = Done
end_of (Err number) = Error number
