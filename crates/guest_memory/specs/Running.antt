-- Instructions of a process, one after another, over the memory of the machine.
use Rattle.std.specs.Prelude.{◌≡◌, ℕ, zero, suc, ◌<◌}
use Rattle.os9_base.specs.declared.registers.Regs.{Regs}
use Rattle.os9_base.specs.Cells.{Cells}
use Rattle.cpu_model.specs.declared.stop.Stop.{Stop}
use Rattle.cpu_model.specs.declared.stop.Stop.TheVariants.{Next, Call, Abort}
use Rattle.cpu_model.specs.Step.{Outcome, Done, Calls, Aborts, step_of}
use Rattle.cpu6809.specs.declared.execution.Ran.{Ran}
use Rattle.proc_model.specs.Memory.{MemoryState, map_at}
use Rattle.proc_model.specs.MemoryChanges.{written}
use Rattle.proc_model.specs.Objects.{object_cells}

-- the byte that a process sees at each address, or nothing if the address is not named
abbrev pub cells_seen : MemoryState → ℕ → Cells
cells_seen m process = object_cells m.objects (map_at m process).places

-- how an instruction of a process ended, with the registers and the memory before and after
abbrev pub LeavesMemory : ℕ → Outcome → Stop → Regs → MemoryState → Regs → MemoryState → Type 0
LeavesMemory process (Done effect) stop r m after t =
    (stop ≡ Next) × (after ≡ effect.regs) × (t ≡ written m process effect.writes)
LeavesMemory process (Calls code past_it) stop r m after t = (stop ≡ Call code) × (after ≡ past_it) × (t ≡ m)
LeavesMemory process (Aborts status) stop r m after t = (stop ≡ Abort status) × (after ≡ r) × (t ≡ m)

-- the instruction of a process at PC ended in this way
abbrev pub ExecutesInMemory : ℕ → Stop → Regs → MemoryState → Regs → MemoryState → Type 0
ExecutesInMemory process stop r m after t = LeavesMemory process (step_of (cells_seen m process) r) stop r m after t

-- this many instructions of a process, each followed by the next one, lead from registers and memory to others
abbrev pub FollowInMemory : ℕ → ℕ → Regs → MemoryState → Regs → MemoryState → Type 0
FollowInMemory process zero r m after t = (after ≡ r) × (t ≡ m)
FollowInMemory process (suc k) r m after t =
    (next : Regs) × (held : MemoryState) × ExecutesInMemory process Next r m next held
    × FollowInMemory process k next held after t

-- this many of n instructions were followed by the next one; the run ended there, with all of them or with one that
-- stops
abbrev pub EndsInMemory : ℕ → ℕ → ℕ → Stop → Regs → MemoryState → Regs → MemoryState → Type 0
EndsInMemory process n followed Next r m after t = (followed ≡ n) × (after ≡ r) × (t ≡ m)
EndsInMemory process n followed stop r m after t = (followed < n) × ExecutesInMemory process stop r m after t

-- a run of at most n instructions of a process from registers and memory to others
abbrev pub RunsInMemory : ℕ → ℕ → Ran → Regs → MemoryState → Regs → MemoryState → Type 0
RunsInMemory process n ran r m after t =
    (last : Regs) × (held : MemoryState) × FollowInMemory process ran.followed r m last held
    × EndsInMemory process n ran.followed ran.stop last held after t
