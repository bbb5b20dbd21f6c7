-- The state that the calls on processes and modules read and change (Level Two manual, "Processes" and "Memory
-- management").
use Rattle.std.specs.Prelude.{ℕ, false, Option, None, List, replicate, slice_index_or, slice_set}
use Rattle.os9_base.specs.Cells.{Cells}
use Rattle.os9_base.specs.declared.registers.Regs.{Regs}
use Rattle.proc_model.specs.Memory.{MemoryState, map_at}
use Rattle.proc_model.specs.Objects.{object_cells}
use Rattle.proc_model.specs.declared.own.Own.{Own}
use Rattle.proc_model.specs.declared.record.Record.{Record}
use Rattle.proc_model.specs.declared.turn.Turn.{Turn}
use Rattle.proc_model.specs.Records.{record_at, with_regs}

-- memory, and the data of each process
pub record Processes : Type 0 where
  pub memory : MemoryState
  pub records : List (Option Record)  -- by process number, from 0 to 32
  pub own : List Own  -- by process number: its data other than its record and its memory
  pub order : List Turn  -- the living processes, the one chosen longest ago first
  pub tick : ℕ

-- the data of a process that does not exist: none
abbrev pub no_own : Own
no_own = record { size = 0; primary = None; links = replicate 8 0; call = None; until = None; woken = false }

-- the data of a process other than its record and its memory
abbrev pub own_at : Processes → ℕ → Own
own_at s p = slice_index_or s.own p no_own

-- the registers of a process
abbrev pub regs_at : Processes → ℕ → Regs
regs_at s p = (record_at s.records p).regs

-- the user of a process
abbrev pub user_at : Processes → ℕ → ℕ
user_at s p = (record_at s.records p).user

-- the bytes that a process sees
abbrev pub cells_at : Processes → ℕ → Cells
cells_at s p = object_cells s.memory.objects (map_at s.memory p).places

-- the state with another memory, with other records, with other registers of a process, or with other data of its own
abbrev pub with_memory : Processes → MemoryState → Processes
with_memory s memory = record s { memory = memory }

abbrev pub with_records : Processes → List (Option Record) → Processes
with_records s records = record s { records = records }

abbrev pub with_regs_of : Processes → ℕ → Regs → Processes
with_regs_of s p regs = with_records s (with_regs s.records p regs)

abbrev pub with_own : Processes → ℕ → Own → Processes
with_own s p own = record s { own = slice_set s.own p own }
