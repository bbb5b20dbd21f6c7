-- The result of an attempt of a call. A refused call leaves no state of its own.
use Rattle.std.specs.Prelude.{ℕ, Bool, true, false, Option, Some, None, Result, Ok, Err, List}
use Rattle.os9_base.specs.declared.errors.TheConstants.{E_BPADDR}
use Rattle.proc_model.specs.declared.memory.MemoryFault.{MemoryFault}
use Rattle.proc_model.specs.Memory.{MemoryState, memory_error}
use Rattle.os9_base.specs.declared.name_fault.NameFault.{NameFault}
use Rattle.os9_base.specs.declared.name_fault.NameFault.TheVariants.{Unreadable, NoName}
use Rattle.proc_model.specs.Processes.{Processes}

pub data CallResult : Type 0 where
  -- it is done, with this state afterwards
  done : Processes → CallResult
  -- it is refused with this number
  refused : ℕ → CallResult
  -- it waits, with this state afterwards
  waits : Processes → CallResult
  -- the process ends with this status
  ends : ℕ → CallResult

-- the call goes on with the value, or is refused with this number if there is none
abbrev pub needs : {A : Type 0} → Option A → ℕ → (A → CallResult) → CallResult
needs None number next = refused number
needs (Some a) number next = next a

-- the call is refused with this number if the test is true, and goes on otherwise
abbrev pub refuses : Bool → ℕ → CallResult → CallResult
refuses true number next = refused number
refuses false number next = next

-- the call goes on with the changed memory, or is refused with the error of the change
abbrev pub changes : Result MemoryState MemoryFault → (MemoryState → CallResult) → CallResult
changes (Ok memory) next = next memory
changes (Err fault) next = refused (memory_error fault)

-- the call goes on with a name, or is refused with E$BPAddr, or with this number if there is none
abbrev pub reads_name : Result (List ℕ) NameFault → ℕ → (List ℕ → CallResult) → CallResult
reads_name (Ok name) number next = next name
reads_name (Err Unreadable) number next = refused E_BPADDR
reads_name (Err NoName) number next = refused number
