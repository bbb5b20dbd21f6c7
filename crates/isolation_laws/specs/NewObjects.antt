-- The contents of the objects that appear in an event of a process (System Programmer's Manual, F$Load, F$Fork and
-- F$Chain).
use Rattle.std.specs.Prelude.{◌≡◌, ◌⊎◌, ℕ, ◌+◌, ◌<◌, ◌≤◌, Some, List, length, slice_get}
use Rattle.proc_model.specs.Memory.{MemoryState}
use Rattle.proc_model.specs.Objects.{file_block, file_blocks}
use Rattle.proc_model.specs.Processes.{Processes}
use Rattle.file_rules.specs.Load.{Loaded}
use Rattle.file_rules.specs.ProgramFile.{ProgramFile}
use Rattle.call_laws.specs.NewObjects.{IsParameter}
use Rattle.isolation_laws.specs.Loading.{LoadsFile}
use Rattle.machine_model.specs.State.{State}

-- the objects from this number on hold only zeros, and parameters that the process gives a program
abbrev pub HoldParameters : Processes → ℕ → ℕ → MemoryState → Type 0
HoldParameters m p first n =
    (object : ℕ) (bytes : List ℕ) → first ≤ object → slice_get n.objects object ≡ Some bytes
    → (k byte : ℕ) → slice_get bytes k ≡ Some byte → (byte ≡ 0) ⊎ IsParameter m p byte

-- a process loads a file of modules: the first objects that appear hold it, block by block, with zeros after its end
pub record HoldFile (s : State) (p : ℕ) (n : MemoryState) : Type 0 where
  pub file : ProgramFile
  pub loaded : Loaded
  pub loads : LoadsFile s p file loaded
  pub blocks : (k : ℕ) → k < file_blocks file.bytes
      → slice_get n.objects (length s.processes.memory.objects + k) ≡ Some (file_block file.bytes k)
  pub rest : HoldParameters s.processes p (length s.processes.memory.objects + file_blocks file.bytes) n

-- objects that appear hold nothing else
abbrev pub HoldParametersOrFile : State → ℕ → MemoryState → Type 0
HoldParametersOrFile s p n = HoldParameters s.processes p (length s.processes.memory.objects) n ⊎ HoldFile s p n
