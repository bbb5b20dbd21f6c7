-- The contents of the objects that appear in an event of a process, byte by byte (System Programmer's Manual, F$Load,
-- F$Fork and F$Chain).
use Rattle.std.specs.Prelude.{◌≡◌, ◌⊎◌, ℕ, ◌+◌, ◌<◌, ◌≤◌, Option, Some, List, length, slice_get}
use Rattle.proc_model.specs.Objects.{file_block, file_blocks}
use Rattle.proc_model.specs.Records.{free_process}
use Rattle.proc_model.specs.Processes.{Processes, regs_at}
use Rattle.proc_model.specs.ModuleLinks.{Entered}
use Rattle.proc_model.specs.Program.{Program, area_pages}
use Rattle.proc_model.specs.declared.proc_call.ProcCall.TheVariants as Call
use Rattle.file_rules.specs.Load.{Loaded}
use Rattle.file_rules.specs.Program.{named_program, parameters_of}
use Rattle.file_rules.specs.ProgramFile.{ProgramFile}
use Rattle.call_laws.specs.Others.{AttemptsCall}
use Rattle.isolation_laws.specs.DataAreas.{HoldInOrder, area_bytes}
use Rattle.isolation_laws.specs.Loading.{LoadsFile}
use Rattle.machine_model.specs.State.{State}

-- a process starts this program, of the module `which`: its data area has the pages that the module, B and Y ask for,
-- and its parameters are the Y bytes at U
pub record StartsProgram (m : Processes) (p : ℕ) (which : Option Entered) (program : Program) : Type 0 where
  pub call : AttemptsCall m p Call.Fork ⊎ AttemptsCall m p Call.Chain
  pub entered : which ≡ Some program.entered
  pub pages : program.pages ≡ area_pages program.entered.entry (regs_at m p).b (regs_at m p).y
  pub parameters : parameters_of m p ≡ Some program.parameters

-- a program begins in the process of this number: the child of F$Fork, or the process that attempts F$Chain
abbrev pub BeginsIn : Processes → ℕ → ℕ → Type 0
BeginsIn m p number =
    (AttemptsCall m p Call.Fork × (free_process m.records ≡ Some number))
    ⊎ (AttemptsCall m p Call.Chain × (p ≡ number))

-- no map names a data area: a process starts no program, or it begins in a process of a number past the maps
abbrev pub MapsNoArea : Processes → ℕ → Type 0
MapsNoArea m p =
    (AttemptsCall m p Call.Fork ⊎ AttemptsCall m p Call.Chain → ⊥)
    ⊎ ((number : ℕ) × BeginsIn m p number × (length m.memory.maps ≤ number))

-- each byte of the objects from this number on is 0
abbrev pub HoldZeros : ℕ → List (List ℕ) → Type 0
HoldZeros first objects =
    (object : ℕ) (bytes : List ℕ) → first ≤ object → slice_get objects object ≡ Some bytes
    → (k byte : ℕ) → slice_get bytes k ≡ Some byte → byte ≡ 0

-- The objects from a number on are zeros if no map names a data area. Else they are, in order, the data area of a
-- program that the process starts, of the module `which`: zeros, and its parameters at the end.
abbrev pub HoldArea : Processes → ℕ → Option Entered → ℕ → List (List ℕ) → Type 0
HoldArea m p which first objects =
    (MapsNoArea m p × HoldZeros first objects)
    ⊎ ((program : Program) × StartsProgram m p which program × HoldInOrder (area_bytes program) first objects)

-- the process loads a file: the first objects that appear are its blocks, in their order
pub record HoldFileFirst (s : State) (p : ℕ) (objects : List (List ℕ)) : Type 0 where
  pub file : ProgramFile
  pub loaded : Loaded
  pub loads : LoadsFile s p file loaded
  pub blocks : (k : ℕ) → k < file_blocks file.bytes
      → slice_get objects (length s.processes.memory.objects + k) ≡ Some (file_block file.bytes k)
  pub rest : HoldArea s.processes p (Some loaded.first) (length s.processes.memory.objects + file_blocks file.bytes)
      objects

-- the contents of the objects that appear in an event of a process, if any appear
abbrev pub HoldNewObjects : State → ℕ → List (List ℕ) → Type 0
HoldNewObjects s p objects =
    (length objects ≤ length s.processes.memory.objects)
    ⊎ HoldArea s.processes p (named_program s.processes p) (length s.processes.memory.objects) objects
    ⊎ HoldFileFirst s p objects
