-- The outcome of an attempt of a call that may load a file, for the kernel's processes and its files.
use Rattle.std.specs.Prelude.{ℕ}
use Rattle.os9_base.specs.declared.call.CallEnd.{CallEnd}
use Rattle.os9_base.specs.declared.registers.TimePacket.{TimePacket}
use Rattle.proc_model.specs.CallResult.{CallResult}
use Rattle.proc_model.specs.Processes.{Processes}
use Rattle.file_rules.specs.Attempts.{asker_of}
use Rattle.file_rules.specs.Files.{Asker, Files}
use Rattle.file_rules.specs.Load.{LoadAttempts}
use Rattle.file_rules.specs.Program.{ChainAttempts, ForkAttempts}
use Rattle.file_state.specs.Attempt.{OnEach, MachineOnDrives}
use Rattle.load_calls.specs.Attempts.{AttemptsBy}
use Rattle.os9_kernel.specs.DriverCalls.{service_calls}
use Rattle.os9_kernel.specs.Services.{load_in_machine}
use Rattle.os9_kernel.specs.declared.service.LoadCall.{LoadCall}
use Rattle.os9_kernel.specs.declared.service.LoadCall.TheVariants.{Load, Fork, Chain}

-- the attempt of the machine
abbrev pub AttemptsLoad : LoadCall → Processes → Asker → Files → ℕ → ℕ → CallResult → Files → Type 0
AttemptsLoad Load m asker old terms p result new = LoadAttempts m asker old terms p result new
AttemptsLoad Fork m asker old terms p result new = ForkAttempts m asker old terms p result new
AttemptsLoad Chain m asker old terms p result new = ChainAttempts m asker old terms p result new

-- an attempt of a call by a process, at a time, on a machine with this number of terminals: its end, the processes, the
-- files and the drives then, and the calls of the drives; its process does not have the result yet
abbrev pub LoadsSo : LoadCall → Processes → Files → TimePacket → ℕ → ℕ → CallEnd → MachineOnDrives → MachineOnDrives
    → Type 0
LoadsSo call m files now terms p end before after =
    AttemptsBy (AttemptsLoad call m (asker_of m p now) files terms p) m p end
    (service_calls (load_in_machine call) m p now files terms) before after

-- from each state of the machine
abbrev pub LoadsOnEach : LoadCall → TimePacket → ℕ → ℕ → CallEnd → MachineOnDrives → MachineOnDrives → Type 0
LoadsOnEach call now terms p end before after =
    OnEach before (λ m was. LoadsSo call m was now terms p end before after)
