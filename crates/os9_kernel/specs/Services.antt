-- What the codes of calls ask for, as the kernel distinguishes them.
use Rattle.std.specs.Prelude.{⊤}
use Rattle.proc_model.specs.declared.proc_call.ProcCall.{ProcCall}
use Rattle.proc_model.specs.declared.proc_call.ProcCall.TheVariants as Call
use Rattle.machine_model.specs.Services.{Service as MachineService, loads, on_processes, on_time, on_paths, no_call}
use Rattle.os9_kernel.specs.declared.service.LoadCall.{LoadCall}
use Rattle.os9_kernel.specs.declared.service.LoadCall.TheVariants as Loading
use Rattle.os9_kernel.specs.declared.service.Service.{Service}
use Rattle.os9_kernel.specs.declared.service.Service.TheVariants.{Load, Process, Time, Path, Unknown}

-- the service in the machine
abbrev pub load_in_machine : LoadCall → MachineService
load_in_machine Loading.Load = loads
load_in_machine Loading.Fork = on_processes Call.Fork
load_in_machine Loading.Chain = on_processes Call.Chain

abbrev pub service_in_machine : Service → MachineService
service_in_machine (Load call) = load_in_machine call
service_in_machine (Process call) = on_processes call
service_in_machine (Time call) = on_time call
service_in_machine (Path call) = on_paths call
service_in_machine Unknown = no_call

-- a call on processes and modules that loads nothing
abbrev pub LoadsNothing : ProcCall → Type 0
LoadsNothing Call.Fork = ⊥
LoadsNothing Call.Chain = ⊥
LoadsNothing call = ⊤

abbrev pub IsPlainService : Service → Type 0
IsPlainService (Process call) = LoadsNothing call
IsPlainService service = ⊤
