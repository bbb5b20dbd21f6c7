-- What a code asks for, by the calls that have it.
use Rattle.std.proofs.Common.{◌≡◌, ℕ, ◌==◌, Bool, true, false, Option, Some, None, refl, ap}
use Rattle.std.specs.Option.{option_map_or}
use Rattle.std.specs.Prelude.{if◌then◌else◌}
use Rattle.os9_base.specs.declared.calls.TheConstants.{F_LOAD}
use Rattle.os9_base.specs.declared.registers.TimePacket.{TimePacket}
use Rattle.proc_model.specs.Attempts.{attempted}
use Rattle.proc_model.specs.CallResult.{CallResult}
use Rattle.proc_model.specs.Codes.{call_of}
use Rattle.proc_model.specs.declared.proc_call.ProcCall.{ProcCall}
use Rattle.proc_model.specs.declared.proc_call.ProcCall.TheVariants as Call
use Rattle.file_rules.specs.Codes.{path_call_of}
use Rattle.file_rules.specs.declared.path_call.PathCall.{PathCall}
use Rattle.time_rules.specs.Codes.{time_call_of}
use Rattle.time_rules.specs.declared.time_call.TimeCall.{TimeCall}
use Rattle.machine_model.specs.Services.{Serves, Service, files_after_call, loads, on_processes, on_time, on_paths, no_call, service_of, with_files}
use Rattle.machine_model.specs.State.{Rest, State}
use Rattle.os9_kernel.specs.Services.{LoadsNothing}

-- what is asked for by F$Load's code, or by the calls of a code
abbrev served : Bool → Option ProcCall → Option TimeCall → Option PathCall → Service
served load process time path =
    if load then loads
    else option_map_or on_processes process (option_map_or on_time time (option_map_or on_paths path no_call))

served-process : (load : Bool) (process : Option ProcCall) (time : Option TimeCall) (path : Option PathCall) (call : ProcCall) → served load process time path ≡ on_processes call → process ≡ Some call
served-process true process time path call is = cc
served-process false (Some other) time path call is = (let same : other ≡ call = cc in ap Some same)
served-process false None (Some other) path call is = cc
served-process false None None (Some other) call is = cc
served-process false None None None call is = cc

served-path : (load : Bool) (process : Option ProcCall) (time : Option TimeCall) (path : Option PathCall)
    (call : PathCall) → served load process time path ≡ on_paths call → (process ≡ None) × (path ≡ Some call)
served-path true process time path call is = cc
served-path false (Some other) time path call is = cc
served-path false None (Some other) path call is = cc
served-path false None None (Some other) call is = (let same : other ≡ call = cc in (refl, ap Some same))
served-path false None None None call is = cc

module _ (code : ℕ) where
  pub process-served : (call : ProcCall) → service_of code ≡ on_processes call → call_of code ≡ Some call
  process-served call is = served-process (code == F_LOAD) (call_of code) (time_call_of code) (path_call_of code) call is

  pub path-served : (call : PathCall) → service_of code ≡ on_paths call → (call_of code ≡ None) × (path_call_of code ≡ Some call)
  path-served call is = served-path (code == F_LOAD) (call_of code) (time_call_of code) (path_call_of code) call is

-- a call on processes that loads nothing comes to what it is attempted as
module _ (s : State) (now : TimePacket) (p : ℕ) (result : CallResult) (rest : Rest) where
  pub serves-plain : (call : ProcCall) → LoadsNothing call → result ≡ attempted call s.processes p → rest ≡ with_files s (files_after_call s.files p result)
      → Serves (on_processes call) s now p result rest
  serves-plain Call.Link plain is left = (is, left)
  serves-plain Call.UnLink plain is left = (is, left)
  serves-plain Call.Fork plain is left = absurd plain
  serves-plain Call.Wait plain is left = (is, left)
  serves-plain Call.Chain plain is left = absurd plain
  serves-plain Call.Exit plain is left = (is, left)
  serves-plain Call.Mem plain is left = (is, left)
  serves-plain Call.Send plain is left = (is, left)
  serves-plain Call.Icpt plain is left = (is, left)
  serves-plain Call.Sleep plain is left = (is, left)
  serves-plain Call.Id plain is left = (is, left)
  serves-plain Call.SPrior plain is left = (is, left)
  serves-plain Call.PrsNam plain is left = (is, left)
  serves-plain Call.CmpNam plain is left = (is, left)
  serves-plain Call.Crc plain is left = (is, left)
  serves-plain Call.SUser plain is left = (is, left)
  serves-plain Call.UnLoad plain is left = (is, left)
