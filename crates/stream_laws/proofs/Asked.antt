-- What a code asks for, as terminals and pipes have it.
use Rattle.std.proofs.Common.{◌≡◌, ℕ, ◌==◌, Bool, true, false, Option, Some, None, refl, ap}
use Rattle.std.specs.Prelude.{if◌then◌else◌}
use Rattle.std.specs.Option.{option_map_or}
use Rattle.std.proofs.lemmas.Bool.{eqb-true}
use Rattle.os9_base.specs.declared.calls.TheConstants.{F_LOAD}
use Rattle.proc_model.specs.Codes.{call_of}
use Rattle.proc_model.specs.declared.proc_call.ProcCall.{ProcCall}
use Rattle.io_model.specs.Codes.{io_call_of}
use Rattle.io_model.specs.declared.io_call.IoCall.{IoCall}
use Rattle.file_rules.specs.Codes.{path_call_of}
use Rattle.file_rules.specs.declared.path_call.PathCall.{PathCall}
use Rattle.time_rules.specs.Codes.{time_call_of, time_codes}
use Rattle.time_rules.specs.declared.time_call.TimeCall.{TimeCall}
use Rattle.file_laws.specs.Devices.{device_call}
use Rattle.file_laws.proofs.Codes.{code-none, code-there}
use Rattle.stream_laws.proofs.CallCodes.{found-code, not-both}
use Rattle.machine_model.specs.Services.{Service, loads, on_processes, on_time, on_paths, no_call, service_of}

-- the call that it is on a terminal or a pipe
abbrev pub device_of : Service → Option IoCall
device_of loads = None
device_of (on_processes call) = None
device_of (on_time call) = None
device_of (on_paths call) = device_call call
device_of no_call = None

none-of : (call : Option IoCall) → ((other : IoCall) → call ≡ Some other → ⊥) → call ≡ None
none-of None never = refl
none-of (Some other) never = absurd (never other refl)

pub device-asked : (code : ℕ) → io_call_of code ≡ device_of (service_of code)
device-asked code = by_load (code == F_LOAD) refl
  where
    by_path : (call : Option PathCall) → path_call_of code ≡ call → io_call_of code ≡ device_of (option_map_or on_paths call no_call)
    by_path None is = code-none code is
    by_path (Some call) is = code-there code call is

    by_time : (call : Option TimeCall) → time_call_of code ≡ call → io_call_of code ≡ device_of (option_map_or on_time call (option_map_or on_paths (path_call_of code) no_call))
    by_time None is = by_path (path_call_of code) refl
    by_time (Some call) is = found-code (λ n c. io_call_of n ≡ None) time_codes code call (refl, (refl, tt)) is

    by_call : (call : Option ProcCall) → call_of code ≡ call → io_call_of code ≡ device_of (option_map_or on_processes
        call (option_map_or on_time (time_call_of code) (option_map_or on_paths (path_call_of code) no_call)))
    by_call None is = by_time (time_call_of code) refl
    by_call (Some call) is = none-of (io_call_of code) (λ other there. not-both code call other is there)

    by_load : (load : Bool) → (code == F_LOAD) ≡ load → io_call_of code ≡ device_of
        (if load then loads else option_map_or on_processes (call_of code) (option_map_or on_time (time_call_of code)
        (option_map_or on_paths (path_call_of code) no_call)))
    by_load true is = ap io_call_of (eqb-true code F_LOAD is)
    by_load false is = by_call (call_of code) refl
