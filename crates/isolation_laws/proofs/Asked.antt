-- What a service says of the code that asks for it.
use Rattle.std.proofs.Common.{◌≡◌, ℕ, ◌==◌, Bool, true, false, Option, Some, None, refl}
use Rattle.std.specs.Prelude.{if◌then◌else◌}
use Rattle.std.specs.Option.{option_map_or}
use Rattle.std.proofs.lemmas.Bool.{eqb-true}
use Rattle.os9_base.specs.declared.calls.TheConstants.{F_LOAD}
use Rattle.proc_model.specs.Codes.{call_of}
use Rattle.proc_model.specs.declared.proc_call.ProcCall.{ProcCall}
use Rattle.file_rules.specs.Codes.{path_call_of}
use Rattle.file_rules.specs.declared.path_call.PathCall.{PathCall}
use Rattle.time_rules.specs.Codes.{time_call_of}
use Rattle.time_rules.specs.declared.time_call.TimeCall.{TimeCall}
use Rattle.machine_model.specs.Services.{Service, loads, on_processes, on_time, on_paths, no_call, service_of}

-- the code is that of the call
abbrev pub Asks : ℕ → Service → Type 0
Asks code loads = code ≡ F_LOAD
Asks code (on_processes call) = call_of code ≡ Some call
Asks code (on_time call) = time_call_of code ≡ Some call
Asks code (on_paths call) = path_call_of code ≡ Some call
Asks code no_call = Unit {0}

pub asks : (code : ℕ) → Asks code (service_of code)
asks code = by_load (code == F_LOAD) refl
  where
    by_path : (call : Option PathCall) → path_call_of code ≡ call → Asks code (option_map_or on_paths call no_call)
    by_path None is = tt
    by_path (Some call) is = is

    by_time : (call : Option TimeCall) → time_call_of code ≡ call → Asks code (option_map_or on_time call (option_map_or on_paths (path_call_of code) no_call))
    by_time None is = by_path (path_call_of code) refl
    by_time (Some call) is = is

    by_call : (call : Option ProcCall) → call_of code ≡ call
        → Asks code (option_map_or on_processes call (option_map_or on_time (time_call_of code)
        (option_map_or on_paths (path_call_of code) no_call)))
    by_call None is = by_time (time_call_of code) refl
    by_call (Some call) is = is

    by_load : (load : Bool) → (code == F_LOAD) ≡ load → Asks code (if load then loads else option_map_or on_processes
        (call_of code) (option_map_or on_time (time_call_of code) (option_map_or on_paths (path_call_of code)
        no_call)))
    by_load true is = eqb-true code F_LOAD is
    by_load false is = by_call (call_of code) refl
