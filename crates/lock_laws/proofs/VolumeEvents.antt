-- What is so while volumes stay is so after an event if it is after an attempt of a call on paths.
use Rattle.std.proofs.Common.{◌≡◌, ℕ, Result, Ok, Err, length, refl, sym, ap, ◌∙◌, subst}
use Rattle.os9_base.specs.declared.registers.TimePacket.{TimePacket}
use Rattle.cpu_model.specs.Step.{Aborts, Calls, Done, Outcome}
use Rattle.proc_model.specs.Attempts.{after_attempt}
use Rattle.proc_model.specs.CallResult.{CallResult, done, ends, refused, waits}
use Rattle.proc_model.specs.Delivery.{delivered}
use Rattle.proc_model.specs.Processes.{Processes}
use Rattle.proc_model.specs.Ready.{Act, act_of, attempts, delivers, executes}
use Rattle.proc_model.specs.declared.proc_call.ProcCall.TheVariants as Call
use Rattle.file_rules.specs.Attempts.{FileAttempts, asker_of}
use Rattle.file_rules.specs.Files.{Files}
use Rattle.file_rules.specs.declared.path_call.PathCall.{PathCall}
use Rattle.time_rules.specs.Clock.{IsNow}
use Rattle.file_laws.specs.Attempt.{Attempt}
use Rattle.file_laws.proofs.Loads.{chain-leaves, fork-leaves, load-leaves}
use Rattle.machine_model.specs.ProcessEvent.{next_instruction}
use Rattle.machine_model.specs.declared.ends.EventEnd.{EventEnd}
use Rattle.machine_model.specs.Event.{Acts, before_delivery, files_after_delivery, files_after_instruction}
use Rattle.machine_model.specs.Services.{Serves, Service, files_after_call, files_after_fork, loads, no_call, on_paths, on_processes, on_time, service_of}
use Rattle.machine_model.specs.State.{Rest, State, with_rest}

instruction-volumes : (files : Files) (p : ℕ) (outcome : Outcome) → (files_after_instruction files p outcome).volumes ≡ files.volumes
instruction-volumes files p (Done effect) = refl
instruction-volumes files p (Calls code regs) = refl
instruction-volumes files p (Aborts status) = refl

delivery-volumes : (files : Files) (p : ℕ) (result : Result Processes ℕ) → (files_after_delivery files p result).volumes ≡ files.volumes
delivery-volumes files p (Ok t) = refl
delivery-volumes files p (Err status) = refl

call-volumes : (files : Files) (p : ℕ) (result : CallResult) → (files_after_call files p result).volumes ≡ files.volumes
call-volumes files p (done t) = refl
call-volumes files p (refused number) = refl
call-volumes files p (waits t) = refl
call-volumes files p (ends status) = refl

fork-volumes : (files : Files) (p : ℕ) (result : CallResult) → (files_after_fork files p result).volumes ≡ files.volumes
fork-volumes files p (done t) = refl
fork-volumes files p (refused number) = refl
fork-volumes files p (waits t) = refl
fork-volumes files p (ends status) = refl

-- ---- an event

-- an attempt of a call on paths by a process
abbrev pub attempt_by : (s : State) (p : ℕ) (now : TimePacket) (call : PathCall) (result : CallResult) (rest : Rest)
    → FileAttempts call s.processes s.files now p result rest.files s.terms rest.terms → Attempt
attempt_by s p now call result rest it = record {
  call = call;
  processes = s.processes;
  files = s.files;
  now = now;
  process = p;
  result = result;
  new = rest.files;
  before = s.terms;
  after = rest.terms;
  attempted = it;
}

-- what is so after each attempt of a call on paths
abbrev pub IsAfterAttempts : State → ℕ → (State → Type 0) → Type 0
IsAfterAttempts s p fact =
    (code : ℕ) → act_of s.processes p ≡ attempts code → (now : TimePacket) → IsNow s.clock s.processes.tick now → (call : PathCall)
    → service_of code ≡ on_paths call → (result : CallResult) (rest : Rest)
    → FileAttempts call s.processes s.files now p result rest.files s.terms rest.terms → rest.clock ≡ s.clock
    → fact (with_rest s (after_attempt s.processes p result) rest)

module _ (s : State) (p : ℕ) (fact : State → Type 0) (stays : (t : State) → t.files.volumes ≡ s.files.volumes → fact t) (attempted : IsAfterAttempts s p fact) where
  module _ (code : ℕ) (next : act_of s.processes p ≡ attempts code) (now : TimePacket) (is_now : IsNow s.clock s.processes.tick now) (result : CallResult) (rest : Rest) where
    abbrev then : State
    then = with_rest s (after_attempt s.processes p result) rest

    abbrev files_in : Rest → Files
    files_in rest = rest.files

    rest-so : (files : Files) → files_in rest ≡ files → files.volumes ≡ s.files.volumes → fact then
    rest-so files same volumes = stays then (ap (λ (files : Files). files.volumes) same ∙ volumes)

    serves-so : (service : Service) → service_of code ≡ service → Serves service s now p result rest → fact then
    serves-so loads serves (files, read, rest_is) =
        rest-so files (ap files_in rest_is) (load-leaves s.processes (asker_of s.processes p now) s.files (length s.terms) p result files read).volumes
    serves-so (on_processes Call.Fork) serves (files, read, rest_is) =
        rest-so (files_after_fork files p result) (ap files_in rest_is) (fork-volumes files p result ∙
        (fork-leaves s.processes (asker_of s.processes p now) s.files (length s.terms) p result files read).volumes)
    serves-so (on_processes Call.Chain) serves (files, read, rest_is) =
        rest-so files (ap files_in rest_is) (chain-leaves s.processes (asker_of s.processes p now) s.files (length s.terms) p result files read).volumes
    serves-so (on_processes call) serves served =
        rest-so (files_after_call s.files p result) (ap files_in served.1) (call-volumes s.files p result)
    serves-so (on_time call) serves (clock, timed, rest_is) = rest-so s.files (ap files_in rest_is) refl
    serves-so (on_paths call) serves (it, clock) = attempted code next now is_now call serves result rest it clock
    serves-so no_call serves (refusal, rest_is) = rest-so s.files (ap files_in rest_is) refl

  pub acts-so : (act : Act) (end : EventEnd) (t : State) → act_of s.processes p ≡ act → Acts act s p end t → fact t
  acts-so executes end t next (over, same) =
      stays t (ap (λ (t : State). t.files.volumes) same ∙ instruction-volumes s.files p (next_instruction s.processes p))
  acts-so (delivers signal) end t next (over, same) =
      stays t (ap (λ (t : State). t.files.volumes) same ∙ delivery-volumes s.files p (delivered (before_delivery s p) p signal))
  acts-so (attempts code) end t next (result, rest, (now, is_now, served), over, same) =
      subst fact (sym same) (serves-so code next now is_now result rest (service_of code) refl served)
