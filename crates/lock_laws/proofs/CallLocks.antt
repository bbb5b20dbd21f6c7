-- An event changes locks only by a call on paths, or with the end of its process.
use Rattle.std.proofs.Common.{◌≡◌, ℕ, Some, Result, Ok, Err, length, refl, sym, ap, ◌∙◌, subst}
use Rattle.std.proofs.lemmas.Option.{same_Some}
use Rattle.os9_base.specs.declared.registers.TimePacket.{TimePacket}
use Rattle.cpu_model.specs.Step.{Aborts, Calls, Done, Outcome}
use Rattle.proc_model.specs.CallResult.{CallResult, done, ends, refused, waits}
use Rattle.proc_model.specs.Delivery.{delivered}
use Rattle.proc_model.specs.Processes.{Processes, regs_at}
use Rattle.proc_model.specs.Ready.{Act, act_of, attempts, delivers, executes}
use Rattle.proc_model.specs.declared.proc_call.ProcCall.TheVariants as Call
use Rattle.lock_model.specs.Records.{Records}
use Rattle.file_rules.specs.Attempts.{asker_of}
use Rattle.file_rules.specs.Files.{Files}
use Rattle.file_rules.specs.Processes.{files_ended, files_started}
use Rattle.time_rules.specs.Clock.{IsNow}
use Rattle.file_laws.proofs.Claimed.{records-come}
use Rattle.file_laws.proofs.Loads.{chain-leaves, fork-leaves, load-leaves}
use Rattle.machine_model.specs.ProcessEvent.{call_event_end, delivery_end, instruction_end, next_instruction}
use Rattle.machine_model.specs.declared.ends.EventEnd.{EventEnd}
use Rattle.machine_model.specs.declared.ends.EventEnd.TheVariants.{Ended}
use Rattle.machine_model.specs.Event.{Acts, Event, before_delivery, files_after_delivery, files_after_instruction}
use Rattle.machine_model.specs.Services.{Serves, Service, files_after_call, files_after_fork, loads, no_call, on_paths, on_processes, on_time, service_of}
use Rattle.machine_model.specs.State.{Rest, State}
use Rattle.lock_laws.specs.Changed.{ChangesLocks}
use Rattle.lock_laws.proofs.VolumeEvents.{attempt_by}

module _ (s : State) (p : ℕ) (chosen : s.chosen ≡ Some p) (end : EventEnd) where
  abbrev On : Files → Type 0
  On files = ChangesLocks s p end files

  same-on : (files : Files) → files.records ≡ s.files.records → On files
  same-on files same = ChangesLocks.stay (ap (λ (records : Records). records.locks.held) same)

  ended-on : end ≡ Ended → On (files_ended s.files p)
  ended-on over = ChangesLocks.ended over refl

  instruction-on : (outcome : Outcome) → end ≡ instruction_end outcome → On (files_after_instruction s.files p outcome)
  instruction-on (Done effect) over = same-on s.files refl
  instruction-on (Calls code regs) over = same-on s.files refl
  instruction-on (Aborts status) over = ended-on over

  delivery-on : (result : Result Processes ℕ) → end ≡ delivery_end result → On (files_after_delivery s.files p result)
  delivery-on (Ok t) over = ChangesLocks.stay refl
  delivery-on (Err status) over = ended-on over

  call-on : (result : CallResult) → end ≡ call_event_end result → On (files_after_call s.files p result)
  call-on (done t) over = same-on s.files refl
  call-on (refused number) over = same-on s.files refl
  call-on (waits t) over = same-on s.files refl
  call-on (ends status) over = ended-on over

  fork-on : (files : Files) → files.records ≡ s.files.records → (result : CallResult) → On (files_after_fork files p result)
  fork-on files same (done t) = same-on (files_started files p (regs_at t p).a) same
  fork-on files same (refused number) = same-on files same
  fork-on files same (waits t) = same-on files same
  fork-on files same (ends status) = same-on files same

  abbrev files_in : Rest → Files
  files_in rest = rest.files

  rest-on : (rest : Rest) (files : Files) → files_in rest ≡ files → On files → On rest.files
  rest-on rest files same on = subst On (sym same) on

  serves-on : (code : ℕ) → act_of s.processes p ≡ attempts code → (service : Service) → service_of code ≡ service
      → (now : TimePacket) → IsNow s.clock s.processes.tick now → (result : CallResult) (rest : Rest)
      → end ≡ call_event_end result → Serves service s now p result rest → On rest.files
  serves-on code next loads serves now is_now result rest over (files, read, is) =
      rest-on rest files (ap files_in is) (same-on files (load-leaves s.processes (asker_of s.processes p now) s.files (length s.terms) p result files read).records)
  serves-on code next (on_processes Call.Fork) serves now is_now result rest over (files, read, is) =
      rest-on rest (files_after_fork files p result) (ap files_in is)
      (fork-on files (fork-leaves s.processes (asker_of s.processes p now) s.files (length s.terms) p result files read).records result)
  serves-on code next (on_processes Call.Chain) serves now is_now result rest over (files, read, is) =
      rest-on rest files (ap files_in is) (same-on files (chain-leaves s.processes (asker_of s.processes p now) s.files (length s.terms) p result files read).records)
  serves-on code next (on_processes call) serves now is_now result rest over served =
      rest-on rest (files_after_call s.files p result) (ap files_in served.1) (call-on result over)
  serves-on code next (on_time call) serves now is_now result rest over (clock, timed, is) =
      rest-on rest s.files (ap files_in is) (same-on s.files refl)
  serves-on code next (on_paths call) serves now is_now result rest over (it, clock) =
      ChangesLocks.called (record {
        process = p;
        chosen = chosen;
        code = code;
        attempted = next;
        call = call;
        serves = serves;
        now = now;
        is_now = is_now;
        so = records-come (attempt_by s p now call result rest it);
      })
  serves-on code next no_call serves now is_now result rest over (refusal, is) =
      rest-on rest s.files (ap files_in is) (same-on s.files refl)

  acts-on : (act : Act) (t : State) → act_of s.processes p ≡ act → Acts act s p end t → On t.files
  acts-on executes t next (over, is) =
      subst (λ (t : State). On t.files) (sym is) (instruction-on (next_instruction s.processes p) over)
  acts-on (delivers signal) t next (over, is) =
      subst (λ (t : State). On t.files) (sym is) (delivery-on (delivered (before_delivery s p) p signal) over)
  acts-on (attempts code) t next (result, rest, (now, is_now, served), over, is) =
      subst (λ (t : State). On t.files) (sym is) (serves-on code next (service_of code) refl now is_now result rest over served)

pub event-changes : (s t : State) (end : EventEnd) (p : ℕ) → s.chosen ≡ Some p → Event s end t → ChangesLocks s p end t.files
event-changes s t end p chosen (q, is_chosen, lives, acts) =
    subst (λ (p : ℕ). ChangesLocks s p end t.files) (same_Some q p (sym is_chosen ∙ chosen)) (acts-on s q is_chosen end (act_of s.processes q) t refl acts)
