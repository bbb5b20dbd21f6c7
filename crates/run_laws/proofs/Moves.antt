-- What holds of a state from which the machine goes on holds from the start on, and after each event, tick and choice.
use Rattle.std.proofs.Common.{◌≡◌, ℕ, ◌<◌, ◌≤◌, true, length, refl, sym, ap, subst}
use Rattle.time_rules.specs.CivilTime.{is_time_packet}
use Rattle.cpu_model.specs.Step.{Aborts, Calls, Done, Outcome}
use Rattle.os9_base.specs.declared.registers.TimePacket.{TimePacket}
use Rattle.proc_model.specs.CallResult.{CallResult, done, ends, refused, waits}
use Rattle.proc_model.specs.Delivery.{delivered}
use Rattle.proc_model.specs.Processes.{Processes}
use Rattle.proc_model.specs.Ready.{Act, act_of, attempts, delivers, executes}
use Rattle.proc_model.specs.declared.proc_call.ProcCall.TheVariants as Call
use Rattle.std.specs.Prelude.{Result, Ok, Err}
use Rattle.file_rules.specs.Attempts.{asker_of, files_after}
use Rattle.file_rules.specs.Files.{Files}
use Rattle.file_laws.proofs.Attempts.{chain-many, fork-many, load-many}
use Rattle.machine_model.specs.Console.{terminals_emptied}
use Rattle.machine_model.specs.ProcessEvent.{next_instruction}
use Rattle.machine_model.specs.declared.ends.EventEnd.{EventEnd}
use Rattle.file_laws.proofs.Loads.{chain-leaves, fork-leaves, load-leaves}
use Rattle.machine_model.specs.Event.{Acts, Event, before_delivery, files_after_delivery, files_after_instruction}
use Rattle.machine_model.specs.Run.{Choose, Tick}
use Rattle.machine_model.specs.Services.{Serves, Service, files_after_call, files_after_fork, loads, no_call, on_paths, on_processes, on_time, service_of}
use Rattle.machine_model.specs.Start.{Boot, Starts}
use Rattle.machine_model.specs.State.{Rest, State}
use Rattle.call_laws.proofs.Events.{event-running}
use Rattle.call_laws.proofs.RunningLaws.{choice-running, emptied-running, start-running, tick-running}
use Rattle.run_laws.specs.Mounted.{MountsAreSound, CanGo}
use Rattle.run_laws.proofs.Keeping.{does-mounted, mounted-first, mounted-same}

-- ---- files beside other events

module _ (files : Files) (p : ℕ) (mounted : MountsAreSound files) where
  after-instruction : (outcome : Outcome) → MountsAreSound (files_after_instruction files p outcome)
  after-instruction (Done effect) = mounted
  after-instruction (Calls code regs) = mounted
  after-instruction (Aborts status) =
      mounted-same files (files_after_instruction files p (Aborts status)) refl refl mounted

  after-delivery : (result : Result Processes ℕ) → MountsAreSound (files_after_delivery files p result)
  after-delivery (Ok t) = mounted-same files (files_after_delivery files p (Ok t)) refl refl mounted
  after-delivery (Err status) = mounted-same files (files_after_delivery files p (Err status)) refl refl mounted

  after-call : (result : CallResult) → MountsAreSound (files_after_call files p result)
  after-call (done t) = mounted
  after-call (refused number) = mounted
  after-call (waits t) = mounted
  after-call (ends status) = mounted-same files (files_after_call files p (ends status)) refl refl mounted

  after-fork : (result : CallResult) → MountsAreSound (files_after_fork files p result)
  after-fork (done t) = mounted-same files (files_after_fork files p (done t)) refl refl mounted
  after-fork (refused number) = mounted
  after-fork (waits t) = mounted
  after-fork (ends status) = mounted

-- ---- an attempt

module _ (s : State) (p : ℕ) (can : CanGo s) (now : TimePacket) where
  -- the rest has these files
  by-rest : (rest with : Rest) → rest ≡ with → MountsAreSound with.files → MountsAreSound rest.files
  by-rest rest with is mounted = subst (λ (rest : Rest). MountsAreSound rest.files) (sym is) mounted

  serves-mounted : (service : Service) (result : CallResult) (rest : Rest) → Serves service s now p result rest → MountsAreSound rest.files
  serves-mounted loads result rest (files, it, is) =
      by-rest rest _ is (mounted-same s.files files (load-leaves s.processes (asker_of s.processes p now) s.files
      (length s.terms) p result files it).volumes (load-many s.processes (asker_of s.processes p now) s.files
      (length s.terms) p result files it).drives can.mounted)
  serves-mounted (on_processes Call.Fork) result rest (files, it, is) =
      by-rest rest _ is (after-fork files p (mounted-same s.files files (fork-leaves s.processes (asker_of s.processes p now)
      s.files (length s.terms) p result files it).volumes (fork-many s.processes (asker_of s.processes p now) s.files
      (length s.terms) p result files it).drives can.mounted) result)
  serves-mounted (on_processes Call.Chain) result rest (files, it, is) =
      by-rest rest _ is (mounted-same s.files files (chain-leaves s.processes (asker_of s.processes p now) s.files
      (length s.terms) p result files it).volumes (chain-many s.processes (asker_of s.processes p now) s.files
      (length s.terms) p result files it).drives can.mounted)
  serves-mounted (on_processes call) result rest it = by-rest rest _ it.1 (after-call s.files p can.mounted result)
  serves-mounted (on_time call) result rest (clock, it, is) = by-rest rest _ is can.mounted
  serves-mounted (on_paths call) result rest (it, same) =
      subst MountsAreSound (sym it.state)
      (mounted-same it.effect.files (files_after p it.effect) refl refl (does-mounted call (asker_of s.processes p now) s.files can.running.kinds can.mounted s.terms rest.terms it.effect it.does))
  serves-mounted no_call result rest (result_is, is) = by-rest rest _ is can.mounted

-- ---- an event

acts-mounted : (act : Act) (s : State) (p : ℕ) (end : EventEnd) (t : State) → CanGo s → Acts act s p end t → MountsAreSound t.files
acts-mounted executes s p end t can (over, is) =
    subst (λ (t : State). MountsAreSound t.files) (sym is) (after-instruction s.files p can.mounted (next_instruction s.processes p))
acts-mounted (delivers signal) s p end t can (over, is) =
    subst (λ (t : State). MountsAreSound t.files) (sym is) (after-delivery s.files p can.mounted (delivered (before_delivery s p) p signal))
acts-mounted (attempts code) s p end t can (result, rest, (now, is_now, it), over, is) =
    subst (λ (t : State). MountsAreSound t.files) (sym is) (serves-mounted s p can now (service_of code) result rest it)

pub event-can : (s t : State) (end : EventEnd) → Event s end t → CanGo s → CanGo t
event-can s t end (p, chosen, lives, acts) can = record {
  running = event-running s t end (p, chosen, lives, acts) can.running;
  mounted = acts-mounted (act_of s.processes p) s p end t can acts;
}

pub tick-can : (s t : State) → Tick s t → CanGo s → CanGo t
tick-can s t (desk, arrives, is) can = record {
  running = tick-running s t (desk, arrives, is) can.running;
  mounted =
      mounted-same s.files t.files (ap (λ (t : State). t.files.volumes) is) (ap (λ (t : State). length t.files.drives) is) can.mounted;
}

pub choice-can : (s t : State) → Choose s t → CanGo s → CanGo t
choice-can s t is can = record {
  running = choice-running s t is can.running;
  mounted = subst (λ (t : State). MountsAreSound t.files) (sym is) can.mounted;
}

pub emptied-can : (m : State) → CanGo m → CanGo (record m { terms = terminals_emptied m.terms })
emptied-can m can = record { running = emptied-running m can.running; mounted = can.mounted }

pub start-can : (boot : Boot) (s : State) → Starts boot s → 0 < length boot.terms → length boot.terms ≤ 4 → is_time_packet boot.time ≡ true → length boot.images ≤ length boot.drives → CanGo s
start-can boot s starts some few time drives = record {
  running = start-running boot s starts some few time;
  mounted =
      subst (λ (s : State). MountsAreSound s.files) (sym starts.is)
      (subst MountsAreSound (sym starts.mounted.is) (mounted-first boot.images starts.mounted.volumes boot.drives starts.mounted.mounted drives));
}
