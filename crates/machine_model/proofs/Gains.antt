-- The devices of the machine only gain: event by event, slice by slice, in a whole run.
use Rattle.std.proofs.Common.{◌≡◌, ◌⊎◌, ℕ, ◌+◌, ◌-◌, Bool, true, false, Option, Some, None, Result, Ok, Err, List, [], ◌∷◌, ◌++◌, length, refl, sym, inl, inr, subst}
use Rattle.std.specs.Prelude.{MatchBool, MatchOption}
use Rattle.os9_base.specs.declared.registers.TimePacket.{TimePacket}
use Rattle.os9_outer.specs.TerminalState.{TerminalState}
use Rattle.cpu_model.specs.Step.{Outcome, Done, Calls, Aborts}
use Rattle.proc_model.specs.declared.proc_call.ProcCall.TheVariants as Call
use Rattle.proc_model.specs.Attempts.{attempted}
use Rattle.proc_model.specs.CallResult.{CallResult, done, refused, waits, ends}
use Rattle.proc_model.specs.Delivery.{delivered}
use Rattle.proc_model.specs.Processes.{Processes}
use Rattle.proc_model.specs.Ready.{Act, attempts, delivers, executes, act_of}
use Rattle.file_rules.specs.declared.path_call.PathCall.{PathCall}
use Rattle.file_rules.specs.Attempts.{asker_of}
use Rattle.file_rules.specs.Files.{Files}
use Rattle.file_laws.specs.Devices.{DeviceAttempted}
use Rattle.file_laws.specs.Touch.{TouchesNoDevice, LeavesFiles, WaitsForRecord}
use Rattle.file_laws.proofs.TouchAttempts.{attempt-comes}
use Rattle.file_laws.proofs.Loads.{chain-leaves, fork-leaves, load-leaves}
use Rattle.machine_model.specs.declared.ends.EventEnd.{EventEnd}
use Rattle.machine_model.specs.declared.ends.SliceEnd.{SliceEnd}
use Rattle.machine_model.specs.declared.ends.SliceEnd.TheVariants.{Idle, Ran as SliceRan}
use Rattle.machine_model.specs.Console.{console_bytes, terminals_emptied}
use Rattle.machine_model.specs.ProcessEvent.{next_instruction}
use Rattle.machine_model.specs.Terminals.{TerminalsOnlyGain}
use Rattle.machine_model.proofs.TerminalLaws.{gain-arrivals, gain-attempt, gain-broken, gain-emptied, gain-same, gain-then}
use Rattle.machine_model.proofs.Induction.{IsCarriedByMoves, along-part, along-run, along-slice}
use Rattle.machine_model.specs.Devices.{DrivesOnlyGain, OnlyGain}
use Rattle.machine_model.specs.Event.{Acts, Event, before_delivery, files_after_delivery, files_after_instruction}
use Rattle.machine_model.specs.Run.{BeginsSlice, BreaksTick, Choose, Run, Slice, Tick, desk_of}
use Rattle.machine_model.specs.Services.{Service, Serves, files_after_call, files_after_fork, loads, no_call, on_paths, on_processes, on_time, service_of, with_files}
use Rattle.machine_model.specs.State.{Rest, State}
use Rattle.machine_model.proofs.Drives.{drives-same, drives-then, loads-gain, none-gains, volumes-gain}

-- ---- two states

gains-same : (s t : State) → t ≡ s → OnlyGain s t
gains-same s t is =
    subst (OnlyGain s) (sym is) (record { terminals = gain-same s.terms; drives = drives-same s.files.drives })

gains-then : (a b c : State) → OnlyGain a b → OnlyGain b c → OnlyGain a c
gains-then a b c first next = record {
  terminals = gain-then a.terms b.terms c.terms first.terminals next.terminals;
  drives = drives-then a.files.drives b.files.drives c.files.drives first.drives next.drives;
}

-- ---- a tick

pub tick-gains : (s t : State) → Tick s t → OnlyGain s t
tick-gains s t (desk, arrives, is) = subst (OnlyGain s) (sym is) (record {
  terminals = gain-arrivals (s.processes.tick + 1) 0 (length s.terms) (desk_of s) desk arrives;
  drives = drives-same s.files.drives;
})

pub broken-gains : (s : State) (terms : List TerminalState) → BreaksTick s terms → TerminalsOnlyGain s.terms terms
broken-gains s terms broken =
    gain-broken (s.processes.tick + 1) broken.count (desk_of s) broken.desk broken.terminal broken.answer terms broken.arrivals broken.device

-- ---- an attempt

-- what an attempt leaves beside the processes
record RestGains (s : State) (rest : Rest) : Type 0 where
  pub terminals : TerminalsOnlyGain s.terms rest.terms
  pub drives : DrivesOnlyGain s.files.drives rest.files.drives

call-drives : (files : Files) (p : ℕ) (result : CallResult) → (files_after_call files p result).drives ≡ files.drives
call-drives files p (done t) = refl
call-drives files p (refused number) = refl
call-drives files p (waits t) = refl
call-drives files p (ends status) = refl

fork-drives : (files : Files) (p : ℕ) (result : CallResult) → (files_after_fork files p result).drives ≡ files.drives
fork-drives files p (done t) = refl
fork-drives files p (refused number) = refl
fork-drives files p (waits t) = refl
fork-drives files p (ends status) = refl

module _ (s : State) (now : TimePacket) (p : ℕ) (result : CallResult) (rest : Rest) where
  -- the files are others, and the drives have gained
  others-gain : (files : Files) → DrivesOnlyGain s.files.drives files.drives → rest ≡ with_files s files → RestGains s rest
  others-gain files drives is =
      subst (RestGains s) (sym is) (record { terminals = gain-same s.terms; drives = drives })

  loaded-gain : {reached : Option ℕ} (files after : Files) → LeavesFiles reached s.files result files → after.drives ≡ files.drives → rest ≡ with_files s after → RestGains s rest
  loaded-gain files after left same is =
      others-gain after (subst (DrivesOnlyGain s.files.drives) (sym same) (loads-gain s.files result files left.drives)) is

  path-gains : (call : PathCall) → DeviceAttempted call s.processes s.files p result rest.files s.terms rest.terms ⊎
      TouchesNoDevice call s.processes s.files now p result rest.files s.terms rest.terms ⊎ WaitsForRecord call s.processes
      s.files now p result rest.files s.terms rest.terms → RestGains s rest
  path-gains call (inl on) = record {
    terminals =
        gain-attempt on.device s.processes s.files.io rest.files.io (length s.files.drives) p result s.terms rest.terms on.attempted;
    drives = none-gains s.files.drives rest.files.drives on.none_failed;
  }
  path-gains call (inr (inl left)) = record {
    terminals = subst (TerminalsOnlyGain s.terms) (sym left.terminals) (gain-same s.terms);
    drives = volumes-gain s.files result rest.files left.volumes;
  }
  path-gains call (inr (inr waiting)) = record {
    terminals = subst (TerminalsOnlyGain s.terms) (sym waiting.terminals) (gain-same s.terms);
    drives = none-gains s.files.drives rest.files.drives waiting.none_failed;
  }

  serves-gain : (service : Service) → Serves service s now p result rest → RestGains s rest
  serves-gain loads (files, it, is) =
      loaded-gain files files (load-leaves s.processes (asker_of s.processes p now) s.files (length s.terms) p result files it) refl is
  serves-gain (on_processes Call.Fork) (files, it, is) =
      loaded-gain files (files_after_fork files p result) (fork-leaves s.processes (asker_of s.processes p now) s.files (length s.terms) p result files it) (fork-drives files p result) is
  serves-gain (on_processes Call.Chain) (files, it, is) =
      loaded-gain files files (chain-leaves s.processes (asker_of s.processes p now) s.files (length s.terms) p result files it) refl is
  serves-gain (on_processes call) it =
      others-gain (files_after_call s.files p result) (subst (DrivesOnlyGain s.files.drives) (sym (call-drives s.files p result)) (drives-same s.files.drives)) it.1
  serves-gain (on_time call) (clock, it, is) =
      subst (RestGains s) (sym is) (record { terminals = gain-same s.terms; drives = drives-same s.files.drives })
  serves-gain (on_paths call) (it, clock) =
      path-gains call (attempt-comes call s.processes s.files now p result rest.files s.terms rest.terms it)
  serves-gain no_call (refusal, is) =
      subst (RestGains s) (sym is) (record { terminals = gain-same s.terms; drives = drives-same s.files.drives })

-- ---- one event

instruction-gains : (files : Files) (p : ℕ) (outcome : Outcome) → DrivesOnlyGain files.drives (files_after_instruction files p outcome).drives
instruction-gains files p (Done effect) = drives-same files.drives
instruction-gains files p (Calls code regs) = drives-same files.drives
instruction-gains files p (Aborts status) = drives-same files.drives

delivery-gains : (files : Files) (p : ℕ) (outcome : Result Processes ℕ) → DrivesOnlyGain files.drives (files_after_delivery files p outcome).drives
delivery-gains files p (Ok t) = drives-same files.drives
delivery-gains files p (Err status) = drives-same files.drives

acts-gain : (act : Act) (s : State) (p : ℕ) (end : EventEnd) (t : State) → Acts act s p end t → OnlyGain s t
acts-gain executes s p end t (ending, is) = subst (OnlyGain s) (sym is) (record {
  terminals = gain-same s.terms;
  drives = instruction-gains s.files p (next_instruction s.processes p);
})
acts-gain (delivers signal) s p end t (ending, is) = subst (OnlyGain s) (sym is) (record {
  terminals = gain-same s.terms;
  drives = delivery-gains s.files p (delivered (before_delivery s p) p signal);
})
acts-gain (attempts code) s p end t (result, rest, (now, is_now, serves), ending, is) =
    let gained : RestGains s rest = serves-gain s now p result rest (service_of code) serves in
    subst (OnlyGain s) (sym is) (record { terminals = gained.terminals; drives = gained.drives })

pub event-gains : (s t : State) (end : EventEnd) → Event s end t → OnlyGain s t
event-gains s t end (p, chosen, lives, acts) = acts-gain (act_of s.processes p) s p end t acts

-- ---- slices and runs

choice-gains : (s t : State) → Choose s t → OnlyGain s t
choice-gains s t is =
    subst (OnlyGain s) (sym is) (record { terminals = gain-same s.terms; drives = drives-same s.files.drives })

-- the state whose terminals were emptied
emptied-gains : (m : State) → OnlyGain m (record m { terms = terminals_emptied m.terms })
emptied-gains m = record { terminals = gain-emptied m.terms; drives = drives-same m.files.drives }

abbrev Gains : State → List State → State → Type 0
Gains s states t = OnlyGain s t

carried : IsCarriedByMoves Gains
carried = record {
  events = record { none = λ s. gains-same s s refl; event = λ s m t end states event. gains-then s m t (event-gains s m end event) };
  tick = λ s m t states ticks. gains-then s m t (tick-gains s m ticks);
  choice = λ s m t states chooses. gains-then s m t (choice-gains s m chooses);
  emptied = λ m t states. gains-then m (record m { terms = terminals_emptied m.terms }) t (emptied-gains m);
}

pub slice-gains : (n : ℕ) (s t : State) (states : List State) (end : SliceEnd) → Slice n s states end t → OnlyGain s t
slice-gains = along-slice Gains carried

pub begun-gains : (n : ℕ) (s t : State) (states : List State) → BeginsSlice n s states t → OnlyGain s t
begun-gains = along-part Gains carried

pub run-gains : (slices written : List ℕ) (s t : State) (states : List State) → Run slices s states written t → OnlyGain s t
run-gains = along-run Gains carried
