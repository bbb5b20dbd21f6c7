-- Without volumes no attempt takes clusters, and no event, tick or choice mounts one.
use Rattle.std.proofs.Common.{◌≡◌, ◌⊎◌, ℕ, Option, Some, None, Result, Ok, Err, List, length, refl, sym, ap, ◌∙◌, subst, inl, inr}
use Rattle.std.proofs.lemmas.Option.{none-some}
use Rattle.os9_base.specs.declared.registers.TimePacket.{TimePacket}
use Rattle.std.specs.Prelude.{slice_index_or}
use Rattle.rbf_model.specs.Volume.{DiskVolume}
use Rattle.proc_model.specs.CallResult.{CallResult, done, ends, refused, waits}
use Rattle.proc_model.specs.Delivery.{delivered}
use Rattle.proc_model.specs.Processes.{Processes}
use Rattle.proc_model.specs.Ready.{Act, attempts, delivers, executes, act_of}
use Rattle.proc_model.specs.declared.proc_call.ProcCall.TheVariants as Call
use Rattle.cpu_model.specs.Step.{Outcome, Done, Calls, Aborts}
use Rattle.file_rules.specs.Attempts.{asker_of, file_step}
use Rattle.file_rules.specs.Files.{Files, volume_at}
use Rattle.file_rules.specs.Step.{Deed, as_io, changes, deed_of, leaves_so}
use Rattle.machine_model.specs.ProcessEvent.{next_instruction}
use Rattle.machine_model.specs.declared.ends.EventEnd.{EventEnd}
use Rattle.file_laws.specs.Devices.{DeviceAttempted}
use Rattle.file_laws.specs.Touch.{TouchesNoDevice, NoVolumeChanges, OneDriveFails, OneVolumeChanges, WaitsForRecord}
use Rattle.file_laws.proofs.TouchAttempts.{attempt-comes}
use Rattle.file_laws.proofs.Loads.{chain-leaves, fork-leaves, load-leaves}
use Rattle.machine_model.specs.Event.{Acts, Event, before_delivery, files_after_delivery, files_after_instruction}
use Rattle.machine_model.specs.Run.{Choose, Tick}
use Rattle.machine_model.specs.Services.{Service, Serves, files_after_call, files_after_fork, loads, no_call, on_paths, on_processes, on_time, service_of, with_files}
use Rattle.machine_model.specs.State.{Rest, State}
use Rattle.run_laws.specs.Faults.{HasNoVolumes, MayChoose}

-- no volume is mounted in these files
abbrev Bare : Files → Type 0
Bare files = (drive : ℕ) → volume_at files drive ≡ None

-- ---- no attempt takes clusters

pub never-chooses : (s : State) → HasNoVolumes s → MayChoose s → ⊥
never-chooses s bare it = none-some it.deed.taken.old (sym (bare it.deed.it.drive) ∙ it.deed.taken.mounted)

-- ---- no volume is mounted

bare-same : (old new : Files) → new.volumes ≡ old.volumes → Bare old → Bare new
bare-same old new same bare drive =
    ap (λ (volumes : List (Option DiskVolume)). slice_index_or volumes drive None) same ∙ bare drive

bare-volumes : {reached : Option ℕ} (old : Files) (result : CallResult) (new : Files) → NoVolumeChanges old new ⊎
    OneVolumeChanges reached old new ⊎ OneDriveFails reached old result new → Bare old → Bare new
bare-volumes old result new (inl stay) bare = bare-same old new stay.volumes bare
bare-volumes old result new (inr (inl one)) bare = absurd (none-some one.old (sym (bare one.drive) ∙ one.was))
bare-volumes old result new (inr (inr fails)) bare = absurd (none-some fails.old (sym (bare fails.drive) ∙ fails.was))

fork-volumes : (files : Files) (p : ℕ) (result : CallResult) → (files_after_fork files p result).volumes ≡ files.volumes
fork-volumes files p (done t) = refl
fork-volumes files p (refused number) = refl
fork-volumes files p (waits t) = refl
fork-volumes files p (ends status) = refl

call-volumes : (files : Files) (p : ℕ) (result : CallResult) → (files_after_call files p result).volumes ≡ files.volumes
call-volumes files p (done t) = refl
call-volumes files p (refused number) = refl
call-volumes files p (waits t) = refl
call-volumes files p (ends status) = refl

module _ (s : State) (now : TimePacket) (p : ℕ) (result : CallResult) (rest : Rest) (bare : HasNoVolumes s) where
  left-bare : (files : Files) → files.volumes ≡ s.files.volumes → rest ≡ with_files s files → Bare rest.files
  left-bare files same is = subst (λ (rest : Rest). Bare rest.files) (sym is) (bare-same s.files files same bare)

  serves-bare : (service : Service) → Serves service s now p result rest → Bare rest.files
  serves-bare loads (files, it, is) =
      left-bare files (load-leaves s.processes (asker_of s.processes p now) s.files (length s.terms) p result files it).volumes is
  serves-bare (on_processes Call.Fork) it =
      left-bare (files_after_fork it.0 p result) (fork-volumes it.0 p result ∙ (fork-leaves s.processes (asker_of s.processes p now) s.files (length s.terms) p result it.0 it.1).volumes) it.2
  serves-bare (on_processes Call.Chain) it =
      left-bare it.0 (chain-leaves s.processes (asker_of s.processes p now) s.files (length s.terms) p result it.0 it.1).volumes it.2
  serves-bare (on_processes call) it = left-bare (files_after_call s.files p result) (call-volumes s.files p result) it.1
  serves-bare (on_time call) (clock, it, is) = subst (λ (rest : Rest). Bare rest.files) (sym is) bare
  serves-bare (on_paths call) (it, clock) =
      by_case (attempt-comes call s.processes s.files now p result rest.files s.terms rest.terms it)
    where
      by_case : DeviceAttempted call s.processes s.files p result rest.files s.terms rest.terms ⊎ TouchesNoDevice call s.processes
          s.files now p result rest.files s.terms rest.terms ⊎ WaitsForRecord call s.processes s.files now p result
          rest.files s.terms rest.terms → Bare rest.files
      by_case (inl on) = bare-same s.files rest.files on.volumes bare
      by_case (inr (inl left)) = bare-volumes s.files result rest.files left.volumes bare
      by_case (inr (inr waiting)) = bare-same s.files rest.files waiting.volumes bare
  serves-bare no_call (refusal, is) = subst (λ (rest : Rest). Bare rest.files) (sym is) bare

instruction-bare : (files : Files) (p : ℕ) (outcome : Outcome) → Bare files → Bare (files_after_instruction files p outcome)
instruction-bare files p (Done effect) bare = bare
instruction-bare files p (Calls code regs) bare = bare
instruction-bare files p (Aborts status) bare = bare

delivery-bare : (files : Files) (p : ℕ) (outcome : Result Processes ℕ) → Bare files → Bare (files_after_delivery files p outcome)
delivery-bare files p (Ok t) bare = bare
delivery-bare files p (Err status) bare = bare

acts-bare : (act : Act) (s : State) (p : ℕ) (end : EventEnd) (t : State) → Acts act s p end t → HasNoVolumes s → HasNoVolumes t
acts-bare executes s p end t (ending, is) bare =
    subst HasNoVolumes (sym is) (instruction-bare s.files p (next_instruction s.processes p) bare)
acts-bare (delivers signal) s p end t (ending, is) bare =
    subst HasNoVolumes (sym is) (delivery-bare s.files p (delivered (before_delivery s p) p signal) bare)
acts-bare (attempts code) s p end t (result, rest, (now, is_now, serves), ending, is) bare =
    subst HasNoVolumes (sym is) (serves-bare s now p result rest bare (service_of code) serves)

pub event-bare : (s t : State) (end : EventEnd) → Event s end t → HasNoVolumes s → HasNoVolumes t
event-bare s t end (p, chosen, lives, acts) bare = acts-bare (act_of s.processes p) s p end t acts bare

pub tick-bare : (s t : State) → Tick s t → HasNoVolumes s → HasNoVolumes t
tick-bare s t (desk, arrives, is) bare = subst HasNoVolumes (sym is) bare

pub choice-bare : (s t : State) → Choose s t → HasNoVolumes s → HasNoVolumes t
choice-bare s t is bare = subst HasNoVolumes (sym is) bare
