-- What an attempt of a call leaves of the ends of the volumes: where no drive fails, where one does, and in each call.
use Rattle.std.proofs.Common.{◌≡◌, ℕ, Option, List, length, refl, ap, ◌∙◌, inl, inr, subst, sym}
use Rattle.std.specs.Prelude.{Some, slice_set}
use Rattle.os9_base.specs.declared.registers.TimePacket.{TimePacket}
use Rattle.os9_outer.specs.TerminalState.{TerminalState}
use Rattle.proc_model.specs.CallResult.{CallResult, done, refused, waits, ends}
use Rattle.proc_model.specs.Processes.{Processes}
use Rattle.proc_model.specs.declared.proc_call.ProcCall.TheVariants as Call
use Rattle.rbf_model.specs.Volume.{DiskVolume}
use Rattle.file_rules.specs.Attempts.{FileAttempts, asker_of, file_step}
use Rattle.file_rules.specs.Files.{Asker, Files}
use Rattle.file_rules.specs.Step.{Deed, DoesDeed, FileDoes, FileEffect, FileStep, GoesWell, IsBroken, MayBeLeft, as_io, changes, deed_of, drive_of, leaves_so}
use Rattle.file_rules.specs.declared.path_call.PathCall.{PathCall}
use Rattle.file_laws.proofs.TouchAttempts.{step-splits}
use Rattle.file_laws.proofs.Loads.{chain-leaves, fork-leaves, load-leaves}
use Rattle.file_laws.proofs.Splits.{Splits, StepSplits}
use Rattle.machine_model.specs.Services.{Serves, Service, files_after_call, files_after_fork, loads, no_call, on_paths, on_processes, on_time}
use Rattle.machine_model.specs.State.{Rest, State}
use Rattle.run_laws.specs.Ends.{KeepsVolumeEnds}
use Rattle.run_laws.proofs.Volumes.{Keep, ends-is, ends-left, ends-made, ends-same, keep-changed, keep-same}

-- ---- a call on paths, files and directories

abbrev volumes_in : FileEffect → List (Option DiskVolume)
volumes_in effect = effect.files.volumes

module _ (call : PathCall) (asker : Asker) (files : Files) (terms : ℕ) where
  -- where no drive fails
  deed-keeps : (reached : Option ℕ) (deed : Deed) (it : FileEffect) (before after : List TerminalState)
      → Splits call asker files terms reached deed → DoesDeed deed asker files it before after → Keep files.volumes
      it.files.volumes
  deed-keeps reached (leaves_so effect) it before after (inl left) (is, same) =
      keep-same files.volumes it.files.volumes (ap volumes_in is ∙ left.volumes)
  deed-keeps reached (leaves_so effect) it before after (inr (inl device)) (is, same) =
      keep-same files.volumes it.files.volumes (ap volumes_in is ∙ ap volumes_in device.same)
  deed-keeps reached (leaves_so effect) it before after (inr (inr waiting)) (is, same) =
      keep-same files.volumes it.files.volumes (ap volumes_in is ∙ ap volumes_in waiting.same)
  deed-keeps reached (as_io step) it before after splits (io, does, is) =
      keep-same files.volumes it.files.volumes (ap volumes_in is)
  deed-keeps reached (changes one) it before after answers (inl changed, same) =
      keep-changed files.volumes one.drive changed.old changed.new changed.is (ends-made changed.old changed.new one.change asker.user asker.now changed.number changed.makes) it.files.volumes
      (ap volumes_in changed.effect_is ∙ ap (λ (volumes : List (Option DiskVolume)). slice_set volumes one.drive (Some changed.new)) (answers.left changed.number).volumes)
  deed-keeps reached (changes one) it before after answers (inr long, same) =
      keep-same files.volumes it.files.volumes (ap volumes_in long.effect_is)

  -- what a fault leaves
  fault-keeps : (deed : Deed) (old left : DiskVolume) → MayBeLeft deed asker old left → KeepsVolumeEnds old left
  fault-keeps (leaves_so it) old left is = ends-is old old left is (ends-same old)
  fault-keeps (as_io step) old left is = ends-is old old left is (ends-same old)
  fault-keeps (changes it) old left may_be = ends-left old left it.change asker.user asker.now may_be

  module _ (step : FileStep) (effect : FileEffect) (before after : List TerminalState) where
    well-keeps : StepSplits call asker files terms step → GoesWell step asker files effect before after → Keep files.volumes effect.files.volumes
    well-keeps splits well =
        subst (Keep files.volumes) (sym (ap volumes_in well.effect_is)) (deed-keeps (drive_of step) (deed_of step files) well.it before after splits well.does)

    broken-keeps : IsBroken step asker files effect → Keep files.volumes effect.files.volumes
    broken-keeps broken =
        keep-changed files.volumes broken.drive broken.old broken.left broken.is (fault-keeps (deed_of step files)
        broken.old broken.left broken.may_be) effect.files.volumes (ap volumes_in broken.effect_is)

    does-keeps : StepSplits call asker files terms step → FileDoes step asker files effect before after → Keep files.volumes effect.files.volumes
    does-keeps splits (inl well) = well-keeps splits well
    does-keeps splits (inr (broken, same)) = broken-keeps broken

pub path-keeps : (call : PathCall) (processes : Processes) (files : Files) (now : TimePacket) (p : ℕ) (result : CallResult)
    (new : Files) (before after : List TerminalState) → FileAttempts call processes files now p result new before after
    → Keep files.volumes new.volumes
path-keeps call processes files now p result new before after it =
    let asker : Asker = asker_of processes p now in
    subst (λ (new : Files). Keep files.volumes new.volumes) (sym it.state)
    (does-keeps call asker files (length before) (file_step call asker files (length before)) it.effect before after (step-splits call asker files (length before)) it.does)

-- ---- every call

call-volumes : (files : Files) (p : ℕ) (result : CallResult) → (files_after_call files p result).volumes ≡ files.volumes
call-volumes files p (done t) = refl
call-volumes files p (refused number) = refl
call-volumes files p (waits t) = refl
call-volumes files p (ends status) = refl

fork-volumes : (files : Files) (p : ℕ) (result : CallResult) → (files_after_fork files p result).volumes ≡ files.volumes
fork-volumes files p (done t) = refl
fork-volumes files p (refused number) = refl
fork-volumes files p (waits t) = refl
fork-volumes files p (ends status) = refl

module _ (s : State) (now : TimePacket) (p : ℕ) (result : CallResult) (rest : Rest) where
  stays : rest.files.volumes ≡ s.files.volumes → Keep s.files.volumes rest.files.volumes
  stays is = keep-same s.files.volumes rest.files.volumes is

  abbrev volumes_of : Rest → List (Option DiskVolume)
  volumes_of rest = rest.files.volumes

  pub serves-keeps : (service : Service) → Serves service s now p result rest → Keep s.files.volumes rest.files.volumes
  serves-keeps loads (files, it, is) =
      stays (ap volumes_of is ∙ (load-leaves s.processes (asker_of s.processes p now) s.files (length s.terms) p result files it).volumes)
  serves-keeps (on_processes Call.Fork) (files, it, is) =
      stays (ap volumes_of is ∙ fork-volumes files p result ∙ (fork-leaves s.processes (asker_of s.processes p now) s.files (length s.terms) p result files it).volumes)
  serves-keeps (on_processes Call.Chain) (files, it, is) =
      stays (ap volumes_of is ∙ (chain-leaves s.processes (asker_of s.processes p now) s.files (length s.terms) p result files it).volumes)
  serves-keeps (on_processes call) it = stays (ap volumes_of it.1 ∙ call-volumes s.files p result)
  serves-keeps (on_time call) (clock, it, is) = stays (ap volumes_of is)
  serves-keeps (on_paths call) (it, clock) =
      path-keeps call s.processes s.files now p result rest.files s.terms rest.terms it
  serves-keeps no_call (refusal, is) = stays (ap volumes_of is)
