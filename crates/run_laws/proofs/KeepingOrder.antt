-- Events, ticks and choices keep each mounted volume in order.
use Rattle.std.proofs.Common.{◌≡◌, ◌⊎◌, ℕ, Option, Some, None, Result, Ok, Err, List, length, refl, sym, ap, ◌∙◌, subst, inl, inr}
use Rattle.std.specs.Prelude.{slice_index_or, slice_set}
use Rattle.std.proofs.lemmas.Bool.{cases_eq}
use Rattle.std.proofs.lemmas.Option.{same_Some}
use Rattle.os9_base.specs.declared.registers.TimePacket.{TimePacket}
use Rattle.os9_outer.specs.TerminalState.{TerminalState}
use Rattle.cpu_model.specs.Step.{Aborts, Calls, Done, Outcome}
use Rattle.rbf_model.specs.Volume.{DiskVolume}
use Rattle.proc_model.specs.CallResult.{CallResult, done, ends, refused, waits}
use Rattle.proc_model.specs.Delivery.{delivered}
use Rattle.proc_model.specs.Processes.{Processes}
use Rattle.proc_model.specs.Ready.{Act, act_of, attempts, delivers, executes}
use Rattle.proc_model.specs.declared.proc_call.ProcCall.TheVariants as Call
use Rattle.file_rules.specs.Attempts.{asker_of, file_step, files_after}
use Rattle.file_rules.specs.Files.{Asker, DriveState, Files, volume_at, with_drives, with_volume}
use Rattle.file_rules.specs.Step.{Deed, DoesDeed, FileDoes, FileEffect, MayBeLeft, as_io, changes, deed_of, drive_of, leaves_so, on_files}
use Rattle.file_rules.specs.declared.path_call.PathCall.{PathCall}
use Rattle.file_laws.specs.Kinds.{AreKinds}
use Rattle.file_laws.proofs.Kept.{volume-new, volume-other}
use Rattle.file_laws.proofs.TouchAttempts.{step-splits}
use Rattle.file_laws.proofs.Loads.{chain-leaves, fork-leaves, load-leaves}
use Rattle.file_laws.proofs.Splits.{Splits}
use Rattle.machine_model.specs.ProcessEvent.{next_instruction}
use Rattle.machine_model.specs.declared.ends.EventEnd.{EventEnd}
use Rattle.machine_model.specs.Event.{Acts, Event, before_delivery, files_after_delivery, files_after_instruction}
use Rattle.machine_model.specs.Run.{Choose, Tick}
use Rattle.machine_model.specs.Services.{Serves, Service, files_after_call, files_after_fork, loads, no_call, on_paths, on_processes, on_time, service_of}
use Rattle.machine_model.specs.State.{Rest, State}
use Rattle.run_laws.specs.Mounted.{CanGo}
use Rattle.run_laws.proofs.Keeping.{ends-volumes}
use Rattle.run_laws.specs.InOrder.{AreInOrder, IsInOrder}
use Rattle.run_laws.proofs.Ordered.{order-left, order-made}
use Rattle.run_laws.proofs.Plain.{IsPlain, step-plain}

-- ---- volumes of a state

order-same : (files new : Files) → new.volumes ≡ files.volumes → AreInOrder files → AreInOrder new
order-same files new volumes order drive v is =
    order drive v (sym (ap (λ (volumes : List (Option DiskVolume)). slice_index_or volumes drive None) volumes) ∙ is)

order-set : (files new : Files) (drive : ℕ) (old left : DiskVolume) → volume_at files drive ≡ Some old → new.volumes ≡ slice_set files.volumes drive (Some left) → IsInOrder left
    → AreInOrder files → AreInOrder new
order-set files new drive old left is volumes now order other v there = by_drive (cases_eq other drive)
  where
    at : volume_at new other ≡ volume_at (with_volume files drive left) other
    at = ap (λ (volumes : List (Option DiskVolume)). slice_index_or volumes other None) volumes

    by_drive : (other ≡ drive) ⊎ (other ≡ drive → ⊥) → IsInOrder v
    by_drive (inl same) =
        subst IsInOrder (same_Some left v (sym (volume-new files drive old left is) ∙ sym (ap (volume_at (with_volume files drive left)) same) ∙ sym at ∙ there)) now
    by_drive (inr apart) = order other v (sym (volume-other files drive old left is other apart) ∙ sym at ∙ there)

-- ---- an attempt of a call on paths, files and directories

module _ (call : PathCall) (asker : Asker) (files : Files) (kinds : AreKinds files) (order : AreInOrder files) (old new : List TerminalState) where
  deed-order : (reached : Option ℕ) (deed : Deed) (it : FileEffect) (drives : List DriveState) → Splits call asker files (length old) reached deed → IsPlain asker files deed
      → DoesDeed deed asker files it old new → AreInOrder (with_drives it.files drives)
  deed-order reached (leaves_so effect) it drives left plain (is, same) =
      subst (λ (it : FileEffect). AreInOrder (with_drives it.files drives)) (sym is) (order-same files (with_drives effect.files drives) (ends-volumes call asker files (length old) effect left) order)
  deed-order reached (as_io step) it drives on plain (effect, does, is) =
      subst (λ (it : FileEffect). AreInOrder (with_drives it.files drives)) (sym is) (order-same files (with_drives (on_files asker.caller.process.0 files effect).files drives) refl order)
  deed-order reached (changes change) it drives answers plain (inl changed, same) =
      subst (λ (it : FileEffect). AreInOrder (with_drives it.files drives)) (sym changed.effect_is)
      (order-set files (with_drives (with_volume (change.effect changed.number).files change.drive changed.new) drives) change.drive changed.old changed.new changed.is
      (ap (λ (volumes : List (Option DiskVolume)). slice_set volumes change.drive (Some changed.new)) (answers.left changed.number).volumes)
      (order-made changed.old changed.new (order change.drive changed.old changed.is) change.change asker.user asker.now changed.number (kinds.clusters change.drive changed.old changed.is)
      (plain changed.old changed.is) changed.makes) order)
  deed-order reached (changes change) it drives answers plain (inr long, same) =
      subst (λ (it : FileEffect). AreInOrder (with_drives it.files drives)) (sym long.effect_is) (order-same files (with_drives files drives) refl order)

  -- what a fault leaves on the drive that was reached; a change is of the volume in it
  left-order : (drive : ℕ) (deed : Deed) (was left : DiskVolume) → Splits call asker files (length old) (Some drive) deed → IsPlain asker files deed → volume_at files drive ≡ Some was
      → MayBeLeft deed asker was left → IsInOrder left
  left-order drive (leaves_so effect) was left splits plain is it = subst IsInOrder (sym it) (order drive was is)
  left-order drive (as_io step) was left splits plain is it = subst IsInOrder (sym it) (order drive was is)
  left-order drive (changes change) was left answers plain is it =
      let same : drive ≡ change.drive = same_Some drive change.drive answers.reaches in
      order-left was left (order drive was is) change.change asker.user asker.now (plain was (sym (ap (volume_at files) same) ∙ is)) it

  pub does-order : (effect : FileEffect) → FileDoes (file_step call asker files (length old)) asker files effect old new → AreInOrder effect.files
  does-order effect (inl well) =
      subst (λ (effect : FileEffect). AreInOrder effect.files) (sym well.effect_is)
      (deed-order (drive_of (file_step call asker files (length old))) (deed_of (file_step call asker files (length old)) files) well.it well.drives
      (step-splits call asker files (length old)) (step-plain asker files (length old) call) well.does)
  does-order effect (inr (broken, same)) =
      let deed = deed_of (file_step call asker files (length old)) files in
      let splits : Splits call asker files (length old) (Some broken.drive) deed =
      subst (λ (reached : Option ℕ). Splits call asker files (length old) reached deed) broken.reached (step-splits call asker files (length old)) in
      subst (λ (effect : FileEffect). AreInOrder effect.files) (sym broken.effect_is)
      (order-set files (with_drives (with_volume files broken.drive broken.left) broken.drives) broken.drive broken.old broken.left broken.is refl
      (left-order broken.drive deed broken.old broken.left splits (step-plain asker files (length old) call) broken.is broken.may_be) order)

-- ---- an attempt of every call

module _ (files : Files) (p : ℕ) (order : AreInOrder files) where
  after-instruction : (outcome : Outcome) → AreInOrder (files_after_instruction files p outcome)
  after-instruction (Done effect) = order
  after-instruction (Calls code regs) = order
  after-instruction (Aborts status) = order-same files (files_after_instruction files p (Aborts status)) refl order

  after-delivery : (result : Result Processes ℕ) → AreInOrder (files_after_delivery files p result)
  after-delivery (Ok t) = order-same files (files_after_delivery files p (Ok t)) refl order
  after-delivery (Err status) = order-same files (files_after_delivery files p (Err status)) refl order

  after-call : (result : CallResult) → AreInOrder (files_after_call files p result)
  after-call (done t) = order
  after-call (refused number) = order
  after-call (waits t) = order
  after-call (ends status) = order-same files (files_after_call files p (ends status)) refl order

  after-fork : (result : CallResult) → AreInOrder (files_after_fork files p result)
  after-fork (done t) = order-same files (files_after_fork files p (done t)) refl order
  after-fork (refused number) = order
  after-fork (waits t) = order
  after-fork (ends status) = order

module _ (s : State) (p : ℕ) (can : CanGo s) (order : AreInOrder s.files) (now : TimePacket) where
  by-rest : (rest with : Rest) → rest ≡ with → AreInOrder with.files → AreInOrder rest.files
  by-rest rest with is order = subst (λ (rest : Rest). AreInOrder rest.files) (sym is) order

  serves-order : (service : Service) (result : CallResult) (rest : Rest) → Serves service s now p result rest → AreInOrder rest.files
  serves-order loads result rest (files, it, is) =
      by-rest rest _ is (order-same s.files files (load-leaves s.processes (asker_of s.processes p now) s.files (length s.terms) p result files it).volumes order)
  serves-order (on_processes Call.Fork) result rest (files, it, is) =
      by-rest rest _ is (after-fork files p (order-same s.files files (fork-leaves s.processes (asker_of s.processes p now) s.files (length s.terms) p result files it).volumes order) result)
  serves-order (on_processes Call.Chain) result rest (files, it, is) =
      by-rest rest _ is (order-same s.files files (chain-leaves s.processes (asker_of s.processes p now) s.files (length s.terms) p result files it).volumes order)
  serves-order (on_processes call) result rest it = by-rest rest _ it.1 (after-call s.files p order result)
  serves-order (on_time call) result rest (clock, it, is) = by-rest rest _ is order
  serves-order (on_paths call) result rest (it, same) =
      subst AreInOrder (sym it.state)
      (order-same it.effect.files (files_after p it.effect) refl (does-order call (asker_of s.processes p now) s.files can.running.kinds order s.terms rest.terms it.effect it.does))
  serves-order no_call result rest (result_is, is) = by-rest rest _ is order

-- ---- events, ticks and choices

acts-order : (act : Act) (s : State) (p : ℕ) (end : EventEnd) (t : State) → CanGo s → AreInOrder s.files → Acts act s p end t → AreInOrder t.files
acts-order executes s p end t can order (over, is) =
    subst (λ (t : State). AreInOrder t.files) (sym is) (after-instruction s.files p order (next_instruction s.processes p))
acts-order (delivers signal) s p end t can order (over, is) =
    subst (λ (t : State). AreInOrder t.files) (sym is) (after-delivery s.files p order (delivered (before_delivery s p) p signal))
acts-order (attempts code) s p end t can order (result, rest, (now, is_now, it), over, is) =
    subst (λ (t : State). AreInOrder t.files) (sym is) (serves-order s p can order now (service_of code) result rest it)

pub event-order : (s t : State) (end : EventEnd) → Event s end t → CanGo s → AreInOrder s.files → AreInOrder t.files
event-order s t end (p, chosen, lives, acts) can order = acts-order (act_of s.processes p) s p end t can order acts

pub tick-order : (s t : State) → Tick s t → AreInOrder s.files → AreInOrder t.files
tick-order s t (desk, arrives, is) order =
    order-same s.files t.files (ap (λ (t : State). t.files.volumes) is) order

pub choice-order : (s t : State) → Choose s t → AreInOrder s.files → AreInOrder t.files
choice-order s t is order = subst (λ (t : State). AreInOrder t.files) (sym is) order
