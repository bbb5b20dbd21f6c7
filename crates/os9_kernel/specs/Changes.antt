-- Events that ask for a change of the volume in a drive, and what all others leave of its image (System Programmer's
-- Manual, "I/O service requests").
use Rattle.std.specs.Prelude.{◌≡◌, ℕ, Some, List, ◌∷◌, ◌++◌, length}
use Rattle.os9_base.specs.declared.registers.TimePacket.{TimePacket}
use Rattle.proc_model.specs.Ready.{attempts, act_of}
use Rattle.file_drives.specs.Drives.{DriveView, media_at}
use Rattle.file_rules.specs.Attempts.{asker_of, file_step}
use Rattle.file_rules.specs.Step.{FileStep, VolumeChange, changes, deed_of, drive_of}
use Rattle.file_rules.specs.declared.path_call.PathCall.{PathCall}
use Rattle.time_rules.specs.Clock.{IsNow}
use Rattle.machine_model.specs.declared.ends.EventEnd.{EventEnd}
use Rattle.machine_model.specs.Event.{Event}
use Rattle.machine_model.specs.Services.{on_paths, service_of}
use Rattle.machine_model.specs.State.{State}
use Rattle.os9_kernel.specs.Outside.{Outside}
use Rattle.os9_kernel.specs.Tie.{Represents}
use Rattle.os9_kernel.specs.declared.kernel.Kernel.{Kernel}

-- the next event of the chosen process attempts a call that reaches this drive and asks for a change of its volume
pub record AsksToChange (drive : ℕ) (s : State) : Type 0 where
  pub p : ℕ
  pub chosen : s.chosen ≡ Some p
  pub code : ℕ
  pub act : act_of s.processes p ≡ attempts code
  pub call : PathCall
  pub serves : service_of code ≡ on_paths call
  pub now : TimePacket
  pub is_now : IsNow s.clock s.processes.tick now
  pub step : FileStep
  pub step_is : step ≡ file_step call (asker_of s.processes p now) s.files (length s.terms)
  pub reached : drive_of step ≡ Some drive
  pub change : VolumeChange
  pub deed : deed_of step s.files ≡ changes change

-- from each state that a kernel represents: the image in a drive is unchanged if the next event does not ask for a
-- change of its volume
abbrev pub KeepsUnasked : Kernel → Outside → Outside → Type 0
KeepsUnasked old before after =
    (s : State) (drive : ℕ) → Represents old before s → ¬ AsksToChange drive s
    → media_at after.drives drive ≡ media_at before.drives drive

-- ---- of many events

-- Events left these states, and one of them began in this one: first the states that lead to it, and then the state to
-- which the event leads.
pub record BeginsEventAt (leads : List State → State → Type 0) (states : List State) (at : State) : Type 0 where
  pub first : List State
  pub there : leads first at
  pub next : State
  pub end : EventEnd
  pub event : Event at end next
  pub later : List State
  pub all : states ≡ first ++ (next ∷ later)

-- none of them asks for a change of the volume in this drive
abbrev pub NoneAsks : (List State → State → Type 0) → List State → ℕ → Type 0
NoneAsks leads states drive = (at : State) → BeginsEventAt leads states at → ¬ AsksToChange drive at

-- the image in a drive is unchanged if none of them asks for a change of its volume
abbrev pub KeepsImages : (List State → State → Type 0) → List State → List DriveView → List DriveView → Type 0
KeepsImages leads states before after =
    (drive : ℕ) → NoneAsks leads states drive → media_at after drive ≡ media_at before drive
