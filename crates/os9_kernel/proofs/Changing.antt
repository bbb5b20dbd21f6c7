-- What events leave of the images in the drives.
use Rattle.std.proofs.Common.{◌≡◌, ◌≢◌, ◌⊎◌, ℕ, Option, Some, None, List, ◌∷◌, ◌++◌, length, refl, sym, ap, ◌∙◌, inl, inr, append_assoc}
use Rattle.std.proofs.lemmas.Bool.Decides.{eqb_tells}
use Rattle.std.proofs.lemmas.Option.{none-some, same_Some}
use Rattle.os9_base.specs.declared.call.CallEnd.{CallEnd}
use Rattle.os9_base.specs.declared.registers.Pid.{Pid}
use Rattle.os9_base.specs.declared.registers.TimePacket.{TimePacket}
use Rattle.os9_outer.specs.TerminalState.{TerminalState}
use Rattle.file_drives.specs.Drives.{DriveView, media_at, media_of}
use Rattle.file_rules.specs.Attempts.{asker_of, file_step}
use Rattle.file_rules.specs.Files.{Asker, Files}
use Rattle.file_rules.specs.Step.{Deed, FileStep, VolumeChange, as_io, changes, deed_of, drive_of, leaves_so}
use Rattle.file_rules.specs.declared.path_call.PathCall.{PathCall}
use Rattle.file_state.proofs.MediaLemmas.{media-of_same, media-same}
use Rattle.file_state.specs.Media.{KeepsDrives, MediaAfter}
use Rattle.time_rules.specs.Clock.{IsNow}
use Rattle.machine_model.specs.declared.ends.EventEnd.{EventEnd}
use Rattle.machine_model.specs.Event.{Event}
use Rattle.machine_model.specs.Services.{on_paths, service_of}
use Rattle.machine_model.specs.State.{State}
use Rattle.os9_kernel.specs.Changes.{AsksToChange, BeginsEventAt, KeepsImages, KeepsUnasked, NoneAsks}
use Rattle.os9_kernel.specs.Next.{DoesNext}
use Rattle.os9_kernel.specs.Outside.{Outside}
use Rattle.os9_kernel.specs.Tie.{Represents}
use Rattle.os9_kernel.specs.declared.act.Act.TheVariants.{Attempt}
use Rattle.os9_kernel.specs.declared.kernel.Kernel.{Kernel}
use Rattle.os9_kernel.proofs.Acting.{acts-so, chosen-is, terms-are}

-- ---- one event

-- all media are as they were
pub keeps-media : (old : Kernel) (before after : Outside) → media_of after.drives ≡ media_of before.drives → KeepsUnasked old before after
keeps-media old before after same s drive tied unasked = media-same before.drives after.drives drive same

pub keeps-drives : (old : Kernel) (before after : Outside) → after.drives ≡ before.drives → KeepsUnasked old before after
keeps-drives old before after same = keeps-media old before after (ap media_of same)

reaches-or-not : (reached : Option ℕ) (drive : ℕ) → (reached ≡ Some drive) ⊎ (reached ≢ Some drive)
reaches-or-not None drive = inr (λ is. none-some drive is)
reaches-or-not (Some other) drive =
    elim (eqb_tells other drive) [ inl same ↦ inl (ap Some same.1) | inr apart ↦ inr (λ is. apart.1 (same_Some other drive is)) ]

-- a step that asks for no change of the volume in a drive
keeps-step : (step : FileStep) (asker : Asker) (files : Files) (end : CallEnd) (before after : List DriveView) (drive : ℕ) → KeepsDrives step asker files end before after
    → ((change : VolumeChange) → drive_of step ≡ Some drive → deed_of step files ≡ changes change → ⊥) → media_at after drive ≡ media_at before drive
keeps-step step asker files end before after drive kept unasked =
    elim (reaches-or-not (drive_of step) drive) [
      | inl reached ↦ by_deed (deed_of step files) kept.media (λ change is. unasked change reached is)
      | inr other ↦ media-of_same before after drive (kept.others drive other)
    ]
  where
    by_deed : (deed : Deed) → MediaAfter deed asker files end before after → ((change : VolumeChange) → deed ≡ changes change → ⊥) → media_at after drive ≡ media_at before drive
    by_deed (leaves_so it) same none = media-same before after drive same
    by_deed (as_io step) same none = media-same before after drive same
    by_deed (changes it) left none = absurd (none it refl)

-- an attempt of a call on a path
module _ (old : Kernel) (p : Pid) (code : ℕ) (next : DoesNext old p (Attempt code)) (before : Outside) (s : State)
    (tied : Represents old before s) (call : PathCall) (serves : service_of code ≡ on_paths call) (now : TimePacket)
    (is_now : IsNow s.clock s.processes.tick now) where
  abbrev step : FileStep
  step = file_step call (asker_of s.processes p.0 now) s.files (length before.terms)

  asks : (drive : ℕ) (change : VolumeChange) → drive_of step ≡ Some drive → deed_of step s.files ≡ changes change → AsksToChange drive s
  asks drive change reached deed = record {
    p = p.0;
    chosen = chosen-is old p (Attempt code) next before s tied;
    code = code;
    act = acts-so old p (Attempt code) next before s tied;
    call = call;
    serves = serves;
    now = now;
    is_now = is_now;
    step = step;
    step_is = ap (λ (terms : List TerminalState). file_step call (asker_of s.processes p.0 now) s.files (length terms)) (sym (terms-are old p (Attempt code) next before s tied));
    reached = reached;
    change = change;
    deed = deed;
  }

  pub keeps-attempt : (end : CallEnd) (after : Outside) (drive : ℕ) → KeepsDrives step (asker_of s.processes p.0 now) s.files end before.drives after.drives → ¬ AsksToChange drive s
      → media_at after.drives drive ≡ media_at before.drives drive
  keeps-attempt end after drive kept unasked =
      keeps-step step (asker_of s.processes p.0 now) s.files end before.drives after.drives drive kept (λ change reached deed. unasked (asks drive change reached deed))

-- ---- many events

-- none has happened yet
pub keeps-none : (leads : List State → State → Type 0) (states : List State) (views : List DriveView) → KeepsImages leads states views views
keeps-none leads states views drive none = refl

-- one that began among the first began among all
begins-more : (leads : List State → State → Type 0) (states more : List State) (at : State) → BeginsEventAt leads states at → BeginsEventAt leads (states ++ more) at
begins-more leads states more at it = record {
  first = it.first;
  there = it.there;
  next = it.next;
  end = it.end;
  event = it.event;
  later = it.later ++ more;
  all = ap (λ states. states ++ more) it.all ∙ append_assoc it.first (it.next ∷ it.later) more;
}

pub none-before : (leads : List State → State → Type 0) (states more : List State) (drive : ℕ) → NoneAsks leads (states ++ more) drive → NoneAsks leads states drive
none-before leads states more drive none at it = none at (begins-more leads states more at it)

-- events more, the first of which begins here
pub keeps-more : (leads : List State → State → Type 0) (states : List State) (m next : State) (end : EventEnd) (later : List State) (before mid after : List DriveView) → leads states m
    → Event m end next → KeepsImages leads states before mid → ((drive : ℕ) → ¬ AsksToChange drive m → media_at after drive ≡ media_at mid drive)
    → KeepsImages leads (states ++ (next ∷ later)) before after
keeps-more leads states m next end later before mid after there event so_far keeps drive none =
    keeps drive (none m (record { first = states; there = there; next = next; end = end; event = event; later = later; all = refl }))
    ∙ so_far drive (none-before leads states (next ∷ later) drive none)

-- the same events, to which another relation leads
pub keeps-by : (leads by : List State → State → Type 0) (states : List State) (before after : List DriveView) → ((first : List State) (at : State) → leads first at → by first at)
    → KeepsImages leads states before after → KeepsImages by states before after
keeps-by leads by states before after then keeps drive none =
    keeps drive (λ at it. none at (record { first = it.first; there = then it.first at it.there; next = it.next; end = it.end; event = it.event; later = it.later; all = it.all }))
