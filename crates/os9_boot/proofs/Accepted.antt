-- A boot of which all is accepted is one run of the machine.
use Rattle.std.proofs.Common.{◌≡◌, ℕ, zero, suc, Bool, true, false, Option, Some, Result, Ok, Err, List, [], ◌∷◌, length, slice_get, sym, ◌∙◌, ap, subst, inl, inr, All}
use Rattle.std.proofs.lemmas.List.Elements.{All-head, All-tail}
use Rattle.std.proofs.lemmas.Option.{none-some, same_Some}
use Rattle.std.specs.Prelude.{IfSome, MatchOption, if◌then◌else◌}
use Rattle.os9_base.specs.Count.{Rose}
use Rattle.os9_outer.specs.Host.{HostFiles, file_contents}
use Rattle.os9_words.specs.declared.command.Command.{Command}
use Rattle.os9_words.specs.declared.command.Command.TheVariants.{Boot as BootCommand}
use Rattle.os9_words.specs.declared.command.RunWords.{RunWords}
use Rattle.os9_words.specs.Command.{command_of}
use Rattle.os9_words.specs.Notes.{Notes}
use Rattle.machine_model.specs.ProcessStart.{RefusesBoot}
use Rattle.machine_model.specs.declared.ends.BootFault.{BootFault}
use Rattle.machine_model.specs.Run.{status_of}
use Rattle.machine_model.specs.State.{State, has_living}
use Rattle.rbf_model.proofs.Images.{no_image_breach}
use Rattle.boot_run.specs.BootFile.{HasBootFile, IsVolume, boot_file_of}
use Rattle.boot_run.specs.Images.{images_of}
use Rattle.boot_run.specs.Console.{IsObserved}
use Rattle.boot_run.specs.Machine.{Setup}
use Rattle.boot_run.specs.World.{World}
use Rattle.boot_run.specs.declared.status.End.{End}
use Rattle.boot_run.specs.declared.status.End.TheVariants.{Ended, Living, CannotRead, CannotWrite, CannotWriteImage, NoMemory, BadImage, BadText, BadBounds, BadModule, NoFirst, TooLarge, DriveFailed, CannotWriteFile, Refused, BadSource, TerminalFailed}
use Rattle.boot_run.specs.declared.status.Input.TheVariants.{Script}
use Rattle.os9_boot.specs.Boots.{BootComesTo, RunsToEnd}
use Rattle.boot_run.specs.End.{status_number}
use Rattle.os9_boot.specs.Headline.{BootIsOneRun, AcceptsRun, IsOneRun}
use Rattle.os9_boot.specs.History.{outputs_of}
use Rattle.boot_run.specs.Reading.{BreaksSlices}
use Rattle.boot_run.specs.Setup.{SetsUpBoot, script_of}
use Rattle.os9_boot.specs.Commands.{CommandCall}
use Rattle.os9_boot.specs.TopCall.{CommandReport, TopCall, WordsReport}

ok-err : {A E : Type 0} (a : A) (e : E) → ◌≡◌ {A = Result A E} (Ok a) (Err e) → ⊥
ok-err a e is = cc

-- each of images that all represent volumes does
volume-at : (n : ℕ) (images : List (List ℕ)) (image : List ℕ) → slice_get images n ≡ Some image → All IsVolume images → IsVolume image
volume-at n [] image here volumes = absurd (none-some image here)
volume-at zero (one ∷ images) image here volumes = subst IsVolume (same_Some one image here) (All-head IsVolume one images volumes)
volume-at (suc n) (one ∷ images) image here volumes = volume-at n images image here (All-tail IsVolume one images volumes)

-- the status of a run
lives-status : (t : State) (lives : Bool) → has_living t ≡ lives → status_of t ≡ (if lives then 5 else 0)
lives-status t lives is = ap (λ (lives : Bool). if lives then 5 else 0) is

module _ (files : HostFiles) (boot : RunWords) (before after : World) (accepted : AcceptsRun files boot (length before.devices.terms)) where
  -- the first image is one
  first-image : (image : List ℕ) → slice_get (images_of files boot.files) 0 ≡ Some image → image ≡ accepted.sets.file.image
  first-image image first =
      same_Some image accepted.sets.file.image (sym first ∙ subst (λ (images : List (List ℕ)). slice_get images 0 ≡ Some accepted.sets.file.image) accepted.sets.images accepted.sets.file.first)

  -- and so is the boot file
  one-file : (other : Setup) → SetsUpBoot files boot (length before.devices.terms) other → other.file ≡ accepted.setup.file
  one-file other it =
      it.file.is ∙ ap boot_file_of (first-image it.file.image (subst (λ (images : List (List ℕ)). slice_get images 0 ≡ Some it.file.image) it.images it.file.first)) ∙ sym accepted.sets.file.is

  not-refused : (other : Setup) → SetsUpBoot files boot (length before.devices.terms) other → (fault : BootFault) → RefusesBoot other.file other.blocks fault → ⊥
  not-refused other it fault refuses =
      accepted.starts fault (subst (λ (file : List ℕ). RefusesBoot file accepted.setup.blocks fault) (one-file other it)
      (subst (λ (blocks : ℕ). RefusesBoot other.file blocks fault) (it.words.blocks ∙ sym accepted.sets.words.blocks)
      refuses))

  one-run : (setup : Setup) (lives : Bool) → SetsUpBoot files boot (length before.devices.terms) setup
      → (ran : RunsToEnd setup (outputs_of boot) lives before after) → (status : ℕ) → status ≡ (if lives then 5 else 0)
      → IsOneRun files boot before after status
  one-run setup lives sets ran status is = record {
    setup = setup;
    sets = sets;
    s = ran.outcome.s;
    starts = ran.outcome.starts;
    states = ran.outcome.states;
    written = ran.written;
    t = ran.t;
    run = ran.outcome.run;
    output = ran.output;
    images = ran.images;
    volumes = ran.outcome.volumes;
    unchanged = ran.outcome.unchanged;
    disks = ran.files;
    terminals = ran.outcome.terminals;
    drives = ran.outcome.drives;
    lives = is ∙ sym (lives-status ran.t lives ran.living);
  }

  -- the slice text is not refused
  unbroken : (line : ℕ) → BreaksSlices (length before.devices.terms) line (script_of files boot) (file_contents files boot.slices) → ⊥
  unbroken line broken = ok-err accepted.setup.slices line (sym accepted.sets.words.texts.slice_text ∙ broken.refused)

  module _ (kept : ¬ Rose before.faults after.faults) (observed : All IsObserved before.devices.terms) (status : ℕ) where
    by-end : (end : End) → CommandCall (BootCommand boot) before after end → BootComesTo files boot before after end → status ≡ status_number end → BootIsOneRun files boot before after status
    by-end Ended call comes is = inl (one-run comes.0 false comes.1 (comes.2 observed) status is)
    by-end Living call comes is = inl (one-run comes.0 true comes.1 (comes.2 observed) status is)
    by-end NoMemory call comes is = inr (inl (record { told = is; left = comes }))
    by-end (DriveFailed drive number) call comes is =
        inr (inr (record { drive = drive; number = number; failed = call.devices; files = call.files; told = is }))
    by-end (CannotRead input) call comes is = absurd (kept call.host.2.0)
    by-end CannotWrite call comes is = absurd (kept call.host.0)
    by-end (CannotWriteImage number) call comes is = absurd (kept call.host.2.0)
    by-end (BadText Script line) call comes is = absurd (ok-err accepted.setup.keys line (sym accepted.sets.words.texts.script ∙ comes))
    by-end (BadText input line) call comes is = absurd (unbroken line comes)
    by-end (BadImage number fault) call comes is =
        let volume : IsVolume comes.1.image = volume-at number (images_of files boot.files) comes.1.image comes.1.is
        (subst (λ (images : List (List ℕ)). All IsVolume images) accepted.sets.images accepted.sets.volumes) in
        absurd (no_image_breach comes.1.image volume.0 volume.1 comes.1.broken.broken)
    by-end CannotWriteFile call comes is = absurd (kept call.host.2.0)
    by-end (Refused number) call comes is = absurd call.may
    by-end (BadSource line error) call comes is = absurd call.may
    by-end (TerminalFailed n) call comes is = absurd call.may
    by-end BadBounds call comes is =
        absurd (comes.1.1.2 (subst HasBootFile (sym (first-image comes.1.1.0 comes.1.1.1)) accepted.sets.file.has))
    by-end (BadModule at error) call comes is = absurd (not-refused comes.0 comes.1 comes.2.0 comes.2.1)
    by-end NoFirst call comes is = absurd (not-refused comes.0 comes.1 comes.2.0 comes.2.1)
    by-end TooLarge call comes is = absurd (not-refused comes.0 comes.1 comes.2.0 comes.2.1)

pub is-one-run : (words : List (List ℕ)) (boot : RunWords) (files : HostFiles) (before after : World)
    (noted notes : Notes) (status : ℕ) → command_of words ≡ Some (BootCommand boot) → TopCall words before after noted
    notes status → before.files ≡ Some files → All IsObserved before.devices.terms → AcceptsRun files boot
    (length before.devices.terms) → ¬ Rose before.faults after.faults → BootIsOneRun files boot before after status
is-one-run words boot files before after noted notes status spelled call told observed accepted kept =
    by-end files boot before after accepted kept observed status report.end report.call comes report.status_is
  where
    report : CommandReport (BootCommand boot) before after noted notes status
    report = subst (λ (found : Option Command). MatchOption found (WordsReport before after noted notes status) (λ command. CommandReport command before after noted notes status)) spelled call

    comes : BootComesTo files boot before after report.end
    comes = subst (λ (some : Option HostFiles). IfSome some (λ (files : HostFiles). BootComesTo files boot before after report.end)) told report.call.comes
