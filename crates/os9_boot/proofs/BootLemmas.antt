-- A boot whose files were read.
use Rattle.std.proofs.Common.{◌≡◌, ℕ, Option, Some, None, List, Ok, Err, length, refl, subst, inl, inr, All}
use Rattle.std.specs.Prelude.{IfSome}
use Rattle.os9_outer.specs.Host.{HostFiles}
use Rattle.script_text.specs.declared.script.ScriptKey.{ScriptKey}
use Rattle.script_text.specs.Script.{keys_of}
use Rattle.script_text.specs.Slices.{slices_of}
use Rattle.lock_model.specs.declared.history.Entry.{Entry}
use Rattle.os9_words.specs.declared.command.Command.TheVariants.{Boot as BootCommand}
use Rattle.os9_words.specs.declared.command.RunWords.{RunWords}
use Rattle.boot_run.specs.BootFile.{IsBootFile, IsVolume}
use Rattle.boot_run.specs.Outcome.{RunsImages}
use Rattle.boot_run.specs.Machine.{Setup}
use Rattle.boot_run.specs.World.{World}
use Rattle.boot_run.specs.declared.machine.RunEnd.{RunEnd}
use Rattle.boot_run.specs.declared.files.BootFiles.{BootFiles}
use Rattle.boot_run.specs.declared.status.End.{End}
use Rattle.boot_run.specs.declared.status.End.TheVariants.{CannotRead, CannotWrite, CannotWriteImage, NoMemory, BadImage, BadText, BadBounds, CannotWriteFile, Refused, BadSource, TerminalFailed}
use Rattle.boot_run.specs.declared.status.Input.TheVariants.{Script as ScriptInput, Slices as SlicesInput}
use Rattle.os9_boot.specs.Boots.{BootComesTo}
use Rattle.os9_boot.specs.Commands.{CommandCall}
use Rattle.os9_boot.specs.Host.{CommandFailsAsReported}
use Rattle.os9_boot.specs.BootLeft.{BootMayEnd, CommandLeavesDevices}
use Rattle.os9_boot.specs.Images.{RefusesImages}
use Rattle.boot_run.specs.Reading.{HasBootFiles, RefusesTexts}
use Rattle.boot_run.specs.Setup.{HaveTexts, SetsUpBoot}
use Rattle.os9_boot.specs.History.{Outputs, output_bytes, outputs_of}
use Rattle.os9_boot.specs.Written.{EndsBoot}
use Rattle.os9_boot.proofs.BootCallLemmas.{kept-counts, out-of-memory, still-silent, unchanged}
use Rattle.os9_boot.proofs.MachineLemmas.{EndsSo, RunFails, IsOfMachine, machine-ends}

-- ---- a machine that ran with images

module _ (files : HostFiles) (boot : RunWords) (setup : Setup) (before after : World) (sets : SetsUpBoot files boot (length before.devices.terms) setup) where
  boot-comes : (end : End) → IsOfMachine end → EndsSo setup (outputs_of boot) before after end → BootComesTo files boot before after end
  boot-comes (CannotRead input) of comes = tt
  boot-comes (BadText input line) of comes = absurd of
  boot-comes (BadImage number fault) of comes = absurd of
  boot-comes BadBounds of comes = absurd of
  boot-comes NoMemory of (inl undone) = inl undone
  boot-comes NoMemory of (inr comes) = inr (setup, sets, comes)
  boot-comes end of comes = (setup, sets, comes)

boot-fails : (boot : RunWords) (before after : World) (end : End) → RunFails (outputs_of boot) end before after → CommandFailsAsReported (BootCommand boot) end before after
boot-fails boot before after (CannotRead input) failed = absurd failed
boot-fails boot before after CannotWrite failed = failed
boot-fails boot before after (CannotWriteImage number) failed = failed
boot-fails boot before after CannotWriteFile failed = failed
boot-fails boot before after end kept = kept

boot-may : (outputs : Outputs) (before after : World) (end : End) → IsOfMachine end → RunFails outputs end before after → BootMayEnd outputs end
boot-may outputs before after (BadText input line) of failed = absurd of
boot-may outputs before after CannotWriteFile of (name, named, failed) = rw named refl
boot-may outputs before after (Refused number) of failed = absurd of
boot-may outputs before after (BadSource line error) of failed = absurd of
boot-may outputs before after (TerminalFailed n) of failed = absurd of
boot-may outputs before after end of failed = tt

-- ---- the files of the words were read

module _ (before : World) (boot : RunWords) (read : BootFiles) (has : IfSome before.files (λ files. HasBootFiles files boot read)) where
  -- what follows of the files that were read
  of-files : (fact : HostFiles → Type 0) → ((files : HostFiles) → HasBootFiles files boot read → fact files) → IfSome before.files fact
  of-files fact follows = by before.files has
    where
      by : (told : Option HostFiles) → IfSome told (λ files. HasBootFiles files boot read) → IfSome told fact
      by None has = tt
      by (Some files) has = follows files has

  module _ (after : World) (same : after ≡ before) where
    script-refused : (line : ℕ) → keys_of (length before.devices.terms) read.script.items ≡ Err line → CommandCall (BootCommand boot) before after (BadText ScriptInput line)
    script-refused line refused =
        unchanged (BootCommand boot) before after (BadText ScriptInput line) same tt (still-silent before after same)
        (kept-counts before after same) (of-files (λ files. BootComesTo files boot before after
        (BadText ScriptInput line)) (λ files has. rw (← has.script) refused))

    slices-refused : (keys : List ScriptKey) (line : ℕ) → keys_of (length before.devices.terms) read.script.items ≡ Ok
        keys → slices_of read.slices.items ≡ Err line → CommandCall (BootCommand boot) before after
        (BadText SlicesInput line)
    slices-refused keys line given refused =
        unchanged (BootCommand boot) before after (BadText SlicesInput line) same tt (still-silent before after same)
        (kept-counts before after same) (of-files (λ files. BootComesTo files boot before after
        (BadText SlicesInput line)) (λ files has. record {
          keys = keys;
          accepted = rw (← has.script) given;
          refused = rw (← has.slices) refused;
        }))

    -- a text was refused
    pub boot-texts-refused : (terminals : ℕ) (end : End) → terminals ≡ length before.devices.terms
        → RefusesTexts terminals read.script.items read.slices.items end → CommandCall (BootCommand boot) before after
        end
    boot-texts-refused terminals NoMemory count refused = out-of-memory (BootCommand boot) before after same
    boot-texts-refused terminals (BadText ScriptInput line) count refused = script-refused line (rw (← count) refused)
    boot-texts-refused terminals (BadText SlicesInput line) count refused =
        slices-refused refused.keys line (rw (← count) refused.accepted) refused.refused
    boot-texts-refused terminals end count refused = absurd refused

  -- the texts give keys and slices
  module _ (keys : List ScriptKey) (slices : List ℕ) (given : keys_of (length before.devices.terms) read.script.items ≡ Ok keys) (cut : slices_of read.slices.items ≡ Ok slices) where
    accepted : (files : HostFiles) → HasBootFiles files boot read → HaveTexts files boot (length before.devices.terms) keys slices
    accepted files has = record { script = rw (← has.script) given; slice_text = rw (← has.slices) cut }

    -- the images were refused
    pub boot-refused : (after : World) (end : End) → after ≡ before → RefusesImages read.images end → CommandCall (BootCommand boot) before after end
    boot-refused after (BadImage number fault) same refused =
        unchanged (BootCommand boot) before after (BadImage number fault) same tt (still-silent before after same)
        (kept-counts before after same) (of-files (λ files. BootComesTo files boot before after
        (BadImage number fault)) (λ files has. ((keys, slices, accepted files has), rw (← has.images) refused)))
    boot-refused after BadBounds same refused =
        unchanged (BootCommand boot) before after BadBounds same tt (still-silent before after same)
        (kept-counts before after same) (of-files (λ files. BootComesTo files boot before after BadBounds)
        (λ files has. ((keys, slices, accepted files has), rw (← has.images) refused)))
    boot-refused after NoMemory same refused = out-of-memory (BootCommand boot) before after same
    boot-refused after end same refused = absurd refused

    -- the machine was run with them, and they were written where it came to its end
    module _ (file : List ℕ) (volumes : All IsVolume read.images) (is : IsBootFile read.images file) where
      abbrev setup : Setup
      setup = record {
        file = file;
        blocks = boot.blocks;
        time = boot.start;
        images = read.images;
        keys = keys;
        slices = slices;
      }

      sets-up : (files : HostFiles) → HasBootFiles files boot read → SetsUpBoot files boot (length before.devices.terms) setup
      sets-up files has = record {
        words = record { texts = accepted files has; blocks = refl; time = refl };
        images = has.images;
        volumes = volumes;
        file = is;
      }

      pub boot-ended : length read.images ≡ length boot.files → (images : List (List ℕ)) (history : List Entry)
          (mid after : World) (end : RunEnd) (answer : End) → RunsImages setup images history before mid end
          → EndsBoot (outputs_of boot) (output_bytes (outputs_of boot) images history) end answer mid after
          → CommandCall (BootCommand boot) before after answer
      boot-ended many images history mid after end answer run ends =
          let it = machine-ends setup (outputs_of boot) images history before mid after end answer run ends in
          record {
            comes = of-files (λ files. BootComesTo files boot before after answer) (λ files has. boot-comes files boot setup before after (sets-up files has) answer it.kind it.comes);
            may = boot-may (outputs_of boot) before after answer it.kind it.host;
            devices = subst (λ k. CommandLeavesDevices k before after answer) many it.devices;
            host = boot-fails boot before after answer it.host;
            files = it.files;
          }
