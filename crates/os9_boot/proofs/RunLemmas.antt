-- A run whose files were read.
use Rattle.std.proofs.Common.{◌≡◌, ℕ, Option, Some, None, List, [], Ok, Err, length, refl, inl, inr, arith}
use Rattle.std.specs.Prelude.{IfSome}
use Rattle.os9_outer.specs.Host.{HostFiles}
use Rattle.script_text.specs.declared.script.ScriptKey.{ScriptKey}
use Rattle.script_text.specs.Script.{keys_of}
use Rattle.script_text.specs.Slices.{slices_of}
use Rattle.std.proofs.lemmas.Option.{none-some}
use Rattle.lock_model.specs.declared.history.Entry.{Entry}
use Rattle.os9_words.specs.declared.command.Command.TheVariants.{Run as RunCommand}
use Rattle.os9_words.specs.declared.command.RunWords.{RunWords}
use Rattle.boot_run.specs.Outcome.{RunsImages}
use Rattle.boot_run.specs.Machine.{Setup}
use Rattle.boot_run.specs.World.{World}
use Rattle.boot_run.specs.declared.machine.RunEnd.{RunEnd}
use Rattle.boot_run.specs.declared.files.RunFiles.{RunFiles}
use Rattle.boot_run.specs.declared.status.End.{End}
use Rattle.boot_run.specs.declared.status.End.TheVariants.{CannotRead, CannotWrite, CannotWriteImage, NoMemory, BadImage, BadText, BadBounds, DriveFailed, CannotWriteFile, Refused, BadSource, TerminalFailed}
use Rattle.boot_run.specs.declared.status.Input.TheVariants.{Script as ScriptInput, Slices as SlicesInput}
use Rattle.os9_boot.specs.Boots.{RunComesTo}
use Rattle.os9_boot.specs.Commands.{CommandCall}
use Rattle.os9_boot.specs.BootLeft.{CommandLeavesDevices, RunMayEnd}
use Rattle.os9_boot.specs.Host.{CommandFailsAsReported}
use Rattle.boot_run.specs.Reading.{HasRunFiles, RefusesTexts}
use Rattle.boot_run.specs.Setup.{SetsUpRun}
use Rattle.os9_boot.specs.History.{no_outputs, output_bytes}
use Rattle.os9_boot.specs.Written.{ends_run}
use Rattle.os9_boot.proofs.BootCallLemmas.{kept-counts, out-of-memory, still-silent, unchanged}
use Rattle.os9_boot.proofs.MachineLemmas.{EndsSo, RunFails, ends-alone, IsOfMachine, machine-ends}

-- ---- a machine that ran without images

module _ (files : HostFiles) (run : RunWords) (setup : Setup) (before after : World) (sets : SetsUpRun files run (length before.devices.terms) setup) where
  run-comes : (end : End) → IsOfMachine end → EndsSo setup no_outputs before after end → RunComesTo files run before after end
  run-comes (CannotRead input) of comes = tt
  run-comes (BadText input line) of comes = absurd of
  run-comes NoMemory of (inl undone) = inl undone
  run-comes NoMemory of (inr comes) = inr (setup, sets, comes)
  run-comes end of comes = (setup, sets, comes)

run-may : (before after : World) (end : End) → IsOfMachine end → RunFails no_outputs end before after → CommandLeavesDevices 0 before after end → RunMayEnd end
run-may before after (BadImage number fault) of failed left = absurd of
run-may before after (BadText input line) of failed left = absurd of
run-may before after BadBounds of failed left = absurd of
run-may before after (CannotWriteImage number) of failed left = absurd (cc failed.1)
run-may before after (DriveFailed drive number) of failed left = absurd (omega (arith, left.among))
run-may before after CannotWriteFile of failed left = absurd (none-some failed.0 failed.1)
run-may before after (Refused number) of failed left = absurd of
run-may before after (BadSource line error) of failed left = absurd of
run-may before after (TerminalFailed n) of failed left = absurd of
run-may before after end of failed left = tt

run-fails : (run : RunWords) (before after : World) (end : End) → RunFails no_outputs end before after → CommandFailsAsReported (RunCommand run) end before after
run-fails run before after (CannotRead input) failed = absurd failed
run-fails run before after CannotWrite failed = failed
run-fails run before after (CannotWriteImage number) failed = absurd (cc failed.1)
run-fails run before after CannotWriteFile failed = absurd (none-some failed.0 failed.1)
run-fails run before after end kept = kept

-- ---- the files of the words were read

module _ (before : World) (run : RunWords) (read : RunFiles) (has : IfSome before.files (λ files. HasRunFiles files run read)) where
  -- what follows of the files that were read
  of-files : (fact : HostFiles → Type 0) → ((files : HostFiles) → HasRunFiles files run read → fact files) → IfSome before.files fact
  of-files fact follows = by before.files has
    where
      by : (told : Option HostFiles) → IfSome told (λ files. HasRunFiles files run read) → IfSome told fact
      by None has = tt
      by (Some files) has = follows files has

  module _ (after : World) (same : after ≡ before) where
    script-refused : (line : ℕ) → keys_of (length before.devices.terms) read.script.items ≡ Err line → CommandCall (RunCommand run) before after (BadText ScriptInput line)
    script-refused line refused =
        unchanged (RunCommand run) before after (BadText ScriptInput line) same tt (still-silent before after same)
        (kept-counts before after same)
        (of-files (λ files. RunComesTo files run before after (BadText ScriptInput line))
        (λ files has. rw (← has.script) refused))

    slices-refused : (keys : List ScriptKey) (line : ℕ) → keys_of (length before.devices.terms) read.script.items ≡ Ok
        keys → slices_of read.slices.items ≡ Err line → CommandCall (RunCommand run) before after
        (BadText SlicesInput line)
    slices-refused keys line given refused =
        unchanged (RunCommand run) before after (BadText SlicesInput line) same tt (still-silent before after same)
        (kept-counts before after same)
        (of-files (λ files. RunComesTo files run before after (BadText SlicesInput line))
        (λ files has. record {
          keys = keys;
          accepted = rw (← has.script) given;
          refused = rw (← has.slices)
              refused;
        }))

    -- a text was refused
    pub run-texts-refused : (terminals : ℕ) (end : End) → terminals ≡ length before.devices.terms
        → RefusesTexts terminals read.script.items read.slices.items end → CommandCall (RunCommand run) before after
        end
    run-texts-refused terminals NoMemory count refused = out-of-memory (RunCommand run) before after same
    run-texts-refused terminals (BadText ScriptInput line) count refused = script-refused line (rw (← count) refused)
    run-texts-refused terminals (BadText SlicesInput line) count refused =
        slices-refused refused.keys line (rw (← count) refused.accepted) refused.refused
    run-texts-refused terminals end count refused = absurd refused

  -- the machine was run
  module _ (keys : List ScriptKey) (slices : List ℕ) (given : keys_of (length before.devices.terms) read.script.items ≡ Ok keys) (cut : slices_of read.slices.items ≡ Ok slices) where
    abbrev setup : Setup
    setup = record {
      file = read.modules.items;
      blocks = run.blocks;
      time = run.start;
      images = [];
      keys = keys;
      slices = slices;
    }

    sets-up : (files : HostFiles) → HasRunFiles files run read → SetsUpRun files run (length before.devices.terms) setup
    sets-up files has = record {
      words = record {
        texts = record { script = rw (← has.script) given; slice_text = rw (← has.slices) cut };
        blocks = refl;
        time = refl;
      };
      name = has.modules.0;
      modules = has.modules.1;
      file = has.modules.2;
      none = refl;
    }

    pub run-ended : (images : List (List ℕ)) (history : List Entry) (after : World) (end : RunEnd)
        → RunsImages setup images history before after end → CommandCall (RunCommand run) before after (ends_run end)
    run-ended images history after end run_call =
        let it = machine-ends setup no_outputs images history before after after end (ends_run end) run_call (ends-alone (output_bytes no_outputs images history) end after) in
        record {
          comes = of-files (λ files. RunComesTo files run before after (ends_run end)) (λ files has. run-comes files run setup before after (sets-up files has) (ends_run end) it.kind it.comes);
          may = run-may before after (ends_run end) it.kind it.host it.devices;
          devices = it.devices;
          host = run-fails run before after (ends_run end) it.host;
          files = run_call.files_kept;
        }
