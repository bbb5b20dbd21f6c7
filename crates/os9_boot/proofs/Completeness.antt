-- Where no count of faults rose, a call tells no fault of the host or of a drive.
use Rattle.std.proofs.Common.{◌≡◌, ◌≢◌, ℕ, Option, Some, None, List, ◌⊎◌, inl, inr, arith}
use Rattle.std.specs.Prelude.{MatchOption}
use Rattle.os9_words.specs.declared.command.Command.{Command}
use Rattle.os9_words.specs.declared.command.Command.TheVariants.{Run, Boot, Check, Stress, Vol, Asm, Debug}
use Rattle.os9_words.specs.Command.{command_of}
use Rattle.os9_words.specs.Notes.{Notes}
use Rattle.os9_words.specs.Lines.{no_memory_line, words_line}
use Rattle.os9_base.specs.Count.{Rose}
use Rattle.file_drives.specs.Drives.{drive_states}
use Rattle.file_rules.specs.Files.{drive_at}
use Rattle.boot_run.specs.World.{World}
use Rattle.boot_run.specs.declared.status.End.{End}
use Rattle.boot_run.specs.declared.status.End.TheVariants.{CannotRead, CannotWrite, CannotWriteImage, CannotWriteFile, DriveFailed, NoMemory}
use Rattle.os9_boot.specs.Commands.{CommandCall}
use Rattle.os9_boot.specs.Completeness.{IsNoFault, NoneRose, TellsNoFault}
use Rattle.boot_run.specs.End.{status_number}
use Rattle.os9_boot.specs.Meaning.{meaning}
use Rattle.os9_boot.specs.TopCall.{CommandReport, Reports, TopCall, WordsReport, words_status}

-- a drive failed
drive-rose : (command : Command) (before after : World) (drive number : ℕ) → (meaning command).may
    (DriveFailed drive number) → (meaning command).devices before after (DriveFailed drive number)
    → Rose (drive_at (drive_states before.devices.drives) drive).faults (drive_at (drive_states after.devices.drives)
    drive).faults
drive-rose (Run run) before after drive number may left = absurd may
drive-rose (Boot boot) before after drive number may left = left.failed.rose
drive-rose (Check image) before after drive number may left = left.out.failed.rose
drive-rose (Stress seed) before after drive number may left = left.failed.rose
drive-rose (Vol vol) before after drive number may left = left.failed.rose
drive-rose (Asm asm) before after drive number may left = absurd may
drive-rose (Debug debug) before after drive number may left = absurd may

-- the end of a command
pub tells-no-fault : (command : Command) (before after : World) (end : End) → CommandCall command before after end → NoneRose before after → TellsNoFault end
tells-no-fault command before after (CannotRead input) call none = none.host call.host.2.0
tells-no-fault command before after CannotWrite call none = none.host call.host.0
tells-no-fault command before after (CannotWriteImage number) call none = none.host call.host.2.0
tells-no-fault command before after CannotWriteFile call none = none.host call.host.2.0
tells-no-fault command before after (DriveFailed drive number) call none = none.drives drive (drive-rose command before after drive number call.may call.devices)
tells-no-fault command before after end call none = tt

-- a status that is not of these is of no end that tells a fault
apart : (status : ℕ) → status ≢ 2 → status ≢ 3 → status ≢ 9 → (end : End) → ¬ TellsNoFault end → status ≢ status_number end
apart status read written mounted (CannotRead input) tells = read
apart status read written mounted CannotWrite tells = written
apart status read written mounted (CannotWriteImage number) tells = written
apart status read written mounted CannotWriteFile tells = written
apart status read written mounted (DriveFailed drive number) tells = mounted
apart status read written mounted end tells = absurd (tells tt)

no-fault : (end : End) → TellsNoFault end → IsNoFault (status_number end)
no-fault (CannotRead input) tells = absurd tells
no-fault CannotWrite tells = absurd tells
no-fault (CannotWriteImage number) tells = absurd tells
no-fault CannotWriteFile tells = absurd tells
no-fault (DriveFailed drive number) tells = absurd tells
no-fault end tells =
    apart (status_number end) (λ e. omega (arith, e)) (λ e. omega (arith, e)) (λ e. omega (arith, e))

-- the status of a call
pub status-tells-no-fault : (words : List (List ℕ)) (before after : World) (noted notes : Notes) (status : ℕ) → TopCall words before after noted notes status → NoneRose before after → IsNoFault status
status-tells-no-fault words before after noted notes status call none = by (command_of words) call
  where
    no-words : WordsReport before after noted notes status → IsNoFault status
    no-words report = of report.line
      where
        of : ((status ≡ words_status) × Reports words_line noted notes) ⊎ ((status ≡ status_number NoMemory) × Reports no_memory_line noted notes) → IsNoFault status
        of (inl (is, line)) = rw is (apart words_status (λ e. omega (arith, e)) (λ e. omega (arith, e)) (λ e. omega (arith, e)))
        of (inr (is, line)) = rw is (no-fault NoMemory tt)

    by : (found : Option Command) → MatchOption found (WordsReport before after noted notes status) (λ command. CommandReport command before after noted notes status) → IsNoFault status
    by None report = no-words report
    by (Some command) report =
        rw report.status_is (no-fault report.end (tells-no-fault command before after report.end report.call none))
