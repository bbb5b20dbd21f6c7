-- What a `debug` has shown by its status, and which calls tell a terminal that failed.
use Rattle.std.proofs.Common.{◌≡◌, ℕ, ◌⊎◌, inl, inr, Option, Some, None, List, refl, sym, subst, ◌∙◌, arith}
use Rattle.std.specs.Prelude.{MatchOption}
use Rattle.os9_outer.specs.Host.{HostFiles}
use Rattle.os9_words.specs.Command.{command_of}
use Rattle.os9_words.specs.Lines.{no_memory_line, words_line}
use Rattle.os9_words.specs.Notes.{Notes}
use Rattle.os9_words.specs.declared.command.Command.{Command}
use Rattle.os9_words.specs.declared.command.Command.TheVariants.{Run, Boot, Check, Stress, Vol, Asm, Debug}
use Rattle.os9_words.specs.declared.debug_words.DebugWords.{DebugWords}
use Rattle.boot_run.specs.World.{World}
use Rattle.boot_run.specs.End.{status_number}
use Rattle.boot_run.specs.declared.status.End.{End}
use Rattle.boot_run.specs.declared.status.End.TheVariants.{Ended, Living, NoMemory, TerminalFailed}
use Rattle.os9_debug.specs.Counts.{TerminalRose}
use Rattle.os9_debug.specs.Call.{DebugCall}
use Rattle.os9_debug.specs.Left.{DebugMayEnd}
use Rattle.os9_debug.specs.OneCourse.{IsFaultlessDebug, ShowsOneCourse}
use Rattle.os9_debug.proofs.OneCourse.{shows-one}
use Rattle.os9_boot.specs.Commands.{CommandCall}
use Rattle.os9_boot.specs.TopCall.{CommandReport, Reports, TopCall, WordsReport, words_status}

-- ---- status 0

-- of the ends of a `debug` only one has status 0
is-done : (end : End) → DebugMayEnd end → status_number end ≡ status_number Ended → end ≡ Ended
is-done Ended may is = refl
is-done Living may is = absurd may
is-done end may is = absurd (omega (arith, is))

debug-call : (debug : DebugWords) (before after : World) (end : End) → CommandCall (Debug debug) before after end → DebugCall debug before after end
debug-call debug before after end call =
    record { comes = call.comes; may = call.may; devices = call.devices; host = call.host; files = call.files }

pub shows-one-run : (words : List (List ℕ)) (debug : DebugWords) (files : HostFiles) (before after : World)
    (noted notes : Notes) (status : ℕ) → command_of words ≡ Some (Debug debug) → TopCall words before after noted
    notes status → status ≡ status_number Ended → IsFaultlessDebug files debug before after → ShowsOneCourse files debug
    before after
shows-one-run words debug files before after noted notes status spelled call done faultless =
    shows-one files debug before after faultless
    (subst (DebugCall debug before after) (is-done report.end report.call.may (sym report.status_is ∙ done)) (debug-call debug before after report.end report.call))
  where
    report : CommandReport (Debug debug) before after noted notes status
    report = subst (λ (found : Option Command). MatchOption found (WordsReport before after noted notes status) (λ command. CommandReport command before after noted notes status)) spelled call

-- ---- a terminal that failed

pub failed-if-told : (command : Command) (before after : World) (n : ℕ) → CommandCall command before after (TerminalFailed n) → TerminalRose n before.devices after.devices
failed-if-told (Run run) before after n call = absurd call.may
failed-if-told (Boot boot) before after n call = absurd call.may
failed-if-told (Check image) before after n call = absurd call.may
failed-if-told (Stress seed) before after n call = absurd call.may
failed-if-told (Vol vol) before after n call = absurd call.may
failed-if-told (Asm asm) before after n call = absurd call.may
failed-if-told (Debug debug) before after n call = call.devices

-- there is a terminal that failed
abbrev OneRose : World → World → Type 0
OneRose before after = (number : ℕ) × TerminalRose number before.devices after.devices

failed-at : (command : Command) (before after : World) (end : End) (n : ℕ) → CommandCall command before after end → status_number end ≡ status_number (TerminalFailed n) → OneRose before after
failed-at command before after (TerminalFailed number) n call is = (number, failed-if-told command before after number call)
failed-at command before after end n call is = absurd (omega (arith, is))

pub failed-by-status : (words : List (List ℕ)) (before after : World) (noted notes : Notes) (status n : ℕ)
    → TopCall words before after noted notes status → status ≡ status_number (TerminalFailed n)
    → (number : ℕ) × TerminalRose number before.devices after.devices
failed-by-status words before after noted notes status n call told = by (command_of words) call
  where
    no-words : ((status ≡ words_status) × Reports words_line noted notes) ⊎ ((status ≡ status_number NoMemory) × Reports no_memory_line noted notes) → OneRose before after
    no-words (inl (is, line)) = absurd (omega (arith, is, told))
    no-words (inr (is, line)) = absurd (omega (arith, is, told))

    by : (found : Option Command) → MatchOption found (WordsReport before after noted notes status) (λ command. CommandReport command before after noted notes status) → OneRose before after
    by None report = no-words report.line
    by (Some command) report =
        failed-at command before after report.end n report.call (sym report.status_is ∙ told)
