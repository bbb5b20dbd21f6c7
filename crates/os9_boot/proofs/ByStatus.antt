-- Which files a boot has written, by its status.
use Rattle.std.proofs.Common.{◌≡◌, ◌≢◌, ℕ, suc, Option, Some, List, [], ◌∷◌, ◌++◌, take, refl, sym, subst, ap, inl, inr, ◌∙◌, append_assoc, append-nil, arith}
use Rattle.std.specs.Option.{option_map_or}
use Rattle.std.specs.Prelude.{drop}
use Rattle.std.proofs.lemmas.List.{take-append-drop}
use Rattle.std.specs.Prelude.{MatchOption}
use Rattle.os9_words.specs.Command.{command_of}
use Rattle.os9_words.specs.Notes.{Notes}
use Rattle.os9_words.specs.declared.command.Command.{Command}
use Rattle.os9_words.specs.declared.command.Command.TheVariants.{Boot as BootCommand}
use Rattle.os9_words.specs.declared.command.RunWords.{RunWords}
use Rattle.boot_run.specs.World.{World}
use Rattle.boot_run.specs.declared.status.End.{End}
use Rattle.boot_run.specs.declared.status.End.TheVariants.{Ended, Living, CannotWrite, CannotWriteFile, CannotWriteImage, NoMemory}
use Rattle.boot_run.specs.End.{status_number}
use Rattle.boot_run.specs.FileNames.{AreFirstNames}
use Rattle.os9_boot.specs.FileNames.{BootWrites}
use Rattle.os9_boot.specs.History.{Outputs, output_names, outputs_of}
use Rattle.os9_boot.specs.Headline.{IsOfWholeRun, WritesByStatus}
use Rattle.os9_boot.specs.TopCall.{CommandReport, TopCall, WordsReport}

-- the status is that of a run to its end
all-of : (outputs : Outputs) (written : List (List ℕ)) (end : End) → BootWrites outputs end written → IsOfWholeRun (status_number end) → written ≡ output_names outputs
all-of outputs written Ended writes is = writes
all-of outputs written Living writes is = writes
all-of outputs written end writes (inl is) = absurd (omega (arith, is))
all-of outputs written end writes (inr is) = absurd (omega (arith, is))

-- or neither that, nor that of a failed write, nor of want of memory
none-of : (outputs : Outputs) (written : List (List ℕ)) (end : End) → BootWrites outputs end written
    → ¬ IsOfWholeRun (status_number end) → status_number end ≢ status_number CannotWrite → status_number end ≢
    status_number NoMemory → written ≡ []
none-of outputs written Ended writes unended sure enough = absurd (unended (inl refl))
none-of outputs written Living writes unended sure enough = absurd (unended (inr refl))
none-of outputs written (CannotWriteImage number) writes unended sure enough = absurd (sure refl)
none-of outputs written CannotWriteFile writes unended sure enough = absurd (sure refl)
none-of outputs written NoMemory writes unended sure enough = absurd (enough refl)
none-of outputs written end writes unended sure enough = writes

all-front : (outputs : Outputs) (written : List (List ℕ)) → written ≡ output_names outputs → AreFirstNames written (output_names outputs)
all-front outputs written writes = ([], sym (ap (λ written. written ++ []) writes ∙ append-nil (output_names outputs)))

-- and at any status it has written the first of its files
front-of : (outputs : Outputs) (written : List (List ℕ)) (end : End) → BootWrites outputs end written → AreFirstNames written (output_names outputs)
front-of outputs written Ended writes = all-front outputs written writes
front-of outputs written Living writes = all-front outputs written writes
front-of outputs written CannotWriteFile writes = all-front outputs written writes
front-of outputs written (CannotWriteImage number) writes =
    let more : List (List ℕ) = option_map_or (λ name. name ∷ []) outputs.history [] in
    let rest = drop (suc number) outputs.images ++ more in (
      rest,
      sym (ap (λ written. written ++ rest) writes
          ∙ sym (append_assoc (take (suc number) outputs.images) (drop (suc number) outputs.images) more)
          ∙ ap (λ names. names ++ more) (take-append-drop (suc number) outputs.images)),
    )
front-of outputs written NoMemory writes = writes
front-of outputs written end writes = (output_names outputs, sym (ap (λ written. written ++ output_names outputs) writes))

of-report : (boot : RunWords) (before after : World) (noted notes : Notes) (status : ℕ)
    → CommandReport (BootCommand boot) before after noted notes status → WritesByStatus (output_names (outputs_of boot)) status noted notes
of-report boot before after noted notes status report =
    let written = report.files.written in
    let is : notes.written ≡ noted.written ++ written = report.line.written_kept ∙ ap (λ (notes : Notes). notes.written) report.files.noted in
    record {
      whole = λ whole.
          let whole : IsOfWholeRun (status_number report.end) = subst (λ status. IsOfWholeRun status) report.status_is whole in
          is ∙ ap (λ names. noted.written ++ names) (all-of (outputs_of boot) written report.end report.files.writes whole);
      first = (written, front-of (outputs_of boot) written report.end report.files.writes, is);
      none = λ unended sure enough.
          let unended : ¬ IsOfWholeRun (status_number report.end) = subst (λ status. ¬ IsOfWholeRun status) report.status_is unended in
          let sure : status_number report.end ≢ status_number CannotWrite = subst (λ status. status ≢ status_number CannotWrite) report.status_is sure in
          let enough : status_number report.end ≢ status_number NoMemory = subst (λ status. status ≢ status_number NoMemory) report.status_is enough in
          is ∙ ap (λ names. noted.written ++ names) (none-of (outputs_of boot) written report.end report.files.writes unended sure enough) ∙ append-nil noted.written;
    }

pub writes-by-status : (words : List (List ℕ)) (boot : RunWords) (before after : World) (noted notes : Notes)
    (status : ℕ) → command_of words ≡ Some (BootCommand boot) → TopCall words before after noted notes status
    → WritesByStatus (output_names (outputs_of boot)) status noted notes
writes-by-status words boot before after noted notes status spelled call =
    of-report boot before after noted notes status
    (subst (λ (found : Option Command). MatchOption found (WordsReport before after noted notes status)
    (λ command. CommandReport command before after noted notes status)) spelled call)
