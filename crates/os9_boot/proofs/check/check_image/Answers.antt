use Rattle.std.proofs.Common.{Some, [], refl, subst}
use Rattle.rbf_model.specs.Faults.{IsFault}
use Rattle.rbf_check.specs.Tree.{IsTreeOf}
use Rattle.os9_words.specs.declared.command.Command.TheVariants.{Check as CheckCommand}
use Rattle.os9_boot.proofs.BootCallLemmas.{out-of-memory, stopped-call}
use Rattle.os9_boot.proofs.CheckLemmas.{counts-printed, image-faulted, printed-after}
use Rattle.boot_run.specs.declared.status.End.TheVariants.{NoMemory, BadImage}
use Rattle.os9_boot.proofs.NameLemmas.{behind-print, names-read, names-stopped}
use Rattle.os9_boot.proofs.check.check_image.Goals as goal

pub returns-in-Err-clause-call : goal.returns-in-Err-clause-call
returns-in-Err-clause-call g c devices =
    stopped-call (CheckCommand c.args.image.now) _ _ _ (λ input. tt) (c.in-Err.ensures.ended devices (λ input. Some c.args.image.now) refl)

pub returns-clause-call : goal.returns-clause-call
returns-clause-call g c devices = out-of-memory (CheckCommand c.args.image.now) _ _ (c.in-Ok.ensures.kept devices)

pub returns-in-Err-Fault-clause-call : goal.returns-in-Err-Fault-clause-call
returns-in-Err-Fault-clause-call g c devices =
    image-faulted _ _ c.args.image.now c.in-Ok.bytes.items c.in-Ok.ensures.contents c.in-Err-Fault.fault
    (subst (λ image. IsFault image c.in-Err-Fault.fault.rule c.in-Err-Fault.fault.lsn) c.as_slice.ensures.value
    (rw c.in-Err-Fault.field-0-is at c.in-Err-Fault.ensures.fault)) (c.in-Ok.ensures.kept devices)

pub returns-in-Ok-check-clause-call : goal.returns-in-Ok-check-clause-call
returns-in-Ok-check-clause-call g c devices =
    counts-printed _ _ c.args.image.now c.in-Ok.bytes.items c.in-Ok.ensures.contents c.in-Ok-check.tree
    (subst (λ image. IsTreeOf image c.in-Ok-check.tree) c.as_slice.ensures.value c.in-Ok-check.ensures.tree) _
    (printed-after _ _ _ _ _ (c.in-Ok.ensures.kept devices) (c.print_counts.ensures.call devices))

-- ---- the names

pub returns-in-Err-clause-noted : goal.returns-in-Err-clause-noted
returns-in-Err-clause-noted g c =
    names-stopped (CheckCommand c.args.image.now) _ _ _ (c.in-Err.ensures.stopped (λ input. Some c.args.image.now) refl)

pub returns-clause-noted : goal.returns-clause-noted
returns-clause-noted g c =
    names-read (CheckCommand c.args.image.now) NoMemory _ _ tt c.in-Ok.ensures.noted _ refl refl

pub returns-in-Err-Fault-clause-noted : goal.returns-in-Err-Fault-clause-noted
returns-in-Err-Fault-clause-noted g c =
    names-read (CheckCommand c.args.image.now) (BadImage 0 c.in-Err-Fault.fault) _ _ tt c.in-Ok.ensures.noted _ refl refl

pub returns-in-Ok-check-clause-noted : goal.returns-in-Ok-check-clause-noted
returns-in-Ok-check-clause-noted g c =
    names-read (CheckCommand c.args.image.now) c.print_counts.result _ _
    (behind-print _ _ _ _ (c.print_counts.ensures.call (record { drives = []; terms = [] })))
    c.in-Ok.ensures.noted _ refl c.print_counts.ensures.notes_kept
