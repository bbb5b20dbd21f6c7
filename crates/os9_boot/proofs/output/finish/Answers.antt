use Rattle.std.proofs.Common.{[], sym, subst}
use Rattle.os9_words.specs.Notes.{Notes, notes_of}
use Rattle.os9_boot.specs.VolLeft.{NotesOutputs}
use Rattle.os9_boot.proofs.OutputLemmas.{noted-print, print-ends, prints-then}
use Rattle.os9_boot.proofs.output.finish.Goals as goal

pub returns-in-Ok-clause-done : goal.returns-in-Ok-clause-done
returns-in-Ok-clause-done g c devices =
    prints-then c.args.vol.now c.printed.result.now _ _ _ _ _ _ _ c.printed.ensures (c.in-Ok.ensures.printed devices) (c.write_made.ensures.wrote devices)

pub returns-in-Err-clause-done : goal.returns-in-Err-clause-done
returns-in-Err-clause-done g c devices =
    print-ends c.args.vol.now c.printed.result.now _ _ _ _ _ c.printed.ensures (c.in-Err.ensures.printed devices)

pub returns-in-Ok-clause-noted : goal.returns-in-Ok-clause-noted
returns-in-Ok-clause-noted g c =
    subst (λ (notes : Notes). NotesOutputs c.args.vol.now c.write_made.result notes (notes_of g.H.Host c.write_made.new.host)) c.in-Ok.ensures.notes_kept c.write_made.ensures.noted

pub returns-in-Err-clause-noted : goal.returns-in-Err-clause-noted
returns-in-Err-clause-noted g c =
    subst (λ (notes : Notes). NotesOutputs c.args.vol.now c.in-Err.end (notes_of g.H.Host c.args.host.now) notes)
    (sym c.in-Err.ensures.notes_kept) (noted-print c.args.vol.now c.printed.result.now c.in-Err.end _ _
    (notes_of g.H.Host c.args.host.now) (c.in-Err.ensures.printed (record { drives = []; terms = [] })))
