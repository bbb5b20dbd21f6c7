use Rattle.os9_words.proofs.NoteLemmas.{notes-kept}
use Rattle.os9_boot.proofs.check.print_counts.Goals as goal

pub returns-in-Ok-clause-notes_kept : goal.returns-in-Ok-clause-notes_kept
returns-in-Ok-clause-notes_kept g c = notes-kept g.H.Host _ _ _ _ c.in-Ok.ensures

pub returns-in-Err-Failed-clause-notes_kept : goal.returns-in-Err-Failed-clause-notes_kept
returns-in-Err-Failed-clause-notes_kept g c = notes-kept g.H.Host _ _ _ _ c.in-Err-Failed.ensures

pub returns-in-Err-OutOfMemory-clause-notes_kept : goal.returns-in-Err-OutOfMemory-clause-notes_kept
returns-in-Err-OutOfMemory-clause-notes_kept g c = notes-kept g.H.Host _ _ _ _ c.in-Err-OutOfMemory.ensures
