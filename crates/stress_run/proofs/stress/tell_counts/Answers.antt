-- Where nothing is written, the streams stay.
use Rattle.std.proofs.Common.{[]}
use Rattle.os9_words.proofs.NoteLemmas.{notes-kept}
use Rattle.os9_words.specs.Lines.{stress_line}
use Rattle.stress_run.specs.Counts.{counts_with}
use Rattle.stress_run.proofs.EndLemmas.{writes-none}
use Rattle.stress_run.proofs.stress.tell_counts.Goals as goal

pub returns-in-Err-clause-counts : goal.returns-in-Err-clause-counts
returns-in-Err-clause-counts g c = record {
  text = [];
  writes = writes-none g.H.Host [] c.args.host.now;
  counts = λ v represents. writes-none g.H.Host (stress_line (counts_with c.args.slices v)) c.args.host.now;
}

pub returns-in-Ok-clause-notes_kept : goal.returns-in-Ok-clause-notes_kept
returns-in-Ok-clause-notes_kept g c = notes-kept g.H.Host _ _ _ _ c.put_stress_counts.ensures
