use Rattle.std.proofs.Common.{◌≡◌, subst, arith, ℕ}
use Rattle.std.specs.List.{range_with_len}
use Rattle.std.proofs.lemmas.Option.{get_or_from_slice_get}
use Rattle.rbf_check.specs.Clusters.{NotesClusters}
use Rattle.rbf_check.proofs.Noted.{notes_run}
use Rattle.rbf_check.proofs.clusters.note_segments.Goals as goal

pub loop-i-preserved : goal.loop-i-preserved
loop-i-preserved c =
    let segment = c.run-first.result in
    let count : c.from.result ≡ segment.1 = omega arith in
    let P : ℕ → Type 0 = λ m. NotesClusters c.args.cluster (range_with_len segment.0 m) c.loop-i.used.items c.note_sectors.new.used.items in
    notes_run c.args.cluster c.args.segs.now c.loop-i.i segment c.args.used.now.items c.loop-i.used.items
    c.note_sectors.new.used.items (omega arith) (get_or_from_slice_get c.args.segs.now c.loop-i.i segment (0, 0)
    c.run-first.ensures.pair) c.loop-i.invariant (subst P count c.note_sectors.ensures)
