use Rattle.std.proofs.Common.{arith}
use Rattle.rbf_segs.specs.Segments.{IsSegment}
use Rattle.rbf_segs.proofs.Places.{pushed}
use Rattle.rbf_segs.proofs.segs.Segs.add_run.Goals as goal

pub invariant_of-self : goal.invariant_of-self
invariant_of-self c =
    let whole : IsSegment (c.args.lsn, c.args.count) = record { lsn = c.requires.lsn_fits; some = c.requires.some; count = omega arith } in
    (pushed c.self.inside c.self.invariant (c.args.lsn, c.args.count) whole c.from-2.result (omega arith) (omega arith)).kept
