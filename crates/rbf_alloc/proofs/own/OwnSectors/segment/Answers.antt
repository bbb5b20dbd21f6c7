use Rattle.std.proofs.Common.{◌≡◌, ◌≤◌, Some, ap, sym, ◌∙◌, arith}
use Rattle.rbf_alloc.proofs.OwnParts.{segment_first, segment_after}
use Rattle.rbf_alloc.proofs.own.OwnSectors.segment.Goals as goal

pub returns-then-i-eq0-clause-there : goal.returns-then-i-eq0-clause-there
returns-then-i-eq0-clause-there c = segment_first c.args.self.now.fd c.args.self.now.segs c.args.i c.if-i-eq0.true

pub returns-clause-there : goal.returns-clause-there
returns-clause-there c =
    let lsn = c.run-lsn.result.0 in
    let differ : c.args.i ≡ 0 → ⊥ = c.if-i-eq0.false in
    let many : 1 ≤ c.run-lsn.result.1 = c.run-lsn.ensures.segment.some in
    let same = c.from.ensures in
    segment_after (c.args.self.now.fd, 1) c.args.self.now.segs c.args.i lsn c.from.result (omega arith) (omega arith) (c.run-lsn.ensures.pair ∙ ap (λ n. Some (lsn, n)) (sym c.from.ensures))
