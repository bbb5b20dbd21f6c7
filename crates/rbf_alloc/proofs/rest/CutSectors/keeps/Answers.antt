use Rattle.std.proofs.Common.{⊎_elim, arith}
use Rattle.rbf_alloc.proofs.Rests.{kept_by, not_kept_by, kept_by_none}
use Rattle.rbf_alloc.proofs.rest.CutSectors.keeps.Goals as goal

pub loop-i-preserved : goal.loop-i-preserved
loop-i-preserved c =
    not_kept_by c.args.k c.args.place c.loop-i.i c.args.c c.args.self.now.kept c.stretch-part.result (omega arith) c.stretch-part.ensures c.requires.there c.loop-i.invariant
    (λ from to. ⊎_elim (λ p. let high = p.1 in absurd (omega arith)) (λ low. absurd (omega arith)) c.else-part-c.either)

pub returns : goal.returns
returns c = kept_by_none c.args.k c.loop-i.i c.args.c c.args.self.now.kept (omega arith) c.loop-i.invariant
