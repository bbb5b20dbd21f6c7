use Rattle.std.proofs.Common.{arith}
use Rattle.module_format.proofs.Places.{next_place_is}
use Rattle.module_format.proofs.file.next_place.Goals as goal

pub returns-then-bytes-at-ne0-clause-place : goal.returns-then-bytes-at-ne0-clause-place
returns-then-bytes-at-ne0-clause-place c =
    next_place_is c.args.bytes.now c.args.from c.loop-at.at (omega arith) (omega arith) c.loop-at.invariant (λ h. c.if-bytes-at-ne0.true)

pub returns-clause-place : goal.returns-clause-place
returns-clause-place c =
    next_place_is c.args.bytes.now c.args.from _ (omega arith) (omega arith) (λ k after before. c.loop-at.invariant k after (omega arith)) (λ h. absurd (omega arith))
