use Rattle.std.proofs.Common.{refl}
use Rattle.os9_kernel.specs.declared.act.Act.TheVariants.{Attempt, Delivery}
use Rattle.os9_kernel.proofs.Acting.{does-next}
use Rattle.os9_kernel.proofs.Turns.{turn-of}
use Rattle.os9_kernel.proofs.kernel.Kernel.turn.Goals as goal

pub returns-in-Instruction-clause-turn : goal.returns-in-Instruction-clause-turn
returns-in-Instruction-clause-turn g c = c.instructions.ensures.turn _

pub returns-in-Attempt-clause-turn : goal.returns-in-Attempt-clause-turn
returns-in-Attempt-clause-turn g c =
    let old = c.args.self.now in
    let act = Attempt c.in-Attempt.code in
    turn-of c.args.left old _ c.unwrap-p.result act (does-next old c.unwrap-p.result act c.unwrap-p.ensures
    c.in-Attempt.ensures.process c.requires.going c.in-Attempt.ensures.next) refl _ _ c.attempt-end.result
    c.attempt-end.ensures.event c.attempt-end.ensures.progress

pub returns-in-Delivery-clause-turn : goal.returns-in-Delivery-clause-turn
returns-in-Delivery-clause-turn g c =
    let old = c.args.self.now in
    let act = Delivery c.in-Delivery.signal in
    turn-of c.args.left old _ c.unwrap-p.result act (does-next old c.unwrap-p.result act c.unwrap-p.ensures
    c.in-Delivery.ensures.process c.requires.going c.in-Delivery.ensures.next) refl _ _ c.deliver-end.result
    (c.deliver-end.ensures.event _) c.deliver-end.ensures.progress
