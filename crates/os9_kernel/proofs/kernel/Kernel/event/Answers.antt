use Rattle.std.proofs.Common.{◌≡◌, refl, arith}
use Rattle.machine_model.specs.Event.{cost}
use Rattle.os9_kernel.specs.declared.act.Act.TheVariants.{Attempt, Delivery, Instruction}
use Rattle.os9_kernel.specs.Outside.{Outside, outside}
use Rattle.os9_kernel.proofs.Acting.{cost-is, does-next}
use Rattle.os9_kernel.proofs.Changing.{keeps-drives}
use Rattle.os9_kernel.proofs.Counting.{leaves-drives}
use Rattle.os9_kernel.proofs.Turns.{single, single-count}
use Rattle.os9_kernel.proofs.kernel.Kernel.event.Goals as goal

pub returns-in-Delivery-clause-event : goal.returns-in-Delivery-clause-event
returns-in-Delivery-clause-event g c = c.deliver.ensures.event _

pub returns-in-Instruction-clause-event : goal.returns-in-Instruction-clause-event
returns-in-Instruction-clause-event g c =
    let old = c.args.self.now in
    let p = c.unwrap-p.result in
    let before : Outside = outside (λ box. (g.dyn-1.0.entry box.vtable).1) (λ box. (g.dyn-2.0.entry box.vtable).1) c.args.devices.now in
    let next = does-next old p Instruction c.unwrap-p.ensures c.in-Instruction.ensures.process c.requires.going c.in-Instruction.ensures.next in
    let turn = c.instructions.ensures.turn _ in record {
      step = λ other s tied.
          let (t, events, there) = turn.step other s tied in
          (t, single s t c.instructions.result.end c.instructions.result.count events turn.few (cost-is old p Instruction next _ s tied), there);
      memory = turn.memory;
      going = turn.going;
      waits = λ is. absurd (c.instructions.ensures.goes_on is);
      count = turn.count;
      calls = leaves-drives old before before refl;
      images = keeps-drives old before before refl;
    }

-- ---- the instructions that are counted

pub returns-in-Attempt-clause-executed : goal.returns-in-Attempt-clause-executed
returns-in-Attempt-clause-executed g c before s tied few =
    let old = c.args.self.now in
    let p = c.unwrap-p.result in
    let act = Attempt c.in-Attempt.code in
    let next = does-next old p act c.unwrap-p.ensures c.in-Attempt.ensures.process c.requires.going c.in-Attempt.ensures.next in
    let none : cost s ≡ 0 = cost-is old p act next before s tied in
    omega (arith, none, c.attempt.ensures.executed)

pub returns-in-Delivery-clause-executed : goal.returns-in-Delivery-clause-executed
returns-in-Delivery-clause-executed g c before s tied few =
    let old = c.args.self.now in
    let p = c.unwrap-p.result in
    let act = Delivery c.in-Delivery.signal in
    let next = does-next old p act c.unwrap-p.ensures c.in-Delivery.ensures.process c.requires.going c.in-Delivery.ensures.next in
    let none : cost s ≡ 0 = cost-is old p act next before s tied in
    omega (arith, none, c.deliver.ensures.executed)

pub returns-in-Instruction-clause-executed : goal.returns-in-Instruction-clause-executed
returns-in-Instruction-clause-executed g c before s tied few =
    let old = c.args.self.now in
    let p = c.unwrap-p.result in
    let next = does-next old p Instruction c.unwrap-p.ensures c.in-Instruction.ensures.process c.requires.going c.in-Instruction.ensures.next in
    let one : cost s ≡ 1 = cost-is old p Instruction next before s tied in
    let turn = c.instructions.ensures.turn before in
    let (t, events, there) = turn.step c.instructions.ensures.kept s tied in
    let counted : c.instructions.result.count ≡ cost s = single-count s t c.instructions.result.end c.instructions.result.count events turn.few one in
    omega (arith, counted, c.instructions.ensures.executed (omega (arith, counted, few)))
