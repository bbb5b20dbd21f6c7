use Rattle.std.proofs.Common.{◌≡◌, Ok, subst}
use Rattle.os9_kernel.specs.Outside.{outside}
use Rattle.os9_debug.specs.declared.command.Command.TheVariants.{To}
use Rattle.os9_debug.specs.PositionMoves.{HasReachedEvent}
use Rattle.os9_debug.specs.declared.position.Step.{Step}
use Rattle.os9_debug.specs.declared.position.Step.TheVariants.{Event, End}
use Rattle.os9_debug.specs.declared.machine.SessionFault.TheVariants.{NoMemory}
use Rattle.os9_debug.proofs.Counted.{fell-gained, fell-then}
use Rattle.os9_debug.proofs.Going.{at-end, moves-not, moves-on}
use Rattle.os9_debug.proofs.moves.go_to.Goals as goal

pub go_back-requires : goal.go_back-requires
go_back-requires g c = c.requires

pub advance_to-requires-clause-goes_on : goal.advance_to-requires-clause-goes_on
advance_to-requires-clause-goes_on g c =
    let (first, can, at) = c.requires in
    (c.in-Ok.ensures.moved.stays first can at).goes_on

pub returns-in-Err-clause-moved : goal.returns-in-Err-clause-moved
returns-in-Err-clause-moved g c =
    moves-not c.args.machine.now (To c.args.k) c.args.position.now _ c.in-Err.fault _ _ c.in-Err.ensures.moved.fails c.in-Err.ensures.moved.may_fail

pub returns-in-Err-clause-reached : goal.returns-in-Err-clause-reached
returns-in-Err-clause-reached g c = λ e. cc e

pub returns-in-Err-clause-end : goal.returns-in-Err-clause-end
returns-in-Err-clause-end g c = λ e. cc e

pub returns-in-Ok-advance_to-clause-moved : goal.returns-in-Ok-advance_to-clause-moved
returns-in-Ok-advance_to-clause-moved g c =
    moves-on _ c.args.machine.now c.args.k c.args.position.now c.go_back.new.position c.advance_to.new.self _ _ _ c.in-Ok.ensures.moved c.in-Ok-advance_to.step c.in-Ok-advance_to.ensures.gone

pub returns-in-Ok-advance_to-clause-reached : goal.returns-in-Ok-advance_to-clause-reached
returns-in-Ok-advance_to-clause-reached g c = λ is.
    let same : c.in-Ok-advance_to.step ≡ Event = cc in
    c.in-Ok-advance_to.ensures.gone.reached cc

pub returns-in-Ok-advance_to-clause-end : goal.returns-in-Ok-advance_to-clause-end
returns-in-Ok-advance_to-clause-end g c = λ is.
    let between = outside (λ box. (g.dyn-1.0.entry box.vtable).1) (λ box. (g.dyn-2.0.entry box.vtable).1) c.go_back.new.devices in
    let after = outside (λ box. (g.dyn-1.0.entry box.vtable).1) (λ box. (g.dyn-2.0.entry box.vtable).1) c.advance_to.new.devices in
    let same : c.in-Ok-advance_to.step ≡ End = cc in
    at-end _ c.args.machine.now c.args.k c.args.position.now c.go_back.new.position c.advance_to.new.self _ _ _
    c.in-Ok.ensures.moved (subst (λ (step : Step). HasReachedEvent c.args.k c.args.machine.now.slices.now
    c.go_back.new.position c.advance_to.new.self (Ok step) between after) same c.in-Ok-advance_to.ensures.gone)

pub returns-in-Err-advance_to-clause-moved : goal.returns-in-Err-advance_to-clause-moved
returns-in-Err-advance_to-clause-moved g c =
    moves-not c.args.machine.now (To c.args.k) c.args.position.now _ NoMemory _ _ (fell-then _ _ _ c.in-Ok.ensures.moved.counts (fell-gained _ _ c.in-Err-advance_to.ensures.gone.gains)) tt

pub returns-in-Err-advance_to-clause-reached : goal.returns-in-Err-advance_to-clause-reached
returns-in-Err-advance_to-clause-reached g c = λ e. cc e

pub returns-in-Err-advance_to-clause-end : goal.returns-in-Err-advance_to-clause-end
returns-in-Err-advance_to-clause-end g c = λ e. cc e
