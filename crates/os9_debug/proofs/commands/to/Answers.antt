use Rattle.std.proofs.Common.{◌≡◌, List, ℕ, subst, sym, ap, ◌∙◌}
use Rattle.std.specs.Prelude.{IfOk}
use Rattle.os9_kernel.specs.Outside.{outside}
use Rattle.os9_debug.specs.Show.{end_line}
use Rattle.os9_debug.specs.declared.command.Command.TheVariants.{To}
use Rattle.os9_debug.specs.Moves.{HasShown, MovesOn}
use Rattle.os9_debug.proofs.Going.{moves-as, moves-not, moves-told, shown-end, shown-there, shown-told}
use Rattle.os9_debug.proofs.commands.to.Goals as goal

pub go_to-requires : goal.go_to-requires
go_to-requires g c = c.requires

pub returns-in-Ok-Event-clause-moved : goal.returns-in-Ok-Event-clause-moved
returns-in-Ok-Event-clause-moved g c =
    moves-as _ _ c.args.machine.now (To c.args.k) (To c.args.k) c.args.position.now c.go_to.new.position _ _ c.in-Ok-Event.ensures.moved

pub returns-in-Ok-Event-clause-shown : goal.returns-in-Ok-Event-clause-shown
returns-in-Ok-Event-clause-shown g c =
    let before = outside (λ box. (g.dyn-1.0.entry box.vtable).1) (λ box. (g.dyn-2.0.entry box.vtable).1) c.args.devices.now in
    let after = outside (λ box. (g.dyn-1.0.entry box.vtable).1) (λ box. (g.dyn-2.0.entry box.vtable).1) c.go_to.new.devices in
    subst (λ (line : List ℕ). HasShown c.args.machine.now (To c.args.k) c.args.position.now c.go_to.new.position line before after) (sym c.new.ensures.items)
    (shown-there _ c.args.machine.now c.args.k c.args.position.now c.go_to.new.position before after c.in-Ok-Event.ensures.moved (c.in-Ok-Event.ensures.reached cc))

pub returns-in-Ok-End-clause-moved : goal.returns-in-Ok-End-clause-moved
returns-in-Ok-End-clause-moved g c =
    let before = outside (λ box. (g.dyn-1.0.entry box.vtable).1) (λ box. (g.dyn-2.0.entry box.vtable).1) c.args.devices.now in
    let after = outside (λ box. (g.dyn-1.0.entry box.vtable).1) (λ box. (g.dyn-2.0.entry box.vtable).1) c.go_to.new.devices in
    subst (λ answer. MovesOn c.args.machine.now (To c.args.k) c.args.position.now c.go_to.new.position answer before after) (sym c.told.ensures)
    (moves-told c.end_line.result _ c.args.machine.now (To c.args.k) c.args.position.now c.go_to.new.position before after c.in-Ok-End.ensures.moved)

pub returns-in-Ok-End-clause-shown : goal.returns-in-Ok-End-clause-shown
returns-in-Ok-End-clause-shown g c =
    let before = outside (λ box. (g.dyn-1.0.entry box.vtable).1) (λ box. (g.dyn-2.0.entry box.vtable).1) c.args.devices.now in
    let after = outside (λ box. (g.dyn-1.0.entry box.vtable).1) (λ box. (g.dyn-2.0.entry box.vtable).1) c.go_to.new.devices in
    subst (λ answer. IfOk answer (λ line. HasShown c.args.machine.now (To c.args.k) c.args.position.now c.go_to.new.position line.items before after)) (sym c.told.ensures)
    (shown-told c.end_line.result (λ line. line.items ≡ end_line c.events.result) (λ line. HasShown c.args.machine.now (To c.args.k) c.args.position.now c.go_to.new.position line.items before after)
    (λ line is. shown-end c.args.machine.now c.args.k c.args.position.now c.go_to.new.position before after
    (c.in-Ok-End.ensures.end cc) line.items (is ∙ ap end_line c.events.ensures)) c.end_line.ensures)

pub returns-in-Err-clause-moved : goal.returns-in-Err-clause-moved
returns-in-Err-clause-moved g c =
    moves-not c.args.machine.now (To c.args.k) c.args.position.now _ c.in-Err.fault _ _ c.in-Err.ensures.moved.fails c.in-Err.ensures.moved.may_fail
