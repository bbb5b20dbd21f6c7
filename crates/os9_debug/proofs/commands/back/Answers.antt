use Rattle.std.proofs.Common.{◌≡◌, ◌-◌, List, ℕ, subst, sym, arith}
use Rattle.os9_kernel.specs.Outside.{outside}
use Rattle.os9_debug.specs.declared.command.Command.TheVariants.{To, Back}
use Rattle.os9_debug.specs.Moves.{HasShown}
use Rattle.os9_debug.proofs.Going.{may-back, moves-as, moves-not, shown-any}
use Rattle.os9_debug.proofs.commands.back.Goals as goal

pub go_to-requires : goal.go_to-requires
go_to-requires g c = c.requires

pub returns-in-Ok-clause-moved : goal.returns-in-Ok-clause-moved
returns-in-Ok-clause-moved g c =
    moves-as _ _ c.args.machine.now (To c.saturating_sub-k.result) (Back c.args.n) c.args.position.now c.go_to.new.position _ _ c.in-Ok.ensures.moved

pub returns-in-Ok-clause-shown : goal.returns-in-Ok-clause-shown
returns-in-Ok-clause-shown g c =
    let before = outside (λ box. (g.dyn-1.0.entry box.vtable).1) (λ box. (g.dyn-2.0.entry box.vtable).1) c.args.devices.now in
    let after = outside (λ box. (g.dyn-1.0.entry box.vtable).1) (λ box. (g.dyn-2.0.entry box.vtable).1) c.go_to.new.devices in
    let place : c.saturating_sub-k.result ≡ c.args.position.now.events - c.args.n = omega arith in
    subst (λ (line : List ℕ). HasShown c.args.machine.now (Back c.args.n) c.args.position.now c.go_to.new.position line before after) (sym c.new.ensures.items)
    (shown-any c.in-Ok.field-0 c.args.machine.now c.args.n c.saturating_sub-k.result c.args.position.now
    c.go_to.new.position before after c.in-Ok.ensures.moved place (λ e. c.in-Ok.ensures.reached cc)
    (λ e. c.in-Ok.ensures.end cc))

pub returns-in-Err-clause-moved : goal.returns-in-Err-clause-moved
returns-in-Err-clause-moved g c =
    let place : c.saturating_sub-k.result ≡ c.args.position.now.events - c.args.n = omega arith in
    moves-not c.args.machine.now (Back c.args.n) c.args.position.now _ c.in-Err.fault _ _ c.in-Err.ensures.moved.fails
    (may-back c.args.n c.saturating_sub-k.result c.args.position.now.events c.in-Err.fault place
    c.in-Err.ensures.moved.may_fail)
