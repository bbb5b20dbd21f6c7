use Rattle.std.proofs.Common.{◌≡◌, subst, sym}
use Rattle.std.specs.Prelude.{IfOk}
use Rattle.os9_kernel.specs.Outside.{outside}
use Rattle.os9_debug.specs.Prints.{shows}
use Rattle.os9_debug.specs.declared.command.Command.{Command}
use Rattle.os9_debug.specs.declared.command.Command.TheVariants.{Regs, Mem, Dis}
use Rattle.os9_debug.specs.Moves.{AtPosition, HasShown, MovesOn}
use Rattle.os9_debug.proofs.Going.{moves-nowhere, moves-told, shown-instructions, shown-memory, shown-regs, shown-told}
use Rattle.os9_debug.proofs.commands.obey.Goals as goal

pub to-requires : goal.to-requires
to-requires g c = c.requires

pub back-requires : goal.back-requires
back-requires g c = c.requires

pub memory_line-requires : goal.memory_line-requires
memory_line-requires g c =
    let (first, can, at) = c.requires in
    at.goes_on.numbered

pub instruction_lines-requires : goal.instruction_lines-requires
instruction_lines-requires g c =
    let (first, can, at) = c.requires in
    at.goes_on.numbered

pub returns-in-To-clause-moved : goal.returns-in-To-clause-moved
returns-in-To-clause-moved g c =
    let before = outside (λ box. (g.dyn-1.0.entry box.vtable).1) (λ box. (g.dyn-2.0.entry box.vtable).1) c.args.devices.now in
    let after = outside (λ box. (g.dyn-1.0.entry box.vtable).1) (λ box. (g.dyn-2.0.entry box.vtable).1) c.to.new.devices in
    subst (λ (command : Command). MovesOn c.args.machine.now command c.args.position.now c.to.new.position c.to.result before after) (sym c.in-To.is) c.to.ensures.moved

pub returns-in-Back-clause-moved : goal.returns-in-Back-clause-moved
returns-in-Back-clause-moved g c =
    let before = outside (λ box. (g.dyn-1.0.entry box.vtable).1) (λ box. (g.dyn-2.0.entry box.vtable).1) c.args.devices.now in
    let after = outside (λ box. (g.dyn-1.0.entry box.vtable).1) (λ box. (g.dyn-2.0.entry box.vtable).1) c.back.new.devices in
    subst (λ (command : Command). MovesOn c.args.machine.now command c.args.position.now c.back.new.position c.back.result before after) (sym c.in-Back.is) c.back.ensures.moved

pub returns-in-To-clause-shown : goal.returns-in-To-clause-shown
returns-in-To-clause-shown g c =
    let before = outside (λ box. (g.dyn-1.0.entry box.vtable).1) (λ box. (g.dyn-2.0.entry box.vtable).1) c.args.devices.now in
    let after = outside (λ box. (g.dyn-1.0.entry box.vtable).1) (λ box. (g.dyn-2.0.entry box.vtable).1) c.to.new.devices in
    subst (λ (command : Command). IfOk c.to.result (λ line. HasShown c.args.machine.now command c.args.position.now c.to.new.position line.items before after)) (sym c.in-To.is) c.to.ensures.shown

pub returns-in-Back-clause-shown : goal.returns-in-Back-clause-shown
returns-in-Back-clause-shown g c =
    let before = outside (λ box. (g.dyn-1.0.entry box.vtable).1) (λ box. (g.dyn-2.0.entry box.vtable).1) c.args.devices.now in
    let after = outside (λ box. (g.dyn-1.0.entry box.vtable).1) (λ box. (g.dyn-2.0.entry box.vtable).1) c.back.new.devices in
    subst (λ (command : Command). IfOk c.back.result (λ line. HasShown c.args.machine.now command c.args.position.now
    c.back.new.position line.items before after)) (sym c.in-Back.is) c.back.ensures.shown

pub returns-in-Regs-clause-moved : goal.returns-in-Regs-clause-moved
returns-in-Regs-clause-moved g c =
    let devices = outside (λ box. (g.dyn-1.0.entry box.vtable).1) (λ box. (g.dyn-2.0.entry box.vtable).1) c.args.devices.now in
    subst (λ answer. MovesOn c.args.machine.now c.args.command c.args.position.now c.args.position.now answer devices devices) (sym c.told.ensures)
    (moves-told c.regs_line.result (tt {0}) c.args.machine.now c.args.command c.args.position.now c.args.position.now
    devices devices (moves-nowhere (tt {0}) c.args.machine.now c.args.command c.args.position.now devices))

pub returns-in-Regs-clause-shown : goal.returns-in-Regs-clause-shown
returns-in-Regs-clause-shown g c =
    let devices = outside (λ box. (g.dyn-1.0.entry box.vtable).1) (λ box. (g.dyn-2.0.entry box.vtable).1) c.args.devices.now in
    let position = c.args.position.now in
    subst (λ (command : Command). IfOk c.told.result (λ line. HasShown c.args.machine.now command position position line.items devices devices)) (sym c.in-Regs.is)
    (subst (λ answer. IfOk answer (λ line. HasShown c.args.machine.now Regs position position line.items devices devices)) (sym c.told.ensures)
    (shown-told c.regs_line.result (λ line. AtPosition position (λ course. line.items ≡ shows course position.events
    Regs)) (λ line. HasShown c.args.machine.now Regs position position line.items devices devices)
    (λ line is. shown-regs c.args.machine.now position devices line.items is) c.regs_line.ensures))

pub returns-in-Mem-clause-moved : goal.returns-in-Mem-clause-moved
returns-in-Mem-clause-moved g c =
    let devices = outside (λ box. (g.dyn-1.0.entry box.vtable).1) (λ box. (g.dyn-2.0.entry box.vtable).1) c.args.devices.now in
    subst (λ answer. MovesOn c.args.machine.now c.args.command c.args.position.now c.args.position.now answer devices devices) (sym c.told-in-Mem.ensures)
    (moves-told c.memory_line.result (tt {0}) c.args.machine.now c.args.command c.args.position.now
    c.args.position.now devices devices (moves-nowhere (tt {0}) c.args.machine.now c.args.command
    c.args.position.now devices))

pub returns-in-Mem-clause-shown : goal.returns-in-Mem-clause-shown
returns-in-Mem-clause-shown g c =
    let devices = outside (λ box. (g.dyn-1.0.entry box.vtable).1) (λ box. (g.dyn-2.0.entry box.vtable).1) c.args.devices.now in
    let position = c.args.position.now in
    subst (λ (command : Command). IfOk c.told-in-Mem.result (λ line. HasShown c.args.machine.now command position position line.items devices devices)) (sym c.in-Mem.is)
    (subst (λ answer. IfOk answer (λ line. HasShown c.args.machine.now (Mem c.in-Mem.span) position position line.items devices devices)) (sym c.told-in-Mem.ensures)
    (shown-told c.memory_line.result (λ line. AtPosition position (λ course. line.items ≡ shows course position.events
    (Mem c.in-Mem.span))) (λ line. HasShown c.args.machine.now (Mem c.in-Mem.span) position position line.items
    devices devices)
    (λ line is. shown-memory c.args.machine.now position devices line.items c.in-Mem.span is) c.memory_line.ensures))

pub returns-in-Dis-clause-moved : goal.returns-in-Dis-clause-moved
returns-in-Dis-clause-moved g c =
    let devices = outside (λ box. (g.dyn-1.0.entry box.vtable).1) (λ box. (g.dyn-2.0.entry box.vtable).1) c.args.devices.now in
    subst (λ answer. MovesOn c.args.machine.now c.args.command c.args.position.now c.args.position.now answer devices devices) (sym c.told-in-Dis.ensures)
    (moves-told c.instruction_lines.result (tt {0}) c.args.machine.now c.args.command c.args.position.now
    c.args.position.now devices devices (moves-nowhere (tt {0}) c.args.machine.now c.args.command
    c.args.position.now devices))

pub returns-in-Dis-clause-shown : goal.returns-in-Dis-clause-shown
returns-in-Dis-clause-shown g c =
    let devices = outside (λ box. (g.dyn-1.0.entry box.vtable).1) (λ box. (g.dyn-2.0.entry box.vtable).1) c.args.devices.now in
    let position = c.args.position.now in
    subst (λ (command : Command). IfOk c.told-in-Dis.result (λ line. HasShown c.args.machine.now command position position line.items devices devices)) (sym c.in-Dis.is)
    (subst (λ answer. IfOk answer (λ line. HasShown c.args.machine.now (Dis c.in-Dis.span) position position line.items devices devices)) (sym c.told-in-Dis.ensures)
    (shown-told c.instruction_lines.result (λ line. AtPosition position (λ course. line.items ≡ shows course
    position.events (Dis c.in-Dis.span))) (λ line. HasShown c.args.machine.now (Dis c.in-Dis.span) position
    position line.items devices devices)
    (λ line is. shown-instructions c.args.machine.now position devices line.items c.in-Dis.span is) c.instruction_lines.ensures))
