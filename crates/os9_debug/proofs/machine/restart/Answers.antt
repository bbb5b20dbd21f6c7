use Rattle.std.proofs.Common.{◌≡◌, length, ap, sym, arith}
use Rattle.std.specs.Vec.{vec_len}
use Rattle.std.proofs.lemmas.List.{length-map}
use Rattle.device_table.specs.Seen.{terminal_states}
use Rattle.file_drives.specs.Drives.{drive_views}
use Rattle.os9_kernel.specs.Outside.{outside}
use Rattle.os9_debug.specs.declared.machine.SessionFault.TheVariants.{TerminalFailed}
use Rattle.os9_debug.proofs.Starting.{can-again, come-few, has-restarted, no-restart}
use Rattle.os9_debug.proofs.machine.restart.Goals as goal

pub drop_keys-requires : goal.drop_keys-requires
drop_keys-requires g c =
    let terms = c.args.devices.now.terms in
    let before = outside (λ box. (g.dyn-1.0.entry box.vtable).1) (λ box. (g.dyn-2.0.entry box.vtable).1) c.args.devices.now in
    let long : length (terminal_states (λ box. (g.dyn-2.0.entry box.vtable).1) terms.items) ≡ vec_len terms = simp length-map (sym terms.ok.0) in
    omega (arith, long, come-few c.args.machine.now before c.requires)

pub start-requires : goal.start-requires
start-requires g c =
    let before = outside (λ box. (g.dyn-1.0.entry box.vtable).1) (λ box. (g.dyn-2.0.entry box.vtable).1) c.args.devices.now in
    let dropped = outside (λ box. (g.dyn-1.0.entry box.vtable).1) (λ box. (g.dyn-2.0.entry box.vtable).1) c.drop_keys.new.devices in
    let emptied = outside (λ box. (g.dyn-1.0.entry box.vtable).1) (λ box. (g.dyn-2.0.entry box.vtable).1) c.empty_terminals.new.devices in
    let kept = ap (λ drives. drive_views (λ box. (g.dyn-1.0.entry box.vtable).1) drives.items) c.in-Ok.ensures.drives_kept in
    let still = ap (λ drives. drive_views (λ box. (g.dyn-1.0.entry box.vtable).1) drives.items) c.empty_terminals.ensures.drives_kept in
    can-again c.args.machine.now before dropped emptied emptied c.in-Ok.ensures.dropped kept c.empty_terminals.ensures.emptied still c.requires

pub returns-in-Err-clause-restarted : goal.returns-in-Err-clause-restarted
returns-in-Err-clause-restarted g c =
    let kept = ap (λ drives. drive_views (λ box. (g.dyn-1.0.entry box.vtable).1) drives.items) c.in-Err.ensures.drives_kept in
    no-restart c.args.machine.now (TerminalFailed c.in-Err.fault.0) _ _ (c.in-Err.ensures.dropped, kept)

pub returns-clause-restarted : goal.returns-clause-restarted
returns-clause-restarted g c =
    let before = outside (λ box. (g.dyn-1.0.entry box.vtable).1) (λ box. (g.dyn-2.0.entry box.vtable).1) c.args.devices.now in
    let dropped = outside (λ box. (g.dyn-1.0.entry box.vtable).1) (λ box. (g.dyn-2.0.entry box.vtable).1) c.drop_keys.new.devices in
    let emptied = outside (λ box. (g.dyn-1.0.entry box.vtable).1) (λ box. (g.dyn-2.0.entry box.vtable).1) c.empty_terminals.new.devices in
    let after = outside (λ box. (g.dyn-1.0.entry box.vtable).1) (λ box. (g.dyn-2.0.entry box.vtable).1) c.start.new.devices in
    let kept = ap (λ drives. drive_views (λ box. (g.dyn-1.0.entry box.vtable).1) drives.items) c.in-Ok.ensures.drives_kept in
    let still = ap (λ drives. drive_views (λ box. (g.dyn-1.0.entry box.vtable).1) drives.items) c.empty_terminals.ensures.drives_kept in
    has-restarted c.args.machine.now before dropped emptied after c.in-Ok.ensures.dropped kept c.empty_terminals.ensures.emptied still c.start.result c.start.ensures.started
