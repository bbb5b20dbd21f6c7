use Rattle.std.proofs.Common.{◌≡◌, ◌∙◌, length, ap, sym, arith}
use Rattle.std.proofs.lemmas.List.{length-map}
use Rattle.device_table.specs.Seen.{terminal_states}
use Rattle.file_drives.specs.Drives.{boxed_seen}
use Rattle.os9_kernel.specs.Outside.{outside}
use Rattle.boot_run.specs.World.{world_of}
use Rattle.os9_debug.proofs.SessionLemmas.{emptied, empty-again}
use Rattle.os9_debug.proofs.session.show.Goals as goal

pub returns-clause-session : goal.returns-clause-session
returns-clause-session g c =
    let before = world_of g.H.Host c.args.host.now (outside (λ box. (g.dyn-1.0.entry box.vtable).1) (λ box. (g.dyn-2.0.entry box.vtable).1) c.args.devices.now) in
    let mid = world_of g.H.Host c.debug-answer.new.host (outside (λ box. (g.dyn-1.0.entry box.vtable).1) (λ box. (g.dyn-2.0.entry box.vtable).1) c.debug-answer.new.devices) in
    let left = outside (λ box. (g.dyn-1.0.entry box.vtable).1) (λ box. (g.dyn-2.0.entry box.vtable).1) c.eject_images.new.devices in
    let terms = ap (λ terms. terminal_states (λ box. (g.dyn-2.0.entry box.vtable).1) terms.items) c.eject_images.ensures.terms_kept in
    record {
      answer = c.debug-answer.result;
      ends = c.end_of_session.ensures;
      call = emptied c.args.machine.now c.args.commands.now before mid left c.requires.room.empty c.eject_images.ensures.taken.left terms c.debug-answer.result c.debug-answer.ensures.call;
    }

pub returns-clause-drives : goal.returns-clause-drives
returns-clause-drives g c =
    let view = boxed_seen (λ box. (g.dyn-1.0.entry box.vtable).1) in
    let items : length c.debug-answer.new.devices.drives.items ≡ length c.args.devices.now.drives.items = omega
    (arith, c.debug-answer.ensures.drives, c.debug-answer.new.devices.drives.ok.0, c.args.devices.now.drives.ok.0)
    in
    empty-again _ _ _ (length-map c.debug-answer.new.devices.drives.items view ∙ items ∙ sym (length-map c.args.devices.now.drives.items view)) c.eject_images.ensures.taken.left
