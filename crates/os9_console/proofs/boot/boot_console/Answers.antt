use Rattle.std.proofs.Common.{◌∙◌, [], refl, subst}
use Rattle.os9_kernel.specs.Outside.{outside}
use Rattle.boot_run.specs.Machine.{history_left}
use Rattle.boot_run.specs.World.{world_of}
use Rattle.console_run.specs.Keyboard.{keyboard_state}
use Rattle.console_run.specs.declared.session.SessionEnd.TheVariants.{LineLost, OfRun}
use Rattle.console_run.proofs.PartLemmas.{keeps-none}
use Rattle.os9_console.specs.Images.{RunsConsole}
use Rattle.os9_words.specs.Notes.{HasReadFiles, notes_of}
use Rattle.boot_run.specs.declared.status.End.TheVariants.{NoMemory}
use Rattle.os9_boot.specs.History.{output_bytes, output_names, outputs_of}
use Rattle.os9_boot.proofs.NameLemmas.{behind-end, behind-images, images-unwritten}
use Rattle.os9_console.proofs.NoteLemmas.{notes-after, notes-stopped, still-written}
use Rattle.os9_console.proofs.CallLemmas.{boot_setup, console-ended, console-lost, console-refused, console-stopped}
use Rattle.os9_console.proofs.boot.boot_console.Goals as goal

pub returns-in-Err-clause-call : goal.returns-in-Err-clause-call
returns-in-Err-clause-call g c =
    let devices = outside (λ box. (g.dyn-1.0.entry box.vtable).1) (λ box. (g.dyn-2.0.entry box.vtable).1) c.args.devices.now in
    console-stopped c.args.boot.now c.args.console.now.typed _ _ _ _ (keeps-none _ _ c.requires.untyped) (c.in-Err.ensures.ended devices)

pub returns-in-Err-accept_images-clause-call : goal.returns-in-Err-accept_images-clause-call
returns-in-Err-accept_images-clause-call g c =
    let devices = outside (λ box. (g.dyn-1.0.entry box.vtable).1) (λ box. (g.dyn-2.0.entry box.vtable).1) c.args.devices.now in
    console-refused c.args.boot.now c.args.console.now.typed _ _ _ c.in-Err-accept_images.end c.in-Ok.images
    (keeps-none _ _ c.requires.untyped) (c.in-Ok.ensures.kept devices) c.in-Ok.ensures.contents c.in-Err-accept_images.ensures.refused

pub returns-in-OfRun-clause-call : goal.returns-in-OfRun-clause-call
returns-in-OfRun-clause-call g c =
    let devices = outside (λ box. (g.dyn-1.0.entry box.vtable).1) (λ box. (g.dyn-2.0.entry box.vtable).1) c.args.devices.now in
    let left = outside (λ box. (g.dyn-1.0.entry box.vtable).1) (λ box. (g.dyn-2.0.entry box.vtable).1) c.run_on_images-session.new.devices in
    let typed = c.run_on_images-session.new.console.typed in
    let file = c.in-Ok-accept_images.file.items in
    let from = keyboard_state g.K.Keyboard c.args.console.now.keyboard in
    let to = keyboard_state g.K.Keyboard c.run_on_images-session.new.console.keyboard in
    let before = world_of g.H.Host c.args.host.now devices in
    let read = world_of g.H.Host c.read_images.new.host devices in
    let mid = world_of g.H.Host c.run_on_images-session.new.host left in
    let history = history_left c.run_on_images-session.result.records in
    let setup = boot_setup c.args.boot.now file c.in-Ok.images typed in
    let new = c.run_on_images-session.new.images in
    let ran = subst (λ end. RunsConsole setup typed new history end from to before mid) c.in-OfRun.is
    (subst (λ world. RunsConsole setup typed new history c.run_on_images-session.result.end from to world mid)
    (c.in-Ok.ensures.kept devices) c.run_on_images-session.ensures.run) in
    console-ended c.args.boot.now typed file c.in-Ok.images new history from to before mid _
    c.in-OfRun.end c.write_back.result c.in-Ok.ensures.count c.in-Ok-accept_images.ensures.well_formed
    c.in-Ok-accept_images.ensures.bytes c.requires.devices.terminals.unloaded c.in-Ok.ensures.contents ran
    (c.write_back.ensures.ended left)

pub returns-clause-call : goal.returns-clause-call
returns-clause-call g c =
    let devices = outside (λ box. (g.dyn-1.0.entry box.vtable).1) (λ box. (g.dyn-2.0.entry box.vtable).1) c.args.devices.now in
    let left = outside (λ box. (g.dyn-1.0.entry box.vtable).1) (λ box. (g.dyn-2.0.entry box.vtable).1) c.run_on_images-session.new.devices in
    let typed = c.run_on_images-session.new.console.typed in
    let file = c.in-Ok-accept_images.file.items in
    let from = keyboard_state g.K.Keyboard c.args.console.now.keyboard in
    let to = keyboard_state g.K.Keyboard c.run_on_images-session.new.console.keyboard in
    let before = world_of g.H.Host c.args.host.now devices in
    let mid = world_of g.H.Host c.run_on_images-session.new.host left in
    let history = history_left c.run_on_images-session.result.records in
    let setup = boot_setup c.args.boot.now file c.in-Ok.images typed in
    let new = c.run_on_images-session.new.images in
    let ran = subst (λ end. RunsConsole setup typed new history end from to before mid) c.in-LineLost.is
    (subst (λ world. RunsConsole setup typed new history c.run_on_images-session.result.end from to world mid)
    (c.in-Ok.ensures.kept devices) c.run_on_images-session.ensures.run) in
    console-lost c.args.boot.now typed file c.in-Ok.images new history from to before mid c.in-Ok.ensures.count
    c.in-Ok-accept_images.ensures.well_formed c.in-Ok-accept_images.ensures.bytes c.in-Ok.ensures.contents
    c.in-LineLost.field-0 ran

-- ---- the names

pub returns-in-Err-clause-noted : goal.returns-in-Err-clause-noted
returns-in-Err-clause-noted g c = notes-stopped c.args.boot.now _ _ _ c.in-Err.ensures.stopped

pub returns-in-Err-accept_images-clause-noted : goal.returns-in-Err-accept_images-clause-noted
returns-in-Err-accept_images-clause-noted g c =
    let boot = c.args.boot.now in
    let end = c.in-Err-accept_images.end in
    let refused = c.in-Err-accept_images.ensures.refused in
    notes-after boot end _ _ _ (behind-images c.in-Ok.images end refused) c.in-Ok.ensures.noted [] (images-unwritten (outputs_of boot) c.in-Ok.images end refused) (record { is = still-written _ })

pub returns-in-OfRun-clause-noted : goal.returns-in-OfRun-clause-noted
returns-in-OfRun-clause-noted g c =
    let left = outside (λ box. (g.dyn-1.0.entry box.vtable).1) (λ box. (g.dyn-2.0.entry box.vtable).1) c.run_on_images-session.new.devices in
    let back = c.write_back.ensures.noted in
    let outputs = outputs_of c.args.boot.now in
    let bytes = output_bytes outputs c.run_on_images-session.new.images (history_left c.run_on_images-session.result.records) in
    let behind = behind-end outputs bytes c.in-OfRun.end c.write_back.result
    (world_of g.H.Host c.run_on_images-session.new.host left) (world_of g.H.Host c.write_back.new.host left)
    (c.write_back.ensures.ended left) in
    let read : HasReadFiles c.args.boot.now.files (notes_of g.H.Host c.args.host.now)
    (notes_of g.H.Host c.run_on_images-session.new.host) = record {
      is = c.run_on_images-session.ensures.notes_kept ∙
          c.in-Ok.ensures.noted.is;
    } in
    notes-after c.args.boot.now c.write_back.result _ _ _ behind read back.written back.writes back.noted

pub returns-clause-noted : goal.returns-clause-noted
returns-clause-noted g c =
    let read : HasReadFiles c.args.boot.now.files (notes_of g.H.Host c.args.host.now)
    (notes_of g.H.Host c.run_on_images-session.new.host) = record {
      is = c.run_on_images-session.ensures.notes_kept ∙
          c.in-Ok.ensures.noted.is;
    } in
    notes-after c.args.boot.now NoMemory _ _ _ tt read [] (output_names (outputs_of c.args.boot.now), refl) (record { is = still-written _ })

-- ---- the drives

pub returns-in-OfRun-clause-drives : goal.returns-in-OfRun-clause-drives
returns-in-OfRun-clause-drives g c = c.run_on_images-session.ensures.run.machine.drives

pub returns-clause-drives : goal.returns-clause-drives
returns-clause-drives g c = c.run_on_images-session.ensures.run.machine.drives
