use Rattle.std.proofs.Common.{◌≡◌, ◌∙◌, All, List, length, ap, subst, sym, arith}
use Rattle.std.proofs.lemmas.List.{length-map}
use Rattle.os9_outer.specs.TerminalState.{TerminalState}
use Rattle.device_table.specs.Seen.{terminal_states}
use Rattle.file_drives.specs.Drives.{boxed_seen, drive_views}
use Rattle.cold_start.specs.Start.{HaveImages}
use Rattle.os9_kernel.specs.Outside.{outside}
use Rattle.boot_run.specs.Console.{IsObserved}
use Rattle.boot_run.specs.Machine.{IsUnrun, Setup, history_left}
use Rattle.boot_run.specs.World.{world_of}
use Rattle.boot_run.proofs.ImageRunLemmas.{have-images, have-volumes, runs-between}
use Rattle.console_run.specs.Keyboard.{keyboard_state}
use Rattle.console_run.specs.Session.{IsPartTo, IsSessionTo, run_end}
use Rattle.os9_console.specs.Images.{LeavesSession, StopsMidway, session_setup}
use Rattle.os9_console.proofs.SessionLemmas.{part-between, session-between}
use Rattle.os9_console.proofs.images.run_on_images.Goals as goal

pub run_session-outcome-requires-clause-machine : goal.run_session-outcome-requires-clause-machine
run_session-outcome-requires-clause-machine g c =
    let was = c.args.devices.now.drives in
    let now = c.insert_images.new.devices.drives in
    let view = boxed_seen (λ box. (g.dyn-1.0.entry box.vtable).1) in
    let items : length now.items ≡ length was.items = omega (arith, c.insert_images.ensures.drives, now.ok.0, was.ok.0) in
    let many = length-map now.items view ∙ items ∙ sym (length-map was.items view) in
    record {
      least = c.requires.start.least;
      most = c.requires.start.most;
      time = c.requires.start.time;
      few = omega arith;
      terminals = rw c.insert_images.ensures.terms_kept c.requires.devices.terminals;
      enough = omega (arith, c.len.ensures, c.insert_images.ensures.count, many, c.requires.devices.room.enough);
      few_drives = omega (arith, many, c.requires.devices.room.few);
      volumes =
          rw (c.len.ensures, c.insert_images.ensures.count, c.insert_images.ensures.held) (have-volumes c.args.images.now _ c.requires.devices.room.enough c.requires.volumes);
    }

pub returns-clause-run : goal.returns-clause-run
returns-clause-run g c =
    let typed = c.run_session-outcome.new.console.typed in
    let before = world_of g.H.Host c.args.host.now (outside (λ box. (g.dyn-1.0.entry box.vtable).1) (λ box. (g.dyn-2.0.entry box.vtable).1) c.args.devices.now) in
    let inside = outside (λ box. (g.dyn-1.0.entry box.vtable).1) (λ box. (g.dyn-2.0.entry box.vtable).1) c.insert_images.new.devices in
    let ran = world_of g.H.Host c.run_session-outcome.new.host (outside (λ box. (g.dyn-1.0.entry box.vtable).1) (λ box. (g.dyn-2.0.entry box.vtable).1) c.run_session-outcome.new.devices) in
    let left = outside (λ box. (g.dyn-1.0.entry box.vtable).1) (λ box. (g.dyn-2.0.entry box.vtable).1) c.eject_images.new.devices in
    let setup = session_setup c.args.start.now c.args.images.now typed in
    let given : Setup = record setup { file = c.as_slice.result.now } in
    let same : given ≡ setup = λ i. record setup { file = c.as_slice.ensures.value i } in
    let items : length c.run_session-outcome.new.devices.drives.items ≡ length c.args.devices.now.drives.items = omega (
      arith,
      c.run_session-outcome.ensures.places.drives,
      c.insert_images.ensures.drives,
      c.run_session-outcome.new.devices.drives.ok.0,
      c.args.devices.now.drives.ok.0,
    ) in
    let many = length-map c.run_session-outcome.new.devices.drives.items
    (boxed_seen (λ box. (g.dyn-1.0.entry box.vtable).1)) ∙ items ∙ sym
    (length-map c.args.devices.now.drives.items (boxed_seen (λ box. (g.dyn-1.0.entry box.vtable).1))) in
    let have : HaveImages c.len.result c.args.images.now (drive_views (λ box. (g.dyn-1.0.entry box.vtable).1)
    c.insert_images.new.devices.drives.items) = rw (
      c.len.ensures,
      c.insert_images.ensures.count,
      c.insert_images.ensures.held,
    ) (have-images c.args.images.now _ c.requires.devices.room.enough) in
    let terms_put = ap (λ terms. terminal_states (λ box. (g.dyn-2.0.entry box.vtable).1) terms.items) c.insert_images.ensures.terms_kept in
    let terms_left = ap (λ terms. terminal_states (λ box. (g.dyn-2.0.entry box.vtable).1) terms.items) c.eject_images.ensures.terms_kept in
    let from = keyboard_state g.K.Keyboard c.args.console.now.keyboard in
    let to = keyboard_state g.K.Keyboard c.run_session-outcome.new.console.keyboard in
    let history = history_left c.run_session-outcome.result.records in
    let call = c.run_session-outcome.ensures.call c.args.images.now have in
    let count = c.eject_images.ensures.count ∙ c.insert_images.ensures.count in
    record {
      machine = runs-between setup given before ran inside left c.eject_images.new.images c.requires.devices.room
          count many c.eject_images.ensures.taken history (run_end c.run_session-outcome.result.end) same c.insert_images.ensures.held
          terms_put terms_left call.machine;
      at_line = call.at_line;
      keyboard = call.keyboard;
      lines = call.lines;
      stopped = λ told.
          subst (λ (setup : Setup). IsPartTo (IsUnrun before (record ran { devices = left }))
          (StopsMidway setup typed c.eject_images.new.images from to before (record ran { devices = left }))
          c.run_session-outcome.result.end from to) same
          (part-between given typed before ran inside left c.eject_images.new.images count
          c.eject_images.ensures.taken history c.insert_images.ensures.held terms_put terms_left c.requires.devices.room.enough
          many c.requires.devices.room.empty c.run_session-outcome.result.end from to (call.stopped (subst (λ (terms : List TerminalState). All IsObserved terms) (sym terms_put) told)));
      session = λ told.
          subst (λ (setup : Setup). IsSessionTo (LeavesSession setup c.eject_images.new.images history typed before
          (record ran { devices = left })) c.run_session-outcome.result.end from to before
          (record ran { devices = left })) same
          (session-between given typed before ran inside left c.eject_images.new.images count
          c.eject_images.ensures.taken history c.insert_images.ensures.held terms_put terms_left c.run_session-outcome.result.end
          from to (call.session (subst (λ (terms : List TerminalState). All IsObserved terms) (sym terms_put)
          told)));
    }
