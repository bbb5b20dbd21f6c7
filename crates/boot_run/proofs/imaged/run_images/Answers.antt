use Rattle.std.proofs.Common.{◌≡◌, ◌∙◌, length, ap, refl, sym, arith}
use Rattle.std.proofs.lemmas.List.{length-map}
use Rattle.device_table.specs.Seen.{terminal_states}
use Rattle.file_drives.specs.Drives.{boxed_seen, drive_views}
use Rattle.cold_start.specs.Start.{HaveImages}
use Rattle.os9_kernel.specs.Outside.{outside}
use Rattle.boot_run.specs.Machine.{history_left, setup_of}
use Rattle.boot_run.specs.World.{world_of}
use Rattle.boot_run.proofs.ImageRunLemmas.{have-images, have-volumes, runs-between}
use Rattle.boot_run.proofs.imaged.run_images.Goals as goal

pub run_machine-outcome-requires : goal.run_machine-outcome-requires
run_machine-outcome-requires g c =
    let was = c.args.devices.now.drives in
    let now = c.insert_images.new.devices.drives in
    let view = boxed_seen (λ box. (g.dyn-1.0.entry box.vtable).1) in
    let items : length now.items ≡ length was.items = omega (arith, c.insert_images.ensures.drives, now.ok.0, was.ok.0) in
    let many = length-map now.items view ∙ items ∙ sym (length-map was.items view) in
    record {
      least = c.requires.start.least;
      most = c.requires.start.most;
      time = c.requires.start.time;
      few = c.requires.start.few;
      terminals = rw c.insert_images.ensures.terms_kept c.requires.devices.terminals;
      enough = omega (arith, c.len.ensures, c.insert_images.ensures.count, many, c.requires.devices.room.enough);
      few_drives = omega (arith, many, c.requires.devices.room.few);
      volumes =
          rw (c.len.ensures, c.insert_images.ensures.count, c.insert_images.ensures.held) (have-volumes c.args.images.now _ c.requires.devices.room.enough c.requires.volumes);
    }

pub returns-clause-run : goal.returns-clause-run
returns-clause-run g c =
    let before = world_of g.H.Host c.args.host.now (outside (λ box. (g.dyn-1.0.entry box.vtable).1) (λ box. (g.dyn-2.0.entry box.vtable).1) c.args.devices.now) in
    let inside = outside (λ box. (g.dyn-1.0.entry box.vtable).1) (λ box. (g.dyn-2.0.entry box.vtable).1) c.insert_images.new.devices in
    let ran = world_of g.H.Host c.run_machine-outcome.new.host (outside (λ box. (g.dyn-1.0.entry box.vtable).1) (λ box. (g.dyn-2.0.entry box.vtable).1) c.run_machine-outcome.new.devices) in
    let left = outside (λ box. (g.dyn-1.0.entry box.vtable).1) (λ box. (g.dyn-2.0.entry box.vtable).1) c.eject_images.new.devices in
    let items : length c.run_machine-outcome.new.devices.drives.items ≡ length c.args.devices.now.drives.items = omega (
      arith,
      c.run_machine-outcome.ensures.drives,
      c.insert_images.ensures.drives,
      c.run_machine-outcome.new.devices.drives.ok.0,
      c.args.devices.now.drives.ok.0,
    ) in
    let many = length-map c.run_machine-outcome.new.devices.drives.items
    (boxed_seen (λ box. (g.dyn-1.0.entry box.vtable).1)) ∙ items ∙ sym
    (length-map c.args.devices.now.drives.items (boxed_seen (λ box. (g.dyn-1.0.entry box.vtable).1))) in
    let have : HaveImages c.len.result c.args.images.now (drive_views (λ box. (g.dyn-1.0.entry box.vtable).1)
    c.insert_images.new.devices.drives.items) = rw (
      c.len.ensures,
      c.insert_images.ensures.count,
      c.insert_images.ensures.held,
    ) (have-images c.args.images.now _ c.requires.devices.room.enough) in
    let terms_put = ap (λ terms. terminal_states (λ box. (g.dyn-2.0.entry box.vtable).1) terms.items) c.insert_images.ensures.terms_kept in
    let terms_left = ap (λ terms. terminal_states (λ box. (g.dyn-2.0.entry box.vtable).1) terms.items) c.eject_images.ensures.terms_kept in
    let setup = setup_of c.args.start.now c.args.images.now in
    runs-between setup setup before ran inside left c.eject_images.new.images
    c.requires.devices.room (c.eject_images.ensures.count ∙ c.insert_images.ensures.count) many
    c.eject_images.ensures.taken (history_left c.run_machine-outcome.result.records) c.run_machine-outcome.result.end refl c.insert_images.ensures.held terms_put terms_left
    (c.run_machine-outcome.ensures.call c.args.images.now have)
