use Rattle.std.proofs.Common.{◌<◌, ◌+◌, ◌∙◌, length, refl, sym, subst, arith}
use Rattle.std.proofs.lemmas.List.{length-map, length-set}
use Rattle.file_drives.specs.Drives.{drive_views}
use Rattle.boot_run.proofs.DriveLemmas.{AreTaken, gives-up, taken-all}
use Rattle.boot_run.proofs.drives.eject_images.Goals as goal

pub loop-number-init : goal.loop-number-init
loop-number-init g c = record {
  within = omega arith;
  count = refl;
  drives = refl;
  terms = refl;
  left = refl;
  taken = λ k image media low. absurd (omega (arith, low));
}

pub loop-number-preserved : goal.loop-number-preserved
loop-number-preserved g c =
    let so_far = c.loop-number.invariant in
    let took = c.eject_from-image.ensures in
    let before = drive_views (λ box. (g.dyn-1.0.entry box.vtable).1) c.args.devices.now.drives.items in
    let below : c.loop-number.number < length before = rw length-map (omega (arith, c.len-number-end.ensures, c.args.devices.now.drives.ok.0)) in
    let up = gives-up c.loop-number.number c.loop-number.images c.eject_from-image.result.items before _ _ below so_far.left so_far.taken took.drive in
    record {
      within = omega (arith, c.len-number-end.ensures);
      count = rw (c.put_back.ensures, length-set) so_far.count;
      drives = took.drives ∙ so_far.drives;
      terms = took.terms_kept ∙ so_far.terms;
      left = up.left;
      taken = subst (λ images. AreTaken (c.loop-number.number + 1) images before) (sym c.put_back.ensures) up.taken;
    }

pub returns-clause-taken : goal.returns-clause-taken
returns-clause-taken g c =
    let so_far = c.loop-number.invariant in
    let before = drive_views (λ box. (g.dyn-1.0.entry box.vtable).1) c.args.devices.now.drives.items in
    taken-all c.loop-number.number _ before _
    (rw length-map (omega (arith, so_far.within, c.len-number-end.ensures, c.args.devices.now.drives.ok.0)))
    (rw length-map (omega (arith, so_far.count, c.requires, c.args.devices.now.drives.ok.0))) so_far.left
    so_far.taken
