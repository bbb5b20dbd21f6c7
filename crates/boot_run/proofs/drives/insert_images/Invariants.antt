-- The drives below the number hold their images.
use Rattle.std.proofs.Common.{◌≡◌, ◌≤◌, length, take, drop}
use Rattle.std.specs.Vec.{vec_len}
use Rattle.file_drives.specs.Drives.{drive_views}
use Rattle.boot_run.specs.Drives.{holding}
use Rattle.boot_run.proofs.drives.insert_images.Given as goal

abbrev pub invariant-loop-number : goal.invariant-loop-number
invariant-loop-number g l =
    let before = drive_views (λ box. (g.dyn-1.0.entry box.vtable).1) l.initial.devices.drives.items in
    record {
      within : l.number ≤ length l.initial.images;
      count : length l.images ≡ length l.initial.images;
      behind : drop l.number l.images ≡ drop l.number l.initial.images;
      drives : vec_len l.devices.drives ≡ vec_len l.initial.devices.drives;
      held : drive_views (λ box. (g.dyn-1.0.entry box.vtable).1) l.devices.drives.items ≡ holding (take l.number l.initial.images) before;
      terms : l.devices.terms ≡ l.initial.devices.terms;
    }
