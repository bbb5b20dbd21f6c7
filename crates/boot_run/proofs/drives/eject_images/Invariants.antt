-- The drives below the number gave up their images, and those of the first have their places.
use Rattle.std.proofs.Common.{◌≡◌, ◌≤◌, length}
use Rattle.std.specs.Vec.{vec_len}
use Rattle.file_drives.specs.Drives.{drive_views}
use Rattle.boot_run.proofs.DriveLemmas.{AreTaken, given_up}
use Rattle.boot_run.proofs.drives.eject_images.Given as goal

abbrev pub invariant-loop-number : goal.invariant-loop-number
invariant-loop-number g l =
    let before = drive_views (λ box. (g.dyn-1.0.entry box.vtable).1) l.initial.devices.drives.items in
    record {
      within : l.number ≤ vec_len l.initial.devices.drives;
      count : length l.images ≡ length l.initial.images;
      drives : vec_len l.devices.drives ≡ vec_len l.initial.devices.drives;
      terms : l.devices.terms ≡ l.initial.devices.terms;
      left : drive_views (λ box. (g.dyn-1.0.entry box.vtable).1) l.devices.drives.items ≡ given_up l.number before;
      taken : AreTaken l.number l.images before;
    }
