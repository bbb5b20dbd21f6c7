-- So far the volumes of the drives before this one are mounted.
use Rattle.std.proofs.Common.{◌≡◌}
use Rattle.file_drives.specs.Drives.{drive_views}
use Rattle.cold_start.proofs.FirstLemmas.{MountedTo}
use Rattle.cold_start.proofs.mounting.mount_first.Given as goal

abbrev pub invariant-loop-n : goal.invariant-loop-n
invariant-loop-n g l = record {
  so_far : MountedTo l.n l.drives l.initial.state l.state (drive_views (λ box. (g.dyn-1.0.entry box.vtable).1)
      l.initial.devices.drives.items) (drive_views (λ box. (g.dyn-1.0.entry box.vtable).1) l.devices.drives.items);
  terms : l.devices.terms ≡ l.initial.devices.terms;
}
