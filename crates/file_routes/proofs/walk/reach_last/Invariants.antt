-- So far the walk has come to a directory, from where it goes on along the names that stand from an address on.
use Rattle.std.proofs.Common.{◌≡◌, ◌-◌, ◌<◌, ℕ, List}
use Rattle.guest_memory.specs.Tie.{IsMemorySame, cells_of}
use Rattle.file_drives.specs.Drives.{drive_views}
use Rattle.device_paths.specs.Standing.{NamesStand}
use Rattle.file_routes.proofs.WalkLemmas.{IsThere, IsWalkedTo}
use Rattle.file_routes.proofs.walk.reach_last.Given as goal

abbrev pub invariant-names : goal.invariant-names
invariant-names g l = record {
  walked : (names : List (List ℕ)) → NamesStand (cells_of l.initial.memory l.walker.process.0) l.fn.first.at names
      → IsWalkedTo (cells_of l.initial.memory l.walker.process.0) l.walker l.fn.first.directory names l.place.directory l.place.at
      l.initial.disks (drive_views (λ box. (g.dyn-1.0.entry box.vtable).1) l.initial.devices.drives.items) l.disks
      (drive_views (λ box. (g.dyn-1.0.entry box.vtable).1) l.devices.drives.items);
  there : IsThere l.fn.first.directory l.place.directory l.initial.disks (drive_views (λ box. (g.dyn-1.0.entry box.vtable).1)
      l.initial.devices.drives.items) l.disks (drive_views (λ box. (g.dyn-1.0.entry box.vtable).1)
      l.devices.drives.items);
  within : l.place.at < 65536;
  same : IsMemorySame l.initial.memory l.memory;
  terms : l.devices.terms ≡ l.initial.devices.terms;
}

abbrev pub decreases-names : goal.decreases-names
decreases-names g l = 65536 - l.place.at
