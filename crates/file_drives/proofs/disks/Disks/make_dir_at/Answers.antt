use Rattle.std.proofs.Common.{rules}
use Rattle.rbf_entries.specs.Entering.{widened}
use Rattle.file_rules.specs.Change.{makes_directory}
use Rattle.file_drives.proofs.EntryLemmas.{makes-at}
use Rattle.file_drives.proofs.FoundLemmas.{place-here}
use Rattle.file_drives.proofs.PlacedLemmas.{changes-volume, is-mounted, none-kept, view-before}
use Rattle.file_drives.specs.Calls.{making_calls}
use Rattle.file_drives.specs.Changed.{asking}
use Rattle.file_drives.proofs.disks.Disks.make_dir_at.Goals as goal

pub make_dir_at-requires-clause-mounted : goal.make_dir_at-requires-clause-mounted
make_dir_at-requires-clause-mounted g c =
    is-mounted (goal.BlockDriver-dyn g) c.args.devices.now.drives.items c.self.view_is c.self.invariant c.index_mut.ensures.value
    c.in-Some.is c.index_mut-in-Some.ensures.value (search rules) c.requires.file

pub make_dir_at-requires-clause-place : goal.make_dir_at-requires-clause-place
make_dir_at-requires-clause-place g c =
    place-here _ _ c.args.dir c.args.file.now.name c.args.found.now c.requires.place
    (view-before (goal.BlockDriver-dyn g) c.args.devices.now.drives.items c.self.view_is c.self.invariant c.index_mut.ensures.value
    c.in-Some.is c.index_mut-in-Some.ensures.value (search rules) c.requires.file)

pub unreachable-requires : goal.unreachable-requires
unreachable-requires g c = none-kept c.self.view_is c.self.invariant c.index_mut.ensures.value c.requires.file c.in-None.is

pub returns-clause-changed : goal.returns-clause-changed
returns-clause-changed g c =
    changes-volume (goal.BlockDriver-dyn g) c.args.devices.now.drives.items c.self.view_is c.self.invariant c.index_mut.ensures.value
    c.in-Some.is c.index_mut-in-Some.ensures.value (search rules) c.requires.file _
    (asking (makes_directory c.args.dir.number c.args.file.now.name c.args.file.now.attr) c.args.found.now.by.user
    c.args.file.now.date) (widened c.make_dir_at.result) (making_calls (widened c.make_dir_at.result))
    (λ v file was there. makes-at c.make_dir_at.new.v _ _ c.args.found.now c.args.file.now.name c.args.file.now.attr c.args.file.now.date c.make_dir_at.ensures.mounted
    c.args.dir.number c.requires.place.directory_is c.make_dir_at.result c.make_dir_at.ensures.answer c.make_dir_at.ensures.counts v file was.on there)
