use Rattle.std.proofs.Common.{rules}
use Rattle.rbf_entries.specs.Entering.{entering_calls, widened}
use Rattle.file_rules.specs.Change.{creates}
use Rattle.file_drives.proofs.EntryLemmas.{creates-at}
use Rattle.file_drives.proofs.FoundLemmas.{place-here}
use Rattle.file_drives.proofs.PlacedLemmas.{changes-volume, is-mounted, none-kept, view-before}
use Rattle.file_drives.specs.Changed.{asking}
use Rattle.file_drives.proofs.disks.Disks.create_at.Goals as goal

pub create_at-requires-clause-mounted : goal.create_at-requires-clause-mounted
create_at-requires-clause-mounted g c =
    is-mounted (goal.BlockDriver-dyn g) c.args.devices.now.drives.items c.self.view_is c.self.invariant c.index_mut.ensures.value
    c.in-Some.is c.index_mut-in-Some.ensures.value (search rules) c.requires.file

pub create_at-requires-clause-place : goal.create_at-requires-clause-place
create_at-requires-clause-place g c =
    place-here _ _ c.args.dir c.args.file.now.name c.args.found.now c.requires.place
    (view-before (goal.BlockDriver-dyn g) c.args.devices.now.drives.items c.self.view_is c.self.invariant c.index_mut.ensures.value
    c.in-Some.is c.index_mut-in-Some.ensures.value (search rules) c.requires.file)

pub unreachable-requires : goal.unreachable-requires
unreachable-requires g c = none-kept c.self.view_is c.self.invariant c.index_mut.ensures.value c.requires.file c.in-None.is

pub returns-clause-changed : goal.returns-clause-changed
returns-clause-changed g c =
    changes-volume (goal.BlockDriver-dyn g) c.args.devices.now.drives.items c.self.view_is c.self.invariant c.index_mut.ensures.value
    c.in-Some.is c.index_mut-in-Some.ensures.value (search rules) c.requires.file _
    (asking (creates c.args.dir.number c.args.file.now.name c.args.file.now.attr) c.args.found.now.by.user c.args.file.now.date) (widened c.create_at.result)
    (λ v file left. entering_calls v file 2 (widened c.create_at.result))
    (λ v file was there. creates-at c.create_at.new.v _ _ c.args.found.now c.args.file.now.name c.args.file.now.attr c.args.file.now.date c.create_at.ensures.mounted
    c.args.dir.number c.requires.place.directory_is c.create_at.result c.create_at.ensures.answer c.create_at.ensures.counts v file was.on there)
