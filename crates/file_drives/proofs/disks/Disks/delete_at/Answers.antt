use Rattle.std.proofs.Common.{rules}
use Rattle.file_drives.proofs.DeletionLemmas.{deletable-here, deletes-at, entry-here}
use Rattle.file_drives.proofs.PlacedLemmas.{changes-volume, is-mounted, none-kept, view-before}
use Rattle.file_drives.specs.Calls.{deleting_calls}
use Rattle.file_drives.specs.Changed.{file_answer}
use Rattle.file_drives.proofs.disks.Disks.delete_at.Goals as goal

pub delete_at-requires-clause-mounted : goal.delete_at-requires-clause-mounted
delete_at-requires-clause-mounted g c =
    is-mounted (goal.BlockDriver-dyn g) c.args.devices.now.drives.items c.self.view_is c.self.invariant c.index_mut.ensures.value
    c.in-Some.is c.index_mut-in-Some.ensures.value (search rules) c.requires.file

pub delete_at-requires-clause-found : goal.delete_at-requires-clause-found
delete_at-requires-clause-found g c =
    deletable-here _ _ c.args.dir c.args.found.now c.requires.entry
    (view-before (goal.BlockDriver-dyn g) c.args.devices.now.drives.items c.self.view_is c.self.invariant c.index_mut.ensures.value
    c.in-Some.is c.index_mut-in-Some.ensures.value (search rules) c.requires.file)

pub unreachable-requires : goal.unreachable-requires
unreachable-requires g c = none-kept c.self.view_is c.self.invariant c.index_mut.ensures.value c.requires.file c.in-None.is

pub returns-clause-changed : goal.returns-clause-changed
returns-clause-changed g c asked deletion =
    changes-volume (goal.BlockDriver-dyn g) c.args.devices.now.drives.items c.self.view_is c.self.invariant c.index_mut.ensures.value
    c.in-Some.is c.index_mut-in-Some.ensures.value (search rules) c.requires.file _
    (asked) (file_answer c.delete_at.result) (deleting_calls c.args.found.now.descriptor)
    (λ v file was there. deletes-at c.delete_at.new.v _ _ c.args.found.now c.delete_at.ensures.mounted c.delete_at.result c.delete_at.ensures.answer
    c.delete_at.ensures.counts c.args.dir.number deletion.name asked (entry-here _ _ c.args.dir deletion.name c.args.found.now deletion.is
    (view-before (goal.BlockDriver-dyn g) c.args.devices.now.drives.items c.self.view_is c.self.invariant c.index_mut.ensures.value
    c.in-Some.is c.index_mut-in-Some.ensures.value (search rules) c.requires.file))
    deletion.change_is v file was.on)
