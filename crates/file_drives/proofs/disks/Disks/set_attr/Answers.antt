use Rattle.std.proofs.Common.{rules}
use Rattle.rbf_entries.specs.Attributes.{attribute_calls}
use Rattle.file_rules.specs.Change.{sets_attributes}
use Rattle.file_drives.proofs.AttributeLemmas.{attributes-leave}
use Rattle.file_drives.proofs.PlacedLemmas.{changes-volume, has-file, is-mounted, none-kept}
use Rattle.file_drives.specs.Changed.{asking, numbered}
use Rattle.file_drives.proofs.disks.Disks.set_attr.Goals as goal

pub set_attr-requires-clause-mounted : goal.set_attr-requires-clause-mounted
set_attr-requires-clause-mounted g c =
    is-mounted (goal.BlockDriver-dyn g) c.args.devices.now.drives.items c.self.view_is c.self.invariant c.index_mut.ensures.value
    c.in-Some.is c.index_mut-in-Some.ensures.value (search rules) c.requires.file

pub set_attr-requires-clause-file : goal.set_attr-requires-clause-file
set_attr-requires-clause-file g c =
    has-file (goal.BlockDriver-dyn g) c.args.devices.now.drives.items c.self.view_is c.self.invariant c.index_mut.ensures.value
    c.in-Some.is c.index_mut-in-Some.ensures.value (search rules) c.requires.file

pub unreachable-requires : goal.unreachable-requires
unreachable-requires g c = none-kept c.self.view_is c.self.invariant c.index_mut.ensures.value c.requires.file c.in-None.is

pub returns-clause-changed : goal.returns-clause-changed
returns-clause-changed g c =
    changes-volume (goal.BlockDriver-dyn g) c.args.devices.now.drives.items c.self.view_is c.self.invariant c.index_mut.ensures.value
    c.in-Some.is c.index_mut-in-Some.ensures.value (search rules) c.requires.file _
    (asking (sets_attributes c.args.place.number c.args.asked.attr) c.args.asked.user c.args.asked.date) (numbered c.set_attr.result) (λ v file left. attribute_calls file c.args.asked.user)
    (λ v file was there. attributes-leave c.in-Some.volume c.set_attr.new.v _ _ c.args.place.number c.args.asked.attr c.args.asked.user c.args.asked.date
    c.set_attr.ensures.mounted c.set_attr.ensures.volume_kept c.set_attr.result c.set_attr.ensures.ok c.set_attr.ensures.written
    c.set_attr.ensures.answer c.set_attr.ensures.media_kept c.set_attr.ensures.counts v file was there)
