use Rattle.std.proofs.Common.{rules}
use Rattle.file_rules.specs.Change.{sizes}
use Rattle.file_drives.proofs.ChangeLemmas.{size-leaves}
use Rattle.file_drives.proofs.PlacedLemmas.{changes-volume, has-data_file, is-mounted, none-kept}
use Rattle.file_drives.specs.Calls.{sizing_calls}
use Rattle.file_drives.specs.Changed.{asking, file_answer}
use Rattle.file_drives.proofs.disks.Disks.set_size.Goals as goal

pub set_size-requires-clause-mounted : goal.set_size-requires-clause-mounted
set_size-requires-clause-mounted g c =
    is-mounted (goal.BlockDriver-dyn g) c.args.devices.now.drives.items c.self.view_is c.self.invariant c.index_mut.ensures.value
    c.in-Some.is c.index_mut-in-Some.ensures.value (search rules) c.requires.file.has

pub set_size-requires-clause-file : goal.set_size-requires-clause-file
set_size-requires-clause-file g c =
    has-data_file (goal.BlockDriver-dyn g) c.args.devices.now.drives.items c.self.view_is c.self.invariant c.index_mut.ensures.value
    c.in-Some.is c.index_mut-in-Some.ensures.value (search rules) c.requires.file.has c.requires.file.not_directory

pub unreachable-requires : goal.unreachable-requires
unreachable-requires g c = none-kept c.self.view_is c.self.invariant c.index_mut.ensures.value c.requires.file.has c.in-None.is

pub returns-clause-changed : goal.returns-clause-changed
returns-clause-changed g c user =
    changes-volume (goal.BlockDriver-dyn g) c.args.devices.now.drives.items c.self.view_is c.self.invariant c.index_mut.ensures.value
    c.in-Some.is c.index_mut-in-Some.ensures.value (search rules) c.requires.file.has _
    (asking (sizes c.args.place.number c.args.size) user c.args.now) (file_answer c.set_size.result)
    (sizing_calls (record { number = c.args.place.number; size = c.args.size; now = c.args.now }) c.set_size.result)
    (λ v file was there. size-leaves c.set_size.new.volume _ _ c.args.place.number c.args.size c.args.now c.set_size.ensures.mounted
    user c.set_size.result c.set_size.ensures.answer c.set_size.ensures.refused_calls c.set_size.ensures.counts v file was.on there)
