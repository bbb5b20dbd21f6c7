use Rattle.std.proofs.Common.{rules}
use Rattle.std.specs.Prelude.{length}
use Rattle.file_rules.specs.Change.{writes}
use Rattle.file_drives.proofs.ChangeLemmas.{write-leaves}
use Rattle.file_drives.proofs.PlacedLemmas.{changes-volume, has-data_file, is-mounted, none-kept}
use Rattle.file_drives.specs.Calls.{writing_calls}
use Rattle.file_drives.specs.Changed.{asking, file_answer}
use Rattle.file_drives.proofs.disks.Disks.write_at.Goals as goal

pub write_at-requires-clause-mounted : goal.write_at-requires-clause-mounted
write_at-requires-clause-mounted g c =
    is-mounted (goal.BlockDriver-dyn g) c.args.devices.now.drives.items c.self.view_is c.self.invariant c.index_mut.ensures.value
    c.in-Some.is c.index_mut-in-Some.ensures.value (search rules) c.requires.file.has

pub write_at-requires-clause-file : goal.write_at-requires-clause-file
write_at-requires-clause-file g c =
    has-data_file (goal.BlockDriver-dyn g) c.args.devices.now.drives.items c.self.view_is c.self.invariant c.index_mut.ensures.value
    c.in-Some.is c.index_mut-in-Some.ensures.value (search rules) c.requires.file.has c.requires.file.not_directory

pub unreachable-requires : goal.unreachable-requires
unreachable-requires g c = none-kept c.self.view_is c.self.invariant c.index_mut.ensures.value c.requires.file.has c.in-None.is

pub returns-clause-changed : goal.returns-clause-changed
returns-clause-changed g c user =
    changes-volume (goal.BlockDriver-dyn g) c.args.devices.now.drives.items c.self.view_is c.self.invariant c.index_mut.ensures.value
    c.in-Some.is c.index_mut-in-Some.ensures.value (search rules) c.requires.file.has _
    (asking (writes c.args.place.number c.args.write.at c.args.write.bytes.now) user c.args.write.date) (file_answer c.write_at.result)
    (writing_calls c.args.place.number c.args.write.at (length c.args.write.bytes.now) c.write_at.result)
    (λ v file was there. write-leaves c.write_at.new.volume _ _ c.args.place.number c.args.write.at c.args.write.bytes.now c.args.write.date c.write_at.ensures.mounted
    user c.write_at.result c.write_at.ensures.answer c.write_at.ensures.refused_calls c.write_at.ensures.counts v file was.on there)
