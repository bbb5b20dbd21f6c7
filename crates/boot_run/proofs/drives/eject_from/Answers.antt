use Rattle.std.proofs.Common.{arith}
use Rattle.file_drives.proofs.DriveLemmas.{changes-one}
use Rattle.boot_run.proofs.DriveLemmas.{Ejects-from}
use Rattle.boot_run.proofs.drives.eject_from.Goals as goal

pub returns-clause-drive : goal.returns-clause-drive
returns-clause-drive g c =
    let took = c.eject_from_box.ensures in
    changes-one _ _ c.args.devices.now.drives.items c.args.number c.index_mut.result.now c.eject_from_box.new.drive
    (omega (arith, c.requires, c.args.devices.now.drives.ok.0)) c.index_mut.ensures.value
    (Ejects-from _ _ _ took.handed_over took.none_left took.faults_kept took.last_kept took.calls_kept)
