use Rattle.std.proofs.Common.{arith}
use Rattle.file_drives.proofs.DriveLemmas.{changes-one}
use Rattle.boot_run.proofs.DriveLemmas.{seen-at}
use Rattle.os9_boot.proofs.drive.use_on_drive.Goals as goal

pub use_in_box-requires : goal.use_in_box-requires
use_in_box-requires g c =
    c.requires.sound _ (seen-at _ c.args.devices.now.drives.items 0 c.index_mut.result.now (omega (arith, c.requires.some, c.args.devices.now.drives.ok.0)) c.index_mut.ensures.value)

pub returns-clause-drive : goal.returns-clause-drive
returns-clause-drive g c =
    changes-one _ _ c.args.devices.now.drives.items 0 c.index_mut.result.now c.use_in_box.new.drive
    (omega (arith, c.requires.some, c.args.devices.now.drives.ok.0)) c.index_mut.ensures.value
    c.use_in_box.ensures
