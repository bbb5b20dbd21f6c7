use Rattle.std.proofs.Common.{◌≡◌, arith, rules}
use Rattle.file_drives.specs.Drives.{boxed_seen}
use Rattle.file_drives.proofs.DriveLemmas.{changes-one}
use Rattle.boot_run.proofs.DriveLemmas.{Inserts-in, seen-at}
use Rattle.boot_run.proofs.drives.insert_on.Goals as goal

pub insert_in_box-requires : goal.insert_in_box-requires
insert_in_box-requires g c =
    let place : c.from.result ≡ c.args.number = search rules in
    c.requires.empty _ (seen-at _ c.args.devices.now.drives.items c.args.number c.index_mut.result.now
    (omega (arith, c.requires.within, c.args.devices.now.drives.ok.0)) (rw place at c.index_mut.ensures.value))

pub returns-clause-drive : goal.returns-clause-drive
returns-clause-drive g c =
    let place : c.from.result ≡ c.args.number = search rules in
    let put = c.insert_in_box.ensures in
    rw place (changes-one _ _ c.args.devices.now.drives.items c.args.number c.index_mut.result.now
    c.insert_in_box.new.drive (omega (arith, c.requires.within, c.args.devices.now.drives.ok.0))
    (rw place at c.index_mut.ensures.value) (Inserts-in c.args.image.items
    (boxed_seen (λ box. (g.dyn-1.0.entry box.vtable).1) c.index_mut.result.now)
    (boxed_seen (λ box. (g.dyn-1.0.entry box.vtable).1) c.insert_in_box.new.drive) put.media put.faults_kept
    put.last_kept put.calls_kept))
