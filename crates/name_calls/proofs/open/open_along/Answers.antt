use Rattle.std.proofs.Common.{◌∙◌, None, Some, ap, refl}
use Rattle.proc_state.proofs.Entered.{some-machine}
use Rattle.os9_base.specs.declared.call.CallEnd.TheVariants.{Error}
use Rattle.file_rules.specs.Attempts.{asker_of}
use Rattle.file_rules.specs.Files.{with_drives}
use Rattle.file_rules.specs.Open.{opens_found}
use Rattle.lock_model.specs.declared.place.FilePlace.{FilePlace}
use Rattle.file_drives.specs.Drives.{drive_states, drive_views}
use Rattle.file_state.specs.declared.state.FileState.{FileState}
use Rattle.rbf_sector.specs.declared.fd.Fd.{Fd}
use Rattle.rbf_access.specs.Reading.{IsFdOf}
use Rattle.name_calls.proofs.OpenEndLemmas.{late-ends, read-ends}
use Rattle.name_calls.proofs.OpenLemmas.{found-stays, late-found, opens_there, walk-stays}
use Rattle.name_calls.proofs.ReadLemmas.{fault-does, of-found, read-on}
use Rattle.name_calls.proofs.SameLemmas.{some-names}
use Rattle.name_calls.proofs.WalkLemmas.{finds, found-at, read-there, walk-ends, walk-goes, walker-tied}
use Rattle.name_calls.proofs.open.open_along.Goals as goal

pub fd-requires : goal.fd-requires
fd-requires g c =
    let s = c.args.machine.now.processes in
    let p = c.args.by.p in
    let machine = some-machine s in
    let some = some-names s p.0 c.args.start.first c.walker_of-walker.ensures.process machine.0 machine.1 c.requires.names in
    let who = walker-tied s machine.0 p c.walker_of-walker.result machine.1 c.walker_of-walker.ensures.walker in
    record { file = (c.in-Ok.ensures.walks machine.0 some.names machine.1 (who.names c.args.start.first some.names some.from)).file.file }

pub returns-in-Err-clause-opens : goal.returns-in-Err-clause-opens
returns-in-Err-clause-opens g c now m was list tied stands names next terms =
    let p = c.args.by.p.0 in
    let asker = asker_of m p now in
    let walker = c.walker_of-walker.result in
    let new : FileState = record c.args.machine.now.files { disks = c.call_walk.new.disks } in
    let who = walker-tied c.args.machine.now.processes m c.args.by.p walker tied c.walker_of-walker.ensures.walker in
    let it = c.in-Err.ensures.walks m list.names tied (who.names c.args.start.first list.names names) in
    walk-ends m was now p terms walker c.args.start.directory list.names c.args.machine.now.files new _ _ who.user stands c.requires.file refl refl refl (opens_found asker was list) (λ v file. 1) _
    who.execute
    c.refuse.result c.call_walk.new.s c.in-Err.error it c.refuse.new.io c.refuse.ensures.io (c.refuse.ensures.end ∙ ap Error c.number.ensures) (c.call_walk.ensures.same.represents m tied)
    (λ v. walk-stays asker was v walker.by.execute list c.args.start.directory)

pub returns-in-Err-fd-clause-opens : goal.returns-in-Err-fd-clause-opens
returns-in-Err-fd-clause-opens g c now m was list tied stands names next terms =
    let p = c.args.by.p.0 in
    let asker = asker_of m p now in
    let walker = c.walker_of-walker.result in
    let place = c.in-Ok.place in
    let mid : FileState = record c.args.machine.now.files { disks = c.call_walk.new.disks } in
    let new : FileState = record mid { disks = c.fd.new.self } in
    let still = c.call_walk.ensures.same.represents m tied in
    let who = walker-tied c.args.machine.now.processes m c.args.by.p walker tied c.walker_of-walker.ensures.walker in
    let walks = c.in-Ok.ensures.walks m list.names tied (who.names c.args.start.first list.names names) in
    let found = (finds m was now p terms walker c.args.start.directory list.names c.args.machine.now.files mid _ _ who.user stands c.requires.file refl refl refl (opens_found asker was list) place
    walks).found in
    let read = read-there m was now p terms walker c.args.start.directory list.names c.args.machine.now.files mid _ _ who.user stands c.requires.file refl refl refl (opens_found asker was list) place
    walks in
    let it = found-at m was now p terms walker c.args.start.directory list.names c.args.machine.now.files mid _ _ who.user stands c.requires.file refl refl refl (opens_found asker was list) place
    walks in
    let after = read-on was place found it mid new _ _ _ _ read _ _ refl refl refl c.in-Err-fd.ensures.drive in
    walk-goes m was now p terms walker c.args.start.directory list.names c.args.machine.now.files mid _ _ who.user stands c.requires.file refl refl refl (opens_found asker was list) (λ v file. 1) _
    who.execute
    c.refuse-in-Err-fd.result c.call_walk.new.s place walks _ _
    (read-ends m p new _ c.refuse-in-Err-fd.result c.call_walk.new.s c.refuse-in-Err-fd.new.io
    c.refuse-in-Err-fd.ensures.io _ (c.refuse-in-Err-fd.ensures.end ∙ ap Error c.number-in-Err-fd.ensures) still was now terms _
    (opens_there asker was list found) _ place.drive _ (ap (λ (at : FilePlace). Some at.drive) it.place_is) after
    (fault-does was place found it mid new _ _ _ _ read m now p terms (opens_there asker was list found)
    (ap (λ (at : FilePlace). Some at.drive) it.place_is) (λ v. found-stays asker was v list found) Fd c.in-Err-fd.fault _
    c.in-Err-fd.ensures.device refl refl refl c.in-Err-fd.ensures.drive))

pub returns-in-Ok-fd-clause-opens : goal.returns-in-Ok-fd-clause-opens
returns-in-Ok-fd-clause-opens g c now m was list tied stands names next terms =
    let p = c.args.by.p.0 in
    let asker = asker_of m p now in
    let walker = c.walker_of-walker.result in
    let place = c.in-Ok.place in
    let mid : FileState = record c.args.machine.now.files { disks = c.call_walk.new.disks } in
    let new : FileState = record mid { disks = c.fd.new.self } in
    let still = c.call_walk.ensures.same.represents m tied in
    let who = walker-tied c.args.machine.now.processes m c.args.by.p walker tied c.walker_of-walker.ensures.walker in
    let walks = c.in-Ok.ensures.walks m list.names tied (who.names c.args.start.first list.names names) in
    let found = (finds m was now p terms walker c.args.start.directory list.names c.args.machine.now.files mid _ _ who.user stands c.requires.file refl refl refl (opens_found asker was list) place
    walks).found in
    let read = read-there m was now p terms walker c.args.start.directory list.names c.args.machine.now.files mid _ _ who.user stands c.requires.file refl refl refl (opens_found asker was list) place
    walks in
    let it = found-at m was now p terms walker c.args.start.directory list.names c.args.machine.now.files mid _ _ who.user stands c.requires.file refl refl refl (opens_found asker was list) place
    walks in
    let views = drive_views (λ box. (g.dyn-1.0.entry box.vtable).1) c.fd.new.devices.drives.items in
    let here = with_drives was (drive_states views) in
    let after = read-on was place found it mid new _ _ views _ read None _ refl refl refl c.in-Ok-fd.ensures.drive in
    walk-goes m was now p terms walker c.args.start.directory list.names c.args.machine.now.files mid _ _ who.user stands c.requires.file refl refl refl (opens_found asker was list) (λ v file. 1) _
    who.execute
    c.open_found.result c.open_found.new.machine.processes place walks c.open_found.new.machine.files views
    (late-ends m was now p c.open_found.result c.open_found.new.machine.processes c.open_found.new.machine.files _ views terms _
    (opens_there asker was list found) (opens_found (asker_of m p now) here list found) here place.drive new
    (late-found was (drive_states views) asker list found) (ap (λ (at : FilePlace). Some at.drive) it.place_is) after
    (c.open_found.ensures.opens m here now list found views still after.read.stands it.place_is
    (of-found was place found it mid new _ _ views _ read (λ v file. IsFdOf file c.in-Ok-fd.fd) c.in-Ok-fd.ensures.ok) next))
