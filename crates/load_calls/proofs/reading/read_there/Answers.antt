use Rattle.std.proofs.Common.{Err, List, refl, ℕ}
use Rattle.file_state.specs.declared.state.FileState.{FileState}
use Rattle.load_calls.proofs.ReadingLemmas.{fd-broken, fd-only, fd-read, reads-behind, size-refused, whole-answers}
use Rattle.load_calls.specs.Calls.{size_calls}
use Rattle.load_calls.specs.Found.{program_size, program_there}
use Rattle.file_drives.specs.Drives.{drive_states}
use Rattle.file_rules.specs.Files.{with_drives}
use Rattle.load_calls.proofs.reading.read_there.Goals as goal

pub returns-in-Err-clause-there : goal.returns-in-Err-clause-there
returns-in-Err-clause-there g c was found has =
    let new : FileState = record c.args.machine.now.files { disks = c.fd.new.self } in
    fd-broken c.args.user c.args.located.next was found c.args.located.place c.args.machine.now.files has.before _ has.there has.read new _
    refl refl refl c.in-Err.fault c.number.result c.args.machine.now.processes.buffer.items c.number.ensures
    c.in-Err.ensures.drive c.in-Err.ensures.device

pub returns-in-Err-program_size-clause-there : goal.returns-in-Err-program_size-clause-there
returns-in-Err-program_size-clause-there g c was found has =
    let user = c.args.user in
    let next = c.args.located.next in
    let place = c.args.located.place in
    let mid : FileState = record c.args.machine.now.files { disks = c.fd.new.self } in
    let fd = c.in-Ok.ensures.ok was.volumes found.volume found.file has.read.stands.mounted has.there.volume_is has.there.file_is in
    let only = fd-only user next was found place c.args.machine.now.files has.before _ has.there has.read mid _ refl refl refl c.in-Ok.ensures.drive in
    let read = fd-read user next was found place c.args.machine.now.files has.before _ has.there has.read mid _ refl refl refl c.in-Ok.ensures.drive in
    let most : ℕ = size_calls found.file (program_size user was found) in
    let buffer : List ℕ = c.args.machine.now.processes.buffer.items in
    reads-behind (program_there user was next found) 1 most was (Err c.in-Err-program_size.number) buffer mid _ _ _ only
    (size-refused user next was found place mid has.before _ has.there read c.in-Err-program_size.number most buffer
    (c.in-Err-program_size.ensures.size _ (with_drives was (drive_states _)) found read.stands has.there.place_is fd))

pub returns-in-Ok-program_size-clause-there : goal.returns-in-Ok-program_size-clause-there
returns-in-Ok-program_size-clause-there g c was found has =
    let user = c.args.user in
    let next = c.args.located.next in
    let place = c.args.located.place in
    let mid : FileState = record c.args.machine.now.files { disks = c.fd.new.self } in
    let fd = c.in-Ok.ensures.ok was.volumes found.volume found.file has.read.stands.mounted has.there.volume_is has.there.file_is in
    let only = fd-only user next was found place c.args.machine.now.files has.before _ has.there has.read mid _ refl refl refl c.in-Ok.ensures.drive in
    let read = fd-read user next was found place c.args.machine.now.files has.before _ has.there has.read mid _ refl refl refl c.in-Ok.ensures.drive in
    let most : ℕ = size_calls found.file (program_size user was found) in
    let new : FileState = record mid { disks = c.load_whole-loaded.new.disks } in
    let buffer : List ℕ = c.load_whole-loaded.new.s.buffer.items in
    reads-behind (program_there user was next found) 1 most was c.read_whole.result buffer new _ _ _ only
    (whole-answers user next was found place mid has.before _ has.there read new _ refl refl refl c.in-Ok-program_size.size
    c.load_whole-loaded.result c.read_whole.result buffer c.read_whole.ensures.read
    (c.in-Ok-program_size.ensures.size _ (with_drives was (drive_states _)) found read.stands has.there.place_is fd)
    c.load_whole-loaded.ensures.drive c.load_whole-loaded.ensures.device
    (c.load_whole-loaded.ensures.ok was.volumes found.volume found.file read.stands.mounted has.there.volume_is has.there.file_is))
