use Rattle.std.proofs.Common.{◌≡◌, ◌∙◌, ℕ, ◌+◌, Err, List, None, Ok, Some, ap, false, refl, sym, true}
use Rattle.os9_base.specs.declared.call.CallEnd.TheVariants.{Error}
use Rattle.os9_base.specs.declared.registers.Regs.{Regs}
use Rattle.proc_model.specs.Processes.{regs_at, user_at}
use Rattle.rbf_entries.specs.Places.{AnswersPlace, place_calls}
use Rattle.file_rules.specs.Attempts.{asker_of}
use Rattle.file_rules.specs.Open.{says_directory}
use Rattle.lock_model.specs.declared.place.FilePlace.{FilePlace}
use Rattle.file_drives.specs.Drives.{drive_states, drive_views}
use Rattle.file_state.specs.declared.state.FileState.{FileState}
use Rattle.name_calls.proofs.CreateLemmas.{creates-directory, makes-full, makes_there}
use Rattle.name_calls.proofs.OpenCallLemmas.{sum-within, within-sum}
use Rattle.name_calls.proofs.OpenEndLemmas.{read-ends, read-more, refused-ends, well-refused}
use Rattle.name_calls.proofs.MakeLemmas.{answered-to, change-answered, change-called, make-ends, make-keeps, make-refused, place-made, place-refused, place-within}
use Rattle.name_calls.proofs.ReadLemmas.{of-found, read-on}
use Rattle.name_calls.proofs.WalkLemmas.{walker-tied}
use Rattle.name_calls.specs.OpenCalls.{calls_at_place, new_file_calls}
use Rattle.name_calls.specs.Steps.{creates_there}
use Rattle.io_model.specs.Path.{new_number}
use Rattle.io_state.proofs.RequesterLemmas.{called-regs}
use Rattle.rbf_walk.specs.declared.error.DirError.TheVariants.{File}
use Rattle.file_rules.specs.Files.{with_drives, with_volume}
use Rattle.name_calls.proofs.create.create_in.Goals as goal

pub returns-then-says_directory-clause-creates : goal.returns-then-says_directory-clause-creates
returns-then-says_directory-clause-creates g c m was list dir most before tied read found next proper terms =
    let p = c.args.by.p.0 in
    let now = c.args.by.time in
    let asker = asker_of m p now in
    let name : List ℕ = c.args.located.last.name in
    let bits : (regs_at m p).b ≡ c.args.by.regs.b = ap (λ (r : Regs). r.b) (sym (called-regs c.args.by c.args.machine.now.processes m c.requires.calls.calls tied)) in
    let says : says_directory (regs_at m p).b ≡ true = ap says_directory bits ∙ sym c.says_directory.ensures.says ∙ c.if-says_directory.true in
    let all : ℕ = new_file_calls asker name dir.volume dir.file in
    read-ends m p c.args.machine.now.files _ c.refuse.result c.args.machine.now.processes c.refuse.new.io c.refuse.ensures.io _
    c.refuse.ensures.end tied was now terms (most + all) (creates_there asker was list name dir) None
    c.args.located.last.directory.drive before (ap (λ (at : FilePlace). Some at.drive) found.place_is)
    (read-more most (most + all) None c.args.located.last.directory.drive was c.args.machine.now.files before _ (within-sum most all) read)
    (well-refused m was now p terms (creates_there asker was list name dir) c.args.located.last.directory.drive c.args.machine.now.files before _ _
    (creates-directory asker was list name dir says) read.read)

pub returns-in-Err-clause-creates : goal.returns-in-Err-clause-creates
returns-in-Err-clause-creates g c m was list dir most before tied read found next proper terms =
    let p = c.args.by.p.0 in
    let now = c.args.by.time in
    let asker = asker_of m p now in
    let name : List ℕ = c.args.located.last.name in
    let place = c.args.located.last.directory in
    let walker = c.walker_of-walker.result in
    let new : FileState = record c.args.machine.now.files { disks = c.find_place.new.self } in
    let views = drive_views (λ box. (g.dyn-1.0.entry box.vtable).1) c.find_place.new.devices.drives.items in
    let who = walker-tied c.args.machine.now.processes m c.args.by.p walker tied c.walker_of-walker.ensures.walker in
    let bits : (regs_at m p).b ≡ c.args.by.regs.b = ap (λ (r : Regs). r.b) (sym (called-regs c.args.by c.args.machine.now.processes m c.requires.calls.calls tied)) in
    let says : says_directory (regs_at m p).b ≡ false = ap says_directory bits ∙ sym c.says_directory.ensures.says ∙ c.if-says_directory.false in
    let after = read-on was place dir found c.args.machine.now.files new before _ views most read _ _ refl refl refl c.in-Err.ensures.drive in
    let answer = of-found was place dir found c.args.machine.now.files new before _ views most read
    (λ v file. AnswersPlace file name walker.by.user walker.by.execute (Err c.in-Err.error)) c.in-Err.ensures.answer in
    let finding : ℕ = place_calls dir.file name walker.by.user walker.by.execute in
    let all : ℕ = new_file_calls asker name dir.volume dir.file in
    read-ends m p new _ c.refuse-in-Err.result c.args.machine.now.processes c.refuse-in-Err.new.io c.refuse-in-Err.ensures.io _
    (c.refuse-in-Err.ensures.end ∙ ap Error c.number.ensures) tied was now terms (most + all)
    (creates_there asker was list name dir) _ place.drive before (ap (λ (at : FilePlace). Some at.drive)
    found.place_is)
    (read-more (most + finding) (most + all) _ place.drive was new before views (sum-within most finding all
    (place-within m now p dir.volume dir.file name walker.by.user walker.by.execute who.user who.execute)) after)
    (place-refused m was now p terms list name dir place found new before views says proper c.in-Err.error
    (answered-to m p dir.file name walker.by.user walker.by.execute (Err c.in-Err.error) who.user who.execute answer) after.read)

pub returns-in_default-clause-creates : goal.returns-in_default-clause-creates
returns-in_default-clause-creates g c m was list dir most before tied read found next proper terms =
    let p = c.args.by.p.0 in
    let now = c.args.by.time in
    let asker = asker_of m p now in
    let name : List ℕ = c.args.located.last.name in
    let place = c.args.located.last.directory in
    let walker = c.walker_of-walker.result in
    let mid : FileState = record c.args.machine.now.files { disks = c.find_place.new.self } in
    let here = drive_views (λ box. (g.dyn-1.0.entry box.vtable).1) c.find_place.new.devices.drives.items in
    let who = walker-tied c.args.machine.now.processes m c.args.by.p walker tied c.walker_of-walker.ensures.walker in
    let bits : c.args.by.regs.b ≡ (regs_at m p).b = ap (λ (r : Regs). r.b) (called-regs c.args.by c.args.machine.now.processes m c.requires.calls.calls tied) in
    let says : says_directory (regs_at m p).b ≡ false = ap says_directory (sym bits) ∙ sym c.says_directory.ensures.says ∙ c.if-says_directory.false in
    let after = read-on was place dir found c.args.machine.now.files mid before _ here most read None _ refl refl refl c.in-Ok.ensures.drive in
    let answer = of-found was place dir found c.args.machine.now.files mid before _ here most read
    (λ v file. AnswersPlace file name walker.by.user walker.by.execute (Ok c.in-Ok.found.place)) c.in-Ok.ensures.answer in
    let finding : ℕ = place_calls dir.file name walker.by.user walker.by.execute in
    let none : new_number was.io.paths p ≡ None = sym (c.next_number.ensures _ _ after.read.stands) ∙ c.in_default.is in
    let making : ℕ = calls_at_place dir.volume dir.file in
    place-made m now p dir.volume dir.file name walker.by.user walker.by.execute who.user who.execute was list dir.place c.in-Ok.found.place answer says most
    c.refuse-in_default.result c.args.machine.now.processes _ before here terms
    (read-ends m p mid _ c.refuse-in_default.result c.args.machine.now.processes c.refuse-in_default.new.io c.refuse-in_default.ensures.io _
    c.refuse-in_default.ensures.end tied was now terms ((most + finding) + making) (makes_there asker was list name dir) None
    place.drive before (ap (λ (at : FilePlace). Some at.drive) found.place_is)
    (read-more (most + finding) ((most + finding) + making) None place.drive was mid before here (within-sum (most + finding) making) after)
    (well-refused m was now p terms (makes_there asker was list name dir) place.drive mid before here _ (makes-full asker was list name dir none) after.read))

pub returns-in-Err-create_at-clause-creates : goal.returns-in-Err-create_at-clause-creates
returns-in-Err-create_at-clause-creates g c m was list dir most before tied read found next proper terms =
    let p = c.args.by.p.0 in
    let now = c.args.by.time in
    let asker = asker_of m p now in
    let name : List ℕ = c.args.located.last.name in
    let place = c.args.located.last.directory in
    let walker = c.walker_of-walker.result in
    let mid : FileState = record c.args.machine.now.files { disks = c.find_place.new.self } in
    let here = drive_views (λ box. (g.dyn-1.0.entry box.vtable).1) c.find_place.new.devices.drives.items in
    let who = walker-tied c.args.machine.now.processes m c.args.by.p walker tied c.walker_of-walker.ensures.walker in
    let bits : c.args.by.regs.b ≡ (regs_at m p).b = ap (λ (r : Regs). r.b) (called-regs c.args.by c.args.machine.now.processes m c.requires.calls.calls tied) in
    let says : says_directory (regs_at m p).b ≡ false = ap says_directory (sym bits) ∙ sym c.says_directory.ensures.says ∙ c.if-says_directory.false in
    let after = read-on was place dir found c.args.machine.now.files mid before _ here most read None _ refl refl refl c.in-Ok.ensures.drive in
    let answer = of-found was place dir found c.args.machine.now.files mid before _ here most read
    (λ v file. AnswersPlace file name walker.by.user walker.by.execute (Ok c.in-Ok.found.place)) c.in-Ok.ensures.answer in
    let finding : ℕ = place_calls dir.file name walker.by.user walker.by.execute in
    let number = c.in-Some.field-0 in
    let new : FileState = record mid { disks = c.create_at.new.self } in
    let views = drive_views (λ box. (g.dyn-1.0.entry box.vtable).1) c.create_at.new.devices.drives.items in
    let numbered : new_number was.io.paths p ≡ Some number = sym (c.next_number.ensures _ _ after.read.stands) ∙ c.in-Some.is in
    let user : c.in-Ok.found.by.user ≡ user_at m p = c.in-Ok.ensures.found.user_is ∙ sym who.user in
    let changed = change-answered m was now p terms list name dir place found number numbered new before views
    mid here (Err (File c.in-Err-create_at.fault)) c.args.by.regs.b c.in-Ok.found.by.user _ after.read refl refl refl bits user c.in-Err-create_at.ensures.changed in
    let called = change-called m was now p terms list name dir place found number numbered new before views (most + finding)
    mid here (Err (File c.in-Err-create_at.fault)) _ after refl refl refl c.in-Err-create_at.ensures.changed in
    place-made m now p dir.volume dir.file name walker.by.user walker.by.execute who.user who.execute was list dir.place c.in-Ok.found.place answer says most
    c.refuse-in-Err-create_at.result c.args.machine.now.processes _ before views terms
    (refused-ends m p new views c.refuse-in-Err-create_at.result c.args.machine.now.processes c.refuse-in-Err-create_at.new.io
    c.refuse-in-Err-create_at.ensures.io _ (c.refuse-in-Err-create_at.ensures.end ∙ ap Error c.number-in-Err-create_at.ensures) tied was now terms
    ((most + finding) + calls_at_place dir.volume dir.file) (makes_there asker was list name dir) _ before changed.stands
    (make-refused m was now p terms list name dir place found number numbered new before views c.in-Err-create_at.fault changed) called
    (make-keeps m was now p terms list name dir place found number numbered new before views c.in-Err-create_at.fault changed after.first))

pub returns-in-Ok-create_at-clause-creates : goal.returns-in-Ok-create_at-clause-creates
returns-in-Ok-create_at-clause-creates g c m was list dir most before tied read found next proper terms =
    let p = c.args.by.p.0 in
    let now = c.args.by.time in
    let asker = asker_of m p now in
    let name : List ℕ = c.args.located.last.name in
    let place = c.args.located.last.directory in
    let walker = c.walker_of-walker.result in
    let mid : FileState = record c.args.machine.now.files { disks = c.find_place.new.self } in
    let here = drive_views (λ box. (g.dyn-1.0.entry box.vtable).1) c.find_place.new.devices.drives.items in
    let who = walker-tied c.args.machine.now.processes m c.args.by.p walker tied c.walker_of-walker.ensures.walker in
    let bits : c.args.by.regs.b ≡ (regs_at m p).b = ap (λ (r : Regs). r.b) (called-regs c.args.by c.args.machine.now.processes m c.requires.calls.calls tied) in
    let says : says_directory (regs_at m p).b ≡ false = ap says_directory (sym bits) ∙ sym c.says_directory.ensures.says ∙ c.if-says_directory.false in
    let after = read-on was place dir found c.args.machine.now.files mid before _ here most read None _ refl refl refl c.in-Ok.ensures.drive in
    let answer = of-found was place dir found c.args.machine.now.files mid before _ here most read
    (λ v file. AnswersPlace file name walker.by.user walker.by.execute (Ok c.in-Ok.found.place)) c.in-Ok.ensures.answer in
    let finding : ℕ = place_calls dir.file name walker.by.user walker.by.execute in
    let number = c.in-Some.field-0 in
    let new : FileState = record mid { disks = c.create_at.new.self } in
    let views = drive_views (λ box. (g.dyn-1.0.entry box.vtable).1) c.create_at.new.devices.drives.items in
    let numbered : new_number was.io.paths p ≡ Some number = sym (c.next_number.ensures _ _ after.read.stands) ∙ c.in-Some.is in
    let user : c.in-Ok.found.by.user ≡ user_at m p = c.in-Ok.ensures.found.user_is ∙ sym who.user in
    let changed = change-answered m was now p terms list name dir place found number numbered new before views
    mid here (Ok c.in-Ok-create_at.n) c.args.by.regs.b c.in-Ok.found.by.user _ after.read refl refl refl bits user c.in-Ok-create_at.ensures.changed in
    let called = change-called m was now p terms list name dir place found number numbered new before views (most + finding)
    mid here (Ok c.in-Ok-create_at.n) _ after refl refl refl c.in-Ok-create_at.ensures.changed in
    place-made m now p dir.volume dir.file name walker.by.user walker.by.execute who.user who.execute was list dir.place c.in-Ok.found.place answer says most
    c.begin_on.result c.begin_on.new.machine.processes c.begin_on.new.machine.files before views terms
    (make-ends m was now p terms list name dir place found number numbered new before views c.in-Ok-create_at.n changed
    c.begin_on.result c.begin_on.new.machine.processes c.begin_on.new.machine.files ((most + finding) + calls_at_place dir.volume dir.file) called
    (c.begin_on.ensures.begins m (with_drives (with_volume was dir.place.drive changed.left) (drive_states views)) now list views tied changed.stands next))
