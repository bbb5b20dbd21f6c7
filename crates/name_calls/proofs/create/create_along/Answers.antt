use Rattle.std.proofs.Common.{◌≡◌, ◌∙◌, ℕ, Option, List, [], refl, ap, subst}
use Rattle.proc_state.proofs.Entered.{some-machine}
use Rattle.os9_base.specs.declared.call.CallEnd.TheVariants.{Error}
use Rattle.device_paths.specs.Standing.{NamesFrom}
use Rattle.device_paths.proofs.StandingLemmas.{some-stand}
use Rattle.file_rules.specs.Attempts.{asker_of}
use Rattle.file_rules.specs.Create.{creates_in}
use Rattle.file_rules.specs.Route.{before_last}
use Rattle.file_drives.specs.Drives.{drive_views}
use Rattle.file_state.specs.declared.state.FileState.{FileState}
use Rattle.proc_model.specs.Processes.{cells_at}
use Rattle.name_calls.proofs.CreateLemmas.{along-named, along-nameless, create-walk-stays, last-proper, names-some}
use Rattle.name_calls.proofs.MakeLemmas.{last-there}
use Rattle.name_calls.proofs.OpenEndLemmas.{refused-at_once}
use Rattle.name_calls.proofs.SameLemmas.{some-names}
use Rattle.name_calls.proofs.WalkLemmas.{finds, found-at, read-there, walk-ends, walk-goes, walker-tied}
use Rattle.name_calls.specs.OpenCalls.{new_file_calls}
use Rattle.name_calls.specs.Steps.{creates_along}
use Rattle.name_calls.proofs.create.create_along.Goals as goal

pub create_in-requires-clause-file : goal.create_in-requires-clause-file
create_in-requires-clause-file g c =
    let s = c.args.machine.now.processes in
    let p = c.args.by.p in
    let machine = some-machine s in
    let some = some-names s p.0 c.args.start.first c.walker_of-walker.ensures.process machine.0 machine.1 c.requires.names in
    let who = walker-tied s machine.0 p c.walker_of-walker.result machine.1 c.walker_of-walker.ensures.walker in
    let stand = names-some (cells_at machine.0 p.0) c.args.start.first c.in-Some.at some.names c.in-Some.is some.from in
    (c.in-Ok.ensures.walks machine.0 some.names machine.1 (who.stand c.in-Some.at some.names stand)).walks.file.file

pub returns-in_default-clause-creates : goal.returns-in_default-clause-creates
returns-in_default-clause-creates g c m was list tied stands names next proper terms =
    let p = c.args.by.p.0 in
    let now = c.args.by.time in
    let none : list.names ≡ [] = subst (λ (first : Option ℕ). NamesFrom (cells_at m p) first list.names) c.in_default.is names in
    refused-at_once m p c.args.machine.now.files _ c.refuse.result c.args.machine.now.processes c.refuse.new.io c.refuse.ensures.io _
    c.refuse.ensures.end tied was now terms _ (creates_along (asker_of m p now) was list c.args.start.directory)
    (along-nameless (asker_of m p now) was list c.args.start.directory none) stands

pub returns-in-Err-clause-creates : goal.returns-in-Err-clause-creates
returns-in-Err-clause-creates g c m was list tied stands names next proper terms =
    let p = c.args.by.p.0 in
    let now = c.args.by.time in
    let asker = asker_of m p now in
    let walker = c.walker_of-walker.result in
    let new : FileState = record c.args.machine.now.files { disks = c.call_walk_to_last.new.disks } in
    let who = walker-tied c.args.machine.now.processes m c.args.by.p walker tied c.walker_of-walker.ensures.walker in
    let stand = names-some (cells_at m p) c.args.start.first c.in-Some.at list.names c.in-Some.is names in
    let it = (c.in-Err.ensures.walks m list.names tied (who.stand c.in-Some.at list.names stand)).walks in
    let last = last-there list.names (some-stand _ c.in-Some.at list.names stand) in
    along-named m was now p list c.args.start.directory last.0 last.1 c.refuse-in-Err.result c.call_walk_to_last.new.s _ _ _ terms
    (walk-ends m was now p terms walker c.args.start.directory (before_last list.names) c.args.machine.now.files new _ _ who.user stands
    c.requires.file refl refl refl (creates_in asker was list last.0) (new_file_calls asker last.0) _ who.execute
    c.refuse-in-Err.result c.call_walk_to_last.new.s c.in-Err.error it c.refuse-in-Err.new.io c.refuse-in-Err.ensures.io
    (c.refuse-in-Err.ensures.end ∙ ap Error c.number.ensures) (c.call_walk_to_last.ensures.same.represents m tied)
    (λ v. create-walk-stays asker was list v walker.by.execute last.0 c.args.start.directory (before_last list.names)))

pub returns-in-Ok-clause-creates : goal.returns-in-Ok-clause-creates
returns-in-Ok-clause-creates g c m was list tied stands names next proper terms =
    let p = c.args.by.p.0 in
    let now = c.args.by.time in
    let asker = asker_of m p now in
    let walker = c.walker_of-walker.result in
    let name : List ℕ = c.in-Ok.last.name in
    let place = c.in-Ok.last.directory in
    let new : FileState = record c.args.machine.now.files { disks = c.call_walk_to_last.new.disks } in
    let who = walker-tied c.args.machine.now.processes m c.args.by.p walker tied c.walker_of-walker.ensures.walker in
    let stand = names-some (cells_at m p) c.args.start.first c.in-Some.at list.names c.in-Some.is names in
    let whole = c.in-Ok.ensures.walks m list.names tied (who.stand c.in-Some.at list.names stand) in
    let it = whole.walks in
    let found = (finds m was now p terms walker c.args.start.directory (before_last list.names) c.args.machine.now.files new _ _ who.user
    stands c.requires.file refl refl refl (creates_in asker was list name) place it).found in
    let views = drive_views (λ box. (g.dyn-1.0.entry box.vtable).1) c.create_in.new.devices.drives.items in
    along-named m was now p list c.args.start.directory name whole.name c.create_in.result c.create_in.new.machine.processes c.create_in.new.machine.files _ views terms
    (walk-goes m was now p terms walker c.args.start.directory (before_last list.names) c.args.machine.now.files new _ _ who.user stands
    c.requires.file refl refl refl (creates_in asker was list name) (new_file_calls asker name) _ who.execute
    c.create_in.result c.create_in.new.machine.processes place it c.create_in.new.machine.files views
    (c.create_in.ensures.creates m was list found _ _ (c.call_walk_to_last.ensures.same.represents m tied)
    (read-there m was now p terms walker c.args.start.directory (before_last list.names) c.args.machine.now.files new _ _ who.user stands c.requires.file refl refl refl
    (creates_in asker was list name) place it)
    (found-at m was now p terms walker c.args.start.directory (before_last list.names) c.args.machine.now.files new _ _ who.user stands c.requires.file refl refl refl (creates_in asker was list name)
    place it) next
    (last-proper list name proper whole.name) terms))
