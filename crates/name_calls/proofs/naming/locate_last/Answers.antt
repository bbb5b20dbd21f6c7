use Rattle.std.proofs.Common.{ℕ, ◌<◌, Option, refl, subst, vec_len}
use Rattle.proc_state.proofs.Entered.{some-machine}
use Rattle.proc_model.specs.Processes.{cells_at}
use Rattle.guest_memory.specs.Tie.{cells_of}
use Rattle.proc_state.proofs.Living.{IsProcess-living}
use Rattle.file_rules.specs.Attempts.{asker_of}
use Rattle.device_paths.specs.Standing.{NamesFrom, NamesStand}
use Rattle.file_routes.specs.Walks.{SomeFrom}
use Rattle.file_routes.specs.declared.walk.Walker.{Walker}
use Rattle.name_calls.specs.ListCalls.{named_calls}
use Rattle.name_calls.specs.Naming.{IsNameLocated, names_last}
use Rattle.name_calls.proofs.LocatingLemmas.{has-along, starts-along}
use Rattle.name_calls.proofs.LookLemmas.{refused-there}
use Rattle.name_calls.proofs.NamingLemmas.{along-named, along-unnamed, has-last, names-along, names-device, names-refused, reached-directory}
use Rattle.name_calls.proofs.SameLemmas.{is-same-then, some-names, user-is}
use Rattle.name_calls.proofs.naming.locate_last.Goals as goal

pub returns-in-Err-clause-locates : goal.returns-in-Err-clause-locates
returns-in-Err-clause-locates g c m was now tied stands =
    let step = names_last c.args.search.purpose c.args.search.lookup.execute c.args.search.lookup.refusal (asker_of m c.args.by.p.0 now) was (vec_len c.args.devices.now.terms) in
    let most = named_calls c.args.search.purpose c.args.search.lookup.execute (λ name v dir. 0) (asker_of m c.args.by.p.0 now) was (vec_len c.args.devices.now.terms) in
    refused-there (IsNameLocated c.args.search.purpose step was) step most c.in-Err.number was c.args.machine.now.files _ stands
    (names-refused c.args.search.purpose (asker_of m c.args.by.p.0 now) was (vec_len c.args.devices.now.terms) c.args.search.lookup.execute c.args.search.lookup.refusal c.in-Err.number
    (c.in-Err.ensures.route m was now tied stands))

pub returns-in_default-clause-locates : goal.returns-in_default-clause-locates
returns-in_default-clause-locates g c m was now tied stands =
    let step = names_last c.args.search.purpose c.args.search.lookup.execute c.args.search.lookup.refusal (asker_of m c.args.by.p.0 now) was (vec_len c.args.devices.now.terms) in
    let most = named_calls c.args.search.purpose c.args.search.lookup.execute (λ name v dir. 0) (asker_of m c.args.by.p.0 now) was (vec_len c.args.devices.now.terms) in
    refused-there (IsNameLocated c.args.search.purpose step was) step most 214 was c.args.machine.now.files _ stands
    (names-device c.args.search.purpose (asker_of m c.args.by.p.0 now) was (vec_len c.args.devices.now.terms) c.args.search.lookup.execute
    c.args.search.lookup.refusal (cells_at m c.args.by.p.0) c.in-Ok.route (c.in-Ok.ensures.route m was now tied stands)
    c.in_default.is)

pub returns-in_default-first-clause-locates : goal.returns-in_default-first-clause-locates
returns-in_default-first-clause-locates g c m was now tied stands =
    along-unnamed c.args.search.purpose (asker_of m c.args.by.p.0 now) was (vec_len c.args.devices.now.terms) c.args.search.lookup.execute
    c.args.search.lookup.refusal (cells_at m c.args.by.p.0) c.in-Ok.route (c.in-Ok.ensures.route m was now tied stands)
    c.in-Along.start c.in-Along.is c.args.machine.now.files _ c.unnamed_number.result c.in_default-first.is
    c.unnamed_number.ensures stands
    (starts-along c.args.machine.now.files.disks _ c.in-Ok.route.course c.in-Along.start c.in-Along.is c.in-Ok.ensures.start)

pub returns-clause-locates : goal.returns-clause-locates
returns-clause-locates g c m was now tied stands =
    let it = c.in-Ok.ensures.route m was now tied stands in
    let walker : Walker = record { process = c.args.by.p; by = record { user = c.user.result; execute = c.args.search.lookup.execute } } in
    let along = names-along c.args.search.purpose (asker_of m c.args.by.p.0 now) was (vec_len c.args.devices.now.terms)
    c.args.search.lookup.execute c.args.search.lookup.refusal (cells_at m c.args.by.p.0) c.in-Ok.route it c.in-Along.start c.in-Along.is in
    let stand : NamesStand (cells_at m c.args.by.p.0) c.in-Some.at it.list.names = subst (λ (first : Option ℕ). NamesFrom (cells_at m c.args.by.p.0) first it.list.names) c.in-Some.is along in
    let last = has-last (cells_at m c.args.by.p.0) c.in-Some.at it.list.names stand in
    along-named c.args.search.purpose (asker_of m c.args.by.p.0 now) was (vec_len c.args.devices.now.terms) c.args.search.lookup.execute
    c.args.search.lookup.refusal (cells_at m c.args.by.p.0) c.in-Ok.route it c.in-Along.start c.in-Along.is walker
    c.args.machine.now.files _ _ _ refl
    (user-is c.args.machine.now.processes m c.args.by.p.0 c.user.result tied c.user.ensures.user) stands
    (starts-along c.args.machine.now.files.disks _ c.in-Ok.route.course c.in-Along.start c.in-Along.is c.in-Ok.ensures.start)
    refl refl refl last.0 last.1 c.call_walk_to_last.result c.behind_list.result c.behind_list.ensures
    (c.call_walk_to_last.ensures.walks m it.list.names (c.find_route.ensures.same.represents m tied) stand)

pub returns-clause-there : goal.returns-clause-there
returns-clause-there g c =
    let inside : c.args.by.p.0 < 33 = (IsProcess-living c.args.machine.now.processes.table c.args.by.p.0 c.user.ensures.shape c.requires.calls.lives).1 in
    let machine = some-machine c.find_route.new.s in
    let some : SomeFrom (cells_at machine.0 c.args.by.p.0) c.in-Along.start.first =
    some-names c.find_route.new.s c.args.by.p.0 c.in-Along.start.first inside machine.0 machine.1
    (has-along (cells_of c.find_route.new.s.memory c.args.by.p.0) c.in-Ok.route.course c.in-Along.start c.in-Along.is c.in-Ok.ensures.names) in
    let stand : NamesStand (cells_at machine.0 c.args.by.p.0) c.in-Some.at some.names = subst (λ (first : Option ℕ). NamesFrom (cells_at machine.0 c.args.by.p.0) first some.names) c.in-Some.is
    some.from in
    reached-directory c.in-Along.start.directory.drive c.in-Ok.route.next _ _ c.call_walk_to_last.result c.behind_list.result c.behind_list.ensures
    (c.call_walk_to_last.ensures.walks machine.0 some.names machine.1 stand).walks.file

pub returns-clause-same : goal.returns-clause-same
returns-clause-same g c = is-same-then c.args.machine.now.processes c.find_route.new.s c.call_walk_to_last.new.s c.find_route.ensures.same c.call_walk_to_last.ensures.same
