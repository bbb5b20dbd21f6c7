use Rattle.std.proofs.Common.{◌<◌, refl, vec_len}
use Rattle.proc_state.proofs.Entered.{some-machine}
use Rattle.proc_model.specs.Processes.{cells_at}
use Rattle.guest_memory.specs.Tie.{cells_of}
use Rattle.proc_state.proofs.Living.{IsProcess-living}
use Rattle.file_rules.specs.Attempts.{asker_of}
use Rattle.file_routes.specs.Walks.{SomeFrom}
use Rattle.file_routes.specs.declared.walk.Walker.{Walker}
use Rattle.name_calls.specs.ListCalls.{located_calls}
use Rattle.name_calls.specs.Locating.{IsLocated, locates}
use Rattle.name_calls.proofs.LocatingLemmas.{along-located, has-along, locates-device, locates-refused, names-along, reached-file, starts-along}
use Rattle.name_calls.proofs.LookLemmas.{refused-there}
use Rattle.name_calls.proofs.SameLemmas.{is-same-then, some-names, user-is}
use Rattle.name_calls.proofs.locating.locate.Goals as goal

pub returns-in-Err-clause-locates : goal.returns-in-Err-clause-locates
returns-in-Err-clause-locates g c m was now tied stands =
    let step = locates c.args.lookup.execute c.args.lookup.refusal (asker_of m c.args.by.p.0 now) was (vec_len c.args.devices.now.terms) in
    let most = located_calls c.args.lookup.execute (λ v file. 0) (asker_of m c.args.by.p.0 now) was (vec_len c.args.devices.now.terms) in
    refused-there (IsLocated step was) step most c.in-Err.number was c.args.machine.now.files _ stands
    (locates-refused (asker_of m c.args.by.p.0 now) was (vec_len c.args.devices.now.terms) c.args.lookup.execute c.args.lookup.refusal c.in-Err.number (c.in-Err.ensures.route m was now tied stands))

pub returns-in_default-clause-locates : goal.returns-in_default-clause-locates
returns-in_default-clause-locates g c m was now tied stands =
    let step = locates c.args.lookup.execute c.args.lookup.refusal (asker_of m c.args.by.p.0 now) was (vec_len c.args.devices.now.terms) in
    let most = located_calls c.args.lookup.execute (λ v file. 0) (asker_of m c.args.by.p.0 now) was (vec_len c.args.devices.now.terms) in
    refused-there (IsLocated step was) step most 214 was c.args.machine.now.files _ stands
    (locates-device (asker_of m c.args.by.p.0 now) was (vec_len c.args.devices.now.terms) c.args.lookup.execute c.args.lookup.refusal
    (cells_at m c.args.by.p.0) c.in-Ok.route (c.in-Ok.ensures.route m was now tied stands) c.in_default.is)

pub returns-clause-locates : goal.returns-clause-locates
returns-clause-locates g c m was now tied stands =
    let it = c.in-Ok.ensures.route m was now tied stands in
    let walker : Walker = record { process = c.args.by.p; by = record { user = c.user.result; execute = c.args.lookup.execute } } in
    along-located (asker_of m c.args.by.p.0 now) was (vec_len c.args.devices.now.terms) c.args.lookup.execute c.args.lookup.refusal
    (cells_at m c.args.by.p.0) c.in-Ok.route it c.in-Along.start c.in-Along.is walker
    c.args.machine.now.files _ _ _ refl
    (user-is c.args.machine.now.processes m c.args.by.p.0 c.user.result tied c.user.ensures.user) stands
    (starts-along c.args.machine.now.files.disks _ c.in-Ok.route.course c.in-Along.start c.in-Along.is c.in-Ok.ensures.start)
    refl refl refl c.call_walk.result c.behind_list.result c.behind_list.ensures
    (c.call_walk.ensures.walks m it.list.names (c.find_route.ensures.same.represents m tied)
    (names-along (asker_of m c.args.by.p.0 now) was (vec_len c.args.devices.now.terms) c.args.lookup.execute c.args.lookup.refusal
    (cells_at m c.args.by.p.0) c.in-Ok.route it c.in-Along.start c.in-Along.is))

pub returns-clause-there : goal.returns-clause-there
returns-clause-there g c =
    let inside : c.args.by.p.0 < 33 = (IsProcess-living c.args.machine.now.processes.table c.args.by.p.0 c.user.ensures.shape c.requires.calls.lives).1 in
    let machine = some-machine c.find_route.new.s in
    let some : SomeFrom (cells_at machine.0 c.args.by.p.0) c.in-Along.start.first =
    some-names c.find_route.new.s c.args.by.p.0 c.in-Along.start.first inside machine.0 machine.1
    (has-along (cells_of c.find_route.new.s.memory c.args.by.p.0) c.in-Ok.route.course c.in-Along.start c.in-Along.is c.in-Ok.ensures.names) in
    reached-file c.in-Along.start.directory.drive c.in-Ok.route.next _ _ c.call_walk.result c.behind_list.result c.behind_list.ensures
    (c.call_walk.ensures.walks machine.0 some.names machine.1 some.from).file

pub returns-clause-same : goal.returns-clause-same
returns-clause-same g c = is-same-then c.args.machine.now.processes c.find_route.new.s c.call_walk.new.s c.find_route.ensures.same c.call_walk.ensures.same
