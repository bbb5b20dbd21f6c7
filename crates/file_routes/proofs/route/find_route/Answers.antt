use Rattle.std.proofs.Common.{◌≡◌, ◌∙◌, Ok, ℕ, Result, sym, ap, subst, vec_len}
use Rattle.guest_memory.specs.Tie.{cells_of}
use Rattle.os9_base.specs.Cells.{Cells}
use Rattle.io_model.specs.PathList.{path_list}
use Rattle.file_rules.specs.Route.{list_of}
use Rattle.file_routes.specs.Routes.{HasCourseNames, RouteIs, StartsAtFile, leads, route_for}
use Rattle.file_routes.specs.declared.route.Route.{Route}
use Rattle.file_routes.proofs.RouteLemmas.{unless-refused, read-list, route-read}
use Rattle.file_routes.proofs.route.find_route.Goals as goal

pub returns-in-Ok-clause-route : goal.returns-in-Ok-clause-route
returns-in-Ok-clause-route g c asker files execute views asks =
    let cells : Cells = cells_of c.args.memory.now c.args.query.process.0 in
    let read = read-list (path_list cells c.args.query.at) c.in-Ok.list (sym c.in-Ok.ensures.list) in
    let meant = route_for c.args.query.purpose asker files (vec_len c.args.devices.now.terms) execute in
    let listed : list_of asker ≡ Ok read.0 =
    ap (λ (cells : Cells). path_list cells asker.caller.regs.x) asks.cells_are ∙ ap (path_list cells) asks.at_is ∙ read.1
    in
    subst (λ (route : Result Route ℕ). RouteIs cells asker (leads asker c.args.query.refusal meant) route) (sym c.unless_refused-in-Ok.ensures)
    (route-read cells asker meant c.args.query.refusal read.0 c.route_of.result listed (c.route_of.ensures.route asker files execute cells views read.0 asks read.1 read.2))

pub returns-in-Ok-clause-names : goal.returns-in-Ok-clause-names
returns-in-Ok-clause-names g c =
    let cells : Cells = cells_of c.args.memory.now c.args.query.process.0 in
    let read = read-list (path_list cells c.args.query.at) c.in-Ok.list (sym c.in-Ok.ensures.list) in
    unless-refused c.args.query.refusal c.route_of.result c.unless_refused-in-Ok.result
    (λ route. HasCourseNames cells route.course) c.unless_refused-in-Ok.ensures (c.route_of.ensures.names cells read.0
    read.1 read.2)

pub returns-in-Ok-clause-start : goal.returns-in-Ok-clause-start
returns-in-Ok-clause-start g c views volumes mounted there =
    unless-refused c.args.query.refusal c.route_of.result c.unless_refused-in-Ok.result
    (λ route. StartsAtFile c.args.disks.now views route.course) c.unless_refused-in-Ok.ensures
    (c.route_of.ensures.start views volumes mounted there)
