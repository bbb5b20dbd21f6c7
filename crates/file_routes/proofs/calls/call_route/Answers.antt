use Rattle.std.proofs.Common.{◌≡◌, Option, List, is_some, vec_len, ap, sym, subst}
use Rattle.proc_model.specs.Processes.{cells_at}
use Rattle.file_rules.specs.Attempts.{asker_of}
use Rattle.guest_memory.specs.Tie.{cells_of, modules_of}
use Rattle.guest_memory.proofs.Seen.{cells_of-seen}
use Rattle.os9_base.specs.Cells.{Cells}
use Rattle.proc_model.specs.ModuleList.{ModuleEntry, module_entry_at}
use Rattle.proc_state.proofs.Primaries.{ArePrimaries-kept}
use Rattle.file_routes.specs.Routes.{Asks, RouteIs, leads, route_for}
use Rattle.file_routes.proofs.calls.call_route.Goals as goal

pub invariant_of-s-clause-primaries : goal.invariant_of-s-clause-primaries
invariant_of-s-clause-primaries g c =
    let s = c.args.s.now in
    ArePrimaries-kept s.own.items (modules_of s.memory) (modules_of c.find_route.new.memory)
    (λ n. ap (λ (modules : List (Option ModuleEntry)). is_some (module_entry_at modules n))
    c.find_route.ensures.same.modules) s.primaries

pub returns-clause-route : goal.returns-clause-route
returns-clause-route g c m now files execute views tied asks =
    let p = c.args.query.process.0 in
    let same : cells_of c.args.s.now.memory p ≡ cells_at m p = cells_of-seen c.args.s.now.memory p c.requires m.memory tied.memory in
    subst (λ (cells : Cells). RouteIs cells (asker_of m p now) (leads (asker_of m p now) c.args.query.refusal
    (route_for c.args.query.purpose (asker_of m p now) files (vec_len c.args.devices.now.terms) execute))
    c.find_route.result) same
    (c.find_route.ensures.route (asker_of m p now) files execute views
    (subst (λ (cells : Cells). Asks c.args.query cells c.args.disks.now views (vec_len c.args.devices.now.drives) (asker_of m p now) files execute) (sym same) asks))
