use Rattle.std.proofs.Common.{◌≡◌, Option, List, is_some, ap, sym, subst}
use Rattle.proc_model.specs.Processes.{cells_at}
use Rattle.guest_memory.specs.Tie.{cells_of, modules_of}
use Rattle.guest_memory.proofs.Seen.{cells_of-seen}
use Rattle.os9_base.specs.Cells.{Cells}
use Rattle.proc_model.specs.ModuleList.{ModuleEntry, module_entry_at}
use Rattle.proc_state.proofs.Primaries.{ArePrimaries-kept}
use Rattle.device_paths.specs.Standing.{NamesFrom}
use Rattle.file_routes.proofs.calls.call_walk.Goals as goal

pub invariant_of-s-clause-primaries : goal.invariant_of-s-clause-primaries
invariant_of-s-clause-primaries g c =
    let s = c.args.s.now in
    ArePrimaries-kept s.own.items (modules_of s.memory) (modules_of c.walk.new.memory)
    (λ n. ap (λ (modules : List (Option ModuleEntry)). is_some (module_entry_at modules n))
    c.walk.ensures.same.modules) s.primaries

pub returns-clause-walks : goal.returns-clause-walks
returns-clause-walks g c m names tied stand =
    let p = c.args.walker.process.0 in
    let same : cells_of c.args.s.now.memory p ≡ cells_at m p = cells_of-seen c.args.s.now.memory p c.requires.process m.memory tied.memory in
    c.walk.ensures.walks names (subst (λ (cells : Cells). NamesFrom cells c.args.start.first names) (sym same) stand)
