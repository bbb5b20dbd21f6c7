use Rattle.std.proofs.Common.{Option, List, is_some, ap, ◌∙◌}
use Rattle.os9_base.specs.Cells.{Cells}
use Rattle.guest_memory.specs.Tie.{modules_of}
use Rattle.guest_memory.proofs.Seen.{cells_of-seen}
use Rattle.proc_model.specs.ModuleList.{ModuleEntry, module_entry_at}
use Rattle.proc_state.proofs.Primaries.{ArePrimaries-kept}
use Rattle.io_model.specs.PathList.{path_list}
use Rattle.device_paths.specs.Listed.{listed_of}
use Rattle.device_paths.proofs.lists.read_list.Goals as goal

pub invariant_of-s-clause-primaries : goal.invariant_of-s-clause-primaries
invariant_of-s-clause-primaries c =
    let s = c.args.s.now in
    ArePrimaries-kept s.own.items (modules_of s.memory) (modules_of c.read_path_list.new.memory)
    (λ n. ap (λ (modules : List (Option ModuleEntry)). is_some (module_entry_at modules n))
    c.read_path_list.ensures.same.modules) s.primaries

pub returns-clause-list : goal.returns-clause-list
returns-clause-list c m tied = c.read_path_list.ensures.list ∙ ap (λ (cells : Cells). listed_of
    (path_list cells c.args.at)) (cells_of-seen c.args.s.now.memory c.args.p.0 c.requires m.memory tied.memory)
