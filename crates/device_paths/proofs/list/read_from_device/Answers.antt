use Rattle.std.proofs.Common.{◌∙◌, ◌+◌, length, Ok, Err, sym, ap}
use Rattle.guest_memory.specs.Tie.{cells_of}
use Rattle.io_model.specs.PathList.{behind}
use Rattle.os9_base.specs.Cells.{Cells}
use Rattle.device_paths.specs.Listed.{listed_by, tails}
use Rattle.device_paths.specs.Tail.{step_by}
use Rattle.device_paths.proofs.NamesLemmas.{device-listed, from-name, same-still}
use Rattle.device_paths.proofs.list.read_from_device.Goals as goal

pub returns-in-Err-clause-list : goal.returns-in-Err-clause-list
returns-in-Err-clause-list c =
    from-name (cells_of c.args.memory.now c.args.p.0) c.args.at 65535 (Err c.in-Err.fault) (sym c.in-Err.is ∙ c.name.ensures.name)

pub returns-in-Ok-clause-list : goal.returns-in-Ok-clause-list
returns-in-Ok-clause-list c =
    let cells : Cells = cells_of c.args.memory.now c.args.p.0 in
    c.read_behind_device.ensures.list
    ∙ ap (λ (seen : Cells). listed_by c.in-Ok.device (tails seen)
    (step_by c.in-Ok.device (c.args.at + length c.in-Ok.device)
    (behind seen (c.args.at + length c.in-Ok.device)))) (c.name.ensures.same.cells c.args.p.0)
    ∙ sym (device-listed cells c.args.at 65535 c.in-Ok.device)
    ∙ from-name cells c.args.at 65535 (Ok c.in-Ok.device) (sym c.in-Ok.is ∙ c.name.ensures.name)

pub returns-in-Ok-clause-same : goal.returns-in-Ok-clause-same
returns-in-Ok-clause-same c =
    same-still c.args.memory.now c.name.new.self c.read_behind_device.new.memory c.name.ensures.same c.read_behind_device.ensures.same
