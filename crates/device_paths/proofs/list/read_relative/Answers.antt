use Rattle.std.proofs.Common.{◌∙◌, None, sym, ap, arith}
use Rattle.guest_memory.specs.Tie.{cells_of}
use Rattle.device_paths.specs.Listed.{listed_with}
use Rattle.device_paths.proofs.NamesLemmas.{relative-listed}
use Rattle.device_paths.proofs.list.read_relative.Goals as goal

pub returns-clause-list : goal.returns-clause-list
returns-clause-list c =
    c.with_names.ensures
    ∙ ap (listed_with None) (c.read_tail.ensures.tail 65536 (omega arith))
    ∙ sym (relative-listed (cells_of c.args.memory.now c.args.p.0) c.args.at 65536)
