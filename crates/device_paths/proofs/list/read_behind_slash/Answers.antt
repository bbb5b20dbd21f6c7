use Rattle.guest_memory.specs.Tie.{cells_of}
use Rattle.device_paths.proofs.NamesLemmas.{past-end}
use Rattle.device_paths.proofs.list.read_behind_slash.Goals as goal

pub returns-then-at-eq65535-clause-list : goal.returns-then-at-eq65535-clause-list
returns-then-at-eq65535-clause-list c =
    past-end (cells_of c.args.memory.now c.args.p.0) c.args.at c.if-at-eq65535.true

pub returns-clause-list : goal.returns-clause-list
returns-clause-list c = c.read_from_device.ensures.list
