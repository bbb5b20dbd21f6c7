use Rattle.guest_memory.proofs.Seen.{run-found, run-fits}
use Rattle.guest_memory.proofs.memory.Memory.free_run.Goals as goal

pub returns-clause-slot : goal.returns-clause-slot
returns-clause-slot c = run-found c.args.self.now c.args.p.0 c.requires.process c.index.result.now c.index.ensures
    c.args.len c.highest_free_run.result c.highest_free_run.ensures.none c.highest_free_run.ensures.highest

pub returns-clause-fits : goal.returns-clause-fits
returns-clause-fits c = run-fits c.args.self.now c.args.p.0 c.requires.process c.index.result.now c.index.ensures c.args.len c.highest_free_run.result c.highest_free_run.ensures.highest
