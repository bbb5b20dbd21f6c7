use Rattle.guest_memory.proofs.Headers.{info-inside, info-runs, info-tied, group-few}
use Rattle.guest_memory.proofs.memory.Memory.info.Goals as goal

pub returns-clause-tied : goal.returns-clause-tied
returns-clause-tied c = info-tied c.args.self.now c.args.id.0 c.requires c.info.result c.info.ensures

pub returns-clause-inside : goal.returns-clause-inside
returns-clause-inside c = info-inside c.args.self.now c.args.id.0 c.requires c.info.result c.info.ensures

pub returns-clause-runs : goal.returns-clause-runs
returns-clause-runs c = info-runs c.args.self.now c.args.id.0 c.requires c.info.result c.info.ensures

pub returns-clause-few : goal.returns-clause-few
returns-clause-few c = group-few c.args.self.now c.args.id.0 c.requires
