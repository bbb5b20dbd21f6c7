use Rattle.rbf_walk.proofs.Naming.{has_name_is}
use Rattle.cold_start.proofs.commands.has_name.Goals as goal

pub returns-in-Ok : goal.returns-in-Ok
returns-in-Ok c = has_name_is c.args.name.now c.args.entry.now c.in-Ok.other c.same_name.result c.if-entry-eq0.false c.in-Ok.ensures c.same_name.ensures
