use Rattle.rbf_write.proofs.Descriptors.{list_stays}
use Rattle.rbf_write.proofs.descriptor.with_fields.Goals as goal

pub returns-clause-list : goal.returns-clause-list
returns-clause-list c = list_stays c.args.old.now c.write_fields.new.b c.told-old c.write_fields.array_long c.write_fields.ensures.beside.behind
