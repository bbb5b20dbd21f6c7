use Rattle.std.proofs.Common.{◌∙◌}
use Rattle.worked_rows.proofs.tests.records.age.Goals as goal

pub age-requires : goal.age-requires
age-requires c = c.args.s.now.turns.members c.args.p.0 ∙ c.requires
