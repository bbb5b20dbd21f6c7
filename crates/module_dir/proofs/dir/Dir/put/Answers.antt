use Rattle.std.proofs.Common.{Some, option_map}
use Rattle.std.proofs.lemmas.List.{map-set}
use Rattle.module_dir.specs.Entries.{seen}
use Rattle.module_dir.proofs.dir.Dir.put.Goals as goal

pub returns-clause-entered : goal.returns-clause-entered
returns-clause-entered c = rw (← c.self.view_is) (map-set (option_map seen) c.self.inside.entries.items c.args.id.0 (Some c.args.entry))
