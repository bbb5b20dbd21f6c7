use Rattle.std.proofs.Common.{option_map, rules}
use Rattle.std.proofs.lemmas.Iterator.{YieldsList-from_slice}
use Rattle.std.proofs.lemmas.Iterator.Search.{position_from_yields_List}
use Rattle.proc_model.specs.ModuleList.{passes, answers_to}
use Rattle.module_dir.specs.Entries.{seen, held_entries}
use Rattle.module_dir.proofs.Lists.{position-map}
use Rattle.module_dir.proofs.list.find_entry.Goals as goal

pub returns : goal.returns
returns c =
    rw position-map
    (position_from_yields_List (λ place. passes (answers_to (held_entries c.args.entries.now) c.args.name.now c.args.kind) (option_map seen place))
    _ _ c.position.result c.position.ensures.ran (YieldsList-from_slice _ c.iter.ensures.rest) (λ x b q k. search rules))
