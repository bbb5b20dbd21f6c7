use Rattle.std.proofs.Common.{◌&&◌, nat_lt, option_map, rules}
use Rattle.std.proofs.lemmas.Iterator.{YieldsList-from_slice}
use Rattle.std.proofs.lemmas.Iterator.Search.{any_from_yields_List}
use Rattle.proc_model.specs.Group.{group_block_numbers}
use Rattle.proc_model.specs.ModuleList.{passes, is_of_group}
use Rattle.module_dir.specs.Entries.{seen}
use Rattle.module_dir.proofs.Lists.{list_any-map}
use Rattle.module_dir.proofs.list.is_in_use.Goals as goal

pub returns : goal.returns
returns c =
    rw list_any-map
    (any_from_yields_List (λ place. passes (λ entry. is_of_group (group_block_numbers c.args.group.now) entry && nat_lt 0 entry.links) (option_map seen place))
    _ _ c.any.result c.any.ensures.ran (YieldsList-from_slice _ c.iter.ensures.rest) (λ x b q k. search rules))
