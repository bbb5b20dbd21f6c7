use Rattle.std.proofs.Common.{◌&&◌, nat_le, option_map, rules}
use Rattle.std.proofs.lemmas.Iterator.{YieldsList-from_slice}
use Rattle.std.proofs.lemmas.Iterator.Search.{any_from_yields_List}
use Rattle.proc_model.specs.ModuleList.{passes, are_namesakes, revision_of}
use Rattle.module_dir.specs.Entries.{seen}
use Rattle.module_dir.proofs.Lists.{list_any-map}
use Rattle.module_dir.proofs.list.is_known.Goals as goal

pub returns : goal.returns
returns c =
    rw list_any-map
    (any_from_yields_List (λ place. passes (λ entry. are_namesakes c.args.info.now entry.info && nat_le (revision_of c.args.info.now) (revision_of entry.info)) (option_map seen place))
    _ _ c.any.result c.any.ensures.ran (YieldsList-from_slice _ c.iter.ensures.rest) (λ x b q k. search rules))
