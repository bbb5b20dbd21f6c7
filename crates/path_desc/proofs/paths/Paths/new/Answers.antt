use Rattle.path_desc.proofs.PathLemmas.{are-no_paths}
use Rattle.path_desc.proofs.paths.Paths.new.Goals as goal

pub invariant_of-result : goal.invariant_of-result
invariant_of-result c = are-no_paths _ _ c.in_ok-empty_descs.ensures c.in_ok-free_numbers.ensures
