use Rattle.std.proofs.Common.{◌-◌}
use Rattle.rbf_map.specs.Runs.{is_clear_below}
use Rattle.rbf_map.proofs.Searched.{IsSearched}
use Rattle.rbf_map.proofs.runs.best_run.Given as goal

abbrev pub invariant-loop-best : goal.invariant-loop-best
invariant-loop-best l = IsSearched (is_clear_below l.bytes l.end) l.enough l.from l.best

abbrev pub decreases-loop-best : goal.decreases-loop-best
decreases-loop-best l = l.end - l.from
