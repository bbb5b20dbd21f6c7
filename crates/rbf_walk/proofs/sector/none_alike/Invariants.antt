-- No entry before this one has the name.
use Rattle.rbf_model.specs.Walk.{entry_has_name}
use Rattle.rbf_walk.specs.Search.{NonePasses}
use Rattle.rbf_walk.proofs.sector.none_alike.Given as goal

abbrev pub invariant-loop-i : goal.invariant-loop-i
invariant-loop-i l = NonePasses (entry_has_name l.name) l.sector l.i
