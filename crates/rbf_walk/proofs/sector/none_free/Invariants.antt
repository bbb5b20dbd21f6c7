-- No entry before this one is free.
use Rattle.std.proofs.Common.{not}
use Rattle.rbf_model.specs.Fields.{is_used}
use Rattle.rbf_walk.specs.Search.{NonePasses}
use Rattle.rbf_walk.proofs.sector.none_free.Given as goal

abbrev pub invariant-loop-i : goal.invariant-loop-i
invariant-loop-i l = NonePasses (λ entry. not (is_used entry)) l.sector l.i
