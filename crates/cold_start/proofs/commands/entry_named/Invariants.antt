-- No entry before this one has the name.
use Rattle.rbf_model.specs.Walk.{entry_has_name}
use Rattle.rbf_walk.specs.Search.{NonePasses}
use Rattle.cold_start.proofs.commands.entry_named.Given as goal

abbrev pub invariant-loop-i : goal.invariant-loop-i
invariant-loop-i l = NonePasses (entry_has_name l.name) l.directory l.i
