use Rattle.std.proofs.Common.{◌≡◌, ◌-◌, ◌≤◌, replicate, vec_len}
use Rattle.proc_model.specs.Processes.{no_own}
use Rattle.proc_state.proofs.new.empty_places.Given as goal

abbrev pub invariant-fill : goal.invariant-fill
invariant-fill l = record { empty : l.places.items ≡ replicate (vec_len l.places) no_own; most : vec_len l.places ≤ 33 }

abbrev pub decreases-fill : goal.decreases-fill
decreases-fill l = 33 - vec_len l.places
