use Rattle.std.proofs.Common.{◌≡◌, ◌-◌, ◌≤◌, replicate, vec_len}
use Rattle.io_model.specs.Terminal.{new_terminal}
use Rattle.io_state.proofs.terminals.new_terms.Given as goal

abbrev pub invariant-fill : goal.invariant-fill
invariant-fill l =
    record { new : l.terms.items ≡ replicate (vec_len l.terms) new_terminal; most : vec_len l.terms ≤ 4 }

abbrev pub decreases-fill : goal.decreases-fill
decreases-fill l = 4 - vec_len l.terms
