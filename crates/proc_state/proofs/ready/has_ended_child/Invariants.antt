use Rattle.std.proofs.Common.{◌≡◌, ℕ, ◌<◌, false}
use Rattle.proc_model.specs.Ends.{is_ended_child}
use Rattle.proc_model.specs.Records.{record_of, record_passes}
use Rattle.proc_state.proofs.ready.has_ended_child.Given as goal

-- no process so far is one
abbrev pub invariant-loop-number : goal.invariant-loop-number
invariant-loop-number l =
    (k : ℕ) → k < l.number → record_passes (is_ended_child l.parent.0) (record_of l.table k) ≡ false
