use Rattle.std.proofs.Common.{None, sym, arith, ◌∙◌}
use Rattle.proc_model.specs.Ends.{is_ended_child}
use Rattle.proc_model.specs.Records.{record_passes}
use Rattle.proc_state.proofs.Children.{is_some-position, no-position}
use Rattle.proc_state.proofs.ready.has_ended_child.Goals as goal

pub returns-then-is_ended_child : goal.returns-then-is_ended_child
returns-then-is_ended_child c =
    sym (is_some-position (record_passes (is_ended_child c.args.parent.0)) c.args.table.now c.loop-number.number None (omega arith)
    c.loop-number.invariant (sym c.is_ended_child.ensures ∙ c.if-is_ended_child.true))

pub returns : goal.returns
returns c =
    sym (no-position (record_passes (is_ended_child c.args.parent.0)) c.args.table.now None
    (λ k within. c.loop-number.invariant k (omega arith)))
