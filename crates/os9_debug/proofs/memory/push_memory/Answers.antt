use Rattle.std.proofs.Common.{◌+◌, ◌%◌, refl, sym, ◌∙◌, append-nil, arith}
use Rattle.os9_debug.specs.Course.{state_at}
use Rattle.os9_debug.specs.Show.{shown_cells}
use Rattle.os9_debug.proofs.Bytes.{line-end, seen-more}
use Rattle.os9_debug.proofs.memory.push_memory.Goals as goal

pub loop-n-init : goal.loop-n-init
loop-n-init c = λ course last slices devices at. c.in_ok-push_address.ensures ∙ sym (append-nil _)

pub loop-n-preserved : goal.loop-n-preserved
loop-n-preserved c = λ course last slices devices at.
    c.in_ok-push_seen.ensures
    ∙ seen-more (shown_cells (state_at course c.args.position.now.events)) c.args.span.at c.loop-n.n
    ((c.args.span.at + c.loop-n.n) % 65536) c.byte.result _ c.loop-n.out.items refl (c.byte.ensures course last
    slices devices at) (c.loop-n.invariant course last slices devices at)

pub returns : goal.returns
returns c = λ course last slices devices at.
    c.in_ok-push.ensures.items
    ∙ line-end (shown_cells (state_at course c.args.position.now.events)) c.args.out.now.items c.args.span c.loop-n.n
    c.loop-n.out.items (omega arith) (c.loop-n.invariant course last slices devices at)
