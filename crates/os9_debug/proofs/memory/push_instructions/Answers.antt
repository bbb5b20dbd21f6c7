use Rattle.std.proofs.Common.{◌≡◌, ◌+◌, ◌-◌, ◌%◌, ◌++◌, refl, ap, ◌∙◌, arith}
use Rattle.os9_debug.specs.Course.{state_at}
use Rattle.os9_debug.specs.Disassembly.{dis_lines}
use Rattle.os9_debug.specs.Show.{shown_cells}
use Rattle.os9_debug.proofs.Bytes.{line-more, lines-all}
use Rattle.os9_debug.proofs.memory.push_instructions.Goals as goal

pub loop-k-init : goal.loop-k-init
loop-k-init c = λ course last slices devices at.
    let all : c.args.span.count ≡ c.args.span.count - 0 = omega arith in
    ap (λ count. c.args.out.now.items ++ dis_lines (shown_cells (state_at course c.args.position.now.events)) c.args.span.at count) all

pub loop-k-preserved : goal.loop-k-preserved
loop-k-preserved c = λ course last slices devices at.
    line-more (shown_cells (state_at course c.args.position.now.events)) c.loop-k.at ((c.loop-k.at + c.from-at.result)
    % 65536) c.from-at.result c.as_slice.result.now _ c.loop-k.out.items c.push_instruction.new.out.items
    c.loop-k._k c.args.span.count (omega arith) (c.as_slice.ensures.value ∙ c.bytes_from-bytes.ensures course last
    slices devices at) c.in_ok-length.ensures.text (c.from-at.ensures ∙ c.in_ok-length.ensures.length) refl
    (c.loop-k.invariant course last slices devices at)

pub returns : goal.returns
returns c = λ course last slices devices at.
    lines-all (shown_cells (state_at course c.args.position.now.events)) c.loop-k.at _ c.loop-k.out.items c.loop-k._k c.args.span.count (omega arith) (c.loop-k.invariant course last slices devices at)
