-- Each line is the next.
use Rattle.std.proofs.Common.{sym, ◌∙◌}
use Rattle.asm_lines.specs.Lines.{line_said}
use Rattle.asm6809.proofs.CodeLemmas.{so_far-next, so_far-none, so_far-all}
use Rattle.asm6809.proofs.emit.code_of.Goals as goal

pub loop-line-preserved : goal.loop-line-preserved
loop-line-preserved c = λ m reached.
    so_far-next line_said m c.args.lines.now c.loop-line.line-index c.loop-line.offset _ c.loop-line.code.items c.loop-line-test.true (c.loop-line.invariant m reached) _ _
    (sym (c.in_ok-next.ensures.next m reached) ∙ c.in-Some.is) ((rw c.in-Some.is at c.in_ok-next.ensures.bytes) m reached)

pub returns-in_default : goal.returns-in_default
returns-in_default c = λ m reached.
    so_far-none line_said m c.args.lines.now c.loop-line.line-index c.loop-line.offset _ c.loop-line.code.items c.loop-line-test.true (c.loop-line.invariant m reached)
    (sym (c.in_ok-next.ensures.next m reached) ∙ c.in_default.is)

pub returns : goal.returns
returns c = λ m reached.
    so_far-all line_said m c.args.lines.now c.loop-line.line-index c.loop-line.offset _ c.loop-line-test.false (c.loop-line.invariant m reached)
