-- Each line is the next.
use Rattle.std.proofs.Common.{◌+◌, Some, ap, sym, ◌∙◌, arith}
use Rattle.asm_model.specs.Placement.{start, fault_on}
use Rattle.asm_lines.specs.Lines.{line_said}
use Rattle.asm_lines.proofs.PassLemmas.{reached-next, fault-here, fault-below, fault-end}
use Rattle.asm_lines.proofs.faults.first_fault.Goals as goal

pub returns-in-Some : goal.returns-in-Some
returns-in-Some c = λ m reached.
    let i = c.loop-line.invariant in
    ap (λ n. Some (fault_on (n + 1) c.in-Some.error)) i.number
    ∙ fault-here line_said start c.args.lines.now c.loop-line.line-index _ c.loop-line-test.true m c.in-Some.error _ (sym (c.line_fault.ensures m _ reached i.above) ∙ c.in-Some.is) (i.rest m reached)

pub loop-line-preserved : goal.loop-line-preserved
loop-line-preserved c =
    let i = c.loop-line.invariant in
    record {
      number = omega arith;
      above = reached-next line_said start c.args.lines.now c.loop-line.line-index _ c.loop-line-test.true _ (c.in_ok-add_line.ensures _ i.above);
      rest = λ m reached. fault-below line_said start c.args.lines.now c.loop-line.line-index _ c.loop-line-test.true m _
          (sym (c.line_fault.ensures m _ reached i.above) ∙ c.in_default.is) (i.rest m reached);
    }

pub returns : goal.returns
returns c = λ m reached.
    fault-end line_said start c.args.lines.now c.loop-line.line-index c.loop-line-test.false m _ (c.loop-line.invariant.rest m reached)
