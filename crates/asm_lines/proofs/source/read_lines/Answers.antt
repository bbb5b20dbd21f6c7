-- Each line is the next of the source.
use Rattle.std.proofs.Common.{length, rules, tests}
use Rattle.std.specs.List.{slice_split}
use Rattle.std.proofs.lemmas.List.{length_push}
use Rattle.std.proofs.lemmas.Iterator.Consumers.{YieldsList-turn, YieldsList-end}
use Rattle.std.proofs.lemmas.Iterator.Splits.{YieldsList-from_slice_split}
use Rattle.asm_model.specs.Characters.{is_line_feed}
use Rattle.asm_model.specs.Statements.{line_read}
use Rattle.asm_lines.specs.Lines.{line_said}
use Rattle.asm_lines.proofs.ReadLemmas.{read-next, read-all}
use Rattle.asm_lines.proofs.source.read_lines.Goals as goal

pub loop-line-preserved : goal.loop-line-preserved
loop-line-preserved c =
    let turn = YieldsList-turn (YieldsList-from_slice_split _ is_line_feed c.args.source.now (cc) (cc) (cc) (λ x b q k. search (rules, tests)))
    c.loop-line.yielded _ c.loop-line.yielded_by _ _ c.in-Some.line c.in-Some.is c.next.ensures.steps in
    let count = length_push c.loop-line.yielded c.in-Some.line in
    rw count (read-next line_said line_read (slice_split is_line_feed c.args.source.now) (length c.loop-line.yielded) c.loop-line.lines.items _ c.loop-line.invariant
    c.in-Some.line.now c.read_line.result _ turn.0 turn.1 c.read_line.ensures c.in_ok-push.ensures.items)

pub returns : goal.returns
returns c =
    let end = YieldsList-end (YieldsList-from_slice_split _ is_line_feed c.args.source.now (cc) (cc) (cc) (λ x b q k. search (rules, tests)))
    c.loop-line.yielded _ c.loop-line.yielded_by _ _ c.in-None.is c.next.ensures.steps in
    read-all line_said line_read (slice_split is_line_feed c.args.source.now) (length c.loop-line.yielded) c.loop-line.lines.items _ c.loop-line.invariant end.1
