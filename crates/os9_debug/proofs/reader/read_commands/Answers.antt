-- Each line is the next of the text.
use Rattle.std.proofs.Common.{◌≡◌, ◌<◌, ◌≤◌, ◌==◌, ◌+◌, [], true, length, arith, append-nil, refl, rules, tests, sym, ap, ◌∙◌}
use Rattle.std.proofs.lemmas.Grind.{common_steps}
use Rattle.std.proofs.lemmas.List.{length_push}
use Rattle.std.proofs.lemmas.Iterator.Consumers.{YieldsList-turn, YieldsList-end}
use Rattle.std.proofs.lemmas.Iterator.Splits.{YieldsList-from_slice_split}
use Rattle.script_text.specs.Lines.{text_lines}
use Rattle.script_text.proofs.TextLemmas.{ReadSoFar-start, ReadSoFar-next, all_read, refused-unread}
use Rattle.os9_debug.specs.Commands.{line_commands}
use Rattle.os9_debug.proofs.Lines.{line-given, line-refused, no-line}
use Rattle.os9_debug.proofs.reader.read_commands.Goals as goal

pub loop-line-init : goal.loop-line-init
loop-line-init c = record { number = search rules; so_far = rw c.new-commands.ensures.items (ReadSoFar-start line_commands (λ commands. true) (text_lines c.args.text.now)) }

pub loop-line-preserved-then-is_empty : goal.loop-line-preserved-then-is_empty
loop-line-preserved-then-is_empty c =
    let turn = YieldsList-turn (YieldsList-from_slice_split _ (λ byte. byte == 10) c.args.text.now (cc) (cc) (cc)
    (λ x b q k. search (rules, tests))) c.loop-line.yielded _ c.loop-line.yielded_by _ _ c.in-Some.line
    c.in-Some.is c.next.ensures.steps in
    let count = length_push c.loop-line.yielded c.in-Some.line in
    let none : length c.in-Some.line.now ≡ 0 = grind (arith, common_steps) in
    let next = ReadSoFar-next line_commands (λ commands. true) (text_lines c.args.text.now) _ _ [] c.in-Some.line.now
    c.loop-line.invariant.so_far turn.0 turn.1 (no-line c.in-Some.line.now none) refl in
    record { number = rw count (ap (λ n. n + 1) c.loop-line.invariant.number); so_far = rw count (rw append-nil at next) }

pub returns-in_default-clause-line : goal.returns-in_default-clause-line
returns-in_default-clause-line c =
    let turn = YieldsList-turn (YieldsList-from_slice_split _ (λ byte. byte == 10) c.args.text.now (cc) (cc) (cc)
    (λ x b q k. search (rules, tests))) c.loop-line.yielded _ c.loop-line.yielded_by _ _ c.in-Some.line
    c.in-Some.is c.next.ensures.steps in
    let some : 0 < length c.in-Some.line.now = grind (arith, common_steps) in
    rw c.loop-line.invariant.number
    (refused-unread line_commands (λ commands. true) (text_lines c.args.text.now) _ _ c.in-Some.line.now
    c.loop-line.invariant.so_far turn.0 turn.1 (line-refused c.in-Some.line.now some
    (sym c.in_default.is ∙ c.read_line.ensures)))

pub loop-line-preserved : goal.loop-line-preserved
loop-line-preserved c =
    let turn = YieldsList-turn (YieldsList-from_slice_split _ (λ byte. byte == 10) c.args.text.now (cc) (cc) (cc)
    (λ x b q k. search (rules, tests))) c.loop-line.yielded _ c.loop-line.yielded_by _ _ c.in-Some.line
    c.in-Some.is c.next.ensures.steps in
    let count = length_push c.loop-line.yielded c.in-Some.line in
    let some : 0 < length c.in-Some.line.now = grind (arith, common_steps) in
    let next = ReadSoFar-next line_commands (λ commands. true) (text_lines c.args.text.now) _ _ _ c.in-Some.line.now
    c.loop-line.invariant.so_far turn.0 turn.1 (line-given c.in-Some.line.now c.in-Some-read_line.command some
    (sym c.in-Some-read_line.is ∙ c.read_line.ensures)) refl in
    record { number = rw count (ap (λ n. n + 1) c.loop-line.invariant.number); so_far = rw (count, c.in-Ok.ensures.items) next }

pub returns-clause-commands : goal.returns-clause-commands
returns-clause-commands c =
    let end = YieldsList-end (YieldsList-from_slice_split _ (λ byte. byte == 10) c.args.text.now (cc) (cc) (cc)
    (λ x b q k. search (rules, tests))) c.loop-line.yielded _ c.loop-line.yielded_by _ _ c.in-None.is
    c.next.ensures.steps in
    let all : length (text_lines c.args.text.now) ≤ length c.loop-line.yielded = omega (arith, end.1) in
    all_read line_commands (λ commands. true) (text_lines c.args.text.now) _ _ c.loop-line.invariant.so_far all
