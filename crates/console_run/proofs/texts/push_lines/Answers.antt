use Rattle.std.proofs.Common.{◌≡◌, ◌++◌, All, rules, subst, sym, append-nil}
use Rattle.std.specs.List.{flat_map}
use Rattle.std.proofs.lemmas.List.{take_all}
use Rattle.std.proofs.lemmas.List.Elements.{All-nil}
use Rattle.console_run.specs.Texts.{HasTypedBytes, script_line}
use Rattle.console_run.proofs.PushLemmas.{all-next, gives-next}
use Rattle.console_run.proofs.texts.push_lines.Goals as goal

pub loop-line-init : goal.loop-line-init
loop-line-init c = (sym (append-nil c.args.text.now.items), All-nil HasTypedBytes)

pub loop-line-preserved : goal.loop-line-preserved
loop-line-preserved c = (
  gives-next script_line c.args.lines.now c.loop-line.line-index c.line-item.result c.loop-line-test.true
      c.line-item.is c.args.text.now.items c.loop-line.text.items _ c.loop-line.invariant.0
      c.in_ok-push_line.ensures.line,
  all-next script_line c.args.lines.now c.loop-line.line-index c.line-item.result c.loop-line-test.true c.line-item.is HasTypedBytes c.loop-line.invariant.1 c.in_ok-push_line.ensures.bytes,
)

pub returns-clause-lines : goal.returns-clause-lines
returns-clause-lines c =
    subst (λ items. c.loop-line.text.items ≡ c.args.text.now.items ++ flat_map script_line items) (take_all c.loop-line.line-index c.args.lines.now (search rules)) c.loop-line.invariant.0

pub returns-clause-bytes : goal.returns-clause-bytes
returns-clause-bytes c = subst (All HasTypedBytes) (take_all c.loop-line.line-index c.args.lines.now (search rules)) c.loop-line.invariant.1
