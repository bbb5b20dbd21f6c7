use Rattle.std.proofs.Common.{◌≡◌, ◌++◌, All, rules, subst, sym, append-nil}
use Rattle.std.specs.List.{flat_map}
use Rattle.std.proofs.lemmas.List.{take_all}
use Rattle.std.proofs.lemmas.List.Elements.{All-nil}
use Rattle.console_run.specs.Texts.{IsByte, byte_word}
use Rattle.console_run.proofs.PushLemmas.{all-more, gives-more}
use Rattle.console_run.proofs.texts.push_bytes.Goals as goal

pub loop-byte-init : goal.loop-byte-init
loop-byte-init c = (sym (append-nil c.args.text.now.items), All-nil IsByte)

pub loop-byte-preserved : goal.loop-byte-preserved
loop-byte-preserved c = (
  gives-more byte_word c.args.bytes.now c.loop-byte.byte-index _ c.loop-byte-test.true c.args.text.now.items c.loop-byte.text.items _ c.loop-byte.invariant.0 c.in_ok-push_byte.ensures.word,
  all-more byte_word c.args.bytes.now c.loop-byte.byte-index _ c.loop-byte-test.true IsByte c.loop-byte.invariant.1 c.in_ok-push_byte.ensures.byte,
)

pub returns-clause-words : goal.returns-clause-words
returns-clause-words c =
    subst (λ items. c.loop-byte.text.items ≡ c.args.text.now.items ++ flat_map byte_word items) (take_all c.loop-byte.byte-index c.args.bytes.now (search rules)) c.loop-byte.invariant.0

pub returns-clause-bytes : goal.returns-clause-bytes
returns-clause-bytes c = subst (All IsByte) (take_all c.loop-byte.byte-index c.args.bytes.now (search rules)) c.loop-byte.invariant.1
