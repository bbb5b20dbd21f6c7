use Rattle.script_text.specs.Lines.{line_words}
use Rattle.script_text.proofs.KeyLemmas.{keys_pushed}
use Rattle.script_text.proofs.script.push_bytes.Goals as goal

pub returns : goal.returns
returns c =
    keys_pushed c.args.line.tick c.args.line.term (line_words c.args.line.bytes.line.now) _ c.loop-word.keys.items c.args.keys.now.items c.in-None.ensures.steps.0 c.loop-word.invariant
