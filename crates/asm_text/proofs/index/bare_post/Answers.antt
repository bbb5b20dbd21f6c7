use Rattle.std.proofs.Common.{sym, ◌∙◌, refl}
use Rattle.asm_text.proofs.Ranges.{bare_test, first-found, first-missed, first-none, bare-first}
use Rattle.asm_text.proofs.index.bare_post.Goals as goal

pub loop-post-init : goal.loop-post-init
loop-post-init c = refl

pub loop-post-preserved : goal.loop-post-preserved
loop-post-preserved c =
    sym (first-missed (bare_test c.args.text.now) 256 c.loop-post.post c.loop-post-test.true (sym c.is_bare_operand.ensures ∙ c.if-is_bare_operand.false)) ∙ c.loop-post.invariant

pub returns-then-is_bare_operand : goal.returns-then-is_bare_operand
returns-then-is_bare_operand c =
    sym (first-found (bare_test c.args.text.now) 256 c.loop-post.post c.loop-post-test.true (sym c.is_bare_operand.ensures ∙ c.if-is_bare_operand.true))
    ∙ c.loop-post.invariant ∙ bare-first c.args.text.now

pub returns : goal.returns
returns c = sym (first-none (bare_test c.args.text.now) 256 c.loop-post.post c.loop-post-test.false) ∙ c.loop-post.invariant ∙ bare-first c.args.text.now
