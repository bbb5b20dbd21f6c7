-- No postbyte so far has the text.
use Rattle.std.proofs.Common.{◌≡◌}
use Rattle.asm_text.proofs.Ranges.{first_from, bare_test}
use Rattle.asm_text.proofs.index.bare_post.Given as goal

abbrev pub invariant-loop-post : goal.invariant-loop-post
invariant-loop-post l = first_from (bare_test l.text) 256 l.post ≡ first_from (bare_test l.text) 256 128
