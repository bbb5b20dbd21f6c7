-- The front of the line without its spaces, up to the next space, is the first word.
use Rattle.std.proofs.Common.{◌<◌, ◌≡◌, length, arith, sym}
use Rattle.std.proofs.lemmas.Grind.{common_steps}
use Rattle.script_text.proofs.WordLemmas.{found_by}
use Rattle.os9_debug.proofs.cut.cut_word.Goals as goal

pub returns-then-is_empty : goal.returns-then-is_empty
returns-then-is_empty c =
    let found = found_by c.args.line.now _ _ _ _ c.without_spaces-line.ensures c.first_space.ensures.place c.split_at.ensures.front c.split_at.ensures.back in
    let none : length c.split_at.result.0.now ≡ 0 = grind (arith, common_steps) in
    sym (found.end none)

pub returns-else-is_empty : goal.returns-else-is_empty
returns-else-is_empty c =
    let found = found_by c.args.line.now _ _ _ _ c.without_spaces-line.ensures c.first_space.ensures.place c.split_at.ensures.front c.split_at.ensures.back in
    let some : 0 < length c.split_at.result.0.now = grind (arith, common_steps) in
    sym (found.word some)
