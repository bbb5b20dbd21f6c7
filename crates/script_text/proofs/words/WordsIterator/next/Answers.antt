-- The front of what is left without its spaces, up to the next space, is the next word.
use Rattle.std.proofs.Common.{◌<◌, ◌≡◌, length, arith, rules}
use Rattle.std.proofs.lemmas.Grind.{common_steps}
use Rattle.script_text.proofs.WordLemmas.{found_by, fewer_words}
use Rattle.script_text.proofs.words.WordsIterator.next.Goals as goal

pub returns-then-is_empty-clause-steps : goal.returns-then-is_empty-clause-steps
returns-then-is_empty-clause-steps c =
    let found = found_by c.args.self.now.line.now _ _ _ _ c.without_spaces-line.ensures c.first_space.ensures.place c.split_at.ensures.front c.split_at.ensures.back in
    let none : length c.split_at.result.0.now ≡ 0 = grind (arith, common_steps) in
    (found.end none, found.left none)

pub returns-else-is_empty-clause-steps : goal.returns-else-is_empty-clause-steps
returns-else-is_empty-clause-steps c =
    let found = found_by c.args.self.now.line.now _ _ _ _ c.without_spaces-line.ensures c.first_space.ensures.place c.split_at.ensures.front c.split_at.ensures.back in
    let some : 0 < length c.split_at.result.0.now = grind (arith, common_steps) in
    found.word some

pub returns-else-is_empty-clause-goes : goal.returns-else-is_empty-clause-goes
returns-else-is_empty-clause-goes c =
    let found = found_by c.args.self.now.line.now _ _ _ _ c.without_spaces-line.ensures c.first_space.ensures.place c.split_at.ensures.front c.split_at.ensures.back in
    let some : 0 < length c.split_at.result.0.now = grind (arith, common_steps) in
    let fewer = fewer_words _ _ _ (found.word some) in
    search rules
