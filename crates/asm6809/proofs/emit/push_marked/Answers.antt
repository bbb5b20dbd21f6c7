-- The sum is that of the last character.
use Rattle.asm6809.proofs.PushLemmas.{pushed-marked}
use Rattle.asm6809.proofs.emit.push_marked.Goals as goal

pub returns-in_ok-push_byte : goal.returns-in_ok-push_byte
returns-in_ok-push_byte c =
    let sum = rw c.in_ok-ok_or.ensures.ok_part at c.checked_add.ensures in
    pushed-marked c.args.code.now.items c.extend_from_slice.new.self.items c.push_byte.new.code.items c.args.text.now c.in_ok-ok_or.field-0
    c.in-len1-up.len_at_least c.in_ok-extend_from_slice.ensures.items sum.1 c.in_ok-push_byte.ensures
