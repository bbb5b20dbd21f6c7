use Rattle.std.proofs.Common.{arith}
use Rattle.rbf_entries.proofs.EntryBytes.{marked_last, marked_before, last_below}
use Rattle.rbf_entries.proofs.entry.marked.Goals as goal

pub overflow_add-result : goal.overflow_add-result
overflow_add-result c =
    let low = last_below c.args.name.now c.args.i c.byte-character.result c.len.ensures.name c.byte-character.ensures in
    omega (arith, low)

pub returns-then-i-len : goal.returns-then-i-len
returns-then-i-len c = marked_last c.args.name.now c.args.i c.byte-character.result (omega (arith, c.requires, c.if-i-len.true, c.len.ensures.length)) c.byte-character.ensures

pub returns-else-i-len : goal.returns-else-i-len
returns-else-i-len c = marked_before c.args.name.now c.args.i c.byte-character.result (omega (arith, c.requires, c.if-i-len.false, c.len.ensures.length)) c.byte-character.ensures
