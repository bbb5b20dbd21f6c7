-- The last character gets bit 7.
use Rattle.std.proofs.Common.{◌≡◌, ◌+◌, ◌-◌, length, arith, append_assoc}
use Rattle.std.proofs.lemmas.Grind.{common_steps}
use Rattle.module_format.proofs.NameLemmas.{marked_name-last, last-below, take-next}
use Rattle.module_format.proofs.maker.push_name.Goals as goal

pub loop-i-preserved : goal.loop-i-preserved
loop-i-preserved c =
    let next = take-next c.args.name.now c.loop-i.i c.byte.result c.byte.ensures in
    grind (arith, common_steps, append_assoc, next)

pub overflow_add-byte : goal.overflow_add-byte
overflow_add-byte c =
    let below = last-below c.args.name.now _ c.byte-2.result c.len-last.ensures.name c.byte-2.ensures in
    omega arith

pub returns-clause-bytes : goal.returns-clause-bytes
returns-clause-bytes c =
    let many : length c.args.name.now ≡ (c.len-last.result - 1) + 1 = (let is = c.len-last.ensures.name.not_empty in omega arith) in
    let whole = marked_name-last c.args.name.now _ c.byte-2.result many c.byte-2.ensures in
    grind (arith, common_steps, append_assoc, whole)
