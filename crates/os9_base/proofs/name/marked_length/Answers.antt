use Rattle.std.proofs.Common.{◌≡◌, true, get_or, rules}
use Rattle.os9_base.specs.Name.{is_stored_character, low_bits}
use Rattle.os9_base.proofs.NameLemmas.{marked_run-more, All-characters-more, stored_name-too_long}
use Rattle.os9_base.proofs.name.marked_length.Goals as goal

pub loop-i-preserved : goal.loop-i-preserved
loop-i-preserved c =
    let is : is_stored_character (low_bits (get_or c.args.bytes.now c.loop-i.i 0)) ≡ true = cc in
    (marked_run-more c.args.bytes.now c.loop-i.i (search rules) is (search rules) c.loop-i.invariant.0, All-characters-more c.args.bytes.now c.loop-i.i (search rules) is c.loop-i.invariant.1)

pub returns-then-i-ge-LONGEST-clause-none : goal.returns-then-i-ge-LONGEST-clause-none
returns-then-i-ge-LONGEST-clause-none c _ =
    stored_name-too_long c.args.bytes.now c.loop-i.i (search rules) (search rules) c.loop-i.invariant.0
