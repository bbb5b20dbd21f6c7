use Rattle.std.proofs.Common.{◌≡◌, true, get_or, rules}
use Rattle.os9_base.specs.Name.{is_name_character, low_bits}
use Rattle.os9_base.proofs.NameLemmas.{name_run-goes_on, All-characters-more, is_stored_character-from_name}
use Rattle.os9_base.proofs.name.run_length.Goals as goal

pub loop-i-preserved : goal.loop-i-preserved
loop-i-preserved c =
    let is : is_name_character (low_bits (get_or c.args.bytes.now c.loop-i.i 0)) ≡ true = cc in (
      name_run-goes_on c.args.bytes.now c.loop-i.i (search rules) is (search rules) c.loop-i.invariant.0,
      All-characters-more c.args.bytes.now c.loop-i.i (search rules) (is_stored_character-from_name
          (low_bits (get_or c.args.bytes.now c.loop-i.i 0)) is) c.loop-i.invariant.1,
    )

pub returns-then-byte-ge128-clause-characters : goal.returns-then-byte-ge128-clause-characters
returns-then-byte-ge128-clause-characters c =
    let is : is_name_character (low_bits (get_or c.args.bytes.now c.loop-i.i 0)) ≡ true = cc in
    All-characters-more c.args.bytes.now c.loop-i.i (search rules) (is_stored_character-from_name (low_bits (get_or c.args.bytes.now c.loop-i.i 0)) is) c.loop-i.invariant.1
