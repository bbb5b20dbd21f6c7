use Rattle.std.proofs.Common.{refl, arith}
use Rattle.std.proofs.lemmas.Fmt.{decimal_digit}
use Rattle.lock_model.proofs.lines.history_lines.Goals as goal

pub returns : goal.returns
returns c = record {
  pair = rw (decimal_digit 2 (omega arith), decimal_digit 0 (omega arith)) refl;
  past = rw (decimal_digit 2 (omega arith), decimal_digit 0 (omega arith)) refl;
}
