-- The bytes of the number are its digits.
use Rattle.std.proofs.Common.{append_assoc}
use Rattle.os9_words.proofs.message.report_terminal_failed.Goals as goal

pub returns : goal.returns
returns g c =
    simp append_assoc (simp (c.as_bytes.ensures.value, c.format.ensures.text) at c.report_pieces.ensures)
