-- Each clause is a law of reading, at what the code answers.
use Rattle.std.proofs.Common.{sym, ◌∙◌}
use Rattle.cpu_table.proofs.Classes.{AreBytes}
use Rattle.cpu_table.proofs.Decoding.{bytes_fit, ok_found, ok_plain, only, begun, short, neither, neither_begun, neither_spelled}
use Rattle.cpu_table.proofs.reading.decode.Goals as goal

are_bytes : (c : goal.After-instruction_and_length) → AreBytes c.args.bytes.now
are_bytes c = bytes_fit c.args.bytes.now (λ k. (c.type_inv.bytes k).fits)

pub returns-clause-found : goal.returns-clause-found
returns-clause-found c = ok_found c.args.bytes.now (are_bytes c) c.instruction_and_length.result c.instruction_and_length.ensures

pub returns-clause-plain : goal.returns-clause-plain
returns-clause-plain c = ok_plain c.args.bytes.now (are_bytes c) c.instruction_and_length.result c.instruction_and_length.ensures

pub returns-clause-only : goal.returns-clause-only
returns-clause-only c = λ i count b. c.instruction_and_length.ensures ∙ only c.args.bytes.now i count b

pub returns-clause-short : goal.returns-clause-short
returns-clause-short c = (
  (λ e. begun c.args.bytes.now (are_bytes c) (sym c.instruction_and_length.ensures ∙ e)),
  (λ b. c.instruction_and_length.ensures ∙ short c.args.bytes.now (are_bytes c) b),
)

pub returns-clause-not_documented : goal.returns-clause-not_documented
returns-clause-not_documented c = (
  (λ e. (
    neither_begun c.args.bytes.now (are_bytes c) (sym c.instruction_and_length.ensures ∙ e),
    neither_spelled c.args.bytes.now (sym c.instruction_and_length.ensures ∙ e),
  )),
  (λ n. c.instruction_and_length.ensures ∙ neither c.args.bytes.now (are_bytes c) n.0 n.1),
)
