use Rattle.std.proofs.Common.{sym, ◌∙◌}
use Rattle.cpu_table.proofs.Read.{first_read}
use Rattle.cpu_table.proofs.reading.from_first.Goals as goal

pub returns-in-Some-clause-value : goal.returns-in-Some-clause-value
returns-in-Some-clause-value c =
    c.from_row.ensures.value ∙ sym (first_read c.args.first c.args.rest.now c.in-Some.row (sym c.row.ensures ∙ c.in-Some.is))
