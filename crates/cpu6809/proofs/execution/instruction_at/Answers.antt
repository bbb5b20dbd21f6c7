use Rattle.std.proofs.Common.{ap, sym, ◌∙◌, arith}
use Rattle.cpu_model.specs.Reading.{reading}
use Rattle.cpu6809.proofs.Together.{window_together}
use Rattle.cpu6809.proofs.execution.instruction_at.Goals as goal

pub returns-clause-value : goal.returns-clause-value
returns-clause-value g c =
    let found = c.slice_from-bytes.ensures in
    c.decode_with_row.ensures.value ∙ ap reading (sym (window_together (g.B.Bus.cells c.args.b.now) c.args.at 5 c.slice_from-bytes.result.now (omega arith) found.fits found.bytes))
