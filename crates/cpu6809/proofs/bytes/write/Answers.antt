use Rattle.std.proofs.Common.{sym, ◌∙◌}
use Rattle.cpu6809.proofs.Together.{named_together, written_together}
use Rattle.cpu6809.proofs.bytes.write.Goals as goal

pub returns-then-store_slice-clause-named : goal.returns-then-store_slice-clause-named
returns-then-store_slice-clause-named g c =
    let fits = c.if-store_slice.ensures.fits in
    sym (named_together (g.B.Bus.cells c.args.b.now) c.args.at c.args.bytes.now fits.0 fits.1)

pub returns-then-store_slice-clause-written : goal.returns-then-store_slice-clause-written
returns-then-store_slice-clause-written g c =
    c.if-store_slice.ensures.stored ∙ written_together (g.B.Bus.cells c.args.b.now) c.args.at c.args.bytes.now c.if-store_slice.ensures.fits.0
