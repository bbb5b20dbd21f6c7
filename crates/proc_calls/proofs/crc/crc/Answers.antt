use Rattle.std.proofs.Common.{sym, subst}
use Rattle.os9_base.specs.Cells.{Cells, FitsIn}
use Rattle.proc_calls.proofs.crc.crc.Goals as goal

pub store_register-requires-clause-fits : goal.store_register-requires-clause-fits
store_register-requires-clause-fits c =
    subst (λ (cells : Cells). FitsIn cells c.regs-regs.result.u 3) (sym (c.continue_crc.ensures.same.memory.cells c.args.p.0)) c.in-Some.ensures.fits
