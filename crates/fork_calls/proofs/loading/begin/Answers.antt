use Rattle.std.proofs.Common.{ℕ, ◌*◌, ◌-◌, length, subst, arith}
use Rattle.os9_base.specs.Cells.{FitsIn}
use Rattle.guest_memory.specs.Tie.{cells_of}
use Rattle.fork_calls.proofs.LoadedPrograms.{end-fits}
use Rattle.fork_calls.proofs.loading.begin.Goals as goal

pub store-requires-clause-fits : goal.store-requires-clause-fits
store-requires-clause-fits c =
    let size = c.args.program.pages * 256 in
    let bytes = c.args.parameters.now in
    subst (λ (n : ℕ). FitsIn (cells_of c.start.new.self c.args.p.0) (size - n) (length bytes)) c.requires.whole
    (end-fits (cells_of c.start.new.self c.args.p.0) (8192 * c.blocks_of_pages.result) size (length bytes)
    c.in_ok-start.ensures.area (omega (arith, c.blocks_of_pages.ensures))
    (omega (arith, c.requires.whole, c.args.program.fits)))
