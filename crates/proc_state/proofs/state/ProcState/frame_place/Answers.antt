use Rattle.std.proofs.Common.{◌≡◌, ℕ, ◌-◌, ◌≤◌, Some, sym, ap, subst, ◌∙◌, arith}
use Rattle.std.proofs.lemmas.Bool.{false≢true}
use Rattle.os9_base.specs.Cells.{Cells, FitsIn}
use Rattle.proc_model.specs.Delivery.{stack_top}
use Rattle.proc_model.specs.Processes.{cells_at}
use Rattle.guest_memory.proofs.Seen.{cells_of-seen}
use Rattle.proc_state.proofs.Delivering.{place-fits, place-none, stack_top-most}
use Rattle.proc_state.proofs.state.ProcState.frame_place.Goals as goal

pub returns-then-fits-clause-fits : goal.returns-then-fits-clause-fits
returns-then-fits-clause-fits c =
    subst (λ (cells : Cells). FitsIn cells (c.stack_top-top.result - c.from-2.result) 12) (sym (c.fits.ensures.same.cells c.args.p.0))
    (c.fits.ensures.fits.0 c.if-fits.true)

pub returns-then-fits-clause-place : goal.returns-then-fits-clause-place
returns-then-fits-clause-place c m before =
    let top : c.stack_top-top.result ≡ stack_top c.args.stack = c.stack_top-top.ensures in
    let above : 12 ≤ stack_top c.args.stack = omega (arith, top) in
    let frame : c.stack_top-top.result - c.from-2.result ≡ stack_top c.args.stack - 12 = omega (arith, top) in
    let seen = cells_of-seen c.args.self.now.memory c.args.p.0 c.requires m.memory before.memory in
    ap Some frame
    ∙ place-fits m c.args.p.0 c.args.stack above (subst (λ (at : ℕ). FitsIn (cells_at m c.args.p.0) at 12) frame
    (subst (λ (cells : Cells). FitsIn cells (c.stack_top-top.result - c.from-2.result) 12) seen (c.fits.ensures.fits.0 c.if-fits.true)))

pub returns-else-fits-clause-place : goal.returns-else-fits-clause-place
returns-else-fits-clause-place c m before =
    let top : c.stack_top-top.result ≡ stack_top c.args.stack = c.stack_top-top.ensures in
    let above : 12 ≤ stack_top c.args.stack = omega (arith, top) in
    let frame : c.stack_top-top.result - c.from-2.result ≡ stack_top c.args.stack - 12 = omega (arith, top) in
    let seen = cells_of-seen c.args.self.now.memory c.args.p.0 c.requires m.memory before.memory in
    place-none m c.args.p.0 c.args.stack above (stack_top-most c.args.stack (omega arith))
    (λ fits. false≢true (sym c.if-fits.false ∙ c.fits.ensures.fits.1
    (subst (λ (cells : Cells). FitsIn cells (c.stack_top-top.result - c.from-2.result) 12) (sym seen)
    (subst (λ (at : ℕ). FitsIn (cells_at m c.args.p.0) at 12) (sym frame) fits))))
