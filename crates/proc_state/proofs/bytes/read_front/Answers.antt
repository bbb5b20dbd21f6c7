use Rattle.std.proofs.Common.{◌≡◌, Some, length, take, drop, ap, sym, subst, ◌∙◌, arith, length-take}
use Rattle.os9_base.specs.Cells.{FitsIn, HoldsBytes, Cells}
use Rattle.guest_memory.specs.Tie.{cells_of}
use Rattle.proc_state.proofs.UserBytes.{user_bytes-Some, user_bytes-None, take-front, same-then}
use Rattle.proc_state.proofs.bytes.read_front.Goals as goal

pub returns-then-not-fits-clause-read : goal.returns-then-not-fits-clause-read
returns-then-not-fits-clause-read c =
    user_bytes-None (cells_of c.args.memory.now c.args.p.0) c.args.at c.args.count (omega arith) (λ fits. let e = c.fits.ensures.fits.1 fits in cc)

pub load-requires-clause-fits : goal.load-requires-clause-fits
load-requires-clause-fits c =
    let fits = c.fits.ensures.fits.0 c.if-not-fits.false in
    let long : length (take c.args.count c.args.into.now) ≡ c.args.count = omega (arith, length-take c.args.count c.args.into.now) in
    subst (λ (cells : Cells). FitsIn cells c.args.at (length (take c.args.count c.args.into.now))) (sym (c.fits.ensures.same.cells c.args.p.0))
    (subst (FitsIn (cells_of c.args.memory.now c.args.p.0) c.args.at) (sym long) fits)

pub returns-clause-read : goal.returns-clause-read
returns-clause-read c =
    let fits = c.fits.ensures.fits.0 c.if-not-fits.false in
    let new = c.load.new.into in
    let long : length new ≡ c.args.count = omega (arith, length-take c.args.count c.args.into.now) in
    let holds : HoldsBytes (cells_of c.args.memory.now c.args.p.0) c.args.at new = subst
    (λ (cells : Cells). HoldsBytes cells c.args.at new) (c.fits.ensures.same.cells c.args.p.0)
    c.load.ensures.loaded in
    user_bytes-Some (cells_of c.args.memory.now c.args.p.0) c.args.at c.args.count new long fits.0 holds
    ∙ ap Some (sym (take-front new (drop c.args.count c.args.into.now) c.args.count long))

pub returns-clause-same : goal.returns-clause-same
returns-clause-same c = same-then c.args.memory.now c.fits.new.self c.load.new.self c.fits.ensures.same c.load.ensures.same

pub returns-clause-fits : goal.returns-clause-fits
returns-clause-fits c =
    let fits = c.fits.ensures.fits.0 c.if-not-fits.false in
    let same = same-then c.args.memory.now c.fits.new.self c.load.new.self c.fits.ensures.same c.load.ensures.same in
    subst (λ (cells : Cells). FitsIn cells c.args.at c.args.count) (sym (same.cells c.args.p.0)) fits
