use Rattle.std.proofs.Common.{◌≡◌, ℕ, ◌+◌, ◌-◌, ◌≤◌, IsSome, List, length, take, drop, length-drop, length-take-le, subst, arith}
use Rattle.guest_memory.specs.Tie.{cells_of}
use Rattle.device_io.proofs.ReadingLemmas.{window-read}
use Rattle.device_io.proofs.moving.load_window.Goals as goal

pub load-requires-clause-fits : goal.load-requires-clause-fits
load-requires-clause-fits c =
    let moved = c.args.moved in
    let few = c.min-few.result in
    let rest : List ℕ = drop moved c.args.into.now in
    let room : few ≤ length rest = omega (arith, length-drop moved c.args.into.now, c.min-few.ensures, c.requires.left, c.requires.room) in
    let long : length (take (moved + few - moved) rest) ≡ moved + few - moved = length-take-le (moved + few - moved) rest (omega (arith, room)) in
    let cells = cells_of c.args.memory.now c.args.by.p.0 in
    let at = c.args.by.regs.x in (
      omega (arith, long, c.min-few.ensures, c.requires.left, c.requires.fits.0),
      λ k less. subst (λ (n : ℕ). IsSome (cells n)) (let e : at + (moved + k) ≡ at + moved + k = omega arith in e)
          (c.requires.fits.1 (moved + k) (omega (arith, less, long, c.min-few.ensures, c.requires.left))),
    )

pub returns-clause-window : goal.returns-clause-window
returns-clause-window c =
    let moved = c.args.moved in
    let few = c.min-few.result in
    let into = c.args.into.now in
    let new = c.load.new.into in
    let rest : List ℕ = drop moved into in
    let room : few ≤ length rest = omega (arith, length-drop moved into, c.min-few.ensures, c.requires.left, c.requires.room) in
    let part : length (take (moved + few - moved) rest) ≡ moved + few - moved = length-take-le (moved + few - moved) rest (omega (arith, room)) in
    let long : length new ≡ few = omega (arith, part) in
    window-read (cells_of c.args.memory.now c.args.by.p.0) c.args.by.regs.x moved c.args.count few (moved + few - moved) into
    new c.requires.left c.requires.room (omega (arith, c.min-few.ensures)) (omega arith) long c.requires.fits.0
    c.load.ensures.loaded
