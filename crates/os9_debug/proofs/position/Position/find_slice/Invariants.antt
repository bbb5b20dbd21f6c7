-- The slices below the index were begun, and no process was Ready in them.
use Rattle.std.proofs.Common.{◌≡◌}
use Rattle.std.specs.Vec.{vec_len}
use Rattle.os9_kernel.specs.Outside.{outside}
use Rattle.os9_debug.proofs.Positions.{FoundSoFar}
use Rattle.os9_debug.proofs.position.Position.find_slice.Given as goal

abbrev pub invariant-loop-index : goal.invariant-loop-index
invariant-loop-index g l =
    let before = outside (λ box. (g.dyn-1.0.entry box.vtable).1) (λ box. (g.dyn-2.0.entry box.vtable).1) l.initial.devices in
    let now = outside (λ box. (g.dyn-1.0.entry box.vtable).1) (λ box. (g.dyn-2.0.entry box.vtable).1) l.devices in
    record {
      so_far : FoundSoFar l.slices l.initial.self l.index l.self before now;
      terminals : vec_len l.devices.terms ≡ vec_len l.initial.devices.terms;
      drives : vec_len l.devices.drives ≡ vec_len l.initial.devices.drives;
    }
