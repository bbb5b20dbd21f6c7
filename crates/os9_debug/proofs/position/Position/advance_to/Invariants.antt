-- The turns so far lead to a position that is not behind the one that is wanted.
use Rattle.std.proofs.Common.{◌≡◌, ◌-◌}
use Rattle.std.specs.Vec.{vec_len}
use Rattle.os9_kernel.specs.Outside.{outside}
use Rattle.os9_debug.proofs.Positions.{GoneSoFar}
use Rattle.os9_debug.proofs.position.Position.advance_to.Given as goal

abbrev pub invariant-turns : goal.invariant-turns
invariant-turns g l =
    let before = outside (λ box. (g.dyn-1.0.entry box.vtable).1) (λ box. (g.dyn-2.0.entry box.vtable).1) l.initial.devices in
    let now = outside (λ box. (g.dyn-1.0.entry box.vtable).1) (λ box. (g.dyn-2.0.entry box.vtable).1) l.devices in
    record {
      so_far : GoneSoFar l.k l.slices l.initial.self l.self before now;
      terminals : vec_len l.devices.terms ≡ vec_len l.initial.devices.terms;
      drives : vec_len l.devices.drives ≡ vec_len l.initial.devices.drives;
    }

-- the events that are left
abbrev pub decreases-turns : goal.decreases-turns
decreases-turns g l = l.k - l.self.events
