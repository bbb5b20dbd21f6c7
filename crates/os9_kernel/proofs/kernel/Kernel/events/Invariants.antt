use Rattle.std.proofs.Common.{◌≡◌, ◌+◌, ◌*◌, List}
use Rattle.std.specs.Vec.{vec_len}
use Rattle.machine_model.specs.Run.{FirstSteps}
use Rattle.machine_model.specs.State.{State}
use Rattle.os9_kernel.specs.Changes.{KeepsImages}
use Rattle.os9_kernel.specs.Outside.{Outside, outside}
use Rattle.os9_kernel.specs.Tie.{Represents, RepresentsSomeState, IsGoing, ticks, pending}
use Rattle.os9_kernel.proofs.Turns.{BeginsFrom, ContinuesFrom}
use Rattle.os9_kernel.proofs.kernel.Kernel.events.Given as goal

abbrev pub invariant-loop-left : goal.invariant-loop-left
invariant-loop-left g l =
    let before : Outside = outside (λ box. (g.dyn-1.0.entry box.vtable).1) (λ box. (g.dyn-2.0.entry box.vtable).1) l.initial.devices in
    let now : Outside = outside (λ box. (g.dyn-1.0.entry box.vtable).1) (λ box. (g.dyn-2.0.entry box.vtable).1) l.devices in record {
      going : IsGoing l.self;
      terminal : vec_len l.devices.terms ≡ vec_len l.initial.devices.terms;
      drives : vec_len l.devices.drives ≡ vec_len l.initial.devices.drives;
      count : ticks l.self ≡ ticks l.initial.self;
      stands : RepresentsSomeState l.self now;
      tied : (s : State) → Represents l.initial.self before s
          → (m : State) × (all : List State) × Represents l.self now m × ContinuesFrom l.n s all l.left m × BeginsFrom l.n s all l.left m × KeepsImages (FirstSteps l.n s) all before.drives now.drives;
    }

abbrev pub decreases-loop-left : goal.decreases-loop-left
decreases-loop-left g l = 4 * l.left + pending l.self
