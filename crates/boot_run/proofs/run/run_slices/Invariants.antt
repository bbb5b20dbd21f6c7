use Rattle.std.proofs.Common.{◌≡◌, ◌+◌, ◌-◌, ◌<◌, take, length, All}
use Rattle.std.specs.Vec.{vec_len}
use Rattle.machine_model.specs.State.{State}
use Rattle.os9_kernel.specs.Outside.{outside}
use Rattle.os9_words.specs.Notes.{notes_of}
use Rattle.os9_kernel.specs.Tie.{Represents, RepresentsSomeState, ticks}
use Rattle.boot_run.specs.Console.{IsObserved}
use Rattle.boot_run.specs.World.{HasNoFault, world_of}
use Rattle.boot_run.proofs.ConsoleLemmas.{nowhere}
use Rattle.boot_run.proofs.RunLemmas.{Reaches}
use Rattle.boot_run.proofs.run.run_slices.Given as goal

abbrev pub invariant-loop-n : goal.invariant-loop-n
invariant-loop-n g l =
    let before = outside (λ box. (g.dyn-1.0.entry box.vtable).1) (λ box. (g.dyn-2.0.entry box.vtable).1) l.initial.devices in
    let now = outside (λ box. (g.dyn-1.0.entry box.vtable).1) (λ box. (g.dyn-2.0.entry box.vtable).1) l.devices in
    record {
      few : ticks l.kernel + (length l.slices - l.n-index) < 4294000000;
      stands : RepresentsSomeState l.kernel now;
      reaches : (s : State) → All IsObserved before.terms → Represents l.initial.kernel before s
          → Reaches before.drives l.slices (g.H.Host.bytes_out l.initial.host) (take l.n-index l.slices) s l.kernel now (g.H.Host.bytes_out l.host);
      count : HasNoFault (world_of g.H.Host l.initial.host nowhere) (world_of g.H.Host l.host nowhere);
      files : g.H.Host.file_map l.host ≡ g.H.Host.file_map l.initial.host;
      notes : notes_of g.H.Host l.host ≡ notes_of g.H.Host l.initial.host;
      terminals : vec_len l.devices.terms ≡ vec_len l.initial.devices.terms;
      drives : vec_len l.devices.drives ≡ vec_len l.initial.devices.drives;
    }
