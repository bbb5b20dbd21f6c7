-- The commands below the index are done, and what they show is put.
use Rattle.std.proofs.Common.{◌≡◌}
use Rattle.std.specs.Vec.{vec_len}
use Rattle.machine_model.specs.ProcessStart.{RefusesBoot}
use Rattle.machine_model.specs.declared.ends.BootFault.{BootFault}
use Rattle.os9_kernel.specs.Outside.{outside}
use Rattle.os9_words.specs.Notes.{notes_of}
use Rattle.boot_run.specs.World.{HasNoFault, world_of}
use Rattle.boot_run.proofs.ConsoleLemmas.{nowhere}
use Rattle.os9_debug.specs.Machine.{HasStart}
use Rattle.os9_debug.specs.Moves.{IsPositionOf}
use Rattle.os9_debug.proofs.Printing.{SoFar}
use Rattle.os9_debug.proofs.debugger.debug.Given as goal

abbrev pub invariant-loop-command : goal.invariant-loop-command
invariant-loop-command g l =
    let first = outside (λ box. (g.dyn-1.0.entry box.vtable).1) (λ box. (g.dyn-2.0.entry box.vtable).1) l.fn.devices in
    let now = outside (λ box. (g.dyn-1.0.entry box.vtable).1) (λ box. (g.dyn-2.0.entry box.vtable).1) l.devices in
    record {
      at : IsPositionOf l.machine first l.position now;
      so_far : SoFar l.machine l.commands first now l.command-index (g.H.Host.bytes_out l.fn.host) (g.H.Host.bytes_out l.host) l.position.events;
      starts : HasStart l.machine first;
      accepted : (fault : BootFault) → ¬ RefusesBoot l.machine.file.now l.machine.blocks fault;
      none : HasNoFault (world_of g.H.Host l.fn.host nowhere) (world_of g.H.Host l.host nowhere);
      files : g.H.Host.file_map l.host ≡ g.H.Host.file_map l.fn.host;
      notes : notes_of g.H.Host l.host ≡ notes_of g.H.Host l.fn.host;
      terminals : vec_len l.devices.terms ≡ vec_len l.fn.devices.terms;
      drives : vec_len l.devices.drives ≡ vec_len l.fn.devices.drives;
    }
