use Rattle.std.proofs.Common.{◌≡◌, ◌≤◌, take, All}
use Rattle.std.specs.Vec.{vec_len}
use Rattle.os9_outer.specs.Stream.{stream_with}
use Rattle.device_table.specs.Seen.{terminal_states}
use Rattle.machine_model.specs.Console.{console_bytes}
use Rattle.os9_words.specs.Notes.{notes_of}
use Rattle.boot_run.specs.Console.{IsObserved, emptied_front}
use Rattle.boot_run.specs.World.{HasNoFault, world_of}
use Rattle.boot_run.proofs.ConsoleLemmas.{nowhere}
use Rattle.boot_run.proofs.console.pass_on.Given as goal

abbrev pub invariant-loop-n : goal.invariant-loop-n
invariant-loop-n g l =
    let before = terminal_states (λ box. (g.dyn-2.0.entry box.vtable).1) l.initial.devices.terms.items in
    record {
      terminals : vec_len l.devices.terms ≡ vec_len l.initial.devices.terms;
      within : l.n ≤ vec_len l.initial.devices.terms;
      drives : l.devices.drives ≡ l.initial.devices.drives;
      emptied : terminal_states (λ box. (g.dyn-2.0.entry box.vtable).1) l.devices.terms.items ≡ emptied_front l.n before;
      written : All IsObserved before → g.H.Host.bytes_out l.host ≡ stream_with (g.H.Host.bytes_out l.initial.host) (console_bytes (take l.n before));
      count : HasNoFault (world_of g.H.Host l.initial.host nowhere) (world_of g.H.Host l.host nowhere);
      notes : notes_of g.H.Host l.host ≡ notes_of g.H.Host l.initial.host;
      files : g.H.Host.file_map l.host ≡ g.H.Host.file_map l.initial.host;
    }
