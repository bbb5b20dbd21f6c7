use Rattle.std.proofs.Common.{◌≡◌, ◌<◌, All}
use Rattle.std.specs.Vec.{vec_len}
use Rattle.os9_kernel.specs.Outside.{outside}
use Rattle.os9_kernel.specs.Tie.{RepresentsSomeState, ticks}
use Rattle.os9_words.specs.Notes.{notes_of}
use Rattle.boot_run.specs.World.{HasNoFault, world_of}
use Rattle.boot_run.proofs.ConsoleLemmas.{nowhere}
use Rattle.console_run.specs.Keyboard.{keyboard_state}
use Rattle.console_run.specs.Lines.{GaveLines}
use Rattle.console_run.specs.Turn.{console_state, rest_of}
use Rattle.console_run.specs.Typed.{kept_bytes, kept_keys}
use Rattle.console_run.proofs.EndLemmas.{ComesFrom}
use Rattle.console_run.proofs.KeyLemmas.{IsOfTerm}
use Rattle.console_run.proofs.turns.run_turns.Given as goal

abbrev pub invariant-loop : goal.invariant-loop
invariant-loop g l =
    let before = outside (λ box. (g.dyn-1.0.entry box.vtable).1) (λ box. (g.dyn-2.0.entry box.vtable).1) l.initial.devices in
    let now = outside (λ box. (g.dyn-1.0.entry box.vtable).1) (λ box. (g.dyn-2.0.entry box.vtable).1) l.devices in
    record {
      begun : ticks l.kernel ≡ l.counter;
      within : l.counter < 4294000000;
      slices : l.console.typed.slices ≡ l.counter;
      stands : RepresentsSomeState l.kernel now;
      of_term : All IsOfTerm (kept_keys l.console.typed);
      gave : GaveLines (kept_bytes l.console.typed) (rest_of l.console)
          (keyboard_state g.K.Keyboard l.initial.console.keyboard) (keyboard_state g.K.Keyboard l.console.keyboard);
      comes : ComesFrom (console_state g.K.Keyboard l.console) l.last
          (keyboard_state g.K.Keyboard l.initial.console.keyboard) l.initial.kernel l.kernel
          (world_of g.H.Host l.initial.host before) (world_of g.H.Host l.host now);
      count : HasNoFault (world_of g.H.Host l.initial.host nowhere) (world_of g.H.Host l.host nowhere);
      files : g.H.Host.file_map l.host ≡ g.H.Host.file_map l.initial.host;
      notes : notes_of g.H.Host l.host ≡ notes_of g.H.Host l.initial.host;
      terminals : vec_len l.devices.terms ≡ vec_len l.initial.devices.terms;
      drives : vec_len l.devices.drives ≡ vec_len l.initial.devices.drives;
    }
