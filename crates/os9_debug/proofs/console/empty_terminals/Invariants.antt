-- The terminals below the index are emptied.
use Rattle.std.proofs.Common.{◌≡◌, ◌≤◌}
use Rattle.std.specs.Vec.{vec_len}
use Rattle.device_table.specs.Seen.{terminal_states}
use Rattle.os9_debug.proofs.Emptying.{emptied_front}
use Rattle.os9_debug.proofs.console.empty_terminals.Given as goal

abbrev pub invariant-loop-n : goal.invariant-loop-n
invariant-loop-n g l =
    let before = terminal_states (λ box. (g.dyn-2.0.entry box.vtable).1) l.initial.devices.terms.items in
    record {
      terminals : vec_len l.devices.terms ≡ vec_len l.initial.devices.terms;
      within : l.n ≤ vec_len l.initial.devices.terms;
      drives : l.devices.drives ≡ l.initial.devices.drives;
      emptied : terminal_states (λ box. (g.dyn-2.0.entry box.vtable).1) l.devices.terms.items ≡ emptied_front l.n before;
    }
