-- The keys of the terminals below the index are taken.
use Rattle.std.proofs.Common.{◌≡◌, ◌≤◌}
use Rattle.std.specs.Vec.{vec_len}
use Rattle.device_table.specs.Seen.{terminal_states}
use Rattle.boot_run.proofs.DroppedLemmas.{Dropped}
use Rattle.boot_run.proofs.keys.drop_keys.Given as goal

abbrev pub invariant-loop-n : goal.invariant-loop-n
invariant-loop-n g l = record {
  terminals : vec_len l.devices.terms ≡ vec_len l.initial.devices.terms;
  within : l.n ≤ vec_len l.initial.devices.terms;
  drives : l.devices.drives ≡ l.initial.devices.drives;
  dropped : Dropped l.n (terminal_states (λ box. (g.dyn-2.0.entry box.vtable).1) l.initial.devices.terms.items) (terminal_states (λ box. (g.dyn-2.0.entry box.vtable).1) l.devices.terms.items);
}
