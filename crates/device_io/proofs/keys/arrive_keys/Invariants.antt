-- The keys of the terminals below the index have arrived.
use Rattle.std.proofs.Common.{◌≡◌, ◌≤◌, false}
use Rattle.std.specs.Vec.{vec_len}
use Rattle.device_table.specs.Seen.{terminal_states}
use Rattle.device_io.proofs.KeyLemmas.{KeysArriveFrom}
use Rattle.device_io.proofs.keys.arrive_keys.Given as goal

abbrev pub invariant-loop-n : goal.invariant-loop-n
invariant-loop-n g l = record {
  terminals : vec_len l.devices.terms ≡ vec_len l.initial.devices.terms;
  within : l.n ≤ vec_len l.initial.devices.terms;
  drives : l.devices.drives ≡ l.initial.devices.drives;
  tick : l.s.tick ≡ l.initial.s.tick;
  quiet : l.changed ≡ false → (l.s ≡ l.initial.s) × (l.io ≡ l.initial.io);
  arrived : KeysArriveFrom l.initial.s l.initial.io (terminal_states (λ box. (g.dyn-2.0.entry box.vtable).1) l.initial.devices.terms.items)
      l.s l.io (terminal_states (λ box. (g.dyn-2.0.entry box.vtable).1) l.devices.terms.items) 0 l.n;
}
