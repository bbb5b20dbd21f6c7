use Rattle.std.proofs.Common.{◌≡◌, drop, true}
use Rattle.cpu_model.specs.Step.{all_named, write_cells}
use Rattle.cpu_model.specs.Effects.{bytes_from}
use Rattle.cpu6809.proofs.bytes.write_from.Given as goal

abbrev pub invariant-loop-byte : goal.invariant-loop-byte
invariant-loop-byte g l = record {
  named : all_named (g.B.Bus.cells l.b) (bytes_from l.at (drop l.byte-index l.bytes)) ≡ true;
  written : write_cells (g.B.Bus.cells l.b) (bytes_from l.at (drop l.byte-index l.bytes))
      ≡ write_cells (g.B.Bus.cells l.initial.b) (bytes_from l.fn.at l.bytes);
  beside : g.B.Bus.same_beside l.initial.b l.b;
}
