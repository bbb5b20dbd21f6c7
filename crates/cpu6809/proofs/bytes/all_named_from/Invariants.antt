use Rattle.std.proofs.Common.{◌≡◌, drop}
use Rattle.cpu_model.specs.Step.{all_named}
use Rattle.cpu_model.specs.Effects.{bytes_from}
use Rattle.cpu6809.proofs.bytes.all_named_from.Given as goal

abbrev pub invariant-loop-byte : goal.invariant-loop-byte
invariant-loop-byte g l =
    all_named (g.B.Bus.cells l.b) (bytes_from l.at (drop l._byte-index l.bytes))
    ≡ all_named (g.B.Bus.cells l.b) (bytes_from l.fn.at l.bytes)
