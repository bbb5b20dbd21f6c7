use Rattle.std.proofs.Common.{◌≡◌, ◌-◌, ◌++◌}
use Rattle.arrayvec.specs.ArrayVec.{array_vec_len}
use Rattle.cpu_model.specs.Step.{window}
use Rattle.cpu6809.proofs.execution.fetch.Given as goal

abbrev pub invariant-loop-k : goal.invariant-loop-k
invariant-loop-k g l = record {
  fetched : window (g.B.Bus.cells l.b) l.fn.at 5 ≡ l.bytes.items ++ window (g.B.Bus.cells l.b) l.at (5 - l._k);
  count : array_vec_len l.bytes ≡ l._k;
}
