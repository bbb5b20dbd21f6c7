use Rattle.std.proofs.Common.{◌≤◌}
use Rattle.cpu6809.specs.Running.{InstructionsFollow}
use Rattle.cpu6809.proofs.execution.run.Given as goal

abbrev pub invariant-loop-followed : goal.invariant-loop-followed
invariant-loop-followed g l = record {
  follow : InstructionsFollow l.followed l.initial.r (g.B.Bus.cells l.initial.b) l.r (g.B.Bus.cells l.b);
  most : l.followed ≤ l.fn.n;
  beside : g.B.Bus.same_beside l.initial.b l.b;
}
