-- The bytes before the address are there, and the others follow.
use Rattle.std.proofs.Common.{◌≡◌, ◌-◌, ◌++◌}
use Rattle.arrayvec.specs.ArrayVec.{array_vec_len}
use Rattle.os9_debug.specs.Disassembly.{bytes_from}
use Rattle.os9_debug.specs.Moves.{SeesCells}
use Rattle.os9_debug.proofs.memory.bytes_from.Given as goal

abbrev pub invariant-loop-k : goal.invariant-loop-k
invariant-loop-k l = record {
  read : SeesCells l.position (λ cells. bytes_from cells l.fn.at 5 ≡ l.bytes.items ++ bytes_from cells l.at (5 - l._k));
  count : array_vec_len l.bytes ≡ l._k;
}
