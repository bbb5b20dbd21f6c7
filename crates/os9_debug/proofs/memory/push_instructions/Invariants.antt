-- The lines of the instructions before the address are put, and the others follow.
use Rattle.std.proofs.Common.{◌≡◌, ◌-◌, ◌++◌}
use Rattle.os9_debug.specs.Disassembly.{dis_lines}
use Rattle.os9_debug.specs.Moves.{SeesCells}
use Rattle.os9_debug.proofs.memory.push_instructions.Given as goal

abbrev pub invariant-loop-k : goal.invariant-loop-k
invariant-loop-k l = SeesCells l.position (λ cells.
    l.fn.out.items ++ dis_lines cells l.fn.span.at l.fn.span.count ≡ l.out.items ++ dis_lines cells l.at (l.fn.span.count - l._k))
