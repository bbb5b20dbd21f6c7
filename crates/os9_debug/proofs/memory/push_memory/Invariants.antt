-- The bytes below the index are put.
use Rattle.std.proofs.Common.{◌≡◌, ◌++◌, ◌%◌}
use Rattle.std.specs.List.{flat_map, range_with_len}
use Rattle.asm_model.specs.Numbers.{four_digits}
use Rattle.os9_debug.specs.Show.{byte_text}
use Rattle.os9_debug.specs.Moves.{SeesCells}
use Rattle.os9_debug.proofs.memory.push_memory.Given as goal

abbrev pub invariant-loop-n : goal.invariant-loop-n
invariant-loop-n l = SeesCells l.position (λ cells.
    l.out.items ≡ (l.fn.out.items ++ four_digits l.span.at) ++ flat_map (λ at. byte_text (cells (at % 65536))) (range_with_len l.span.at l.n))
