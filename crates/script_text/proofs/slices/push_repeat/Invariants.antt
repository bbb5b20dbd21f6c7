-- As many slices are pushed as the loop has turned.
use Rattle.std.proofs.Common.{◌≡◌, ◌++◌, replicate}
use Rattle.script_text.proofs.slices.push_repeat.Given as goal

abbrev pub invariant-loop : goal.invariant-loop
invariant-loop l = l.slices.items ≡ l.initial.slices.items ++ replicate l.counter l.repeat.instructions
