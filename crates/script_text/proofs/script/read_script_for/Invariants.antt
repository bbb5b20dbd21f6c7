-- The lines so far break no rule, and the keys are those that they give.
use Rattle.std.proofs.Common.{◌≡◌, length}
use Rattle.script_text.proofs.KeyLemmas.{KeysSoFar}
use Rattle.script_text.proofs.script.read_script_for.Given as goal

abbrev pub invariant-loop-line : goal.invariant-loop-line
invariant-loop-line l = record {
  number : l.number ≡ length l.yielded;
  so_far : KeysSoFar l.terminals l.text (length l.yielded) l.keys.items l.reached;
}
