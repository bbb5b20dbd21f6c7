-- No line so far breaks a rule, and the lines that are left have the fault.
use Rattle.std.proofs.Common.{◌≡◌, map}
use Rattle.asm_model.specs.Placement.{Reached, start, fault_from}
use Rattle.asm_lines.specs.Lines.{line_said}
use Rattle.asm_lines.specs.Labels.{IsReached}
use Rattle.asm_lines.proofs.PassLemmas.{above_place, fault_at}
use Rattle.asm_lines.proofs.faults.first_fault.Given as goal

abbrev pub invariant-loop-line : goal.invariant-loop-line
invariant-loop-line l = record {
  number : l.number ≡ l.line-index;
  above : IsReached l.above (above_place line_said start l.lines l.line-index);
  rest : (m : Reached) → IsReached l.all m → fault_at line_said m start l.lines l.line-index ≡ fault_from m start 1 (map line_said l.lines);
}
