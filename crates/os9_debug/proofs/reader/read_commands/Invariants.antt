-- The lines so far are not refused, and the commands are those that they give.
use Rattle.std.proofs.Common.{◌≡◌, true, length}
use Rattle.script_text.specs.Lines.{text_lines}
use Rattle.script_text.proofs.TextLemmas.{ReadSoFar}
use Rattle.os9_debug.specs.Commands.{line_commands}
use Rattle.os9_debug.proofs.reader.read_commands.Given as goal

abbrev pub invariant-loop-line : goal.invariant-loop-line
invariant-loop-line l = record {
  number : l.number ≡ length l.yielded;
  so_far : ReadSoFar line_commands (λ commands. true) (text_lines l.text) (length l.yielded) l.commands.items;
}
