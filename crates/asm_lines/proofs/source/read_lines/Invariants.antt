-- The lines so far are read, and those that are left follow.
use Rattle.std.proofs.Common.{◌≡◌, ◌++◌, map, length, drop}
use Rattle.std.specs.List.{slice_split}
use Rattle.asm_model.specs.Characters.{is_line_feed}
use Rattle.asm_model.specs.Statements.{line_read, source_lines}
use Rattle.asm_lines.specs.Lines.{line_said}
use Rattle.asm_lines.proofs.source.read_lines.Given as goal

abbrev pub invariant-loop-line : goal.invariant-loop-line
invariant-loop-line l = map line_said l.lines.items ++ map line_read (drop (length l.yielded) (slice_split is_line_feed l.source)) ≡ source_lines l.source
