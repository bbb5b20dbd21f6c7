use Rattle.std.proofs.Common.{◌++◌, ap, ◌∙◌}
use Rattle.os9_debug.specs.Course.{state_at}
use Rattle.os9_debug.specs.Disassembly.{dis_lines}
use Rattle.os9_debug.specs.Show.{shown_cells}
use Rattle.os9_debug.proofs.commands.instruction_lines.Goals as goal

pub returns : goal.returns
returns c = λ course last slices devices at.
    c.in_ok-push_instructions.ensures course last slices devices at
    ∙ ap (λ line. line ++ dis_lines (shown_cells (state_at course c.args.position.now.events)) c.args.span.at c.args.span.count) c.new-line.ensures.items
