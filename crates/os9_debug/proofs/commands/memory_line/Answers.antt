use Rattle.std.proofs.Common.{◌++◌, ap, ◌∙◌}
use Rattle.os9_debug.specs.Course.{state_at}
use Rattle.os9_debug.specs.Show.{mem_line, shown_cells}
use Rattle.os9_debug.proofs.commands.memory_line.Goals as goal

pub returns : goal.returns
returns c = λ course last slices devices at.
    c.in_ok-push_memory.ensures course last slices devices at
    ∙ ap (λ line. line ++ mem_line (shown_cells (state_at course c.args.position.now.events)) c.args.span) c.new-line.ensures.items
