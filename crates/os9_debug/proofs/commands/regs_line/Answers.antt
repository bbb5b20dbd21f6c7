use Rattle.std.proofs.Common.{◌++◌, ap, ◌∙◌}
use Rattle.os9_debug.specs.Course.{state_at}
use Rattle.os9_debug.specs.Show.{regs_line, shown}
use Rattle.os9_debug.proofs.commands.regs_line.Goals as goal

pub returns : goal.returns
returns c = λ course last slices devices at.
    c.in_ok-push_regs.ensures
    ∙ ap (λ line. line ++ regs_line c.events.result c.process.result.0 c.regs-regs.result) c.new-line.ensures.items
    ∙ ap (λ k. regs_line k c.process.result.0 c.regs-regs.result) c.events.ensures
    ∙ ap (λ p. regs_line c.args.position.now.events p c.regs-regs.result) (c.process.ensures.shown course last slices devices at)
    ∙ ap (λ regs. regs_line c.args.position.now.events (shown (state_at course c.args.position.now.events)) regs) (c.regs-regs.ensures course last slices devices at)
