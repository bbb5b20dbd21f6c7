use Rattle.std.proofs.Common.{◌++◌, ap, ◌∙◌}
use Rattle.os9_debug.specs.Show.{end_line}
use Rattle.os9_debug.proofs.commands.end_line.Goals as goal

pub returns : goal.returns
returns c = c.in_ok-push_end.ensures ∙ ap (λ line. line ++ end_line c.args.last) c.new-line.ensures.items
