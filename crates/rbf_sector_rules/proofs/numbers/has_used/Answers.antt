use Rattle.std.proofs.Common.{sym, ◌∙◌, below_more}
use Rattle.rbf_sector_rules.proofs.numbers.has_used.Goals as goal

pub loop-i-preserved : goal.loop-i-preserved
loop-i-preserved c = below_more _ _ c.loop-i.invariant (sym c.is_used.ensures ∙ c.if-is_used.false)
