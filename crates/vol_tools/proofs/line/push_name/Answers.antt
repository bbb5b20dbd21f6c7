-- One character more.
use Rattle.vol_tools.proofs.Names.{name_more}
use Rattle.vol_tools.proofs.line.push_name.Goals as goal

pub loop-i-preserved : goal.loop-i-preserved
loop-i-preserved c =
    name_more c.args.lines.now.items c.loop-i.lines.items c.push.new.self.items c.args.name.now c.loop-i.i c.byte.result c.loop-i.invariant c.byte.ensures c.in_ok-push.ensures.items
