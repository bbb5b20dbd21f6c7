use Rattle.rbf_sector_rules.proofs.Led.{led_none, led_more}
use Rattle.rbf_sector_rules.proofs.unread.Unread.first.Goals as goal

pub loop-e-init : goal.loop-e-init
loop-e-init c = led_none c.args.self.now.next.items c.args.from c.requires.ordered c.requires.place

pub loop-e-preserved : goal.loop-e-preserved
loop-e-preserved c =
    led_more c.args.self.now.next.items c.loop-e.self.next.items c.args.from c.loop-e.e c.index.result.now
    c.index-next.result.now c.index-later.result.now c.loop-e.invariant c.index.ensures c.loop-e-test.true
    c.index-next.ensures c.index-later.ensures
