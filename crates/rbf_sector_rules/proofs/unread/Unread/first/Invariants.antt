use Rattle.std.proofs.Common.{◌-◌, length}
use Rattle.rbf_sector_rules.proofs.Led.{IsLed}
use Rattle.rbf_sector_rules.proofs.unread.Unread.first.Given as goal

abbrev pub invariant-loop-e : goal.invariant-loop-e
invariant-loop-e l = IsLed l.fn.self.next.items l.self.next.items l.from l.e

abbrev pub decreases-loop-e : goal.decreases-loop-e
decreases-loop-e l = length l.self.next.items - l.e
