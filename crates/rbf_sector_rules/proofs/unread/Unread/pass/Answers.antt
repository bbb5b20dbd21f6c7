use Rattle.std.proofs.Common.{◌+◌, arith}
use Rattle.rbf_sector_rules.proofs.Led.{leads_there, leads_still, leads_only, ordered_set}
use Rattle.rbf_sector_rules.proofs.unread.Unread.pass.Goals as goal

pub returns-clause-ordered : goal.returns-clause-ordered
returns-clause-ordered c =
    ordered_set c.args.self.now.next.items c.args.e (c.args.e + 1) (omega arith) (omega arith) c.requires.ordered c.requires.place (λ t after below. absurd (omega arith))

pub returns-clause-read : goal.returns-clause-read
returns-clause-read c = leads_there c.args.self.now.next.items c.args.e (c.args.e + 1) (omega arith) (omega arith)

pub returns-clause-kept : goal.returns-clause-kept
returns-clause-kept c = leads_still c.args.self.now.next.items c.args.e (c.args.e + 1) (omega arith) (omega arith)

pub returns-clause-only : goal.returns-clause-only
returns-clause-only c = leads_only c.args.self.now.next.items c.args.e (c.args.e + 1) (omega arith) (omega arith)
