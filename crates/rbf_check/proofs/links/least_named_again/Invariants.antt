use Rattle.std.proofs.Common.{◌≡◌, length}
use Rattle.rbf_sector_rules.specs.Least.{IsLeast, Before}
use Rattle.rbf_check.specs.Named.{AreFirsts, IsNamedAgain}
use Rattle.rbf_check.proofs.links.least_named_again.Given as goal

abbrev pub invariant-loop-k : goal.invariant-loop-k
invariant-loop-k l =
    (length l.firsts.items ≡ l.image.ident.total) × AreFirsts l.links l.firsts.items l.k × IsLeast (Before (IsNamedAgain l.links l.image.ident.root) l.k) l.least
