use Rattle.std.proofs.Common.{sym, arith}
use Rattle.rbf_entries.proofs.Space.{needs_one}
use Rattle.rbf_entries.proofs.folder_parts.new_clusters.Goals as goal

pub returns-else-k-eq1-clause-value : goal.returns-else-k-eq1-clause-value
returns-else-k-eq1-clause-value c = sym (needs_one c.args.k (omega (arith, c.requires, c.if-k-eq1.false)))
