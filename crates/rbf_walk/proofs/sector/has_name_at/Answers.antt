use Rattle.std.proofs.Common.{arith}
use Rattle.rbf_walk.proofs.Endings.{fails_test}
use Rattle.rbf_walk.proofs.sector.has_name_at.Goals as goal

pub ends_alike-requires-clause-within : goal.ends_alike-requires-clause-within
ends_alike-requires-clause-within c =
    let end = c.requires.end in
    let place = end.place in
    let short = end.is_name.short in
    omega arith

pub returns-then-not-ends_alike : goal.returns-then-not-ends_alike
returns-then-not-ends_alike c = fails_test _ c.ends_alike.result (c.ends_alike.ensures c.args.name.now c.requires.end) c.if-not-ends_alike.true

pub returns-then-not-begins_alike : goal.returns-then-not-begins_alike
returns-then-not-begins_alike c = fails_test _ c.begins_alike.result c.begins_alike.ensures c.if-not-begins_alike.true
