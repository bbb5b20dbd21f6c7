use Rattle.std.proofs.Common.{◌-◌, sym, ◌∙◌, arith}
use Rattle.rbf_model.specs.Fields.{directory_entry}
use Rattle.rbf_walk.proofs.Endings.{before_agrees}
use Rattle.rbf_walk.proofs.sector.pair_alike.Goals as goal

pub ends_alike-requires-clause-within : goal.ends_alike-requires-clause-within
ends_alike-requires-clause-within c =
    let end = c.requires.end in
    let place = end.place in
    let short = end.is_name.short in
    omega arith

pub returns-then-not-ends_alike : goal.returns-then-not-ends_alike
returns-then-not-ends_alike c has = sym c.if-not-ends_alike.true ∙ c.ends_alike.ensures c.args.name.now c.requires.end has

pub byte_at-requires-clause-within : goal.byte_at-requires-clause-within
byte_at-requires-clause-within c =
    let end = c.requires.end in
    let place = end.place in
    let short = end.is_name.short in
    omega arith

pub byte-requires : goal.byte-requires
byte-requires c =
    let end = c.requires.end in
    let place = end.place in
    omega arith

pub returns : goal.returns
returns c has =
    let end = c.requires.end in
    let place = end.place in
    before_agrees c.args.name.now (directory_entry c.args.sector.now c.args.i) (c.args.end.at - 1) c.byte_at.result c.byte.result end.is_name (omega arith) c.byte_at.ensures c.byte.ensures has
