use Rattle.std.proofs.Common.{◌-◌, arith}
use Rattle.rbf_model.specs.Fields.{directory_entry}
use Rattle.rbf_walk.proofs.Endings.{differs_at}
use Rattle.rbf_walk.proofs.sector.begins_alike.Goals as goal

pub returns-then-here-wanted : goal.returns-then-here-wanted
returns-then-here-wanted c =
    let long = c.len-last.ensures.length in
    differs_at c.args.name.now (directory_entry c.args.sector.now c.args.i) (c.len-last.result - 1 - 1 - c.loop-behind.behind) c.lower-here.result c.lower-wanted.result c.byte_at.result c.byte.result
    c.len-last.ensures.name (omega arith) c.byte_at.ensures c.byte.ensures c.lower-here.ensures c.lower-wanted.ensures c.if-here-wanted.true
