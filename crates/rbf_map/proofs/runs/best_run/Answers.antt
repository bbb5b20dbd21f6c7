use Rattle.std.proofs.Common.{arith}
use Rattle.rbf_map.specs.Runs.{is_clear_below}
use Rattle.rbf_map.proofs.Searched.{not_begun, searched_more, searched_all, has_enough, marked_is}
use Rattle.rbf_map.proofs.runs.best_run.Goals as goal

pub loop-best-init : goal.loop-best-init
loop-best-init c =
    not_begun (is_clear_below c.args.bytes.now c.args.end) c.args.enough c.args.start (λ k low. marked_is c.args.bytes.now c.args.end k (c.requires.used_before k (omega arith) low))

pub returns-in_default : goal.returns-in_default
returns-in_default c =
    searched_all c.args.bytes.now c.loop-best.from c.args.end c.args.enough c.loop-best.best c.loop-best.invariant c.in_default.ensures.none

pub loop-best-preserved : goal.loop-best-preserved
loop-best-preserved c =
    searched_more c.args.bytes.now c.loop-best.from c.args.end c.args.enough c.loop-best.best c.in-Some.run' c.loop-best.invariant (omega arith) c.in-Some.ensures.found
    c.longer_of-best.result c.longer_of-best.ensures

pub returns : goal.returns
returns c = has_enough _ c.args.enough c.loop-best.from c.loop-best.best c.loop-best.invariant (omega arith)
