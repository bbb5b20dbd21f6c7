use Rattle.std.proofs.Common.{◌<◌, arith}
use Rattle.os9_debug.specs.declared.command.Command.TheVariants.{To}
use Rattle.os9_debug.proofs.Going.{may-any, moves-back, moves-not, moves-nowhere}
use Rattle.os9_debug.proofs.moves.go_back.Goals as goal

pub restart-requires : goal.restart-requires
restart-requires g c =
    let (first, can, at) = c.requires in
    (first, can, at.gains)

pub returns-then-events-k-clause-moved : goal.returns-then-events-k-clause-moved
returns-then-events-k-clause-moved g c = moves-nowhere (tt {0}) c.args.machine.now (To c.args.k) c.args.position.now _

pub returns-in-Ok-clause-moved : goal.returns-in-Ok-clause-moved
returns-in-Ok-clause-moved g c =
    moves-back _ c.args.machine.now (To c.args.k) c.args.position.now c.in-Ok.start _ _ c.in-Ok.ensures.restarted

pub returns-in-Ok-clause-earlier : goal.returns-in-Ok-clause-earlier
returns-in-Ok-clause-earlier g c = omega (arith, c.in-Ok.ensures.restarted.first)

pub returns-in-Err-clause-moved : goal.returns-in-Err-clause-moved
returns-in-Err-clause-moved g c =
    let back : c.args.k < c.args.position.now.events = omega arith in
    moves-not c.args.machine.now (To c.args.k) c.args.position.now _ c.in-Err.fault _ _ c.in-Err.ensures.restarted.fails (may-any (To c.args.k) c.args.position.now.events c.in-Err.fault back)
