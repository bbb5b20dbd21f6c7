use Rattle.std.proofs.Common.{◌≡◌, ◌+◌, arith}
use Rattle.rbf_segs.proofs.Runs.{lengthens, adds_run, joins-elsewhere, joins-no_room}
use Rattle.rbf_segs.proofs.segment_list.lengthened.Goals as goal

pub returns-then-first-from : goal.returns-then-first-from
returns-then-first-from c =
    let run = c.in_ok-first.field-0.now in
    adds_run c.args.runs.now run c.args.lsn c.args.count c.in_ok-first.ensures.value (joins-elsewhere run c.args.lsn c.args.count (λ follows. c.if-first-from.true (omega arith)))

pub returns-in_err-checked_add : goal.returns-in_err-checked_add
returns-in_err-checked_add c =
    let run = c.in_ok-first.field-0.now in
    rw c.from_residual-in_err-checked_add.ensures (adds_run c.args.runs.now run c.args.lsn c.args.count
    c.in_ok-first.ensures.value (joins-no_room run c.args.lsn c.args.count (λ room. c.in_err-checked_add.ensures
    (omega (arith, room)))))

pub returns : goal.returns
returns c =
    let run = c.in_ok-first.field-0.now in
    let sum = c.in_ok-checked_add.ensures in
    let together : c.in_ok-checked_add.field-0 ≡ run.1 + c.args.count = omega (arith, sum.1) in
    rw together (lengthens c.args.runs.now run c.args.lsn c.args.count c.in_ok-first.ensures.value (omega arith) (omega (arith, sum.0)) c.requires)
