use Rattle.std.proofs.Common.{◌+◌, ◌≤◌, subst}
use Rattle.io_model.specs.Pipe.{moved_count}
use Rattle.io_model.specs.declared.pipe.PipeAns.{PipeAns}
use Rattle.device_io.proofs.LeavingLemmas.{may-wait-on}
use Rattle.device_io.proofs.pipe_writes.settle.Goals as goal

pub go_on-requires-clause-may : goal.go_on-requires-clause-may
go_on-requires-clause-may c =
    may-wait-on c.args.io.now.paths c.args.p.0 c.args.call c.moved_on.result c.in-Done.count c.moved_on.ensures
    (subst (λ (a : PipeAns). c.args.call.moved + moved_count a ≤ c.args.call.count) c.in-Done.is c.requires.few)
    c.requires.may
