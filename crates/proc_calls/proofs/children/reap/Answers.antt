use Rattle.proc_calls.proofs.Turns.{turns_reaped, record_reaped, at_same, lives_same}
use Rattle.proc_calls.proofs.children.reap.Goals as goal

pub invariant_of-s-clause-turns : goal.invariant_of-s-clause-turns
invariant_of-s-clause-turns c =
    rw c.reap.ensures.records (turns_reaped c.args.s.now.table c.args.s.now.sched c.args.p.0 c.args.s.now.turns)

pub returns-clause-record : goal.returns-clause-record
returns-clause-record c =
    rw c.reap.ensures.records (at_same _ _ c.args.p.0 (record_reaped c.args.s.now.table c.args.p.0 c.args.p.0 c.requires.lives))

pub returns-clause-lives : goal.returns-clause-lives
returns-clause-lives c =
    rw c.reap.ensures.records (lives_same _ _ c.args.p.0 (record_reaped c.args.s.now.table c.args.p.0 c.args.p.0 c.requires.lives) c.requires.lives)
