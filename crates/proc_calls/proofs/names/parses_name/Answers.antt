use Rattle.proc_calls.proofs.names.parses_name.Goals as goal

pub invariant_of-s-clause-primaries : goal.invariant_of-s-clause-primaries
invariant_of-s-clause-primaries c = rw c.name.ensures.same.modules c.args.s.now.primaries
