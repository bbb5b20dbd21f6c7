use Rattle.os9_kernel.proofs.kernel.Kernel.follow.Goals as goal

pub returns-in-Ended-clause-files : goal.returns-in-Ended-clause-files
returns-in-Ended-clause-files c views files stands = rw c.in-Ended.is (c.end.ensures views files stands)
