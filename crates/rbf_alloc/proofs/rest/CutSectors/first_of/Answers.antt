use Rattle.std.proofs.Common.{arith}
use Rattle.rbf_alloc.proofs.Rests.{next_there}
use Rattle.rbf_alloc.proofs.rest.CutSectors.first_of.Goals as goal

pub keeps-requires-clause-there : goal.keeps-requires-clause-there
keeps-requires-clause-there c = next_there c.args.place c.args.part.now c.loop-c.c c.loop-c.auto.c c.loop-c-test.true c.requires.there
