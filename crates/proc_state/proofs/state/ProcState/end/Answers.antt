use Rattle.proc_state.proofs.Living.{IsProcess-living}
use Rattle.proc_state.proofs.state.ProcState.end.Goals as goal

pub own-own-requires : goal.own-own-requires
own-own-requires c = (IsProcess-living c.args.self.now.table c.args.p.0 c.args.self.now.numbers c.requires).1
