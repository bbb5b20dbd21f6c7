use Rattle.proc_state.proofs.Living.{IsProcess-living}
use Rattle.proc_state.proofs.state.ProcState.regs.Goals as goal

pub returns-clause-process : goal.returns-clause-process
returns-clause-process c = IsProcess-living c.args.self.now.table c.args.p.0 c.args.self.now.numbers c.requires
