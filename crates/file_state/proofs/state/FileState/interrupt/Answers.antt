use Rattle.file_state.proofs.StateLemmas.{stands-interrupted}
use Rattle.file_state.proofs.state.FileState.interrupt.Goals as goal

pub returns-clause-files : goal.returns-clause-files
returns-clause-files c views files stands =
    stands-interrupted c.args.self.now views files c.args.p.0 c.interrupt.new.self c.cancel.new.self c.interrupt.ensures.io c.cancel.ensures stands
