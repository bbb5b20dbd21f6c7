use Rattle.os9_kernel.proofs.Represented.{represents-counted}
use Rattle.os9_kernel.proofs.kernel.Kernel.instructions.Goals as goal

pub returns-clause-turn : goal.returns-clause-turn
returns-clause-turn c devices =
    let turn = c.execute-turn.ensures.turn devices in record {
      step = λ other s tied.
          let (t, events, there) = turn.step other s tied in
          (t, events, represents-counted c.execute-turn.new.self c.saturating_add-self.result devices t there);
      memory = turn.memory;
      going = turn.going;
      few = turn.few;
      progress = turn.progress;
      count = turn.count;
      images = turn.images;
    }
