use Rattle.io_model.specs.Io.{Io}
use Rattle.io_state.proofs.WaitLemmas.{call-there}
use Rattle.io_state.proofs.state.IoState.moved_count.Goals as goal

pub desc-requires : goal.desc-requires
desc-requires c =
    let io : Io = record {
      paths = c.self.inside.paths;
      terminals = c.self.inside.terminals;
      pipes = c.self.inside.pipes;
      calls = c.self.inside.calls;
    } in
    call-there io c.args.p.0 c.in-Some.call c.self.invariant.paths c.self.invariant.waits c.in-Some.is
