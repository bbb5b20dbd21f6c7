use Rattle.io_model.specs.Io.{Io}
use Rattle.io_state.proofs.TerminalLemmas.{is-io_forgotten}
use Rattle.io_state.proofs.state.IoState.forget.Goals as goal

pub invariant_of-self : goal.invariant_of-self
invariant_of-self c =
    let io : Io = record {
      paths = c.self.inside.paths;
      terminals = c.self.inside.terminals;
      pipes = c.self.inside.pipes;
      calls = c.self.inside.calls;
    } in
    is-io_forgotten io c.args.p.0 c.forget.new.self c.forget.ensures c.requires c.self.invariant
