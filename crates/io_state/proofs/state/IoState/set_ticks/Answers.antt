use Rattle.std.proofs.Common.{ap}
use Rattle.io_model.specs.declared.path.Desc.{Desc}
use Rattle.io_model.specs.Io.{Io}
use Rattle.io_state.proofs.FileLemmas.{is-io_with_desc}
use Rattle.io_state.proofs.state.IoState.set_ticks.Goals as goal

pub invariant_of-self : goal.invariant_of-self
invariant_of-self c =
    let io : Io = record {
      paths = c.self.inside.paths;
      terminals = c.self.inside.terminals;
      pipes = c.self.inside.pipes;
      calls = c.self.inside.calls;
    } in
    is-io_with_desc io c.set_desc.new.self c.args.path.0 c.desc.result c.with_ticks-desc.result
    c.set_desc.ensures.paths c.set_desc.ensures.shape c.desc.ensures.desc (ap (λ (desc : Desc). desc.target)
    c.with_ticks-desc.ensures)
    c.self.invariant
