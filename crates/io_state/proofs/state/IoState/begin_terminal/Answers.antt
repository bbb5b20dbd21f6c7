use Rattle.std.proofs.Common.{ap}
use Rattle.io_model.specs.Path.{paths_after_begin}
use Rattle.io_model.specs.declared.path.Desc.{Desc}
use Rattle.io_model.specs.Io.{Io}
use Rattle.io_state.proofs.SoundLemmas.{are-begun, is-io_with_paths, may-open_terminal}
use Rattle.io_state.proofs.WaitLemmas.{waits-begun}
use Rattle.io_state.proofs.state.IoState.begin_terminal.Goals as goal

pub invariant_of-self : goal.invariant_of-self
invariant_of-self c =
    let io : Io = record {
      paths = c.self.inside.paths;
      terminals = c.self.inside.terminals;
      pipes = c.self.inside.pipes;
      calls = c.self.inside.calls;
    } in
    is-io_with_paths io c.begin.new.self (paths_after_begin io.paths c.args.p.0 c.new_desc.result) c.begin.ensures.paths c.begin.ensures.shape
    (are-begun io c.args.p.0 c.new_desc.result (may-open_terminal io c.new_desc.result c.args.terminal
    (ap (λ (desc : Desc). desc.target) c.new_desc.ensures) c.requires.terminal) c.self.invariant.targets)
    (waits-begun io c.args.p.0 c.new_desc.result c.self.invariant.paths c.self.invariant.waits) c.self.invariant
