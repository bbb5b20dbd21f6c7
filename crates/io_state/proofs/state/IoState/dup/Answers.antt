use Rattle.io_model.specs.Path.{paths_after_dup}
use Rattle.io_model.specs.Io.{Io}
use Rattle.io_state.proofs.SoundLemmas.{are-doubled, is-io_with_paths}
use Rattle.io_state.proofs.WaitLemmas.{waits-doubled}
use Rattle.io_state.proofs.state.IoState.dup.Goals as goal

pub invariant_of-self : goal.invariant_of-self
invariant_of-self c =
    let io : Io = record {
      paths = c.self.inside.paths;
      terminals = c.self.inside.terminals;
      pipes = c.self.inside.pipes;
      calls = c.self.inside.calls;
    } in
    is-io_with_paths io c.dup.new.self (paths_after_dup io.paths c.args.p.0 c.args.n) c.dup.ensures.paths
    c.dup.ensures.shape (are-doubled io c.args.p.0 c.args.n c.self.invariant.targets) (waits-doubled io c.args.p.0
    c.args.n c.self.invariant.waits) c.self.invariant
