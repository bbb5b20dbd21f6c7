use Rattle.std.proofs.Common.{ap, option_map, subst}
use Rattle.io_model.specs.declared.path.Desc.{Desc}
use Rattle.io_model.specs.Io.{Io}
use Rattle.io_state.specs.Sound.{IsThere}
use Rattle.io_state.proofs.SoundLemmas.{is-there, path-low}
use Rattle.io_state.proofs.state.IoState.open_path.Goals as goal

pub returns-clause-there : goal.returns-clause-there
returns-clause-there c =
    let io : Io = record {
      paths = c.self.inside.paths;
      terminals = c.self.inside.terminals;
      pipes = c.self.inside.pipes;
      calls = c.self.inside.calls;
    } in
    subst (λ (io : Io). IsThere io c.desc-desc.result.target) c.self.view_is (is-there io c.in_ok-path.path.0
    c.desc-desc.result.target (ap (option_map (λ (desc : Desc). desc.target)) c.desc-desc.ensures.desc)
    c.self.invariant.targets)

pub returns-clause-low : goal.returns-clause-low
returns-clause-low c =
    path-low c.self.inside.paths c.in_ok-path.path.0 c.desc-desc.result c.desc-desc.ensures.desc c.desc-desc.ensures.shape
