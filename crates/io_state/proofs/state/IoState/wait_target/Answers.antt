use Rattle.std.proofs.Common.{ap, option_map, subst}
use Rattle.io_model.specs.declared.path.Desc.{Desc}
use Rattle.io_model.specs.Io.{Io}
use Rattle.io_state.proofs.SoundLemmas.{is-there}
use Rattle.io_state.proofs.WaitLemmas.{call-there}
use Rattle.io_state.specs.Sound.{IsThere}
use Rattle.io_state.proofs.state.IoState.wait_target.Goals as goal

pub desc-requires : goal.desc-requires
desc-requires c =
    let io : Io = record {
      paths = c.self.inside.paths;
      terminals = c.self.inside.terminals;
      pipes = c.self.inside.pipes;
      calls = c.self.inside.calls;
    } in
    call-there io c.args.p.0 c.in-Some.call c.self.invariant.paths c.self.invariant.waits c.in-Some.is

pub returns-in-Some-clause-there : goal.returns-in-Some-clause-there
returns-in-Some-clause-there c =
    let io : Io = record {
      paths = c.self.inside.paths;
      terminals = c.self.inside.terminals;
      pipes = c.self.inside.pipes;
      calls = c.self.inside.calls;
    } in
    subst (λ (io : Io). IsThere io c.desc.result.target) c.self.view_is (is-there io c.in-Some.call.path.0
    c.desc.result.target (ap (option_map (λ (desc : Desc). desc.target)) c.desc.ensures.desc)
    c.self.invariant.targets)
