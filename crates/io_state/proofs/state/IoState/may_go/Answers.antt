use Rattle.std.proofs.Common.{IsSome, subst}
use Rattle.io_model.specs.Path.{desc_of}
use Rattle.io_model.specs.Io.{Io}
use Rattle.io_state.proofs.WaitLemmas.{call-there}
use Rattle.io_state.proofs.state.IoState.may_go.Goals as goal

pub goes_on-requires : goal.goes_on-requires
goes_on-requires c =
    let io : Io = record {
      paths = c.self.inside.paths;
      terminals = c.self.inside.terminals;
      pipes = c.self.inside.pipes;
      calls = c.self.inside.calls;
    } in
    subst (λ (s : Io). IsSome (desc_of s.paths c.in-Some.call.path.0)) c.self.view_is
    (call-there io c.args.p.0 c.in-Some.call c.self.invariant.paths c.self.invariant.waits c.in-Some.is)
