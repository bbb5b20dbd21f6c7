use Rattle.std.proofs.Common.{◌∙◌, ap, sym}
use Rattle.io_model.specs.declared.path.Target.TheVariants.{Term}
use Rattle.io_model.specs.Io.{Io}
use Rattle.io_model.specs.Waiting.{wait_target}
use Rattle.io_state.proofs.TerminalLemmas.{is-io_dropped}
use Rattle.io_state.proofs.WaitLemmas.{none-some}
use Rattle.io_state.proofs.state.IoState.break_off.Goals as goal

pub invariant_of-self : goal.invariant_of-self
invariant_of-self c =
    let io : Io = record {
      paths = c.self.inside.paths;
      terminals = c.self.inside.terminals;
      pipes = c.self.inside.pipes;
      calls = c.self.inside.calls;
    } in
    is-io_dropped io c.args.p.0 (λ n on. none-some (Term n) (sym c.in-None.is ∙ c.wait_target.ensures.target ∙ ap
    (λ (s : Io). wait_target s c.args.p.0) (sym c.self.view_is) ∙ on)) c.requires c.self.invariant
