use Rattle.std.proofs.Common.{◌≡◌, ◌∙◌, Some, ap, sym, subst}
use Rattle.io_model.specs.declared.path.Target.{Target}
use Rattle.io_model.specs.declared.path.Target.TheVariants.{Term}
use Rattle.io_model.specs.Io.{Io}
use Rattle.io_model.specs.Waiting.{wait_target}
use Rattle.io_state.proofs.TerminalLemmas.{is-io_dropped, is-io_released}
use Rattle.io_state.proofs.WaitLemmas.{some-same}
use Rattle.io_state.specs.Sound.{IsThere}
use Rattle.io_state.proofs.state.IoState.break_off_from.Goals as goal

pub invariant_of-self : goal.invariant_of-self
invariant_of-self c =
    let io : Io = record {
      paths = c.self.inside.paths;
      terminals = c.self.inside.terminals;
      pipes = c.self.inside.pipes;
      calls = c.self.inside.calls;
    } in
    let on = subst (λ (s : Io). wait_target s c.args.p.0 ≡ Some c.args.target) (sym c.self.view_is) c.requires.on in
    is-io_released io c.args.p.0 c.in-Term.terminal c.release.new.self c.release.ensures
    (on ∙ ap (λ (x : Target). Some x) c.in-Term.is) c.requires.process (subst (λ (x : Target). IsThere io x)
    c.in-Term.is (subst (λ (s : Io). IsThere s c.args.target) (sym c.self.view_is) c.requires.there))
    c.self.invariant

pub invariant_of-self-in_default : goal.invariant_of-self-in_default
invariant_of-self-in_default c =
    let io : Io = record {
      paths = c.self.inside.paths;
      terminals = c.self.inside.terminals;
      pipes = c.self.inside.pipes;
      calls = c.self.inside.calls;
    } in
    let on = subst (λ (s : Io). wait_target s c.args.p.0 ≡ Some c.args.target) (sym c.self.view_is) c.requires.on in
    is-io_dropped io c.args.p.0 (λ n is. c.in_default.not-Term n (some-same c.args.target (Term n) (sym on ∙ is))) c.requires.process c.self.invariant
