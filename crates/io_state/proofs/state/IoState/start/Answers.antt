use Rattle.std.proofs.Common.{◌≡◌, None, sym, subst}
use Rattle.io_model.specs.Path.{paths_after_inherit}
use Rattle.io_model.specs.Io.{Io, pending_at}
use Rattle.io_state.proofs.SoundLemmas.{is-io_with_paths}
use Rattle.io_state.proofs.WaitLemmas.{waits-inherited}
use Rattle.io_state.proofs.state.IoState.start.Goals as goal

pub invariant_of-self : goal.invariant_of-self
invariant_of-self c =
    let io : Io = record {
      paths = c.self.inside.paths;
      terminals = c.self.inside.terminals;
      pipes = c.self.inside.pipes;
      calls = c.self.inside.calls;
    } in
    is-io_with_paths io c.inherit.new.self (paths_after_inherit io.paths c.args.parent.0 c.args.child.0) c.inherit.ensures.paths c.inherit.ensures.shape
    (record { pipes = c.self.invariant.targets.pipes; one_path = c.self.invariant.targets.one_path; terminals = c.self.invariant.targets.terminals })
    (waits-inherited io c.args.parent.0 c.args.child.0 (subst (λ (s : Io). pending_at s c.args.child.0 ≡ None) (sym c.self.view_is) c.requires.quiet) c.self.invariant.waits) c.self.invariant
