use Rattle.std.proofs.Common.{◌≡◌, ◌∙◌, ap, List, Option, None, ℕ, sym, subst}
use Rattle.io_model.specs.Path.{PathTable, paths_after_close}
use Rattle.io_model.specs.Close.{after_close}
use Rattle.io_model.specs.Io.{Io, pending_at, with_paths, with_pipes}
use Rattle.io_state.specs.Sound.{AreTargets, AreWaits}
use Rattle.io_state.proofs.SoundLemmas.{are-closed, are-closed_pipe, closed-pipe, closed-plain, is-io_with_paths}
use Rattle.io_state.proofs.WaitLemmas.{waits-closed, waits-with_pipes}
use Rattle.io_state.proofs.state.IoState.close.Goals as goal

pub invariant_of-self : goal.invariant_of-self
invariant_of-self c =
    let io : Io = record {
      paths = c.self.inside.paths;
      terminals = c.self.inside.terminals;
      pipes = c.self.inside.pipes;
      calls = c.self.inside.calls;
    } in
    is-io_with_paths io c.close.new.self (paths_after_close io.paths c.args.p.0 c.args.n) c.close.ensures.paths c.close.ensures.shape
    (are-closed io c.args.p.0 c.args.n c.self.invariant.targets) (waits-closed io c.args.p.0 c.args.n
    (subst (λ (s : Io). pending_at s c.args.p.0 ≡ None) (sym c.self.view_is) c.requires.quiet)
    c.self.invariant.waits) c.self.invariant

pub finish-requires : goal.finish-requires
finish-requires c =
    let io : Io = record {
      paths = c.self.inside.paths;
      terminals = c.self.inside.terminals;
      pipes = c.self.inside.pipes;
      calls = c.self.inside.calls;
    } in
    closed-pipe io c.args.p.0 c.args.n c.in-Pipe.pipe c.in-Some.desc (sym c.close.ensures.last ∙ c.in-Some.is) c.in-Pipe.is c.self.invariant.targets

pub invariant_of-self-in-Pipe : goal.invariant_of-self-in-Pipe
invariant_of-self-in-Pipe c =
    let io : Io = record {
      paths = c.self.inside.paths;
      terminals = c.self.inside.terminals;
      pipes = c.self.inside.pipes;
      calls = c.self.inside.calls;
    } in
    record {
      paths = c.close.ensures.shape;
      terminals = c.self.invariant.terminals;
      calls = c.self.invariant.calls;
      targets =
          subst (λ (paths : PathTable). AreTargets (with_pipes (with_paths io paths) c.finish.new.self)) (sym c.close.ensures.paths)
          (subst (λ (pipes : List (Option (List ℕ))). AreTargets (with_pipes (with_paths io (paths_after_close io.paths c.args.p.0 c.args.n)) pipes)) (sym c.finish.ensures.gone)
          (are-closed_pipe io c.args.p.0 c.args.n c.in-Pipe.pipe c.in-Some.desc (sym c.close.ensures.last ∙ c.in-Some.is) c.in-Pipe.is c.self.invariant.targets));
      waits =
          waits-with_pipes (with_paths io c.close.new.self) c.finish.new.self
          (subst (λ (paths : PathTable). AreWaits (with_paths io paths)) (sym c.close.ensures.paths)
          (waits-closed io c.args.p.0 c.args.n (subst (λ (s : Io). pending_at s c.args.p.0 ≡ None)
          (sym c.self.view_is) c.requires.quiet) c.self.invariant.waits));
    }

pub invariant_of-self-in_default-target : goal.invariant_of-self-in_default-target
invariant_of-self-in_default-target c =
    let io : Io = record {
      paths = c.self.inside.paths;
      terminals = c.self.inside.terminals;
      pipes = c.self.inside.pipes;
      calls = c.self.inside.calls;
    } in
    is-io_with_paths io c.close.new.self (paths_after_close io.paths c.args.p.0 c.args.n) c.close.ensures.paths c.close.ensures.shape
    (are-closed io c.args.p.0 c.args.n c.self.invariant.targets) (waits-closed io c.args.p.0 c.args.n
    (subst (λ (s : Io). pending_at s c.args.p.0 ≡ None) (sym c.self.view_is) c.requires.quiet)
    c.self.invariant.waits) c.self.invariant

pub returns-in_default-target : goal.returns-in_default-target
returns-in_default-target c =
    let io : Io = record {
      paths = c.self.inside.paths;
      terminals = c.self.inside.terminals;
      pipes = c.self.inside.pipes;
      calls = c.self.inside.calls;
    } in
    subst (λ (s : Io). with_paths io c.close.new.self ≡ after_close s c.args.p.0 c.args.n) c.self.view_is
    (ap (λ (paths : PathTable). with_paths io paths) c.close.ensures.paths ∙ closed-plain io c.args.p.0 c.args.n c.in-Some.desc (sym c.close.ensures.last ∙ c.in-Some.is) c.in_default-target.not-Pipe)
