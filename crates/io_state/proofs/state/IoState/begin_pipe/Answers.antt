use Rattle.std.proofs.Common.{sym, subst, ap, ◌∙◌, List, Option, ℕ, option_map}
use Rattle.io_model.specs.Path.{PathTable, paths_after_begin}
use Rattle.io_model.specs.declared.path.Desc.{Desc}
use Rattle.io_model.specs.declared.pipe.PipeId.{PipeId}
use Rattle.io_model.specs.declared.path.Target.TheVariants.{Pipe}
use Rattle.io_model.specs.Io.{Io, new_desc, with_paths, with_pipes}
use Rattle.io_state.specs.Sound.{AreTargets, AreWaits}
use Rattle.io_state.proofs.SoundLemmas.{are-opened_on}
use Rattle.io_state.proofs.WaitLemmas.{waits-begun, waits-with_pipes}
use Rattle.io_state.proofs.state.IoState.begin_pipe.Goals as goal

pub invariant_of-self-2 : goal.invariant_of-self-2
invariant_of-self-2 c =
    let io : Io = record {
      paths = c.self.inside.paths;
      terminals = c.self.inside.terminals;
      pipes = c.self.inside.pipes;
      calls = c.self.inside.calls;
    } in
    let begun = waits-begun (with_pipes io c.begin.new.self) c.args.p.0 c.new_desc.result c.self.invariant.paths (waits-with_pipes io c.begin.new.self c.self.invariant.waits) in
    record {
      paths = c.begin-2.ensures.shape;
      waits = subst (λ (paths : PathTable). AreWaits (with_paths (with_pipes io c.begin.new.self) paths)) (sym c.begin-2.ensures.paths) begun;
      terminals = c.self.invariant.terminals;
      calls = c.self.invariant.calls;
      targets =
          subst (λ (paths : PathTable). AreTargets (with_paths (with_pipes io c.begin.new.self) paths))
          (sym (c.begin-2.ensures.paths ∙ ap (λ (desc : Desc). paths_after_begin io.paths c.args.p.0 desc)
          c.new_desc.ensures))
          (subst (λ (pipes : List (Option (List ℕ))). AreTargets (with_paths (with_pipes io pipes)
          (paths_after_begin io.paths c.args.p.0 (new_desc (Pipe c.in-Some.pipe.0) c.args.mode))))
          (sym c.begin.ensures.made)
          (are-opened_on io c.args.p.0 c.args.mode c.in-Some.pipe.0 (sym c.begin.ensures.number ∙ ap (option_map (λ (id : PipeId). id.0)) c.in-Some.is) c.self.invariant.targets));
    }
