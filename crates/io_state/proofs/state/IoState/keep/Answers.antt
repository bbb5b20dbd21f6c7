use Rattle.std.proofs.Common.{◌∙◌, ◌<◌, IfSome, length, arith, sym, subst}
use Rattle.std.proofs.lemmas.List.{length-set}
use Rattle.io_model.specs.Io.{Io, pending_at}
use Rattle.io_state.specs.Sound.{MayWait, IsNoRead}
use Rattle.io_state.proofs.WaitLemmas.{if-some, no-reader, waits-kept}
use Rattle.io_state.proofs.state.IoState.keep.Goals as goal

pub invariant_of-self : goal.invariant_of-self
invariant_of-self c =
    let io : Io = record {
      paths = c.self.inside.paths;
      terminals = c.self.inside.terminals;
      pipes = c.self.inside.pipes;
      calls = c.self.inside.calls;
    } in
    let process : c.args.p.0 < length io.calls = omega (arith, c.requires.process, c.self.invariant.calls) in
    let may = subst (λ (s : Io). IfSome c.args.pending (MayWait s.paths c.args.p.0)) (sym c.self.view_is) c.requires.may in
    let free = subst (λ (s : Io). IfSome (pending_at s c.args.p.0) (IsNoRead s)) (sym c.self.view_is) c.requires.no_read in
    let waits = waits-kept io c.args.p.0 c.args.pending process (λ now is. if-some c.args.pending now
    (MayWait io.paths c.args.p.0) may is) (no-reader io c.args.p.0 free c.self.invariant.waits)
    c.self.invariant.waits in
    record {
      paths = c.self.invariant.paths;
      terminals = c.self.invariant.terminals;
      calls = length-set io.calls c.args.p.0 c.args.pending ∙ c.self.invariant.calls;
      targets = record { pipes = c.self.invariant.targets.pipes; one_path = c.self.invariant.targets.one_path; terminals = c.self.invariant.targets.terminals };
      waits = waits;
    }
