use Rattle.std.proofs.Common.{◌∙◌, Some, ap, option_map, subst}
use Rattle.io_model.specs.Pipe.{IsPipe}
use Rattle.io_model.specs.declared.path.Desc.{Desc}
use Rattle.io_model.specs.declared.path.Target.{Target}
use Rattle.io_model.specs.Io.{Io}
use Rattle.io_state.proofs.state.IoState.goes_on.Goals as goal

pub may_read-requires : goal.may_read-requires
may_read-requires c =
    c.self.invariant.targets.terminals c.args.call.path.0 c.in-Term.terminal (ap (option_map (λ (desc : Desc). desc.target)) c.desc.ensures.desc ∙ ap (λ (x : Target). Some x) c.in-Term.is)

pub can_move-requires : goal.can_move-requires
can_move-requires c =
    subst (λ (s : Io). IsPipe s.pipes c.in-Pipe.pipe) c.self.view_is
    (c.self.invariant.targets.pipes c.args.call.path.0 c.in-Pipe.pipe (ap (option_map (λ (desc : Desc). desc.target)) c.desc.ensures.desc ∙ ap (λ (x : Target). Some x) c.in-Pipe.is))
