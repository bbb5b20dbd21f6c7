use Rattle.std.proofs.Common.{◌∙◌, ap}
use Rattle.io_model.specs.Io.{Io}
use Rattle.io_model.specs.Processes.{closed_below}
use Rattle.io_state.proofs.TerminalLemmas.{ended-same}
use Rattle.io_state.proofs.state.IoState.end.Goals as goal

pub returns : goal.returns
returns c =
    c.close_all.ensures ∙ ap (λ (io : Io). closed_below io c.args.p.0 16) c.forget.ensures.io ∙ ended-same c.args.self.now c.args.p.0 16
