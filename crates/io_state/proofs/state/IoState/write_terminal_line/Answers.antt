use Rattle.std.proofs.Common.{IfSome, sym, subst}
use Rattle.io_model.specs.Line.{line_length, line_put}
use Rattle.io_model.specs.Io.{Io, pending_at, terminal_at}
use Rattle.io_state.proofs.TerminalLemmas.{is-io_written}
use Rattle.io_state.proofs.WaitLemmas.{write-leaves}
use Rattle.io_state.specs.Sound.{IsNoRead}
use Rattle.io_state.proofs.state.IoState.write_terminal_line.Goals as goal

pub invariant_of-self : goal.invariant_of-self
invariant_of-self g c =
    let io : Io = record {
      paths = c.self.inside.paths;
      terminals = c.self.inside.terminals;
      pipes = c.self.inside.pipes;
      calls = c.self.inside.calls;
    } in
    let free = subst (λ (s : Io). IfSome (pending_at s c.args.p.0) (IsNoRead s)) (sym c.self.view_is) c.requires.no_read in
    is-io_written io c.args.p.0 c.args.terminal c.write_line-answer.new.self c.self.invariant c.requires.process free c.write_line-answer.ensures.terminals
    (write-leaves c.args.p (line_put c.args.bytes.now) (line_length c.args.bytes.now) c.write_line-answer.result (terminal_at io c.args.terminal) _ _ _ c.write_line-answer.ensures.device.4)
