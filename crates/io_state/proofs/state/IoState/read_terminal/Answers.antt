use Rattle.std.proofs.Common.{ℕ, sym, subst, arith}
use Rattle.io_model.specs.Terminal.{IsSameCall}
use Rattle.io_model.specs.Io.{Io, terminal_at}
use Rattle.io_state.proofs.TerminalLemmas.{is-io_read}
use Rattle.io_state.proofs.WaitLemmas.{same-read}
use Rattle.io_state.specs.Terminals.{MayReadTerminal}
use Rattle.terminal_mgr.specs.Term.{read_of}
use Rattle.io_state.proofs.state.IoState.read_terminal.Goals as goal

pub read-answer-requires-clause-asked : goal.read-answer-requires-clause-asked
read-answer-requires-clause-asked g c =
    let io : Io = record {
      paths = c.self.inside.paths;
      terminals = c.self.inside.terminals;
      pipes = c.self.inside.pipes;
      calls = c.self.inside.calls;
    } in
    let may = subst (λ (s : Io). MayReadTerminal s c.args.p.0 c.args.read.terminal c.args.read.kind c.args.read.call) (sym c.self.view_is) c.requires.may in
    record {
      some = omega arith;
      most = omega arith;
      same =
          subst (λ (m : ℕ). IsSameCall (read_of c.args.p c.args.read.kind m) (terminal_at io c.args.read.terminal)) (sym c.min-most.ensures)
          (same-read io c.args.p.0 c.args.read.terminal c.args.read.kind c.args.read.call may c.self.invariant.waits);
    }

pub invariant_of-self : goal.invariant_of-self
invariant_of-self g c =
    let io : Io = record {
      paths = c.self.inside.paths;
      terminals = c.self.inside.terminals;
      pipes = c.self.inside.pipes;
      calls = c.self.inside.calls;
    } in
    let may = subst (λ (s : Io). MayReadTerminal s c.args.p.0 c.args.read.terminal c.args.read.kind c.args.read.call) (sym c.self.view_is) c.requires.may in
    is-io_read io c.args.p.0 c.args.read.terminal c.min-most.result c.args.read.kind c.args.read.call c.read-answer.result
    c.read-answer.new.self c.pending_after.result _ _ c.self.invariant may c.min-most.ensures
    c.read-answer.ensures.terminals c.read-answer.ensures.device.4 c.pending_after.ensures
