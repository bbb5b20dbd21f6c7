use Rattle.std.proofs.Common.{arith}
use Rattle.io_model.specs.Line.{line_length, line_put}
use Rattle.io_model.specs.Terminal.{TerminalWriteAttempt}
use Rattle.io_state.proofs.TerminalLemmas.{terminal-changed}
use Rattle.io_state.proofs.terminals.Terminals.write_line.Goals as goal

pub returns-clause-device : goal.returns-clause-device
returns-clause-device g c =
    terminal-changed _ (λ t u before after. TerminalWriteAttempt c.args.p (line_put c.args.bytes.now) (line_length c.args.bytes.now)
    c.write_line_in_box.result t u before after) c.self.inside.terms.items c.args.self.now
    c.args.devices.now.terms.items c.args.n c.index_mut.result.now c.write_line_in_box.new.term
    c.index_mut-2.result.now c.write_line_in_box.new.driver c.self.view_is
    (omega (arith, c.self.invariant, c.requires.terminal)) (omega (arith, c.args.devices.now.terms.ok.0))
    c.index_mut.ensures.value c.index_mut-2.ensures.value c.write_line_in_box.ensures
