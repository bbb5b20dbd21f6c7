use Rattle.std.proofs.Common.{take}
use Rattle.io_model.specs.Step.{TerminalRead}
use Rattle.io_state.specs.Terminals.{count_of}
use Rattle.io_state.proofs.RequesterLemmas.{called-regs}
use Rattle.device_io.proofs.DeviceLemmas.{tries-read}
use Rattle.device_io.proofs.terminals.read_terminal.Goals as goal

pub returns-clause-call : goal.returns-clause-call
returns-clause-call g c m tied =
    let p = c.args.by.p.0 in
    let answer = c.read_terminal-answer.result in
    let read : TerminalRead = record { terminal = c.args.read.terminal; kind = c.args.read.kind; call = c.args.read.call } in
    tries-read m c.args.io.now p c.end_read.new.s c.read_terminal-answer.new.self _ _ read c.args.by.regs
    (take (count_of answer) c.read_terminal-answer.new.into) c.end_read.result answer (called-regs c.args.by c.args.s.now m c.requires.calls tied)
    c.read_terminal-answer.ensures.device c.read_terminal-answer.ensures.stored c.read_terminal-answer.ensures.io
    (c.end_read.ensures.ends m read tied)
