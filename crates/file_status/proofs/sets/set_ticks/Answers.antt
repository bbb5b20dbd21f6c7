use Rattle.io_state.proofs.RequesterLemmas.{called-regs}
use Rattle.file_state.specs.declared.state.FileState.{FileState}
use Rattle.file_status.proofs.TickLemmas.{still-there, ticked-on, ticks-set}
use Rattle.file_status.proofs.StandLemmas.{uncalled-by}
use Rattle.file_status.proofs.sets.set_ticks.Goals as goal

pub set_ticks-requires : goal.set_ticks-requires
set_ticks-requires c =
    still-there c.args.machine.now.files (record c.args.machine.now.files { io = c.answer-end.new.io }) c.args.by.p.0 c.args.opened.now
    (uncalled-by c.args.machine.now.files c.args.by.p.0 c.answer-end.ensures.io) c.requires.path.desc

pub returns-clause-call : goal.returns-clause-call
returns-clause-call c now views m was it terms tied stands open_is =
    let new : FileState = record c.args.machine.now.files { io = c.set_ticks.new.self } in
    ticks-set _ m was now c.args.by.p.0 c.answer-end.result c.answer-end.new.s c.args.machine.now.files new views terms c.args.opened.now it stands open_is
    c.args.by.regs (called-regs c.args.by c.args.machine.now.processes m c.requires.calls.calls tied)
    (ticked-on c.args.machine.now.files (record c.args.machine.now.files { io = c.answer-end.new.io }) c.args.by.p.0 c.args.opened.now
    c.args.by.regs.x c.set_ticks.new.self (uncalled-by c.args.machine.now.files c.args.by.p.0 c.answer-end.ensures.io)
    c.requires.path.desc c.set_ticks.ensures)
    c.answer-end.ensures.end (c.answer-end.ensures.tied m tied)
