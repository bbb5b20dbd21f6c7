use Rattle.std.proofs.Common.{[], take, sym, subst}
use Rattle.os9_base.specs.declared.errors.TheConstants.{E_EOF, E_WRITE}
use Rattle.io_model.specs.declared.pipe.PipeAns.TheVariants.{Done, Wait, End, NoReader}
use Rattle.io_model.specs.Io.{Io}
use Rattle.io_state.specs.Sound.{MayWait}
use Rattle.io_state.proofs.RequesterLemmas.{called-regs}
use Rattle.device_io.proofs.LeavingLemmas.{leaves-answer, leaves-refusal, leaves-wait, read-leaves}
use Rattle.device_io.proofs.pipe_reads.read_pipe.Goals as goal

pub keep-requires-clause-may : goal.keep-requires-clause-may
keep-requires-clause-may c = subst (λ (io : Io). MayWait io.paths c.args.by.p.0 c.args.call) (sym c.read_pipe-moved.ensures.io) c.requires.may

pub returns-in-Done-clause-call : goal.returns-in-Done-clause-call
returns-in-Done-clause-call c m tied =
    let moved = c.read_pipe-moved in
    let end = c.answer in
    let same = called-regs c.args.by c.args.s.now m c.requires.calls tied in
    read-leaves m c.args.by.p.0 c.args.pipe c.args.by.regs c.args.call c.is_alone-alone.result c.args.io.now moved.new.self
    moved.result moved.new.into end.result end.new.s end.new.io (Done c.in-Done.count) c.in-Done.is same c.is_alone-alone.ensures
    moved.ensures.answer moved.ensures.moved moved.ensures.io
    (leaves-answer m c.args.by.p.0 c.args.by.regs.x (take c.in-Done.count moved.new.into) moved.new.self end.result end.new.s
    end.new.io c.in-Done.count c.args.by.regs same end.ensures.end (end.ensures.tied _ (c.store.ensures.tied m tied)) end.ensures.io)

pub returns-in-Wait-clause-call : goal.returns-in-Wait-clause-call
returns-in-Wait-clause-call c m tied =
    let moved = c.read_pipe-moved in
    let end = c.keep in
    let same = called-regs c.args.by c.args.s.now m c.requires.calls tied in
    read-leaves m c.args.by.p.0 c.args.pipe c.args.by.regs c.args.call c.is_alone-alone.result c.args.io.now moved.new.self
    moved.result moved.new.into end.result c.args.s.now end.new.io (Wait) c.in-Wait.is same c.is_alone-alone.ensures
    moved.ensures.answer moved.ensures.moved moved.ensures.io
    (leaves-wait m c.args.by.p.0 c.args.by.regs.x [] moved.new.self end.result c.args.s.now end.new.io c.args.call end.ensures.end tied end.ensures.io)

pub returns-in-End-clause-call : goal.returns-in-End-clause-call
returns-in-End-clause-call c m tied =
    let moved = c.read_pipe-moved in
    let end = c.refuse in
    let same = called-regs c.args.by c.args.s.now m c.requires.calls tied in
    read-leaves m c.args.by.p.0 c.args.pipe c.args.by.regs c.args.call c.is_alone-alone.result c.args.io.now moved.new.self
    moved.result moved.new.into end.result c.args.s.now end.new.io (End) c.in-End.is same c.is_alone-alone.ensures
    moved.ensures.answer moved.ensures.moved moved.ensures.io
    (leaves-refusal m c.args.by.p.0 c.args.by.regs.x [] moved.new.self end.result c.args.s.now end.new.io E_EOF end.ensures.end tied end.ensures.io)

pub returns-in-NoReader-clause-call : goal.returns-in-NoReader-clause-call
returns-in-NoReader-clause-call c m tied =
    let moved = c.read_pipe-moved in
    let end = c.refuse-in-NoReader in
    let same = called-regs c.args.by c.args.s.now m c.requires.calls tied in
    read-leaves m c.args.by.p.0 c.args.pipe c.args.by.regs c.args.call c.is_alone-alone.result c.args.io.now moved.new.self
    moved.result moved.new.into end.result c.args.s.now end.new.io (NoReader) c.in-NoReader.is same c.is_alone-alone.ensures
    moved.ensures.answer moved.ensures.moved moved.ensures.io
    (leaves-refusal m c.args.by.p.0 c.args.by.regs.x [] moved.new.self end.result c.args.s.now end.new.io E_WRITE end.ensures.end tied end.ensures.io)
