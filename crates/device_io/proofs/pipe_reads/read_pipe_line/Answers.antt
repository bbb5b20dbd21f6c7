use Rattle.std.proofs.Common.{◌+◌, ◌-◌, ◌≤◌, ◌∙◌, Bool, [], length, take, sym, subst, arith}
use Rattle.std.specs.Prelude.{if◌then◌else◌}
use Rattle.std.proofs.lemmas.List.{length-take-le}
use Rattle.os9_base.specs.declared.errors.TheConstants.{E_WRITE}
use Rattle.guest_memory.specs.Tie.{cells_of}
use Rattle.io_model.specs.Pipe.{moved_count}
use Rattle.io_model.specs.declared.pending.PendingCall.{PendingCall}
use Rattle.io_model.specs.declared.pipe.PipeAns.{PipeAns}
use Rattle.io_model.specs.declared.pipe.PipeAns.TheVariants.{Done, Wait, End, NoReader}
use Rattle.io_model.specs.Attempts.{caller_of}
use Rattle.io_model.specs.Io.{Io}
use Rattle.io_model.specs.Pipes.{count_regs, line_end}
use Rattle.io_model.specs.Step.{answers, keeps, stores}
use Rattle.io_state.specs.Sound.{MayWait}
use Rattle.proc_state.proofs.Living.{IsProcess-living}
use Rattle.io_state.proofs.RequesterLemmas.{called-regs}
use Rattle.device_io.specs.Leaving.{LeavesIoState}
use Rattle.device_io.proofs.LeavingLemmas.{fits-behind, leaves-answer, leaves-refusal, leaves-wait, line-leaves, may-wait-on}
use Rattle.device_io.proofs.pipe_reads.read_pipe_line.Goals as goal

pub store-requires-clause-fits : goal.store-requires-clause-fits
store-requires-clause-fits c =
    let bytes = c.read_pipe_line-moved.new.into in
    let few = subst (λ (a : PipeAns). moved_count a ≤ c.args.call.count - c.args.call.moved) c.in-Done.is c.read_pipe_line-moved.ensures.few in
    let room = subst (λ (a : PipeAns). moved_count a ≤ 256) c.in-Done.is c.read_pipe_line-moved.ensures.room in
    let n = length-take-le c.in-Done.count bytes (omega (arith, room)) in
    fits-behind (cells_of c.args.s.now.memory c.args.by.p.0) c.args.by.regs.x c.args.call.count c.args.call.moved (length (take c.in-Done.count bytes)) c.requires.named (omega (arith, few, n))

pub keep-requires-clause-may : goal.keep-requires-clause-may
keep-requires-clause-may c =
    let may = subst (λ (io : Io). MayWait io.paths c.args.by.p.0 c.args.call) (sym c.read_pipe_line-moved.ensures.io) c.requires.may in
    let few = subst (λ (a : PipeAns). moved_count a ≤ c.args.call.count - c.args.call.moved) c.in-Done.is c.read_pipe_line-moved.ensures.few in
    may-wait-on c.read_pipe_line-moved.new.self.paths c.args.by.p.0 c.args.call c.moved_on-call.result c.in-Done.count
    c.moved_on-call.ensures (omega (arith, few)) may (c.is_over.ensures.left c.if-is_over.false)

pub keep-requires-clause-process : goal.keep-requires-clause-process
keep-requires-clause-process c = (IsProcess-living c.args.s.now.table c.args.by.p.0 c.args.s.now.numbers c.requires.calls.lives).1

pub keep-requires-in-Wait-clause-may : goal.keep-requires-in-Wait-clause-may
keep-requires-in-Wait-clause-may c = subst (λ (io : Io). MayWait io.paths c.args.by.p.0 c.args.call) (sym c.read_pipe_line-moved.ensures.io) c.requires.may

pub returns-then-is_over-clause-call : goal.returns-then-is_over-clause-call
returns-then-is_over-clause-call c m tied =
    let moved = c.read_pipe_line-moved in
    let end = c.answer in
    let at = c.args.by.regs.x + c.args.call.moved in
    let same = called-regs c.args.by c.args.s.now m c.requires.calls tied in
    let call = c.moved_on-call.result in
    let taken = take c.in-Done.count moved.new.into in
    line-leaves m c.args.by.p.0 c.args.pipe c.args.by.regs c.args.call c.is_alone-alone.result c.args.io.now
    moved.new.self moved.result moved.new.into end.result end.new.s end.new.io (Done c.in-Done.count) c.in-Done.is same c.is_alone-alone.ensures
    moved.ensures.answer moved.ensures.moved moved.ensures.io
    (subst (λ (k : PendingCall). LeavesIoState (stores at taken (line_end (caller_of m c.args.by.p.0) c.is_alone-alone.result k
    taken) moved.new.self) m c.args.by.p.0 end.result end.new.s end.new.io) c.moved_on-call.ensures
    (subst (λ (over : Bool). LeavesIoState (stores at taken (if over then answers (count_regs (caller_of m c.args.by.p.0)
    call.moved) else keeps call) moved.new.self) m c.args.by.p.0 end.result end.new.s end.new.io)
    (sym c.if-is_over.true ∙ c.is_over.ensures.over)
    (leaves-answer m c.args.by.p.0 at taken moved.new.self end.result end.new.s end.new.io call.moved c.args.by.regs same
    end.ensures.end (end.ensures.tied _ (c.store.ensures.tied m tied)) end.ensures.io)))

pub returns-else-is_over-clause-call : goal.returns-else-is_over-clause-call
returns-else-is_over-clause-call c m tied =
    let moved = c.read_pipe_line-moved in
    let end = c.keep in
    let at = c.args.by.regs.x + c.args.call.moved in
    let same = called-regs c.args.by c.args.s.now m c.requires.calls tied in
    let call = c.moved_on-call.result in
    let taken = take c.in-Done.count moved.new.into in
    line-leaves m c.args.by.p.0 c.args.pipe c.args.by.regs c.args.call c.is_alone-alone.result c.args.io.now
    moved.new.self moved.result moved.new.into end.result c.store.new.self end.new.io (Done c.in-Done.count) c.in-Done.is same c.is_alone-alone.ensures
    moved.ensures.answer moved.ensures.moved moved.ensures.io
    (subst (λ (k : PendingCall). LeavesIoState (stores at taken (line_end (caller_of m c.args.by.p.0) c.is_alone-alone.result k
    taken) moved.new.self) m c.args.by.p.0 end.result c.store.new.self end.new.io) c.moved_on-call.ensures
    (subst (λ (over : Bool). LeavesIoState (stores at taken (if over then answers (count_regs (caller_of m c.args.by.p.0)
    call.moved) else keeps call) moved.new.self) m c.args.by.p.0 end.result c.store.new.self end.new.io)
    (sym c.if-is_over.false ∙ c.is_over.ensures.over)
    (leaves-wait m c.args.by.p.0 at taken moved.new.self end.result c.store.new.self end.new.io call end.ensures.end
    (c.store.ensures.tied m tied) end.ensures.io)))

pub returns-in-Wait-clause-call : goal.returns-in-Wait-clause-call
returns-in-Wait-clause-call c m tied =
    let moved = c.read_pipe_line-moved in
    let end = c.keep-in-Wait in
    let at = c.args.by.regs.x + c.args.call.moved in
    let same = called-regs c.args.by c.args.s.now m c.requires.calls tied in
    line-leaves m c.args.by.p.0 c.args.pipe c.args.by.regs c.args.call c.is_alone-alone.result c.args.io.now
    moved.new.self moved.result moved.new.into end.result c.args.s.now end.new.io (Wait) c.in-Wait.is same c.is_alone-alone.ensures
    moved.ensures.answer moved.ensures.moved moved.ensures.io
    (leaves-wait m c.args.by.p.0 at [] moved.new.self end.result c.args.s.now end.new.io c.args.call end.ensures.end tied end.ensures.io)

pub returns-in-End-clause-call : goal.returns-in-End-clause-call
returns-in-End-clause-call c m tied =
    let moved = c.read_pipe_line-moved in
    let end = c.end_of_file in
    let at = c.args.by.regs.x + c.args.call.moved in
    let same = called-regs c.args.by c.args.s.now m c.requires.calls tied in
    line-leaves m c.args.by.p.0 c.args.pipe c.args.by.regs c.args.call c.is_alone-alone.result c.args.io.now
    moved.new.self moved.result moved.new.into end.result end.new.s end.new.io (End) c.in-End.is same c.is_alone-alone.ensures
    moved.ensures.answer moved.ensures.moved moved.ensures.io
    (end.ensures.call m at tied)

pub returns-in-NoReader-clause-call : goal.returns-in-NoReader-clause-call
returns-in-NoReader-clause-call c m tied =
    let moved = c.read_pipe_line-moved in
    let end = c.refuse in
    let at = c.args.by.regs.x + c.args.call.moved in
    let same = called-regs c.args.by c.args.s.now m c.requires.calls tied in
    line-leaves m c.args.by.p.0 c.args.pipe c.args.by.regs c.args.call c.is_alone-alone.result c.args.io.now
    moved.new.self moved.result moved.new.into end.result c.args.s.now end.new.io (NoReader) c.in-NoReader.is same c.is_alone-alone.ensures
    moved.ensures.answer moved.ensures.moved moved.ensures.io
    (leaves-refusal m c.args.by.p.0 at [] moved.new.self end.result c.args.s.now end.new.io E_WRITE end.ensures.end tied end.ensures.io)
