use Rattle.std.proofs.Common.{◌∙◌, Some, ap, sym}
use Rattle.std.proofs.lemmas.Bool.{false≢true}
use Rattle.os9_base.specs.declared.errors.TheConstants.{E_BMODE, E_BPADDR, E_BPNUM, E_UNKSVC}
use Rattle.guest_memory.specs.Tie.{cells_of}
use Rattle.io_model.specs.declared.path.Target.{Target}
use Rattle.io_model.specs.declared.path.Target.TheVariants.{Pipe, Term}
use Rattle.io_model.specs.declared.pending.PendingCall.{PendingCall}
use Rattle.io_model.specs.declared.terminal.ReadKind.{ReadKind}
use Rattle.io_model.specs.Attempts.{caller_of}
use Rattle.io_model.specs.Io.{OpenPath, pending_at}
use Rattle.io_model.specs.Read.{pipe_read, reads_target, IsReadAllowed}
use Rattle.io_model.specs.Step.{comes, done, refused}
use Rattle.io_state.specs.Sound.{IsNoRead}
use Rattle.io_state.proofs.RequesterLemmas.{called-regs}
use Rattle.device_io.proofs.MovingLemmas.{called-read, kept-none, stays-read}
use Rattle.device_io.proofs.PassingLemmas.{reads-nothing, reads-on, unnamed, unopened, unreadable}
use Rattle.device_io.proofs.TryingLemmas.{tries-comes, tries-done, tries-refused, tries-same}
use Rattle.device_io.specs.Moving.{read_step}
use Rattle.device_io.proofs.stream_reads.read.Goals as goal

-- ---- a pending read is not refused

pub refuse-requires-clause-no_read : goal.refuse-requires-clause-no_read
refuse-requires-clause-no_read g c =
    let p = c.args.by.p.0 in
    kept-none (pending_at c.args.io.now p) (λ (call : PendingCall). IsReadAllowed (cells_of c.args.s.now.memory p) c.args.by.regs c.args.io.now p) (λ (call : PendingCall). IsNoRead c.args.io.now call)
    (stays-read c.args.kind c.args.by c.args.s.now c.args.io.now _ c.requires.calls c.requires.may)
    (λ call stays. false≢true (sym c.if-not-is_named.true ∙ c.is_named.ensures.fits.1 stays.named))

-- ---- the calls behind the tests

pub read_terminal-requires-clause-may : goal.read_terminal-requires-clause-may
read_terminal-requires-clause-may g c =
    let path : OpenPath = record { path = c.in-Some.path; desc = c.in-Some.desc } in
    let known = called-read c.args.kind c.args.by c.args.s.now c.args.io.now _ c.requires.calls c.requires.may path
    c.read_code-code.result c.call_now-call.result c.call_now-call.ensures.sound c.in-Some.ensures.path
    c.read_code-code.ensures c.call_now-call.ensures.call c.if-regs-eq0.false in
    record { may = known.move.may; on = known.move.on ∙ ap (λ (t : Target). Some t) c.in-Term.is; kind_is = known.kind_is; same = known.move.same }

pub read_terminal-requires-clause-there : goal.read_terminal-requires-clause-there
read_terminal-requires-clause-there g c =
    let path : OpenPath = record { path = c.in-Some.path; desc = c.in-Some.desc } in
    let known = called-read c.args.kind c.args.by c.args.s.now c.args.io.now _ c.requires.calls c.requires.may path
    c.read_code-code.result c.call_now-call.result c.call_now-call.ensures.sound c.in-Some.ensures.path
    c.read_code-code.ensures c.call_now-call.ensures.call c.if-regs-eq0.false in
    c.requires.may.terminals c.call_now-call.result.path.0 c.in-Term.terminal (known.move.on ∙ ap (λ (t : Target). Some t) c.in-Term.is)

pub read_pipe-requires-clause-may : goal.read_pipe-requires-clause-may
read_pipe-requires-clause-may g c =
    let path : OpenPath = record { path = c.in-Some.path; desc = c.in-Some.desc } in
    let known = called-read c.args.kind c.args.by c.args.s.now c.args.io.now _ c.requires.calls c.requires.may path
    c.read_code-code.result c.call_now-call.result c.call_now-call.ensures.sound c.in-Some.ensures.path
    c.read_code-code.ensures c.call_now-call.ensures.call c.if-regs-eq0.false in
    known.move.may

pub read_pipe_line-requires-clause-may : goal.read_pipe_line-requires-clause-may
read_pipe_line-requires-clause-may g c =
    let path : OpenPath = record { path = c.in-Some.path; desc = c.in-Some.desc } in
    let known = called-read c.args.kind c.args.by c.args.s.now c.args.io.now _ c.requires.calls c.requires.may path
    c.read_code-code.result c.call_now-call.result c.call_now-call.ensures.sound c.in-Some.ensures.path
    c.read_code-code.ensures c.call_now-call.ensures.call c.if-regs-eq0.false in
    known.move.may

-- ---- the returns

pub returns-then-not-is_named-clause-call : goal.returns-then-not-is_named-clause-call
returns-then-not-is_named-clause-call g c m tied =
    let p = c.args.by.p.0 in
    let io = c.args.io.now in
    let end = c.refuse in
    let caller = caller_of m p in
    let same = called-regs c.args.by c.args.s.now m c.requires.calls tied in
    tries-same m io p end.result c.args.s.now end.new.io _ _ (refused E_BPADDR) (read_step c.args.kind caller io)
    (unnamed c.args.kind caller io c.args.by.regs same c.is_named.result (c.is_named.ensures.there m tied) c.if-not-is_named.true)
    (tries-refused m io p c.args.s.now end.new.io _ E_BPADDR end.result end.ensures.end tied end.ensures.io)

pub returns-in_default-clause-call : goal.returns-in_default-clause-call
returns-in_default-clause-call g c m tied =
    let p = c.args.by.p.0 in
    let io = c.args.io.now in
    let end = c.refuse-in_default in
    let caller = caller_of m p in
    let same = called-regs c.args.by c.args.s.now m c.requires.calls tied in
    tries-same m io p end.result c.args.s.now end.new.io _ _ (refused E_BPNUM) (read_step c.args.kind caller io)
    (unopened c.args.kind caller io c.args.by.regs same c.is_named.result (c.is_named.ensures.there m tied) c.if-not-is_named.false c.in_default.ensures.path)
    (tries-refused m io p c.args.s.now end.new.io _ E_BPNUM end.result end.ensures.end tied end.ensures.io)

pub returns-then-not-can_read-clause-call : goal.returns-then-not-can_read-clause-call
returns-then-not-can_read-clause-call g c m tied =
    let p = c.args.by.p.0 in
    let io = c.args.io.now in
    let end = c.refuse-then-not-can_read in
    let caller = caller_of m p in
    let same = called-regs c.args.by c.args.s.now m c.requires.calls tied in
    let path : OpenPath = record { path = c.in-Some.path; desc = c.in-Some.desc } in
    tries-same m io p end.result c.args.s.now end.new.io _ _ (refused E_BMODE) (read_step c.args.kind caller io)
    (unreadable c.args.kind caller io c.args.by.regs same c.is_named.result (c.is_named.ensures.there m tied) c.if-not-is_named.false path
    c.in-Some.ensures.path (sym c.can_read.ensures ∙ c.if-not-can_read.true))
    (tries-refused m io p c.args.s.now end.new.io _ E_BMODE end.result end.ensures.end tied end.ensures.io)

pub returns-then-regs-eq0-clause-call : goal.returns-then-regs-eq0-clause-call
returns-then-regs-eq0-clause-call g c m tied =
    let p = c.args.by.p.0 in
    let io = c.args.io.now in
    let end = c.answer in
    let caller = caller_of m p in
    let same = called-regs c.args.by c.args.s.now m c.requires.calls tied in
    let path : OpenPath = record { path = c.in-Some.path; desc = c.in-Some.desc } in
    tries-same m io p end.result end.new.s end.new.io _ _ (done caller.regs io) (read_step c.args.kind caller io)
    (reads-nothing c.args.kind caller io c.args.by.regs same c.is_named.result (c.is_named.ensures.there m tied) c.if-not-is_named.false path
    c.in-Some.ensures.path (sym c.can_read.ensures ∙ c.if-not-can_read.false) c.if-regs-eq0.true)
    (tries-done m io p end.new.s end.new.io _ c.args.by.regs end.result same end.ensures.end (end.ensures.tied m tied) end.ensures.io)

-- ---- on the target of its path

pub returns-in-File-clause-call : goal.returns-in-File-clause-call
returns-in-File-clause-call g c m tied =
    let p = c.args.by.p.0 in
    let io = c.args.io.now in
    let end = c.refuse-in-File in
    let caller = caller_of m p in
    let same = called-regs c.args.by c.args.s.now m c.requires.calls tied in
    let path : OpenPath = record { path = c.in-Some.path; desc = c.in-Some.desc } in
    tries-same m io p end.result c.args.s.now end.new.io _ _ (refused E_UNKSVC) (read_step c.args.kind caller io)
    (reads-on c.args.kind caller io c.args.by.regs same c.is_named.result (c.is_named.ensures.there m tied) c.if-not-is_named.false path
    c.in-Some.ensures.path (sym c.can_read.ensures ∙ c.if-not-can_read.false) c.if-regs-eq0.false c.read_code-code.result
    c.read_code-code.ensures c.call_now-call.result c.call_now-call.ensures.call (_) c.in-File.is)
    (tries-refused m io p c.args.s.now end.new.io _ E_UNKSVC end.result end.ensures.end tied end.ensures.io)

pub returns-in-Folder-clause-call : goal.returns-in-Folder-clause-call
returns-in-Folder-clause-call g c m tied =
    let p = c.args.by.p.0 in
    let io = c.args.io.now in
    let end = c.refuse-in-Folder in
    let caller = caller_of m p in
    let same = called-regs c.args.by c.args.s.now m c.requires.calls tied in
    let path : OpenPath = record { path = c.in-Some.path; desc = c.in-Some.desc } in
    tries-same m io p end.result c.args.s.now end.new.io _ _ (refused E_UNKSVC) (read_step c.args.kind caller io)
    (reads-on c.args.kind caller io c.args.by.regs same c.is_named.result (c.is_named.ensures.there m tied) c.if-not-is_named.false path
    c.in-Some.ensures.path (sym c.can_read.ensures ∙ c.if-not-can_read.false) c.if-regs-eq0.false c.read_code-code.result
    c.read_code-code.ensures c.call_now-call.result c.call_now-call.ensures.call (_) c.in-Folder.is)
    (tries-refused m io p c.args.s.now end.new.io _ E_UNKSVC end.result end.ensures.end tied end.ensures.io)

pub returns-in-Term-clause-call : goal.returns-in-Term-clause-call
returns-in-Term-clause-call g c m tied =
    let p = c.args.by.p.0 in
    let io = c.args.io.now in
    let end = c.read_terminal in
    let caller = caller_of m p in
    let same = called-regs c.args.by c.args.s.now m c.requires.calls tied in
    let path : OpenPath = record { path = c.in-Some.path; desc = c.in-Some.desc } in
    tries-same m io p end.result end.new.s end.new.io _ _ (reads_target c.args.kind caller io c.call_now-call.result (Term c.in-Term.terminal)) (read_step c.args.kind caller io)
    (reads-on c.args.kind caller io c.args.by.regs same c.is_named.result (c.is_named.ensures.there m tied) c.if-not-is_named.false path
    c.in-Some.ensures.path (sym c.can_read.ensures ∙ c.if-not-can_read.false) c.if-regs-eq0.false c.read_code-code.result
    c.read_code-code.ensures c.call_now-call.result c.call_now-call.ensures.call (Term c.in-Term.terminal) c.in-Term.is)
    (end.ensures.call m tied)

pub returns-in-Bytes-clause-call : goal.returns-in-Bytes-clause-call
returns-in-Bytes-clause-call g c m tied =
    let p = c.args.by.p.0 in
    let io = c.args.io.now in
    let end = c.read_pipe in
    let caller = caller_of m p in
    let same = called-regs c.args.by c.args.s.now m c.requires.calls tied in
    let path : OpenPath = record { path = c.in-Some.path; desc = c.in-Some.desc } in
    tries-same m io p end.result end.new.s end.new.io _ _ (comes (pipe_read ReadKind.Bytes caller io c.in-Pipe.pipe c.call_now-call.result)) (read_step c.args.kind caller io)
    (ap (λ (kind : ReadKind). comes (pipe_read kind caller io c.in-Pipe.pipe c.call_now-call.result)) (sym c.in-Bytes.is)
    ∙ reads-on c.args.kind caller io c.args.by.regs same c.is_named.result (c.is_named.ensures.there m tied) c.if-not-is_named.false path
    c.in-Some.ensures.path (sym c.can_read.ensures ∙ c.if-not-can_read.false) c.if-regs-eq0.false c.read_code-code.result
    c.read_code-code.ensures c.call_now-call.result c.call_now-call.ensures.call (Pipe c.in-Pipe.pipe) c.in-Pipe.is)
    (tries-comes m io p end.new.s end.new.io _ (pipe_read ReadKind.Bytes caller io c.in-Pipe.pipe c.call_now-call.result) end.result (end.ensures.call m tied))

pub returns-in-WholeLine-clause-call : goal.returns-in-WholeLine-clause-call
returns-in-WholeLine-clause-call g c m tied =
    let p = c.args.by.p.0 in
    let io = c.args.io.now in
    let end = c.read_pipe_line in
    let caller = caller_of m p in
    let same = called-regs c.args.by c.args.s.now m c.requires.calls tied in
    let path : OpenPath = record { path = c.in-Some.path; desc = c.in-Some.desc } in
    tries-same m io p end.result end.new.s end.new.io _ _ (comes (pipe_read ReadKind.WholeLine caller io c.in-Pipe.pipe c.call_now-call.result)) (read_step c.args.kind caller io)
    (ap (λ (kind : ReadKind). comes (pipe_read kind caller io c.in-Pipe.pipe c.call_now-call.result)) (sym c.in-WholeLine.is)
    ∙ reads-on c.args.kind caller io c.args.by.regs same c.is_named.result (c.is_named.ensures.there m tied) c.if-not-is_named.false path
    c.in-Some.ensures.path (sym c.can_read.ensures ∙ c.if-not-can_read.false) c.if-regs-eq0.false c.read_code-code.result
    c.read_code-code.ensures c.call_now-call.result c.call_now-call.ensures.call (Pipe c.in-Pipe.pipe) c.in-Pipe.is)
    (tries-comes m io p end.new.s end.new.io _ (pipe_read ReadKind.WholeLine caller io c.in-Pipe.pipe c.call_now-call.result) end.result (end.ensures.call m tied))
