use Rattle.std.proofs.Common.{◌≡◌, ◌∙◌, ℕ, None, Some, List, take, ap, sym, refl, subst}
use Rattle.os9_base.specs.declared.errors.TheConstants.{E_BPADDR}
use Rattle.os9_base.specs.declared.calls.TheConstants.{I_WRITE}
use Rattle.os9_base.specs.declared.registers.Regs.{Regs}
use Rattle.proc_model.specs.Processes.{cells_at, regs_at}
use Rattle.proc_model.specs.UserBytes.{user_bytes}
use Rattle.io_model.specs.Attempts.{caller_of}
use Rattle.io_model.specs.Io.{OpenPath}
use Rattle.io_model.specs.Modes.{can_write}
use Rattle.io_model.specs.Transfer.{on_path, unless_nothing}
use Rattle.io_model.specs.Write as model
use Rattle.io_model.specs.Write.{sends_on, sent_bytes}
use Rattle.io_model.specs.declared.io_call.IoCall.TheVariants as Call
use Rattle.io_state.proofs.RequesterLemmas.{called-regs}
use Rattle.device_io.proofs.LineLemmas.{user-length}
use Rattle.device_io.proofs.ReadingLemmas.{read-none, read-some, sends-read}
use Rattle.device_io.proofs.SendingLemmas.{bytes-tries}
use Rattle.device_io.proofs.TryingLemmas.{attempts-of, tries-needs-none, tries-refused, wants-of}
use Rattle.device_io.specs.Reading.{AreWriteBytesRead}
use Rattle.device_io.specs.declared.sending.WriteKind.TheVariants.{Bytes}
use Rattle.device_io.proofs.stream_writes.i_write.Goals as goal

pub returns-in-None-clause-call : goal.returns-in-None-clause-call
returns-in-None-clause-call g c drives m tied differ =
    let p = c.args.by.p.0 in
    let io = c.args.io.now in
    let caller = caller_of m p in
    let s = c.read_moving.new.s in
    let regs_are : c.args.by.regs ≡ regs_at m p = called-regs c.args.by c.args.s.now m c.requires.calls tied in
    let absent : user_bytes (cells_at m p) c.args.by.regs.x c.args.by.regs.y ≡ None = read-none io p
    c.args.by.regs.a (user_bytes (cells_at m p) c.args.by.regs.x c.args.by.regs.y) s.buffer.items
    (c.in-None.ensures.read m tied) in
    let none : user_bytes (cells_at m p) (regs_at m p).x (regs_at m p).y ≡ None = ap (λ (r : Regs). user_bytes (cells_at m p) r.x r.y) (sym regs_are) ∙ absent in
    attempts-of Call.Write m io drives p s c.refuse.new.io _ _ c.refuse.result differ
    (tries-needs-none m io p c.refuse.result s c.refuse.new.io _ _ (user_bytes (cells_at m p) (regs_at m p).x
    (regs_at m p).y) E_BPADDR (λ (bytes : List ℕ). on_path caller io caller.regs.a can_write
    (λ (opened : OpenPath). unless_nothing caller io (sends_on (sent_bytes caller bytes) I_WRITE caller io
    opened))) none
    (tries-refused m io p s c.refuse.new.io _ E_BPADDR c.refuse.result c.refuse.ensures.end (c.in-None.ensures.same.represents m tied) c.refuse.ensures.io))

pub returns-in-Some-clause-call : goal.returns-in-Some-clause-call
returns-in-Some-clause-call g c drives m tied differ =
    let p = c.args.by.p.0 in
    let io = c.args.io.now in
    let regs : Regs = c.args.by.regs in
    let regs_are : regs ≡ regs_at m p = called-regs c.args.by c.args.s.now m c.requires.calls tied in
    let cells = cells_at m p in
    let all : List ℕ = c.deref.result.now in
    let read : AreWriteBytesRead io p regs.a (user_bytes cells regs.x regs.y) (Some c.in-Some.y) all = subst
    (λ (it : List ℕ). AreWriteBytesRead io p regs.a (user_bytes cells regs.x regs.y) (Some c.in-Some.y) it)
    (sym c.deref.ensures.value) (c.in-Some.ensures.read m tied) in
    let it = read-some io p regs.a (user_bytes cells regs.x regs.y) c.in-Some.y all read in
    attempts-of Call.Write m io drives p c.tell.new.s c.send-end.new.io _ _ c.send-end.result differ
    (bytes-tries m io c.args.by.p c.tell.new.s c.send-end.new.io _ _ it.0 regs c.send-end.result regs_are
    (user-length cells regs.x regs.y it.0 it.1) it.1 (sends-read Bytes c.args.by.p regs cells io c.send-end.new.io
    c.send-end.result _ _ it.0 (take c.in-Some.y all) it.2 (c.send-end.ensures.call (λ none. refl) cells))
    (λ end between. c.tell.ensures.told m end between (c.in-Some.ensures.same.represents m tied)))

pub returns-in-Some-clause-memory : goal.returns-in-Some-clause-memory
returns-in-Some-clause-memory g c drives m tied wants =
    let p = c.args.by.p.0 in
    let io = c.args.io.now in
    let regs : Regs = c.args.by.regs in
    let regs_are : regs ≡ regs_at m p = called-regs c.args.by c.args.s.now m c.requires.calls tied in
    let cells = cells_at m p in
    let all : List ℕ = c.deref.result.now in
    let read : AreWriteBytesRead io p regs.a (user_bytes cells regs.x regs.y) (Some c.in-Some.y) all = subst
    (λ (it : List ℕ). AreWriteBytesRead io p regs.a (user_bytes cells regs.x regs.y) (Some c.in-Some.y) it)
    (sym c.deref.ensures.value) (c.in-Some.ensures.read m tied) in
    let it = read-some io p regs.a (user_bytes cells regs.x regs.y) c.in-Some.y all read in
    wants-of m io p c.send-end.result c.tell.new.s c.send-end.new.io _ _ (model.i_write (caller_of m p) io) wants
    (bytes-tries m io c.args.by.p c.tell.new.s c.send-end.new.io _ _ it.0 regs c.send-end.result regs_are
    (user-length cells regs.x regs.y it.0 it.1) it.1 (sends-read Bytes c.args.by.p regs cells io c.send-end.new.io
    c.send-end.result _ _ it.0 (take c.in-Some.y all) it.2 (c.send-end.ensures.call (λ none. refl) cells))
    (λ end between. c.tell.ensures.told m end between (c.in-Some.ensures.same.represents m tied)))
