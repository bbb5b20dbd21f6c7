use Rattle.std.proofs.Common.{◌≡◌, ◌∙◌, ℕ, Some, None, Option, List, length, take, ap, subst, sym, arith}
use Rattle.std.proofs.lemmas.List.{length-take-le}
use Rattle.os9_base.specs.declared.errors.TheConstants.{E_BPADDR}
use Rattle.os9_base.specs.declared.calls.TheConstants.{I_WRITLN}
use Rattle.os9_base.specs.declared.registers.Regs.{Regs}
use Rattle.proc_model.specs.Processes.{cells_at, regs_at}
use Rattle.io_model.specs.Again.{IsAgain}
use Rattle.io_model.specs.Attempts.{caller_of}
use Rattle.io_model.specs.Io.{OpenPath, pending_at}
use Rattle.io_model.specs.Modes.{can_write}
use Rattle.io_model.specs.Transfer.{on_path, unless_nothing}
use Rattle.io_model.specs.Write as model
use Rattle.io_model.specs.Write.{line_bytes, sends_on, sent_line}
use Rattle.io_model.specs.declared.io_call.IoCall.TheVariants as Call
use Rattle.device_io.proofs.LineLemmas.{IsSentLine, sent-line}
use Rattle.device_io.proofs.ReadingLemmas.{read-none, read-some, sends-read}
use Rattle.device_io.proofs.SendingLemmas.{kept-same, line-tries}
use Rattle.device_io.proofs.TryingLemmas.{attempts-of, tries-needs-none, tries-refused, wants-of}
use Rattle.io_model.specs.Line.{line_length}
use Rattle.io_model.specs.declared.pending.PendingCall.{PendingCall}
use Rattle.io_state.proofs.RequesterLemmas.{called-regs}
use Rattle.proc_state.proofs.Tied.{regs-tied}
use Rattle.device_io.specs.Reading.{AreWriteBytesRead}
use Rattle.device_io.specs.declared.sending.WriteKind.TheVariants.{Line}
use Rattle.device_io.proofs.stream_writes.i_writln.Goals as goal

pub send-end-requires-clause-may : goal.send-end-requires-clause-may
send-end-requires-clause-may g c =
    let all : List ℕ = c.deref.result.now in
    let room : length all ≡ length c.read_line_now.new.s.buffer.items = ap (λ (it : List ℕ). length it) c.deref.ensures.value in
    record {
      again = subst (λ (r : Regs). IsAgain Call.WritLn r c.args.io.now c.args.by.p.0) (sym c.requires.calls.regs) c.requires.may.again;
      same = kept-same (pending_at c.args.io.now c.args.by.p.0) c.in-Some.y (length (take c.in-Some.y all)) (sym (length-take-le c.in-Some.y all (omega (arith, room)))) c.in-Some.ensures.kept;
    }

pub returns-in-None-clause-call : goal.returns-in-None-clause-call
returns-in-None-clause-call g c drives m tied differ =
    let p = c.args.by.p.0 in
    let io = c.args.io.now in
    let caller = caller_of m p in
    let s = c.read_line_now.new.s in
    let regs_are : c.args.by.regs ≡ regs_at m p = called-regs c.args.by c.args.s.now m c.requires.calls tied in
    attempts-of Call.WritLn m io drives p s c.refuse.new.io _ _ c.refuse.result differ
    (tries-needs-none m io p c.refuse.result s c.refuse.new.io _ _ (line_bytes caller (pending_at io p)) E_BPADDR
    (λ (line : List ℕ). on_path caller io caller.regs.a can_write (λ (opened : OpenPath). unless_nothing caller io
    (sends_on (sent_line caller line) I_WRITLN caller io opened))) (read-none io p c.args.by.regs.a
    (line_bytes caller (pending_at io p)) s.buffer.items (c.in-None.ensures.line m tied))
    (tries-refused m io p s c.refuse.new.io _ E_BPADDR c.refuse.result c.refuse.ensures.end (c.in-None.ensures.same.represents m tied) c.refuse.ensures.io))

pub returns-in-Some-clause-call : goal.returns-in-Some-clause-call
returns-in-Some-clause-call g c drives m tied differ =
    let p = c.args.by.p.0 in
    let io = c.args.io.now in
    let regs : Regs = c.args.by.regs in
    let all : List ℕ = c.deref.result.now in
    let y : ℕ = c.in-Some.y in
    let line : List ℕ = take y all in
    let caller = caller_of m p in
    let room : length all ≡ length c.read_line_now.new.s.buffer.items = ap (λ (it : List ℕ). length it) c.deref.ensures.value in
    let regs_are : regs ≡ regs_at m p = called-regs c.args.by c.args.s.now m c.requires.calls tied in
    let read : AreWriteBytesRead io p regs.a (line_bytes caller (pending_at io p)) (Some y) all = subst (λ (it : List ℕ). AreWriteBytesRead io
    p regs.a (line_bytes caller (pending_at io p)) (Some y) it) (sym c.deref.ensures.value)
    (c.in-Some.ensures.line m tied) in
    let it = read-some io p regs.a (line_bytes caller (pending_at io p)) y all read in
    let again : IsAgain Call.WritLn (regs_at m p) io p = subst (λ (r : Regs). IsAgain Call.WritLn r io p) (regs-tied c.args.s.now m p tied) c.requires.may.again in
    let known : IsSentLine regs (pending_at io p) it.0 = subst (λ (r : Regs). IsSentLine r (pending_at io p) it.0) (sym regs_are) (sent-line caller io p (pending_at io p) it.0 again it.1) in
    let whole : pending_at io p ≡ None → line_length line ≡ length line = λ none. (sent-line caller io p (pending_at io p)
    line again (ap (λ (pending : Option PendingCall). line_bytes caller pending) none ∙ c.in-Some.ensures.first m tied
    none ∙ ap (λ (it : List ℕ). Some (take y it)) (sym c.deref.ensures.value))).whole none in
    let long : length it.0 ≡ y = sym it.2.count ∙ length-take-le y all (omega (arith, room)) in
    attempts-of Call.WritLn m io drives p c.tell.new.s c.send-end.new.io _ _ c.send-end.result differ
    (line-tries m io c.args.by.p c.tell.new.s c.send-end.new.io _ _ it.0 regs c.send-end.result regs_are y long it.1
    known (sends-read Line c.args.by.p regs (cells_at m p) io c.send-end.new.io c.send-end.result _ _ it.0 line it.2
    (c.send-end.ensures.call whole (cells_at m p))) (λ end between. c.tell.ensures.told m end between
    (c.in-Some.ensures.same.represents m tied)))

pub returns-in-Some-clause-memory : goal.returns-in-Some-clause-memory
returns-in-Some-clause-memory g c drives m tied wants =
    let p = c.args.by.p.0 in
    let io = c.args.io.now in
    let regs : Regs = c.args.by.regs in
    let all : List ℕ = c.deref.result.now in
    let y : ℕ = c.in-Some.y in
    let line : List ℕ = take y all in
    let caller = caller_of m p in
    let room : length all ≡ length c.read_line_now.new.s.buffer.items = ap (λ (it : List ℕ). length it) c.deref.ensures.value in
    let regs_are : regs ≡ regs_at m p = called-regs c.args.by c.args.s.now m c.requires.calls tied in
    let read : AreWriteBytesRead io p regs.a (line_bytes caller (pending_at io p)) (Some y) all = subst (λ (it : List ℕ). AreWriteBytesRead io
    p regs.a (line_bytes caller (pending_at io p)) (Some y) it) (sym c.deref.ensures.value)
    (c.in-Some.ensures.line m tied) in
    let it = read-some io p regs.a (line_bytes caller (pending_at io p)) y all read in
    let again : IsAgain Call.WritLn (regs_at m p) io p = subst (λ (r : Regs). IsAgain Call.WritLn r io p) (regs-tied c.args.s.now m p tied) c.requires.may.again in
    let known : IsSentLine regs (pending_at io p) it.0 = subst (λ (r : Regs). IsSentLine r (pending_at io p) it.0) (sym regs_are) (sent-line caller io p (pending_at io p) it.0 again it.1) in
    let whole : pending_at io p ≡ None → line_length line ≡ length line = λ none. (sent-line caller io p (pending_at io p)
    line again (ap (λ (pending : Option PendingCall). line_bytes caller pending) none ∙ c.in-Some.ensures.first m tied
    none ∙ ap (λ (it : List ℕ). Some (take y it)) (sym c.deref.ensures.value))).whole none in
    let long : length it.0 ≡ y = sym it.2.count ∙ length-take-le y all (omega (arith, room)) in
    wants-of m io p c.send-end.result c.tell.new.s c.send-end.new.io _ _ (model.i_writln (caller_of m p) io) wants
    (line-tries m io c.args.by.p c.tell.new.s c.send-end.new.io _ _ it.0 regs c.send-end.result regs_are y long it.1
    known (sends-read Line c.args.by.p regs (cells_at m p) io c.send-end.new.io c.send-end.result _ _ it.0 line it.2
    (c.send-end.ensures.call whole (cells_at m p))) (λ end between. c.tell.ensures.told m end between
    (c.in-Some.ensures.same.represents m tied)))
