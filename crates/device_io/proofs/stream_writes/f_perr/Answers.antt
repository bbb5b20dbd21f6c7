use Rattle.std.proofs.Common.{◌≡◌, List, ℕ, length, subst, sym}
use Rattle.proc_model.specs.Processes.{cells_at, regs_at}
use Rattle.io_model.specs.Line.{line_length}
use Rattle.io_model.specs.Attempts.{caller_of}
use Rattle.io_model.specs.Write as model
use Rattle.io_model.specs.declared.io_call.IoCall.TheVariants as Call
use Rattle.io_state.proofs.RequesterLemmas.{called-regs}
use Rattle.device_io.proofs.LineLemmas.{error-whole}
use Rattle.device_io.proofs.SendingLemmas.{error-tries}
use Rattle.device_io.proofs.TryingLemmas.{attempts-of, wants-of}
use Rattle.device_io.proofs.stream_writes.f_perr.Goals as goal

pub returns-clause-call : goal.returns-clause-call
returns-clause-call g c drives m tied differ =
    let p = c.args.by.p.0 in
    let line : List ℕ = c.error_line.result in
    let regs_are : c.args.by.regs ≡ regs_at m p = called-regs c.args.by c.args.s.now m c.requires.calls tied in
    let whole : line_length line ≡ length line = subst (λ (it : List ℕ). line_length it ≡ length it) (sym c.error_line.ensures) (error-whole c.args.by.regs.b) in
    attempts-of Call.PErr m c.args.io.now drives p c.tell.new.s c.send-end.new.io _ _ c.send-end.result differ
    (error-tries m c.args.io.now c.args.by.p c.tell.new.s c.send-end.new.io _ _ line c.args.by.regs c.send-end.result
    regs_are c.error_line.ensures (c.send-end.ensures.call (λ none. whole) (cells_at m p))
    (λ it between. c.tell.ensures.told m it between tied))

pub returns-clause-memory : goal.returns-clause-memory
returns-clause-memory g c drives m tied wants =
    let p = c.args.by.p.0 in
    let line : List ℕ = c.error_line.result in
    let regs_are : c.args.by.regs ≡ regs_at m p = called-regs c.args.by c.args.s.now m c.requires.calls tied in
    let whole : line_length line ≡ length line = subst (λ (it : List ℕ). line_length it ≡ length it) (sym c.error_line.ensures) (error-whole c.args.by.regs.b) in
    wants-of m c.args.io.now p c.send-end.result c.tell.new.s c.send-end.new.io _ _ (model.f_perr (caller_of m p) c.args.io.now) wants
    (error-tries m c.args.io.now c.args.by.p c.tell.new.s c.send-end.new.io _ _ line c.args.by.regs c.send-end.result
    regs_are c.error_line.ensures (c.send-end.ensures.call (λ none. whole) (cells_at m p))
    (λ it between. c.tell.ensures.told m it between tied))
