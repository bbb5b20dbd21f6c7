use Rattle.std.proofs.Common.{◌∙◌, ◌<◌, None, Option, ap, sym, subst}
use Rattle.std.specs.Prelude.{IfSome}
use Rattle.os9_base.specs.UserLines.{line_at}
use Rattle.os9_base.specs.declared.registers.Regs.{Regs}
use Rattle.proc_model.specs.Processes.{cells_at}
use Rattle.io_model.specs.declared.pending.PendingCall.{PendingCall}
use Rattle.io_model.specs.Attempts.{caller_of}
use Rattle.io_model.specs.Io.{pending_at}
use Rattle.io_model.specs.Write.{line_bytes}
use Rattle.io_state.proofs.RequesterLemmas.{called-regs}
use Rattle.device_io.proofs.ReadingLemmas.{read-all}
use Rattle.device_io.proofs.stream_writes.read_line_now.Goals as goal

pub returns-in-None-read_line-clause-first : goal.returns-in-None-read_line-clause-first
returns-in-None-read_line-clause-first c m tied none =
    let cells = cells_at m c.args.by.p.0 in
    let same = called-regs c.args.by c.args.s.now m c.requires tied in
    ap (λ (r : Regs). line_at cells r.x r.y) (sym same)
    ∙ c.in-None-read_line.ensures.line m tied

pub returns-in-Some-read_line-clause-first : goal.returns-in-Some-read_line-clause-first
returns-in-Some-read_line-clause-first c m tied none =
    let cells = cells_at m c.args.by.p.0 in
    let same = called-regs c.args.by c.args.s.now m c.requires tied in
    ap (λ (r : Regs). line_at cells r.x r.y) (sym same)
    ∙ c.in-Some-read_line.ensures.line m tied

pub returns-in-None-read_line-clause-line : goal.returns-in-None-read_line-clause-line
returns-in-None-read_line-clause-line c m tied =
    let cells = cells_at m c.args.by.p.0 in
    let same = called-regs c.args.by c.args.s.now m c.requires tied in
    read-all c.args.io.now c.args.by.p.0 c.args.by.regs.a (line_bytes (caller_of m c.args.by.p.0) (pending_at c.args.io.now c.args.by.p.0)) None c.read_line.new.self.buffer.items
    (ap (λ (pending : Option PendingCall). line_bytes (caller_of m c.args.by.p.0) pending) (sym c.in-None.ensures.kept)
    ∙ ap (λ (r : Regs). line_at cells r.x r.y) (sym same)
    ∙ c.in-None-read_line.ensures.line m tied)

pub returns-in-Some-read_line-clause-line : goal.returns-in-Some-read_line-clause-line
returns-in-Some-read_line-clause-line c m tied =
    let cells = cells_at m c.args.by.p.0 in
    let same = called-regs c.args.by c.args.s.now m c.requires tied in
    read-all c.args.io.now c.args.by.p.0 c.args.by.regs.a (line_bytes (caller_of m c.args.by.p.0) (pending_at c.args.io.now c.args.by.p.0)) _ c.read_line.new.self.buffer.items
    (ap (λ (pending : Option PendingCall). line_bytes (caller_of m c.args.by.p.0) pending) (sym c.in-None.ensures.kept)
    ∙ ap (λ (r : Regs). line_at cells r.x r.y) (sym same)
    ∙ c.in-Some-read_line.ensures.line m tied)

-- a call that waits has a byte left to move
pub read_moving-requires-clause-left : goal.read_moving-requires-clause-left
read_moving-requires-clause-left c =
    let kept = c.in-Some.pending in
    subst (λ (place : Option PendingCall). IfSome place (λ (it : PendingCall). it.moved < kept.count)) c.in-Some.ensures.kept
    (c.in-Some.ensures.sound.waits.calls c.args.by.p.0 kept (sym c.in-Some.ensures.kept)).left
