use Rattle.std.proofs.Common.{◌∙◌, sym, arith}
use Rattle.proc_model.specs.Processes.{cells_at}
use Rattle.proc_model.specs.UserBytes.{user_bytes}
use Rattle.device_io.proofs.LineLemmas.{user-length}
use Rattle.device_io.proofs.ReadingLemmas.{read-window}
use Rattle.device_io.proofs.moving.read_moving.Goals as goal

pub returns-clause-read : goal.returns-clause-read
returns-clause-read c m tied =
    let cells = cells_at m c.args.by.p.0 in
    let at = c.args.by.regs.x in
    let count = c.args.count in
    read-window c.args.io.now c.args.by.p.0 c.args.by.regs.a (user_bytes cells at count) count c.moved_before.result c.read_window.new.s.buffer.items
    (sym (c.is_named.ensures.there m tied) ∙ c.if-not-is_named.false)
    (λ bytes is. user-length cells at count bytes is)
    (sym c.is_on_pipe.ensures ∙ c.if-not-is_on_pipe.false)
    c.moved_before.ensures
    (omega arith)
    (c.read_window.ensures.window m tied)
