use Rattle.std.proofs.Common.{Some, map, sym, ap, ◌∙◌, arith}
use Rattle.console_run.proofs.LineLemmas.{drop-next, next-line}
use Rattle.console_run.proofs.sure_keyboard.SureKeyboardKeyboardMemHost.line.Goals as goal

pub returns-clause-first : goal.returns-clause-first
returns-clause-first c =
    ap Some (c.in-Ok.ensures.items ∙ c.as_slice.ensures.value)
    ∙ sym (next-line (λ line. line.items) c.args.self.now.lines.items c.args.self.now.given _ c.index-line.result.now
    (omega (arith, c.len.ensures, c.if-self-len.false, c.args.self.now.lines.ok.0)) c.index-line.ensures)

pub returns-clause-rest : goal.returns-clause-rest
returns-clause-rest c =
    rw (c.note-2.ensures.given_kept, c.note-2.ensures.lines_kept) (ap Some (drop-next (map (λ line. line.items) c.args.self.now.lines.items) c.args.self.now.given))
