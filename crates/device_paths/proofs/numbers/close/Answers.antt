use Rattle.std.proofs.Common.{◌∙◌, Option, None, is_none, not, sym, ap}
use Rattle.io_model.specs.declared.path.SysPath.{SysPath}
use Rattle.io_model.specs.Io.{Io, with_call}
use Rattle.device_paths.proofs.QuietLemmas.{close-ends}
use Rattle.device_paths.proofs.numbers.close.Goals as goal

pub returns-clause-call : goal.returns-clause-call
returns-clause-call c m tied =
    close-ends m c.args.io.now c.answer.new.io c.args.p.0 c.answer.result c.answer.new.s c.regs-regs.result (c.regs-regs.ensures.tied m tied)
    (ap (λ (path : Option SysPath). is_none path) (sym c.slot.ensures) ∙ ap not (c.is_none.ensures ∙ ap not c.if-is_none.false))
    c.answer.ensures.end (c.answer.ensures.tied m tied)
    (c.answer.ensures.io ∙ ap (λ (io : Io). with_call io c.args.p.0 None) c.close.ensures)
