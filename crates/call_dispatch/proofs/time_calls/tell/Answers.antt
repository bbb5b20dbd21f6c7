use Rattle.std.proofs.Common.{◌∙◌, sym}
use Rattle.call_dispatch.proofs.AttemptLemmas.{time-refused, time-told}
use Rattle.call_dispatch.proofs.time_calls.tell.Goals as goal

pub returns-then-not-is_named-clause-call : goal.returns-then-not-is_named-clause-call
returns-then-not-is_named-clause-call c m clock tied =
    time-refused m clock c.args.packet c.args.p.0 c.regs-regs.result c.args.s.now (c.regs-regs.ensures.tied m tied)
    (sym (c.is_named.ensures.there m tied) ∙ c.if-not-is_named.true) tied

pub returns-clause-call : goal.returns-clause-call
returns-clause-call c m clock tied =
    time-told m clock c.args.packet c.args.p.0 c.regs-regs.result c.store_packet.new.s (c.regs-regs.ensures.tied m tied)
    (sym (c.is_named.ensures.there m tied) ∙ c.if-not-is_named.false) (c.store_packet.ensures.tied m tied)
