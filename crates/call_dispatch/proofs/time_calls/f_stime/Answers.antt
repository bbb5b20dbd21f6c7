use Rattle.std.proofs.Common.{ℕ, ◌∙◌, sym, subst}
use Rattle.time_rules.specs.Clock.{IsClock}
use Rattle.time_rules.specs.declared.time_call.TimeCall.TheVariants as Call
use Rattle.call_dispatch.proofs.AttemptLemmas.{at-any-time, stime-refused, stime-set, tick_seen}
use Rattle.call_dispatch.proofs.time_calls.f_stime.Goals as goal

pub returns-in-None-clause-call : goal.returns-in-None-clause-call
returns-in-None-clause-call c m tied =
    let still = c.read_packet.ensures.same.represents m tied in
    at-any-time Call.STime m c.args.clock.now c.args.clock.now c.args.p.0 _ c.read_packet.new.s
    (subst (λ (k : ℕ). IsClock c.args.clock.now k) (tick_seen c.args.s.now m tied) c.requires.clock)
    (λ now. stime-refused m c.args.clock.now now c.args.p.0 c.regs-regs.result c.read_packet.new.s
    (c.regs-regs.ensures.tied m tied) (sym (c.read_packet.ensures.read m tied) ∙ c.in-None.is) still)

pub returns-in-Some-clause-call : goal.returns-in-Some-clause-call
returns-in-Some-clause-call c m tied =
    let still = c.read_packet.ensures.same.represents m tied in
    at-any-time Call.STime m c.args.clock.now c.set_clock.new.clock c.args.p.0 c.set_clock.result c.read_packet.new.s
    (subst (λ (k : ℕ). IsClock c.args.clock.now k) (tick_seen c.args.s.now m tied) c.requires.clock)
    (λ now. stime-set m c.args.clock.now c.set_clock.new.clock now c.args.p.0 c.regs-regs.result c.in-Some.packet
    c.read_packet.new.s.tick c.set_clock.result c.read_packet.new.s (c.regs-regs.ensures.tied m tied)
    (sym (c.read_packet.ensures.read m tied) ∙ c.in-Some.is) (tick_seen c.read_packet.new.s m still)
    c.set_clock.ensures.end c.set_clock.ensures.set still)
