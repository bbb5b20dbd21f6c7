use Rattle.std.proofs.Common.{ℕ, Result, sym, ap, subst}
use Rattle.os9_base.specs.declared.registers.Regs.{Regs}
use Rattle.proc_model.specs.Delivery.{after_delivery}
use Rattle.proc_model.specs.Processes.{Processes}
use Rattle.proc_state.specs.Delivery.{delivery_end}
use Rattle.proc_state.specs.Tie.{RepresentsProcesses}
use Rattle.proc_state.proofs.Delivering.{begun-some, begun-none}
use Rattle.proc_state.proofs.state.ProcState.begin_routine.Goals as goal

pub returns-in-Some-clause-end : goal.returns-in-Some-clause-end
returns-in-Some-clause-end c m before =
    sym (ap delivery_end (begun-some m c.args.p.0 c.args.signal c.args.intercept c.in-Some.frame c.regs-stack.result.s
    (ap (λ (r : Regs). r.s) (c.regs-stack.ensures.tied m before)) (c.in-Some.ensures.place m before)))

pub returns-in-Some-clause-tied : goal.returns-in-Some-clause-tied
returns-in-Some-clause-tied c m before =
    subst (λ (r : Result Processes ℕ). RepresentsProcesses c.push_frame.new.self (after_delivery m c.args.p.0 r))
    (sym (begun-some m c.args.p.0 c.args.signal c.args.intercept c.in-Some.frame c.regs-stack.result.s
    (ap (λ (r : Regs). r.s) (c.regs-stack.ensures.tied m before)) (c.in-Some.ensures.place m before)))
    (c.push_frame.ensures.tied m (c.frame_place.ensures.same.represents m before))

pub returns-in-None-clause-end : goal.returns-in-None-clause-end
returns-in-None-clause-end c m before =
    sym (ap delivery_end (begun-none m c.args.p.0 c.args.signal c.args.intercept c.regs-stack.result.s
    (ap (λ (r : Regs). r.s) (c.regs-stack.ensures.tied m before)) (c.in-None.ensures.place m before)))

pub returns-in-None-clause-tied : goal.returns-in-None-clause-tied
returns-in-None-clause-tied c m before =
    subst (λ (r : Result Processes ℕ). RepresentsProcesses c.end.new.self (after_delivery m c.args.p.0 r))
    (sym (begun-none m c.args.p.0 c.args.signal c.args.intercept c.regs-stack.result.s
    (ap (λ (r : Regs). r.s) (c.regs-stack.ensures.tied m before)) (c.in-None.ensures.place m before)))
    (c.end.ensures m (c.frame_place.ensures.same.represents m before))
