use Rattle.std.proofs.Common.{◌≡◌, true, None, sym, ap, subst, ◌∙◌}
use Rattle.os9_base.specs.declared.registers.Regs.{Regs}
use Rattle.proc_model.specs.Records.{record_at, is_waiting}
use Rattle.proc_model.specs.Signals.{with_signal}
use Rattle.proc_model.specs.Attempts.{goes_on}
use Rattle.proc_model.specs.Processes.{Processes, with_records}
use Rattle.proc_state.specs.Tie.{RepresentsProcesses}
use Rattle.proc_state.proofs.Delivering.{interrupted-waiting}
use Rattle.proc_state.proofs.state.ProcState.interrupt.Goals as goal

pub returns-then-waits-clause-tied : goal.returns-then-waits-clause-tied
returns-then-waits-clause-tied c m before =
    let p = c.args.p.0 in
    let new = c.go_on.new.self in
    let taken : Processes = with_records m (with_signal m.records p None) in
    let waits : is_waiting (record_at m.records p).life ≡ true =
    ap (λ (s : Processes). is_waiting (record_at s.records p).life) before.is ∙ sym c.waits-waits.ensures ∙ c.if-waits.true in
    subst (RepresentsProcesses new) (sym (interrupted-waiting m p c.args.signal waits))
    (subst (λ (regs : Regs). RepresentsProcesses new (goes_on taken p regs)) (c.interrupted_regs-regs.ensures.tied m before)
    (c.go_on.ensures.tied taken (c.take_signal.ensures.tied m before)))
