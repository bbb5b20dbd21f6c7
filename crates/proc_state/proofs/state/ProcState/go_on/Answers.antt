use Rattle.std.proofs.Common.{false, None, subst}
use Rattle.proc_model.specs.declared.own.Own.{Own}
use Rattle.proc_model.specs.Records.{with_waiting}
use Rattle.proc_model.specs.Processes.{Processes, with_own, with_records, with_regs_of}
use Rattle.proc_state.specs.Tie.{RepresentsProcesses}
use Rattle.proc_state.proofs.state.ProcState.go_on.Goals as goal

pub returns-clause-tied : goal.returns-clause-tied
returns-clause-tied c m before =
    let p = c.args.p.0 in
    let set : Processes = with_regs_of m p c.args.regs in
    let runs : Processes = with_records set (with_waiting set.records p false) in
    let is = c.run.ensures.tied set (c.set_regs.ensures.tied m before) in
    subst (λ (own : Own). RepresentsProcesses c.set_own.new.self (with_own runs p (record own { call = None; until = None; woken = false })))
    (c.own-own.ensures.tied runs is) (c.set_own.ensures.tied runs is)
