use Rattle.std.proofs.Common.{None, subst}
use Rattle.proc_model.specs.declared.own.Own.{Own}
use Rattle.proc_model.specs.Records.{with_regs}
use Rattle.proc_model.specs.Signals.{with_intercept}
use Rattle.proc_model.specs.Processes.{Processes, with_own, with_records}
use Rattle.proc_model.specs.ModuleLinks.{without_primary_link}
use Rattle.proc_state.specs.Tie.{RepresentsProcesses}
use Rattle.fork_calls.specs.Chaining.{begun_so}
use Rattle.fork_calls.proofs.chain.begin_anew.Goals as goal

pub returns-clause-tied : goal.returns-clause-tied
returns-clause-tied c m tied =
    let p = c.args.p.0 in
    let renewed : Processes = with_records m (with_intercept (with_regs m.records p c.args.start.regs) p None) in
    subst (λ (own : Own). RepresentsProcesses c.unlink_primary.new.self (without_primary_link (begun_so m p c.args.start) own)) (c.own-old.ensures.tied m tied)
    (c.unlink_primary.ensures.tied (with_own renewed p c.args.start.own) (c.set_own.ensures.tied renewed (c.renew_record.ensures.tied m tied)))
