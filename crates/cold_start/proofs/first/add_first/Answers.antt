use Rattle.std.proofs.Common.{◌≡◌, Option, Some, option_map, sym, ap, ◌∙◌, subst}
use Rattle.std.specs.Prelude.{IfSome}
use Rattle.std.proofs.lemmas.Option.{same_Some}
use Rattle.os9_base.specs.declared.registers.Pid.{Pid}
use Rattle.proc_model.specs.Records.{free_process}
use Rattle.proc_model.specs.Processes.{Processes, with_own, with_regs_of}
use Rattle.proc_state.specs.Beginning.{with_made}
use Rattle.proc_state.specs.Tie.{RepresentsProcesses}
use Rattle.machine_model.specs.ProcessStart.{first_priority, first_process, no_parent, superuser}
use Rattle.cold_start.specs.Beginning.{nobody_in}
use Rattle.cold_start.proofs.FirstStarting.{first-made}
use Rattle.cold_start.proofs.first.add_first.Goals as goal

pub returns : goal.returns
returns c = λ memory tied.
    let made = c.unwrap-made.result in
    let owned : Processes = with_own (nobody_in memory) first_process.0 c.args.start.own in
    let begun : RepresentsProcesses c.make.new.self (with_made owned made no_parent superuser first_priority) =
    subst (λ (place : Option Pid). IfSome place (λ q. RepresentsProcesses c.make.new.self (with_made owned q no_parent superuser first_priority))) c.unwrap-made.ensures
    (c.make.ensures.made owned (c.set_own.ensures.tied (nobody_in memory) tied)) in
    let number : Some made.0 ≡ Some 2 =
    sym (ap (option_map (λ (q : Pid). q.0)) c.unwrap-made.ensures) ∙ c.make.ensures.number ∙ ap free_process (c.set_own.ensures.records ∙ sym (ap (λ (m : Processes). m.records) tied.is)) in
    subst (λ (q : Pid). RepresentsProcesses c.set_regs.new.self (with_regs_of (with_made owned q no_parent superuser first_priority) q.0 c.args.start.regs))
    (first-made made (same_Some made.0 2 number))
    (c.set_regs.ensures.tied (with_made owned made no_parent superuser first_priority) begun)
