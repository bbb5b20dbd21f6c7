use Rattle.std.proofs.Common.{◌≡◌, ℕ, ◌∙◌, ap, refl, sym, Option, List, Ok}
use Rattle.os9_base.specs.declared.call.CallEnd.TheVariants.{Done}
use Rattle.os9_base.specs.declared.registers.Pid.{Pid}
use Rattle.os9_base.specs.declared.registers.Regs.{Regs}
use Rattle.proc_model.specs.declared.record.Record.{Record}
use Rattle.proc_model.specs.Ends.{reaped, after_reap}
use Rattle.proc_model.specs.Processes.{Processes, regs_at, with_records, with_regs_of}
use Rattle.proc_model.specs.Wait.{f_wait, reaped_regs}
use Rattle.proc_state.specs.declared.state.ProcState.{ProcState}
use Rattle.proc_state.specs.Tie.{RepresentsProcesses, ReturnsCallEnd}
use Rattle.proc_calls.proofs.children.f_wait.Goals as goal

-- a child was given, by records and registers that are those of the machine
child_comes : (m : Processes) (new : ProcState) (p : ℕ) (child : Pid × ℕ) (table : List (Option Record)) (regs : Regs)
    → table ≡ m.records → regs ≡ regs_at m p → reaped table p ≡ Ok child
    → RepresentsProcesses new (with_regs_of (with_records m (after_reap table p)) p (reaped_regs regs child))
    → ReturnsCallEnd m p (f_wait m p) Done new
child_comes m new p child table regs same_table same_regs given stands =
    let is : reaped m.records p ≡ Ok child = rw same_table at given in
    let then : RepresentsProcesses new (with_regs_of (with_records m (after_reap m.records p)) p (reaped_regs (regs_at m p) child)) = rw (same_table, same_regs) at stands in
    rw is (refl, then)

pub returns-in-Ok-clause-call : goal.returns-in-Ok-clause-call
returns-in-Ok-clause-call c = λ m tied.
    child_comes m _ c.args.p.0 (c.in-Ok.child, c.in-Ok.status) c.args.s.now.table c.regs-regs.result
    (sym (ap (λ (i : Processes). i.records) tied.is)) (c.regs-regs.ensures.tied m tied) (sym c.reap.ensures.child ∙ c.in-Ok.is)
    (c.set_regs.ensures.tied _ (c.reap.ensures.tied m tied))
