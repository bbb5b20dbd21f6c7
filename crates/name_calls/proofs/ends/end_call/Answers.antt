use Rattle.std.proofs.Common.{ℕ, ◌%◌, Result, subst}
use Rattle.os9_base.specs.declared.registers.Regs.{Regs}
use Rattle.proc_model.specs.Processes.{with_regs_of}
use Rattle.proc_state.specs.Tie.{RepresentsProcesses}
use Rattle.io_state.proofs.RequesterLemmas.{called-regs}
use Rattle.file_rules.specs.Attempts.{asker_of}
use Rattle.name_calls.specs.Tries.{TriesNameCall}
use Rattle.name_calls.proofs.AttemptLemmas.{ends-done, ends-refused}
use Rattle.name_calls.proofs.ends.end_call.Goals as goal

pub returns-in-Err-clause-ends : goal.returns-in-Err-clause-ends
returns-in-Err-clause-ends c step most m was now terms before views tied tries =
    ends-refused step most m was now c.args.by.p.0 terms c.args.machine.now.files before views c.refuse.result c.args.machine.now.processes c.refuse.new.io c.refuse.ensures.io c.in-Err.number
    c.refuse.ensures.end tied
    (subst (λ (came : Result ℕ ℕ). TriesNameCall step most (asker_of m c.args.by.p.0 now) was came c.args.machine.now.files before views) c.in-Err.is tries)

pub returns-in-Ok-clause-ends : goal.returns-in-Ok-clause-ends
returns-in-Ok-clause-ends c step most m was now terms before views tied tries =
    ends-done step most m was now c.args.by.p.0 terms c.args.machine.now.files before views c.answer.result c.answer.new.s c.answer.new.io c.answer.ensures.io c.in-Ok.next c.answer.ensures.end
    (subst (λ (regs : Regs). RepresentsProcesses c.answer.new.s (with_regs_of m c.args.by.p.0
    (record regs { x = c.in-Ok.next % 65536 }))) (called-regs c.args.by c.args.machine.now.processes m c.requires.calls.calls tied) (c.answer.ensures.tied m tied))
    (subst (λ (came : Result ℕ ℕ). TriesNameCall step most (asker_of m c.args.by.p.0 now) was came c.args.machine.now.files before views) c.in-Ok.is tries)
