use Rattle.std.proofs.Common.{◌≡◌, subst, ap, ◌∙◌}
use Rattle.os9_base.specs.declared.registers.Regs.{Regs}
use Rattle.proc_model.specs.Processes.{own_at, regs_at, with_regs_of, with_own}
use Rattle.proc_model.specs.Mem.{size_regs}
use Rattle.proc_state.specs.Tie.{RepresentsProcesses}
use Rattle.proc_calls.proofs.memory.set_size.Goals as goal

pub returns-clause-tied : goal.returns-clause-tied
returns-clause-tied c =
    λ m tied.
    let p = c.args.p.0 in
    let size = c.args.size in
    let mid = c.set_own.ensures.tied m tied in
    let own_is : c.own-own.result ≡ own_at m p = c.own-own.ensures.tied m tied in
    let regs_is : c.size_regs.result ≡ size_regs (regs_at m p) size = c.size_regs.ensures ∙ ap (λ (regs : Regs). size_regs regs size) (c.regs.ensures.tied _ mid) in
    subst (RepresentsProcesses c.set_regs.new.self) (λ i. with_regs_of (with_own m p (record (own_is i) { size = size })) p (regs_is i)) (c.set_regs.ensures.tied _ mid)
