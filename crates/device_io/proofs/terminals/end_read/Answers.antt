use Rattle.std.proofs.Common.{take, refl, sym, subst}
use Rattle.os9_base.specs.declared.call.CallEnd.{CallEnd}
use Rattle.os9_base.specs.declared.registers.Regs.{Regs}
use Rattle.proc_model.specs.MemoryChanges.{stored}
use Rattle.proc_model.specs.Processes.{with_memory, with_regs_of}
use Rattle.io_model.specs.declared.terminal.Progress.{Progress}
use Rattle.io_model.specs.Attempts.{caller_of}
use Rattle.io_model.specs.Terminals.{read_ends}
use Rattle.io_state.specs.Terminals.{count_of}
use Rattle.proc_state.specs.Tie.{RepresentsProcesses}
use Rattle.io_state.proofs.RequesterLemmas.{called-regs}
use Rattle.device_io.specs.Trying.{EndsBy}
use Rattle.device_io.proofs.terminals.end_read.Goals as goal

pub returns-in-Done-clause-ends : goal.returns-in-Done-clause-ends
returns-in-Done-clause-ends c m read tied =
    let p = c.args.by.p.0 in
    let bytes = take c.in-Done.count c.args.bytes.now in
    subst (λ (a : Progress). EndsBy (read_ends (caller_of m p) read a) c.args.by.regs.x (take (count_of a) c.args.bytes.now) m p CallEnd.Done c.set_regs.new.self) (sym c.in-Done.is)
    (λ io. (
      refl,
      subst (λ (r : Regs). RepresentsProcesses c.set_regs.new.self
          (with_regs_of (with_memory m (stored m.memory p c.args.by.regs.x bytes)) p (record r { y = c.in-Done.count })))
          (called-regs c.args.by c.args.s.now m c.requires.calls tied) (c.set_regs.ensures.tied _ (c.store.ensures.tied m tied)),
    ))
