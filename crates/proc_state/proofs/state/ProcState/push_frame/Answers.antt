use Rattle.std.proofs.Common.{subst}
use Rattle.proc_model.specs.MemoryChanges.{stored}
use Rattle.proc_model.specs.Delivery.{interrupted}
use Rattle.proc_model.specs.Processes.{Processes, with_memory}
use Rattle.proc_state.specs.Tie.{RepresentsProcesses}
use Rattle.proc_state.proofs.Delivering.{frame-pushed}
use Rattle.proc_state.proofs.state.ProcState.push_frame.Goals as goal

pub returns-clause-tied : goal.returns-clause-tied
returns-clause-tied c m before =
    let p = c.args.p.0 in
    let there : Processes = with_memory m (stored m.memory p c.args.frame c.frame_bytes.result) in
    subst (RepresentsProcesses c.set_regs.new.self)
    (frame-pushed m p c.args.signal c.args.intercept c.args.frame c.interrupted_regs-regs.result c.routine_regs.result c.frame_bytes.result
    (c.interrupted_regs-regs.ensures.tied m before) c.frame_bytes.ensures c.routine_regs.ensures)
    (c.set_regs.ensures.tied (interrupted there p c.args.signal) (c.interrupt.ensures.tied there (c.store.ensures.tied m before)))
