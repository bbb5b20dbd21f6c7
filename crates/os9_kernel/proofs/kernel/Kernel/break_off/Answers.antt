use Rattle.std.proofs.Common.{◌<◌, length, sym, ap, ◌∙◌, subst}
use Rattle.proc_state.proofs.Entered.{some-machine}
use Rattle.proc_model.specs.declared.record.Record.{Record}
use Rattle.proc_model.specs.Records.{IsLiving, record_at}
use Rattle.proc_model.specs.Processes.{Processes}
use Rattle.os9_kernel.proofs.Columns.{living-within, record-put}
use Rattle.os9_kernel.proofs.kernel.Kernel.break_off.Goals as goal

pub returns-in-Some-clause-files : goal.returns-in-Some-clause-files
returns-in-Some-clause-files c views files stands =
    c.interrupt.ensures.files views files stands

pub returns-in_default-clause-files : goal.returns-in_default-clause-files
returns-in_default-clause-files c views files stands =
    c.interrupt.ensures.files views files stands

pub returns-in-Some-clause-signal : goal.returns-in-Some-clause-signal
returns-in-Some-clause-signal c =
    let p = c.args.p.0 in
    let (m, there) = some-machine c.args.self.now.machine.processes in
    let within : p < length m.records = living-within m.records p (subst (λ (s : Processes). IsLiving s.records p) (sym there.is) c.requires.lives) in
    let now = c.set_regs.ensures.tied m there in
    sym (ap (λ (s : Processes). (record_at s.records p).signal) now.is)
    ∙ ap (λ (r : Record). r.signal) (record-put m.records p _ within)
    ∙ ap (λ (s : Processes). (record_at s.records p).signal) there.is
