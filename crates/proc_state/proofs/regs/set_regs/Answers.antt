use Rattle.std.proofs.Common.{Option, List, sym, ap, ◌∙◌}
use Rattle.proc_model.specs.Memory.{first_memory}
use Rattle.proc_model.specs.declared.record.Record.{Record}
use Rattle.proc_model.specs.Processes.{Processes}
use Rattle.proc_model.specs.Ready.{is_ready}
use Rattle.proc_state.specs.Tie.{processes_of}
use Rattle.proc_state.proofs.Registers.{regs-ready}
use Rattle.proc_state.proofs.regs.set_regs.Goals as goal

pub returns-clause-active : goal.returns-clause-active
returns-clause-active c io tick active q =
    let m : Processes = record (processes_of c.args.s.now (first_memory 0)) { tick = tick } in
    active q
    ∙ sym (ap (λ (records : List (Option Record)). is_ready io (record m { records = records }) q) c.set_regs.ensures.records
    ∙ regs-ready io m c.args.p.0 c.args.regs c.requires q)
