use Rattle.std.proofs.Common.{ap}
use Rattle.os9_base.specs.declared.registers.Regs.{Regs}
use Rattle.io_model.specs.declared.io_call.IoCall.TheVariants as Device
use Rattle.proc_model.specs.Records.{record_at}
use Rattle.file_status.proofs.AttemptLemmas.{set-attempt}
use Rattle.file_status.proofs.OpenLemmas.{asks-there, data-file-there, file-there, no-read-there}
use Rattle.file_status.proofs.sets.set_status.Goals as goal

pub set_status_of-requires-clause-calls : goal.set_status_of-requires-clause-calls
set_status_of-requires-clause-calls g c = record {
  calls = c.requires.calls;
  no_read =
      no-read-there c.args.machine.now.files _ c.args.by.p.0 (record_at c.args.machine.now.processes.table c.args.by.p.0).regs.a c.args.opened.now
      c.requires.sound c.requires.named.file Device.SetStt c.args.by.regs (ap (λ (r : Regs). r.a) c.requires.calls.regs)
      c.requires.again.again;
}

pub set_status_of-requires-clause-asks : goal.set_status_of-requires-clause-asks
set_status_of-requires-clause-asks g c =
    asks-there c.args.machine.now.files _ c.args.by.p.0 (record_at c.args.machine.now.processes.table c.args.by.p.0).regs.a c.args.opened.now c.requires.sound
    c.requires.named.file c.requires.named.path c.requires.again.kept

pub set_status_of-requires-clause-there : goal.set_status_of-requires-clause-there
set_status_of-requires-clause-there g c =
    file-there c.args.machine.now.files _ c.args.by.p.0 (record_at c.args.machine.now.processes.table c.args.by.p.0).regs.a c.args.opened.now c.requires.sound c.requires.named.file

pub set_status_of-requires-clause-written : goal.set_status_of-requires-clause-written
set_status_of-requires-clause-written g c may =
    data-file-there c.args.machine.now.files _ c.args.by.p.0 (record_at c.args.machine.now.processes.table c.args.by.p.0).regs.a c.args.opened.now c.requires.sound c.requires.named.file may

pub returns-clause-call : goal.returns-clause-call
returns-clause-call g c terms m was tied stands kinds =
    set-attempt m was c.args.by.time c.args.by.p.0 c.set_status_of.result _ _ c.args.opened.now terms tied stands kinds c.requires.named
    (λ it open_is. c.set_status_of.ensures.call m was it terms tied stands open_is)
