use Rattle.std.proofs.Common.{Option, IfSome, subst, sym}
use Rattle.io_model.specs.declared.pending.PendingCall.{PendingCall}
use Rattle.io_state.specs.Sound.{IsNoRead}
use Rattle.proc_model.specs.Records.{record_at}
use Rattle.file_status.proofs.AttemptLemmas.{get-attempt}
use Rattle.file_status.proofs.OpenLemmas.{file-there}
use Rattle.file_status.proofs.gets.get_status.Goals as goal

pub get_status_of-requires-clause-calls : goal.get_status_of-requires-clause-calls
get_status_of-requires-clause-calls g c = record {
  calls = c.requires.calls.calls;
  no_read =
      subst (λ (o : Option PendingCall). IfSome o (IsNoRead c.args.machine.now.files.io)) (sym c.requires.calls.none_pending) tt;
}

pub get_status_of-requires-clause-there : goal.get_status_of-requires-clause-there
get_status_of-requires-clause-there g c =
    file-there c.args.machine.now.files _ c.args.by.p.0 (record_at c.args.machine.now.processes.table c.args.by.p.0).regs.a c.args.opened.now c.requires.sound c.requires.named.file

pub returns-clause-call : goal.returns-clause-call
returns-clause-call g c now terms m was tied stands kinds =
    get-attempt m was now c.args.by.p.0 c.get_status_of.result _ _ c.args.opened.now terms tied stands kinds c.requires.named
    (λ it open_is. c.get_status_of.ensures.call now m was it terms tied stands open_is)
