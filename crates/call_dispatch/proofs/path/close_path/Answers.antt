use Rattle.std.proofs.Common.{◌≡◌, ◌∙◌, [], None, refl, subst, sym}
use Rattle.os9_base.specs.declared.call.CallEnd.{CallEnd}
use Rattle.os9_base.specs.declared.registers.Regs.{Regs}
use Rattle.proc_model.specs.Processes.{regs_at}
use Rattle.call_dispatch.proofs.Quiet.{is-first}
use Rattle.io_model.specs.declared.io_call.IoCall.TheVariants as Device
use Rattle.io_state.proofs.OpenedLemmas.{opened-slot}
use Rattle.proc_model.specs.Records.{record_at}
use Rattle.io_state.proofs.RequesterLemmas.{called-regs}
use Rattle.file_rules.specs.Files.{open_file}
use Rattle.file_rules.specs.declared.path_call.PathCall.TheVariants as Call
use Rattle.file_state.proofs.KeepLemmas.{ends-attempt}
use Rattle.file_state.specs.Opened.{path_of}
use Rattle.call_dispatch.proofs.Closing.{close-file-ends}
use Rattle.call_dispatch.proofs.Lifting.{tries-of}
use Rattle.call_dispatch.proofs.OnPaths.{closes-on-device, nothing-kept, something-kept}
use Rattle.call_dispatch.proofs.path.close_path.Goals as goal

pub prove-unreachable-requires : goal.prove-unreachable-requires
prove-unreachable-requires g c =
    something-kept c.pending.result c.is_none.result c.is_none.ensures c.if-prove.true
    (c.pending.ensures.kept ∙ is-first Device.Close (record_at c.args.machine.now.processes.table c.args.by.p.0).regs
    c.args.machine.now.files.io c.args.by.p.0 refl (λ same. cc) c.pending.ensures.sound c.requires.may.again)

pub close_file-requires-clause-open : goal.close_file-requires-clause-open
close_file-requires-clause-open g c =
    (opened-slot c.args.machine.now.files.io c.args.by.p.0 c.args.by.regs.a (path_of c.in-Some.opened) c.in-Some.ensures.named).0

pub close_file-requires-clause-there : goal.close_file-requires-clause-there
close_file-requires-clause-there g c = c.in-Some.ensures.path.place

pub returns-in-Some-clause-call : goal.returns-in-Some-clause-call
returns-in-Some-clause-call g c now m was tied stands kinds =
    let p = c.args.by.p.0 in
    let same : c.args.by.regs ≡ regs_at m p = called-regs c.args.by c.args.machine.now.processes m c.requires.calls tied in
    tries-of Call.Close m was now p CallEnd.Done _ _ _ _
    (ends-attempt 0 Call.Close m was now p CallEnd.Done _ _ _
    (close-file-ends m was now p c.set_regs.new.self c.args.machine.now.files c.close_file.new.self _ _ c.in-Some.opened c.args.by.regs stands
    (c.in-Some.ensures.file _ was stands kinds) same
    (sym c.pending.ensures.kept ∙ nothing-kept c.pending.result c.is_none.result c.is_none.ensures c.if-prove.false) (c.close_file.ensures _ was stands) (c.set_regs.ensures.tied m tied)))

pub returns-in-None-clause-call : goal.returns-in-None-clause-call
returns-in-None-clause-call g c now m was tied stands kinds =
    let p = c.args.by.p.0 in
    let same : c.args.by.regs ≡ regs_at m p = called-regs c.args.by c.args.machine.now.processes m c.requires.calls tied in
    let none : open_file was p (regs_at m p).a ≡ None = subst (λ (r : Regs). open_file was p r.a ≡ None) same (c.in-None.ensures.file _ was stands kinds) in
    c.attempt_on_device.ensures.call Call.Close m was now tied stands (closes-on-device m was now p 0 [] none)
