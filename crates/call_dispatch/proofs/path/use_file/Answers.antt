use Rattle.std.proofs.Common.{◌∙◌, ap, refl, sym, subst}
use Rattle.call_dispatch.proofs.Quiet.{is-first}
use Rattle.io_model.specs.Again.{IsAgain}
use Rattle.io_model.specs.declared.io_call.IoCall.TheVariants as Device
use Rattle.call_dispatch.specs.declared.path_use.PathUse.{PathUse}
use Rattle.call_dispatch.proofs.OnPaths.{something-kept}
use Rattle.file_rules.specs.declared.path_call.PathCall.TheVariants as Call
use Rattle.call_dispatch.proofs.Lifting.{within-tries}
use Rattle.call_dispatch.proofs.OnCalls.{at-time, call-within, time-for}
use Rattle.call_dispatch.specs.Bounds.{attempt_calls}
use Rattle.call_dispatch.specs.Uses.{call_of, device_of}
use Rattle.call_dispatch.proofs.path.use_file.Goals as goal

pub returns-in-Read-clause-call : goal.returns-in-Read-clause-call
returns-in-Read-clause-call g c time terms is =
    call-within (call_of c.args.call) Call.Read time c.args.by.p.0 (sym (ap call_of c.in-Read.is)) c.read.result terms
    terms c.args.machine.now.processes c.read.new.machine.processes c.args.machine.now.files c.read.new.machine.files _ _ (c.read.ensures.call time terms)

pub returns-in-ReadLn-clause-call : goal.returns-in-ReadLn-clause-call
returns-in-ReadLn-clause-call g c time terms is =
    call-within (call_of c.args.call) Call.ReadLn time c.args.by.p.0 (sym (ap call_of c.in-ReadLn.is)) c.read_line.result
    terms terms c.args.machine.now.processes c.read_line.new.machine.processes c.args.machine.now.files c.read_line.new.machine.files _ _
    (c.read_line.ensures.call time terms)

pub returns-in-Write-clause-call : goal.returns-in-Write-clause-call
returns-in-Write-clause-call g c time terms is =
    call-within (call_of c.args.call) Call.Write time c.args.by.p.0 (sym (ap call_of c.in-Write.is)) c.write.result terms
    terms c.args.machine.now.processes c.write.new.machine.processes c.args.machine.now.files c.write.new.machine.files _ _ (at-time Call.Write c.args.by.time time
    c.args.by.p.0 refl (time-for (call_of c.args.call) Call.Write c.args.by.time time (sym (ap call_of c.in-Write.is))
    is) c.write.result terms terms _ _ (c.write.ensures.call terms))

pub returns-in-WritLn-clause-call : goal.returns-in-WritLn-clause-call
returns-in-WritLn-clause-call g c time terms is =
    call-within (call_of c.args.call) Call.WritLn time c.args.by.p.0 (sym (ap call_of c.in-WritLn.is))
    c.write_line.result terms terms c.args.machine.now.processes c.write_line.new.machine.processes c.args.machine.now.files c.write_line.new.machine.files _ _
    (at-time Call.WritLn c.args.by.time time c.args.by.p.0 refl (time-for (call_of c.args.call) Call.WritLn c.args.by.time
    time (sym (ap call_of c.in-WritLn.is)) is) c.write_line.result terms terms _ _
    (c.write_line.ensures.call terms))

pub returns-in-GetStt-clause-call : goal.returns-in-GetStt-clause-call
returns-in-GetStt-clause-call g c time terms is =
    call-within (call_of c.args.call) Call.GetStt time c.args.by.p.0 (sym (ap call_of c.in-GetStt.is))
    c.get_status.result terms terms c.args.machine.now.processes c.get_status.new.machine.processes c.args.machine.now.files c.get_status.new.machine.files _ _
    (within-tries (attempt_calls Call.GetStt) Call.GetStt time c.args.by.p.0 c.get_status.result terms terms _ _
    (c.get_status.ensures.call time terms))

pub returns-in-SetStt-clause-call : goal.returns-in-SetStt-clause-call
returns-in-SetStt-clause-call g c time terms is =
    call-within (call_of c.args.call) Call.SetStt time c.args.by.p.0 (sym (ap call_of c.in-SetStt.is))
    c.set_status.result terms terms c.args.machine.now.processes c.set_status.new.machine.processes c.args.machine.now.files c.set_status.new.machine.files _ _
    (at-time Call.SetStt c.args.by.time time c.args.by.p.0 refl (time-for (call_of c.args.call) Call.SetStt c.args.by.time
    time (sym (ap call_of c.in-SetStt.is)) is) c.set_status.result terms terms _ _
    (c.set_status.ensures.call terms))

pub returns-in-PErr-clause-call : goal.returns-in-PErr-clause-call
returns-in-PErr-clause-call g c time terms is =
    call-within (call_of c.args.call) Call.PErr time c.args.by.p.0 (sym (ap call_of c.in-PErr.is)) c.write_error.result
    terms terms c.args.machine.now.processes c.write_error.new.machine.processes c.args.machine.now.files c.write_error.new.machine.files _ _
    (at-time Call.PErr c.args.by.time time c.args.by.p.0 refl (time-for (call_of c.args.call) Call.PErr c.args.by.time time
    (sym (ap call_of c.in-PErr.is)) is) c.write_error.result terms terms _ _ (c.write_error.ensures.call terms))

pub prove-unreachable-requires : goal.prove-unreachable-requires
prove-unreachable-requires g c =
    something-kept c.pending.result c.is_none.result c.is_none.ensures c.if-prove.true
    (c.pending.ensures.kept ∙ is-first Device.GetStt c.args.by.regs c.args.machine.now.files.io c.args.by.p.0 refl (λ same. cc) c.pending.ensures.sound
    (subst (λ (call : PathUse). IsAgain (device_of call) c.args.by.regs c.args.machine.now.files.io c.args.by.p.0) c.in-GetStt.is c.requires.again.again))
