use Rattle.std.proofs.Common.{◌≡◌, None, subst}
use Rattle.os9_base.specs.declared.registers.Regs.{Regs}
use Rattle.proc_model.specs.Processes.{regs_at}
use Rattle.io_model.specs.Attempts.{caller_of}
use Rattle.io_state.proofs.RequesterLemmas.{called-regs}
use Rattle.file_rules.specs.Files.{open_file}
use Rattle.file_rules.specs.Seek.{seeks_nothing}
use Rattle.file_rules.specs.declared.path_call.PathCall.TheVariants as Call
use Rattle.call_dispatch.proofs.Lifting.{lifts-quiet, uncalled-in}
use Rattle.call_dispatch.proofs.OnPaths.{seeks-on-device, seeks-quiet}
use Rattle.call_dispatch.proofs.path.seek_path.Goals as goal

pub returns-in-Some-clause-call : goal.returns-in-Some-clause-call
returns-in-Some-clause-call c now views terms m was tied stands kinds = c.seek.ensures.call now views terms m was tied stands kinds

pub returns-in-None-clause-call : goal.returns-in-None-clause-call
returns-in-None-clause-call c now views terms m was tied stands kinds =
    let p = c.args.by.p.0 in
    let same : c.args.by.regs ≡ regs_at m p = called-regs c.args.by c.args.machine.now.processes m c.requires.calls.calls tied in
    let none : open_file was p (regs_at m p).a ≡ None = subst (λ (r : Regs). open_file was p r.a ≡ None) same (c.in-None.ensures.file views was stands kinds) in
    uncalled-in Call.Seek m was now p c.seek_nothing.result c.seek_nothing.new.s 0 (seeks_nothing (caller_of m p)
    was.io) c.args.machine.now.processes c.args.machine.now.files _ views terms terms (seeks-on-device m was now p terms none)
    (lifts-quiet Call.Seek m was now p c.seek_nothing.result c.seek_nothing.new.s c.args.machine.now.files
    c.seek_nothing.new.io c.cancel.new.self views terms (λ io. seeks_nothing (caller_of m p) io) stands
    c.cancel.ensures (seeks-on-device m was now p terms none) (seeks-quiet (caller_of m p) was.io)
    (c.seek_nothing.ensures.call m tied))
