use Rattle.io_model.specs.declared.terminal.ReadKind.{ReadKind}
use Rattle.io_model.specs.Attempts.{caller_of}
use Rattle.io_model.specs.Read as model
use Rattle.io_model.specs.declared.io_call.IoCall.TheVariants as Call
use Rattle.device_io.proofs.StepLemmas.{read_step-bytes}
use Rattle.device_io.proofs.TryingLemmas.{attempts-of, tries-same, wants-of}
use Rattle.device_io.specs.Moving.{read_step}
use Rattle.device_io.proofs.stream_reads.i_read.Goals as goal

pub returns-clause-call : goal.returns-clause-call
returns-clause-call g c drives m tied differ =
    let p = c.args.by.p.0 in
    let caller = caller_of m p in
    attempts-of Call.Read m c.args.io.now drives p c.read.new.s c.read.new.io _ _ c.read.result differ
    (tries-same m c.args.io.now p c.read.result c.read.new.s c.read.new.io _ _ (read_step ReadKind.Bytes caller c.args.io.now) (model.i_read caller c.args.io.now)
    (read_step-bytes caller c.args.io.now)
    (c.read.ensures.call m tied))

pub returns-clause-memory : goal.returns-clause-memory
returns-clause-memory g c drives m tied wants =
    let p = c.args.by.p.0 in
    let caller = caller_of m p in
    wants-of m c.args.io.now p c.read.result c.read.new.s c.read.new.io _ _ (model.i_read caller c.args.io.now) wants
    (tries-same m c.args.io.now p c.read.result c.read.new.s c.read.new.io _ _ (read_step ReadKind.Bytes caller c.args.io.now) (model.i_read caller c.args.io.now)
    (read_step-bytes caller c.args.io.now)
    (c.read.ensures.call m tied))
