use Rattle.std.proofs.Common.{◌∙◌, ap, sym}
use Rattle.lock_model.specs.Locks.{Locks, request_of}
use Rattle.file_state.proofs.AskingLemmas.{kept-own}
use Rattle.file_state.proofs.state.FileState.request_now.Goals as goal

pub returns-in-Some-clause-own : goal.returns-in-Some-clause-own
returns-in-Some-clause-own c =
    kept-own c.args.self.now.io c.args.self.now.records.locks c.args.p c.args.opened.now c.in-Some.request c.pending.ensures.sound
    c.requires.may (sym (c.in-Some.ensures.request ∙ ap (λ (locks : Locks). request_of locks c.args.p.0) c.locks-2.ensures.locks))
