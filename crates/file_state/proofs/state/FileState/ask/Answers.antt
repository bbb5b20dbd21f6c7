use Rattle.std.proofs.Common.{subst, sym}
use Rattle.file_state.proofs.AskingLemmas.{is-granted}
use Rattle.file_state.specs.Asking.{MayBeGranted}
use Rattle.file_state.specs.declared.state.FileState.{FileState}
use Rattle.file_state.proofs.state.FileState.ask.Goals as goal

pub returns-in-Granted-clause-granted : goal.returns-in-Granted-clause-granted
returns-in-Granted-clause-granted c none =
    subst (λ (state : FileState). MayBeGranted state.records.locks c.args.request.lock) (sym c.in-Granted.ensures.state)
    (is-granted c.args.self.now.records.locks c.args.p.0 c.args.tick c.args.request c.requires.request.owner (sym c.in-Granted.ensures.answer))
