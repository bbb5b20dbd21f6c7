use Rattle.std.proofs.Common.{◌≡◌, false, Option, Some, None, is_some, refl, sym, ap, ◌∙◌, subst}
use Rattle.std.specs.Prelude.{is_none, if◌then◌else◌}
use Rattle.std.proofs.lemmas.Bool.{false≢true}
use Rattle.os9_base.specs.declared.registers.Pid.{Pid}
use Rattle.lock_model.specs.Laws.{MayHold}
use Rattle.lock_model.specs.Locks.{Locks, request_of, with_request}
use Rattle.lock_model.specs.Waits.{first_answer, later_answer}
use Rattle.lock_model.specs.Records.{Records}
use Rattle.lock_model.specs.declared.lock.Grant.TheVariants.{Granted}
use Rattle.lock_model.specs.declared.lock.Request.{Request}
use Rattle.file_state.proofs.AskingLemmas.{granted-holds, is-granted}
use Rattle.worked_rows.proofs.tests.records.ask.Goals as goal

none-of : (place : Option Request) → is_some place ≡ false → place ≡ None
none-of None is = refl
none-of (Some request) is = absurd (false≢true (sym is))

-- a request that was granted may be held
may-take : (locks : Locks) (asked : Request) → request_of locks asked.lock.owner.0 ≡ None → first_answer locks asked ≡ Granted
    → MayHold (with_request locks asked.lock.owner.0 None) asked.lock
may-take locks asked none is =
    granted-holds (with_request locks asked.lock.owner.0 None) asked.lock
    (is-granted locks asked.lock.owner.0 0 asked refl
    (ap (λ (place : Option Request). if is_none place then first_answer locks asked else later_answer locks 0 asked) none ∙ is))

pub hold-requires-clause-may : goal.hold-requires-clause-may
hold-requires-clause-may c =
    let locks : Locks = c.args.records.now.locks in
    let asked : Request = c.request-asked.result in
    let none : request_of locks asked.lock.owner.0 ≡ None =
    ap (λ (p : Pid). request_of locks p.0) c.request-asked.ensures.owner
    ∙ ap (λ (locks : Locks). request_of locks c.args.owner.0) (sym c.locks.ensures.locks)
    ∙ sym c.request_of.ensures.request ∙ none-of c.request_of.result (sym c.if-is_some.ensures) in
    subst (λ (locks : Locks). MayHold locks asked.lock) (sym (ap (λ (records : Records). records.locks) c.in-Granted.ensures.records))
    (may-take locks asked none (sym c.in-Granted.ensures.answer))
