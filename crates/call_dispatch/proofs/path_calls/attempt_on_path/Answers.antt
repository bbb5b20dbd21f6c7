use Rattle.std.proofs.Common.{◌∙◌, sym}
use Rattle.std.proofs.lemmas.List.{length-map}
use Rattle.call_dispatch.proofs.Lifting.{tries-of}
use Rattle.call_dispatch.proofs.OnCalls.{call-is, call-tries, may-as, time-for}
use Rattle.call_dispatch.specs.Calls.{list_call}
use Rattle.call_dispatch.specs.Numbers.{number_call}
use Rattle.call_dispatch.specs.declared.path_calls.CallKind.TheVariants as Kind
use Rattle.call_dispatch.proofs.path_calls.attempt_on_path.Goals as goal

pub attempt_on_number-requires-clause-may : goal.attempt_on_number-requires-clause-may
attempt_on_number-requires-clause-may g c =
    may-as c.args.call (number_call c.in-Number.number) c.args.machine.now.processes c.args.machine.now.files c.args.by.p.0 _
    (call-is c.kind_of.result (Kind.Number c.in-Number.number) c.args.call c.in-Number.is c.kind_of.ensures)
    c.requires.may

pub returns-in-Number-clause-call : goal.returns-in-Number-clause-call
returns-in-Number-clause-call g c time is =
    call-tries c.args.call (number_call c.in-Number.number) time c.args.by.p.0
    (call-is c.kind_of.result (Kind.Number c.in-Number.number) c.args.call c.in-Number.is c.kind_of.ensures)
    c.attempt_on_number.result _ _ _ _ (c.attempt_on_number.ensures.call time
    (time-for c.args.call (number_call c.in-Number.number) c.args.by.time time
    (call-is c.kind_of.result (Kind.Number c.in-Number.number) c.args.call c.in-Number.is c.kind_of.ensures) is))

pub returns-in-List-clause-call : goal.returns-in-List-clause-call
returns-in-List-clause-call g c time is =
    rw c.attempt_on_list.ensures.kept.terms
    (call-tries c.args.call (list_call c.in-List.list) time c.args.by.p.0
    (call-is c.kind_of.result (Kind.List c.in-List.list) c.args.call c.in-List.is c.kind_of.ensures)
    c.attempt_on_list.result _ _ _ _
    (λ m was tied stands kinds. tries-of (list_call c.in-List.list) m was time c.args.by.p.0 c.attempt_on_list.result _ _ _ _
    (c.attempt_on_list.ensures.call time _ (time-for c.args.call (list_call c.in-List.list) c.args.by.time time
    (call-is c.kind_of.result (Kind.List c.in-List.list) c.args.call c.in-List.is c.kind_of.ensures) is)
    (length-map _ _ ∙ sym c.args.devices.now.terms.ok.0) m was tied stands kinds)))
