use Rattle.std.proofs.Common.{◌≡◌, ◌∙◌, length, vec_len, refl, ap, sym, subst}
use Rattle.os9_base.specs.declared.registers.Regs.{Regs}
use Rattle.proc_model.specs.Processes.{cells_at, regs_at}
use Rattle.io_model.specs.Modes.{can_write}
use Rattle.io_model.specs.declared.io_call.IoCall.TheVariants as IoCall
use Rattle.io_state.proofs.RequesterLemmas.{called-regs}
use Rattle.file_rules.specs.Attempts.{asker_of}
use Rattle.file_rules.specs.Create.{creates_on_device, i_create}
use Rattle.file_rules.specs.Open.{is_for_execution}
use Rattle.file_rules.specs.Step.{refused}
use Rattle.file_rules.specs.declared.path_call.PathCall.TheVariants as Call
use Rattle.file_routes.specs.Routes.{NamesOn, mode_refusal}
use Rattle.file_routes.specs.declared.route.Course.{Course}
use Rattle.file_routes.specs.declared.route.Course.TheVariants.{Along, Device}
use Rattle.name_calls.proofs.OpenCallLemmas.{create-calls}
use Rattle.name_calls.proofs.DeviceLemmas.{as-many, device-ends, views-many}
use Rattle.name_calls.proofs.OpenEndLemmas.{attempts-by, refused-at_once}
use Rattle.name_calls.proofs.CreateLemmas.{creates-refused, creates-routed, new-proper}
use Rattle.name_calls.specs.OpenCalls.{i_create_calls}
use Rattle.name_calls.specs.Steps.{creates_along}
use Rattle.name_calls.proofs.create.i_create.Goals as goal

pub returns-in-Err-clause-call : goal.returns-in-Err-clause-call
returns-in-Err-clause-call g c terms many m was tied stands kinds =
    let now = c.args.by.time in
    let p = c.args.by.p.0 in
    let asker = asker_of m p now in
    let count = vec_len c.args.devices.now.terms in
    let number = c.in-Err.number in
    let same = called-regs c.args.by c.args.machine.now.processes m c.requires.calls.calls tied in
    let refusal_is : c.mode_refusal-refusal.result ≡ mode_refusal (can_write (regs_at m p).a) =
    c.mode_refusal-refusal.ensures ∙ ap mode_refusal (c.can_write.ensures ∙ ap (λ (r : Regs). can_write r.a) same) in
    let execute_is : c.is_for_execution-execute.result ≡ is_for_execution (regs_at m p).a = c.is_for_execution-execute.ensures ∙ ap (λ (r : Regs). is_for_execution r.a) same in
    attempts-by _ Call.Create m was now p c.refuse.result terms _ _ (refused number) _
    (ap (i_create asker was) many ∙ creates-refused asker was count c.mode_refusal-refusal.result
    c.is_for_execution-execute.result refusal_is execute_is
    number (c.in-Err.ensures.route m was now tied stands)) refl
    (refused-at_once m p c.args.machine.now.files _ c.refuse.result c.find_route.new.s c.refuse.new.io c.refuse.ensures.io
    number c.refuse.ensures.end (c.find_route.ensures.same.represents m tied) was now terms _ (refused number) refl
    stands)

pub returns-in-Device-clause-call : goal.returns-in-Device-clause-call
returns-in-Device-clause-call g c terms many m was tied stands kinds =
    let now = c.args.by.time in
    let p = c.args.by.p.0 in
    let asker = asker_of m p now in
    let count = vec_len c.args.devices.now.terms in
    let same = called-regs c.args.by c.args.machine.now.processes m c.requires.calls.calls tied in
    let refusal_is : c.mode_refusal-refusal.result ≡ mode_refusal (can_write (regs_at m p).a) =
    c.mode_refusal-refusal.ensures ∙ ap mode_refusal (c.can_write.ensures ∙ ap (λ (r : Regs). can_write r.a) same) in
    let execute_is : c.is_for_execution-execute.result ≡ is_for_execution (regs_at m p).a = c.is_for_execution-execute.ensures ∙ ap (λ (r : Regs). is_for_execution r.a) same in
    let route = c.in-Ok.ensures.route m was now tied stands in
    attempts-by _ Call.Create m was now p c.i_create.result terms _ _ (creates_on_device asker was (length terms)) _
    (ap (i_create asker was) many ∙ creates-routed asker was count c.mode_refusal-refusal.result
    c.is_for_execution-execute.result refusal_is execute_is
    (cells_at m p) c.in-Ok.route Device route c.in-Device.is ∙ sym (ap (creates_on_device asker was) many)) refl
    (device-ends _ IoCall.Create m was now p c.args.machine.now.files _ (vec_len c.args.devices.now.drives) c.i_create.result c.i_create.new.s c.i_create.new.io _ terms stands c.cancel.ensures
    (as-many c.args.machine.now.files _ was stands ∙ views-many (λ box. (g.dyn-1.0.entry box.vtable).1) c.args.devices.now.drives.items ∙ sym c.args.devices.now.drives.ok.0)
    (c.i_create.ensures.call m terms (c.find_route.ensures.same.represents m tied) many))

pub returns-in-Along-clause-call : goal.returns-in-Along-clause-call
returns-in-Along-clause-call g c terms many m was tied stands kinds =
    let now = c.args.by.time in
    let p = c.args.by.p.0 in
    let asker = asker_of m p now in
    let count = vec_len c.args.devices.now.terms in
    let same = called-regs c.args.by c.args.machine.now.processes m c.requires.calls.calls tied in
    let start = c.in-Along.start in
    let refusal_is : c.mode_refusal-refusal.result ≡ mode_refusal (can_write (regs_at m p).a) =
    c.mode_refusal-refusal.ensures ∙ ap mode_refusal (c.can_write.ensures ∙ ap (λ (r : Regs). can_write r.a) same) in
    let execute_is : c.is_for_execution-execute.result ≡ is_for_execution (regs_at m p).a = c.is_for_execution-execute.ensures ∙ ap (λ (r : Regs). is_for_execution r.a) same in
    let route = c.in-Ok.ensures.route m was now tied stands in
    attempts-by _ Call.Create m was now p c.create_along.result terms _ _ (creates_along asker was route.list start.directory) _
    (ap (i_create asker was) many ∙ creates-routed asker was count c.mode_refusal-refusal.result
    c.is_for_execution-execute.result refusal_is execute_is
    (cells_at m p) c.in-Ok.route (Along start) route c.in-Along.is)
    (create-calls (cells_at m p) asker was count c.mode_refusal-refusal.result
    c.is_for_execution-execute.result execute_is c.in-Ok.route start route c.in-Along.is ∙ sym (ap (i_create_calls asker was) many))
    (c.create_along.ensures.creates m was route.list (c.find_route.ensures.same.represents m tied) stands
    (subst (λ (course : Course). NamesOn (cells_at m p) course route.list.names) c.in-Along.is route.route_is.names) (sym route.route_is.next_is)
    (new-proper asker was count c.mode_refusal-refusal.result c.is_for_execution-execute.result route.list _ route.read route.comes_to) terms)
