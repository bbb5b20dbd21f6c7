use Rattle.std.proofs.Common.{◌∙◌, ap, refl, sym, subst, true, vec_len}
use Rattle.std.proofs.lemmas.List.{length-map}
use Rattle.file_rules.specs.Attempts.{asker_of}
use Rattle.file_routes.specs.Walks.{SomeFrom}
use Rattle.guest_memory.specs.Tie.{cells_of}
use Rattle.os9_base.specs.Cells.{Cells}
use Rattle.os9_base.specs.declared.errors.TheConstants.{E_FNA}
use Rattle.os9_base.specs.declared.registers.Regs.{Regs}
use Rattle.proc_model.specs.Processes.{cells_at}
use Rattle.io_state.proofs.RequesterLemmas.{called-regs}
use Rattle.load_calls.proofs.TieLemmas.{same-processes}
use Rattle.load_calls.proofs.RouteLemmas.{as-many, program-along, program-nowhere, program-refused, route-along, route-device, route-names}
use Rattle.load_calls.proofs.reading.read_program.Goals as goal

pub read_along-requires-clause-names : goal.read_along-requires-clause-names
read_along-requires-clause-names g c =
    subst (λ (cells : Cells). SomeFrom cells c.in-Along.start.first) (sym (c.call_route.ensures.same.memory.cells c.args.by.p.0))
    (route-names (cells_of c.args.machine.now.processes.memory c.args.by.p.0) c.in-Ok.route.course c.in-Along.start c.in-Along.is c.in-Ok.ensures.names)

pub returns-in-Err-clause-call : goal.returns-in-Err-clause-call
returns-in-Err-clause-call g c m was now tied stands =
    let asker = asker_of m c.args.by.p.0 now in
    let terms = vec_len c.args.devices.now.terms in
    program-nowhere asker was terms c.args.refusal c.args.machine.now.files _ c.in-Err.number _ stands
    (program-refused asker was terms c.args.refusal c.in-Err.number
    (c.in-Err.ensures.route m now was true _ tied (record {
      cells_are = refl;
      at_is = ap (λ (regs : Regs). regs.x) (sym (called-regs c.args.by c.args.machine.now.processes m c.requires.calls tied));
      directory_is = sym (c.directory.ensures.directory _ was stands);
      mounted = stands.mounted;
      as_many = as-many c.args.machine.now.files _ was stands ∙ length-map _ _ ∙ sym c.args.devices.now.drives.ok.0;
    })))

pub returns-in-Device-clause-call : goal.returns-in-Device-clause-call
returns-in-Device-clause-call g c m was now tied stands =
    let asker = asker_of m c.args.by.p.0 now in
    let terms = vec_len c.args.devices.now.terms in
    program-nowhere asker was terms c.args.refusal c.args.machine.now.files _ E_FNA _ stands
    (route-device (cells_at m c.args.by.p.0) asker was terms c.args.refusal c.in-Ok.route
    (c.in-Ok.ensures.route m now was true _ tied (record {
      cells_are = refl;
      at_is = ap (λ (regs : Regs). regs.x) (sym (called-regs c.args.by c.args.machine.now.processes m c.requires.calls tied));
      directory_is = sym (c.directory.ensures.directory _ was stands);
      mounted = stands.mounted;
      as_many = as-many c.args.machine.now.files _ was stands ∙ length-map _ _ ∙ sym c.args.devices.now.drives.ok.0;
    })) c.in-Device.is)

pub returns-in-Along-clause-call : goal.returns-in-Along-clause-call
returns-in-Along-clause-call g c m was now tied stands =
    let asker = asker_of m c.args.by.p.0 now in
    let terms = vec_len c.args.devices.now.terms in
    let it =
    c.in-Ok.ensures.route m now was true _ tied (record {
      cells_are = refl;
      at_is = ap (λ (regs : Regs). regs.x) (sym (called-regs c.args.by c.args.machine.now.processes m c.requires.calls tied));
      directory_is = sym (c.directory.ensures.directory _ was stands);
      mounted = stands.mounted;
      as_many = as-many c.args.machine.now.files _ was stands ∙ length-map _ _ ∙ sym c.args.devices.now.drives.ok.0;
    })
    in
    let led = route-along (cells_at m c.args.by.p.0) asker _ c.in-Ok.route c.in-Along.start it c.in-Along.is in
    program-along asker was terms c.args.refusal it.list c.in-Along.start.directory c.read_along.result c.read_along.new.machine.processes.buffer.items c.read_along.new.machine.files _ _ it.read
    led.0
    (c.read_along.ensures.along m was now it.list (c.call_route.ensures.same.represents m tied) stands led.1 it.route_is.next_is)

pub returns-in-Along-clause-same : goal.returns-in-Along-clause-same
returns-in-Along-clause-same g c =
    same-processes c.args.machine.now.processes c.call_route.new.s c.read_along.new.machine.processes c.call_route.ensures.same c.read_along.ensures.same
