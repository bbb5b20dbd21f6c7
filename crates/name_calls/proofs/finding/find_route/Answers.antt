use Rattle.std.proofs.Common.{◌≡◌, ◌∙◌, IfOk, length, refl, ap, sym, subst, arith}
use Rattle.std.proofs.lemmas.List.{length-map}
use Rattle.os9_base.specs.Cells.{Cells}
use Rattle.os9_base.specs.declared.registers.Regs.{Regs}
use Rattle.io_state.proofs.RequesterLemmas.{called-regs}
use Rattle.file_routes.specs.Routes.{HasCourseNames}
use Rattle.name_calls.proofs.DeviceLemmas.{as-many}
use Rattle.name_calls.proofs.finding.find_route.Goals as goal

pub returns-clause-route : goal.returns-clause-route
returns-clause-route g c m was now tied stands =
    let many : length was.drives ≡ length c.args.devices.now.drives.items = as-many c.args.files.now _ was stands ∙ length-map _ _ in
    c.call_route.ensures.route m now was c.args.search.lookup.execute _ tied (record {
      cells_are = refl;
      at_is = ap (λ (regs : Regs). regs.x) (sym (called-regs c.args.by c.args.s.now m c.requires.calls tied));
      directory_is = sym (c.directory.ensures.directory _ was stands);
      mounted = stands.mounted;
      as_many = omega (arith, many, c.args.devices.now.drives.ok.0);
    })

pub returns-clause-names : goal.returns-clause-names
returns-clause-names g c =
    subst (λ (cells : Cells). IfOk c.call_route.result (λ route. HasCourseNames cells route.course)) (sym (c.call_route.ensures.same.memory.cells c.args.by.p.0)) c.call_route.ensures.names

pub returns-clause-start : goal.returns-clause-start
returns-clause-start g c =
    let sound = c.requires.sound in
    c.call_route.ensures.start _ sound.files.volumes sound.stands.mounted (c.directory.ensures.there _ sound.files sound.stands sound.kinds)
