use Rattle.std.proofs.Common.{◌≡◌, ◌∙◌, Result, Ok, Err, ap, subst, arith}
use Rattle.guest_memory.specs.Tie.{cells_of}
use Rattle.io_model.specs.PathList.{names_at}
use Rattle.os9_base.specs.Cells.{Cells}
use Rattle.device_paths.specs.Tail.{tail_of, HasLaterName}
use Rattle.device_paths.specs.declared.names.Step.{Step}
use Rattle.device_paths.specs.declared.names.Step.TheVariants.{Another, Last}
use Rattle.os9_base.specs.declared.name_fault.NameFault.{NameFault}
use Rattle.device_paths.proofs.NamesLemmas.{no-names_yet, of-same, next-name, names-end, same-still, same-memory}
use Rattle.device_paths.proofs.names.read_tail.Goals as goal

pub names-init : goal.names-init
names-init c = record {
  names = λ left enough. no-names_yet (cells_of c.args.memory.now c.args.p.0) c.args.start left enough;
  within = omega (arith, c.ranges.start.fits);
  same = same-memory c.args.memory.now;
}

pub returns-in-Err-clause-tail : goal.returns-in-Err-clause-tail
returns-in-Err-clause-tail c left enough =
    let cells : Cells = cells_of c.args.memory.now c.args.p.0 in
    names-end cells (tail_of (names_at cells c.args.start left)) (Err c.in-Err.fault) c.names.at (c.names.invariant.names left enough) c.names.invariant.within
    (of-same (cells_of c.names.memory c.args.p.0) cells c.names.at c.read_step.result (Err c.in-Err.fault) (c.names.invariant.same.cells c.args.p.0) c.read_step.ensures.step c.in-Err.is)

pub returns-in-Err-clause-same : goal.returns-in-Err-clause-same
returns-in-Err-clause-same c =
    same-still c.args.memory.now c.names.memory c.read_step.new.memory c.names.invariant.same c.read_step.ensures.same

pub returns-in-Ok-Last-clause-tail : goal.returns-in-Ok-Last-clause-tail
returns-in-Ok-Last-clause-tail c left enough =
    let cells : Cells = cells_of c.args.memory.now c.args.p.0 in
    names-end cells (tail_of (names_at cells c.args.start left)) (Ok c.in-Ok-Last.tail) c.names.at (c.names.invariant.names left enough) c.names.invariant.within
    (of-same (cells_of c.names.memory c.args.p.0) cells c.names.at c.read_step.result (Ok (Last c.in-Ok-Last.tail)) (c.names.invariant.same.cells c.args.p.0) c.read_step.ensures.step
    (c.in-Ok-Last.is ∙ ap (λ (step : Step). let found : Result Step NameFault = Ok step in found) c.in-Ok-Last.field-0-is))

pub returns-in-Ok-Last-clause-same : goal.returns-in-Ok-Last-clause-same
returns-in-Ok-Last-clause-same c =
    same-still c.args.memory.now c.names.memory c.read_step.new.memory c.names.invariant.same c.read_step.ensures.same

pub names-preserved : goal.names-preserved
names-preserved c =
    let cells : Cells = cells_of c.args.memory.now c.args.p.0 in
    let is : c.read_step.result ≡ Ok (Another c.in-Ok-Another.next) =
    c.in-Ok-Another.is ∙ ap (λ (step : Step). let found : Result Step NameFault = Ok step in found) c.in-Ok-Another.field-0-is
    in
    let up = subst (λ (result : Result Step NameFault). HasLaterName c.names.at result) is c.read_step.ensures.up in
    record {
      names =
          λ left enough. next-name cells (tail_of (names_at cells c.args.start left)) c.names.at c.in-Ok-Another.next (c.names.invariant.names left enough) c.names.invariant.within
          (of-same (cells_of c.names.memory c.args.p.0) cells c.names.at c.read_step.result (Ok (Another c.in-Ok-Another.next)) (c.names.invariant.same.cells c.args.p.0) c.read_step.ensures.step is)
          up.0;
      within = up.1;
      same =
          same-still c.args.memory.now c.names.memory c.read_step.new.memory c.names.invariant.same c.read_step.ensures.same;
    }
