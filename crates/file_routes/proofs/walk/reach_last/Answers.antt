use Rattle.std.proofs.Common.{◌≡◌, ◌∙◌, Result, Ok, Err, IfOk, refl, sym, ap, subst, arith}
use Rattle.guest_memory.specs.Tie.{cells_of}
use Rattle.os9_base.specs.Cells.{Cells}
use Rattle.device_paths.specs.Standing.{NamesStand}
use Rattle.device_paths.proofs.NamesLemmas.{same-memory, same-still}
use Rattle.rbf_walk.specs.declared.error.DirError.{DirError}
use Rattle.file_routes.specs.Walks.{StepsToLaterName}
use Rattle.file_routes.specs.declared.walk.Stepped.{Stepped}
use Rattle.file_routes.specs.declared.walk.Stepped.TheVariants.{Last, Onward}
use Rattle.file_routes.proofs.WalkLemmas.{steps-of, there-first, there-onward, walk-ended, walk-onward, walk-stopped, walked-first}
use Rattle.file_routes.proofs.walk.reach_last.Goals as goal

pub names-init : goal.names-init
names-init g c = record {
  walked = λ names stand. walked-first (cells_of c.args.memory.now c.args.walker.process.0) c.args.walker c.args.first.directory names c.args.first.at c.args.disks.now _ stand;
  there = there-first c.args.first.directory c.args.disks.now _ c.requires.file;
  within = omega arith;
  same = same-memory c.args.memory.now;
  terms = refl;
}

pub step-requires-clause-names : goal.step-requires-clause-names
step-requires-clause-names g c =
    let so_far = c.names.invariant.walked c.requires.names.names c.requires.names.stand in
    record {
      names = so_far.rest;
      stand = subst (λ (cells : Cells). NamesStand cells c.names.place.at so_far.rest) (sym (c.names.invariant.same.cells c.args.walker.process.0)) so_far.stand;
    }

pub step-requires-clause-file : goal.step-requires-clause-file
step-requires-clause-file g c = c.names.invariant.there.has

pub returns-in-Err-clause-reaches : goal.returns-in-Err-clause-reaches
returns-in-Err-clause-reaches g c names stand =
    let cells : Cells = cells_of c.args.memory.now c.args.walker.process.0 in
    let so_far = c.names.invariant.walked names stand in
    walk-stopped cells c.args.walker c.args.first.directory c.names.place.directory names c.names.place.at c.args.disks.now _ c.names.disks _ c.step.new.disks _ c.names.invariant.there so_far
    c.in-Err.error
    (steps-of (cells_of c.names.memory c.args.walker.process.0) cells c.args.walker c.names.place.directory c.names.place.at
    c.step.result (Err c.in-Err.error) c.names.disks _ c.step.new.disks _ (c.names.invariant.same.cells
    c.args.walker.process.0) c.in-Err.is c.step.ensures.steps so_far.rest so_far.stand)

pub returns-in-Err-clause-same : goal.returns-in-Err-clause-same
returns-in-Err-clause-same g c =
    same-still c.args.memory.now c.names.memory c.step.new.memory c.names.invariant.same c.step.ensures.same

pub returns-in-Ok-Last-clause-reaches : goal.returns-in-Ok-Last-clause-reaches
returns-in-Ok-Last-clause-reaches g c names stand =
    let cells : Cells = cells_of c.args.memory.now c.args.walker.process.0 in
    let is : c.step.result ≡ Ok Last =
    c.in-Ok-Last.is ∙ ap (λ (stepped : Stepped). let found : Result Stepped DirError = Ok stepped in found) c.in-Ok-Last.field-0-is
    in
    let so_far = c.names.invariant.walked names stand in
    walk-ended cells c.args.walker c.args.first.directory c.names.place.directory names c.names.place.at c.args.disks.now _ c.names.disks _ c.step.new.disks _ c.names.invariant.there so_far
    (steps-of (cells_of c.names.memory c.args.walker.process.0) cells c.args.walker c.names.place.directory c.names.place.at
    c.step.result (Ok Last) c.names.disks _ c.step.new.disks _ (c.names.invariant.same.cells
    c.args.walker.process.0) is c.step.ensures.steps so_far.rest so_far.stand)

pub returns-in-Ok-Last-clause-same : goal.returns-in-Ok-Last-clause-same
returns-in-Ok-Last-clause-same g c =
    same-still c.args.memory.now c.names.memory c.step.new.memory c.names.invariant.same c.step.ensures.same

pub names-preserved : goal.names-preserved
names-preserved g c =
    let cells : Cells = cells_of c.args.memory.now c.args.walker.process.0 in
    let is : c.step.result ≡ Ok (Onward c.in-Ok-Onward.next) =
    c.in-Ok-Onward.is ∙ ap (λ (stepped : Stepped). let found : Result Stepped DirError = Ok stepped in found) c.in-Ok-Onward.field-0-is
    in
    let up = subst (λ (result : Result Stepped DirError). IfOk result (StepsToLaterName c.names.place.at)) is c.step.ensures.up in
    let first = c.names.invariant.walked c.requires.names.names c.requires.names.stand in
    let steps = steps-of (cells_of c.names.memory c.args.walker.process.0) cells c.args.walker c.names.place.directory
    c.names.place.at c.step.result (Ok (Onward c.in-Ok-Onward.next)) c.names.disks _
    c.step.new.disks _ (c.names.invariant.same.cells c.args.walker.process.0) is c.step.ensures.steps in
    record {
      walked = λ names stand.
          let so_far = c.names.invariant.walked names stand in
          walk-onward cells c.args.walker c.args.first.directory c.names.place.directory names c.names.place.at c.args.disks.now _
          c.names.disks _ c.step.new.disks _ c.names.invariant.there so_far c.in-Ok-Onward.next (steps so_far.rest so_far.stand);
      there =
          there-onward cells c.args.walker c.args.first.directory c.names.place.directory c.requires.names.names c.names.place.at
          c.args.disks.now _ c.names.disks _ c.step.new.disks _ c.names.invariant.there first c.in-Ok-Onward.next (steps first.rest first.stand);
      within = up.1;
      same = same-still c.args.memory.now c.names.memory c.step.new.memory c.names.invariant.same c.step.ensures.same;
      terms = c.step.ensures.terms_kept ∙ c.names.invariant.terms;
    }
