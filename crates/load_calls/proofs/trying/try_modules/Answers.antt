use Rattle.std.proofs.Common.{◌∙◌, ◌+◌, ◌<◌, ℕ, false, slice_set, None, Option, Some, Err, sym, subst, arith}
use Rattle.std.proofs.lemmas.List.{length-replicate, length-set, get_or-set_other}
use Rattle.proc_model.proofs.LoadingLemmas.{LiesIn-step}
use Rattle.proc_model.specs.Loading.{EntersModules, at_end}
use Rattle.proc_model.specs.declared.module.ModuleInfo.{ModuleInfo}
use Rattle.load_calls.proofs.TryingLemmas.{Progress, broken-next, count-few, entered-next, free-tried, progress-none, refused-next}
use Rattle.load_calls.proofs.trying.try_modules.Goals as goal
use Rattle.load_calls.proofs.trying.try_modules.Goals.{In-None}

-- there is a place for the module that was tried
few : (c : In-None) → c.loop-fault.count < 64
few c =
    count-few c.args.dir.now c.loop-fault.tried c.loop-fault.count c.in-Module.info c.in-None.ensures.places (sym c.in-None.ensures.refusal)

pub loop-fault-init : goal.loop-fault-init
loop-fault-init c = record {
  within = omega arith;
  size = length-replicate 64 (let none : Option ModuleInfo = None in none);
  free = λ n low. free-tried 64 n;
  progress = λ entries group alike. progress-none c.args.file.now group c.args.dir.now entries 64 alike;
}

pub returns-in-End : goal.returns-in-End
returns-in-End c = record {
  tried = λ entries group alike.
      let p = c.loop-fault.invariant.progress entries group alike in (p.modules, p.goes_on _ (at_end (sym c.in-End.ensures.step)));
}

pub returns-in-Fault : goal.returns-in-Fault
returns-in-Fault c = record {
  tried = λ entries group alike.
      let p = c.loop-fault.invariant.progress entries group alike in (
        c.in-Fault.field-0,
        subst (λ (number : ℕ). EntersModules c.args.file.now group false 0 entries (Err (c.in-Fault.field-0, number))) (sym c.module_error.ensures)
            (broken-next c.args.file.now group c.args.dir.now entries c.loop-fault.tried c.loop-fault.count c.loop-fault.from p c.in-Fault.field-0 c.in-Fault.fault (sym c.in-Fault.ensures.step)),
      );
}

pub returns-in-Some : goal.returns-in-Some
returns-in-Some c = record {
  tried = λ entries group alike.
      let p = c.loop-fault.invariant.progress entries group alike in (
        c.in-Module.info.at,
        refused-next c.args.file.now group c.args.dir.now entries c.loop-fault.tried c.loop-fault.count
            c.loop-fault.from p c.in-Module.info c.in-Some.number (sym c.in-Module.ensures.step)
            (sym c.in-Some.ensures.refusal),
      );
}

pub offset_bounds-tried-count : goal.offset_bounds-tried-count
offset_bounds-tried-count c = let low = few c in omega (arith, low)

pub listed : goal.listed
listed c = let low = few (goal.at.listed c).In-None in omega (arith, low, c.loop-fault.invariant.size)

pub bounds-tried-count : goal.bounds-tried-count
bounds-tried-count c = few (goal.at.bounds-tried-count c).In-None

pub overflow_add-count : goal.overflow_add-count
overflow_add-count c = let low = few (goal.at.overflow_add-count c).In-None in omega (arith, low)

pub loop-fault-smaller : goal.loop-fault-smaller
loop-fault-smaller c =
    let lies = LiesIn-step c.args.file.now c.loop-fault.from c.in-Module.info (sym c.in-Module.ensures.step) in
    omega (arith, lies.from_there, lies.sized, lies.in_file, c.from.ensures)

pub loop-fault-preserved : goal.loop-fault-preserved
loop-fault-preserved c =
    let low = few (goal.at.loop-fault-preserved c).In-None in
    let lies = LiesIn-step c.args.file.now c.loop-fault.from c.in-Module.info (sym c.in-Module.ensures.step) in
    let tried = c.loop-fault.tried in
    let count = c.loop-fault.count in
    record {
      within = omega (arith, lies.in_file, c.from.ensures);
      size = length-set tried count (Some c.in-Module.info) ∙ c.loop-fault.invariant.size;
      free = λ n above. get_or-set_other tried count n (Some c.in-Module.info) None (λ same. omega (arith, same, above)) ∙ c.loop-fault.invariant.free n (omega (arith, above));
      progress = λ entries group alike.
          let p = c.loop-fault.invariant.progress entries group alike in
          subst (λ (size : ℕ). Progress c.args.file.now group c.args.dir.now entries (slice_set tried count (Some c.in-Module.info)) (count + 1) (c.in-Module.info.at + size)) (sym c.from.ensures)
          (entered-next c.args.file.now group c.args.dir.now entries tried count c.loop-fault.from p c.in-Module.info
          (sym c.in-Module.ensures.step) (sym c.in-None.ensures.refusal)
          (omega (arith, low, c.loop-fault.invariant.size)) (c.loop-fault.invariant.free count (omega arith)));
    }
