use Rattle.std.proofs.Common.{◌≡◌, ℕ, Err, subst, sym, true, arith}
use Rattle.std.proofs.lemmas.Result.{err_from_is_err_and}
use Rattle.proc_model.specs.Memory.{with_modules}
use Rattle.proc_model.specs.Loading.{EntersModules, at_end, broken, refused, entered, with_module}
use Rattle.proc_model.specs.Module.{step_from}
use Rattle.proc_model.specs.declared.module.ModuleStep.TheVariants.{Module}
use Rattle.proc_model.proofs.LoadingLemmas.{LiesIn-step}
use Rattle.machine_model.specs.ProcessStart.{boot_group}
use Rattle.cold_start.proofs.boot.enter_others.Goals as goal
use Rattle.cold_start.proofs.boot.enter_others.Goals.{In-Some}

-- the module that stands next
next : (c : In-Some) → step_from c.args.boot.now c.loop-info.from ≡ Module c.in-Some.info
next c = rw c.in-Some.is at c.in_ok-info.ensures.module

pub returns-in_err-info-clause-refused : goal.returns-in_err-info-clause-refused
returns-in_err-info-clause-refused c = λ m tied has.
    let p = err_from_is_err_and c.from_residual.result c.from_residual.ensures.1 in
    let refusal = c.in_err-info.field-0.0 in
    let is = c.in_err-info.ensures.fault in
    let progress = c.loop-info.invariant.progress m tied has in
    let Ends : ℕ → Type 0 = λ error. EntersModules c.args.boot.now (boot_group c.args.boot.now) true c.args.start m.modules (Err (refusal.at, error)) in
    rw (p.1, p.2) (subst Ends (sym is.2) (progress.goes_on _ (broken is.1)))

pub enter_next-requires-clause-runs : goal.enter_next-requires-clause-runs
enter_next-requires-clause-runs c =
    (LiesIn-step c.args.boot.now c.loop-info.from c.in-Some.info (next (goal.at.enter_next-requires-clause-runs c).In-Some)).enters

pub enter_next-requires-clause-booting : goal.enter_next-requires-clause-booting
enter_next-requires-clause-booting c =
    let (m, tied, has) = c.requires.booting in
    let progress = c.loop-info.invariant.progress m tied has in
    (with_modules m progress.modules, progress.represents, progress.has)

pub loop-info-smaller : goal.loop-info-smaller
loop-info-smaller c =
    let lies = LiesIn-step c.args.boot.now c.loop-info.from c.in-Some.info (next (goal.at.loop-info-smaller c).In-Some) in
    omega (arith, c.from.ensures)

pub loop-info-preserved : goal.loop-info-preserved
loop-info-preserved c =
    let is = next (goal.at.loop-info-preserved c).In-Some in
    let lies = LiesIn-step c.args.boot.now c.loop-info.from c.in-Some.info is in
    record {
      within = omega (arith, c.from.ensures);
      progress = λ m tied has.
          let progress = c.loop-info.invariant.progress m tied has in
          let step = c.in_ok-enter_next.ensures.entered (with_modules m progress.modules) progress.represents progress.has in
          record {
            modules = with_module progress.modules c.in-Some.info (boot_group c.args.boot.now) true;
            represents = step.represents;
            has = step.has;
            goes_on = λ outcome rest. progress.goes_on outcome (entered is step.accepted (rw c.from.ensures at rest));
          };
    }

pub returns-in_err-enter_next-clause-refused : goal.returns-in_err-enter_next-clause-refused
returns-in_err-enter_next-clause-refused c = λ m tied has.
    let p = err_from_is_err_and c.from_residual-in_err-enter_next.result c.from_residual-in_err-enter_next.ensures.1 in
    let is = next (goal.at.returns-in_err-enter_next-clause-refused c).In-Some in
    let progress = c.loop-info.invariant.progress m tied has in
    let why = c.in_err-enter_next.ensures.refused (with_modules m progress.modules) progress.represents in
    let error = c.in_err-enter_next.field-0.0.error in
    let Ends : ℕ → Type 0 = λ at. EntersModules c.args.boot.now (boot_group c.args.boot.now) true c.args.start m.modules (Err (at, error)) in
    rw (p.1, p.2) (subst Ends (sym why.0) (progress.goes_on _ (refused is why.1)))

pub returns-clause-entered : goal.returns-clause-entered
returns-clause-entered c = λ m tied has.
    let progress = c.loop-info.invariant.progress m tied has in record {
      entries = progress.modules;
      entered = progress.goes_on _ (at_end (rw c.in_default.is at c.in_ok-info.ensures.end));
      represents = progress.represents;
    }
